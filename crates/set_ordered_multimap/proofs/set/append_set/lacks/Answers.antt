use Rattle.std.proofs.Common.{not, ap, ◌∙◌}
use Rattle.set_ordered_multimap.proofs.Callers.Sets.{has_pair-values}
use Rattle.set_ordered_multimap.proofs.set.append_set.lacks.Goals as goal

pub returns : goal.returns
returns g c =
    ap not (c.contains.ensures ∙ has_pair-values (g.K.PartialEq.eq c.args.key.now) g.V.PartialEq.eq c.args.map.now.lists.pairs c.args.value.now)
