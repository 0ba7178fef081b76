use Rattle.std.proofs.Common.{ap, ◌∙◌}
use Rattle.set_ordered_multimap.proofs.Callers.Sets.{has_pair-values}
use Rattle.set_ordered_multimap.specs.Set.{has_pair_where}
use Rattle.set_ordered_multimap.proofs.set.SetOrderedMultimap.contains.Goals as goal

pub returns : goal.returns
returns g c =
    let accepts = g.Q.KeyQuery.equivalent c.args.key in let value_eq = g.V.PartialEq.eq in
    let value = c.args.value.now in
    c.contains.ensures ∙ has_pair-values accepts value_eq c.self.inside.map.lists.pairs value
    ∙ ap (λ m. has_pair_where accepts value_eq m.lists.pairs value) c.self.view_is
