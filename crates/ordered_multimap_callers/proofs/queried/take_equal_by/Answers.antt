use Rattle.std.proofs.Common.{◌&&◌, not, ap, ◌∙◌, rules}
use Rattle.std.proofs.lemmas.Map.Made.{filter_same_pairs}
use Rattle.ordered_multimap.proofs.Callers.Retained.{RetainsPairs-retains, kept-named_by}
use Rattle.ordered_multimap.specs.Changes.{kept}
use Rattle.ordered_multimap_callers.proofs.queried.take_equal_by.Goals as goal

pub returns : goal.returns
returns g c =
    let m = c.args.map.now.lists in let r = c.retain_all.ensures in let accepts = g.Q.KeyQuery.equivalent c.args.query in
    let pairs = filter_same_pairs _ (λ p. not (accepts p.0 && g.V.PartialEq.eq c.args.value.now p.1)) _
    (λ k v b w f' t. search rules) _ _ (RetainsPairs-retains _ _ _ _ _ r.retained.1) in
    kept-named_by g.K.PartialEq.eq m c.retain_all.new.self.lists r.keys ∙ ap (kept g.K.PartialEq.eq m) pairs
