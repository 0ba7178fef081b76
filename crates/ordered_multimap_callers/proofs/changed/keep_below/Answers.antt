use Rattle.std.proofs.Common.{ap, ◌∙◌, eqb, ltb, rules}
use Rattle.std.proofs.lemmas.Map.Made.{filter_same_pairs}
use Rattle.ordered_multimap.specs.Changes.{kept}
use Rattle.ordered_multimap.proofs.Callers.Retained.{RetainsPairs-retains, kept-named_by}
use Rattle.ordered_multimap_callers.proofs.changed.keep_below.Goals as goal

pub returns : goal.returns
returns g c =
    let r = c.retain.ensures in
    let pairs = filter_same_pairs _ (λ p. ltb p.1 c.args.limit) _ (λ k v b w f' t. search rules) _ _
    (RetainsPairs-retains _ _ _ _ _ r.retained.1) in
    kept-named_by eqb c.args.map.now.lists c.retain.new.self.lists r.keys ∙ ap (kept eqb c.args.map.now.lists) pairs
