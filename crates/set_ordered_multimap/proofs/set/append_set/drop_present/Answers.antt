use Rattle.std.proofs.Common.{not, ap, ◌∙◌, rules, of_calls}
use Rattle.std.proofs.lemmas.Map.Made.{filter_same_pairs}
use Rattle.ordered_multimap.proofs.Callers.Retained.{RetainsPairs-retains, kept-named_by}
use Rattle.ordered_multimap.specs.Changes.{kept}
use Rattle.set_ordered_multimap.specs.Set.{has_pair}
use Rattle.set_ordered_multimap.proofs.set.append_set.drop_present.Goals as goal

pub returns-clause-lists : goal.returns-clause-lists
returns-clause-lists g c =
    let eq = g.K.PartialEq.eq in let value_eq = g.V.PartialEq.eq in let m = c.args.other.now.lists in
    let there = c.args.map.now.lists.pairs in let r = c.retain.ensures in
    let pairs = filter_same_pairs _ (λ p. not (has_pair eq value_eq there p.0 p.1)) _ (λ k v b w f' t. search (rules, of_calls)) _ _
    (RetainsPairs-retains _ _ _ _ _ r.retained.1) in
    kept-named_by eq m c.retain.new.self.lists r.keys ∙ ap (kept eq m) pairs
