use Rattle.std.proofs.Common.{rules}
use Rattle.std.proofs.lemmas.Map.Made.{map_same_pairs}
use Rattle.ordered_multimap.proofs.Callers.Retained.{RetainsPairs-retains}
use Rattle.ordered_multimap_callers.proofs.changed.write_zeros.Goals as goal

pub returns : goal.returns
returns g c = map_same_pairs _ (λ v. 0) _ (λ k v b w f' t. search rules) _ _ (RetainsPairs-retains _ _ _ _ _ c.retain.ensures.retained.1)
