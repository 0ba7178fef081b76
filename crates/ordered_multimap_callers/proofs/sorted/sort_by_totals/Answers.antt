use Rattle.std.proofs.Common.{ap}
use Rattle.std.proofs.lemmas.Fn.{always_returns_same}
use Rattle.ordered_multimap.proofs.KeySorts.Mapped.{OnOk-then}
use Rattle.ordered_multimap_callers.specs.Totals.{total}
use Rattle.ordered_multimap_callers.proofs.sorted.sort_by_totals.Goals as goal

pub returns-clause-sorted : goal.returns-clause-sorted
returns-clause-sorted g c =
    OnOk-then c.sort_keys_by_cached_key.result (λ sorted. sorted (λ k values. record { 0 = total values })
    (always_returns_same _ _ _ (λ a r f' k. (ap (λ n. record { 0 = n }) k.met.0.1, k.met.1)))) c.sort_keys_by_cached_key.ensures.sorted
