use Rattle.std.proofs.Common.{ap}
use Rattle.std.proofs.lemmas.Fn.{always_returns_same}
use Rattle.std.proofs.lemmas.List.MinMax.{ranks_by}
use Rattle.std.specs.Ordering.{is_lt}
use Rattle.ordered_multimap.proofs.KeySorts.Mapped.{OnOk-then}
use Rattle.ordered_multimap.proofs.list_ordered_multimap.ListOrderedMultimap.sort_keys.Goals as goal

pub returns-clause-sorted : goal.returns-clause-sorted
returns-clause-sorted g c =
    OnOk-then c.sort_keys_by.result (λ sorted. sorted (λ a b. is_lt (g.K.Ord.cmp a b)) (ranks_by g.met.K.Ord.total (λ k. k))
    (always_returns_same _ _ _ (λ a r f' k. (ap is_lt k.met.0, k.met.1)))) c.sort_keys_by.ensures.sorted

pub returns-clause-stable : goal.returns-clause-stable
returns-clause-stable g c =
    c.sort_keys_by.ensures.stable (λ a b. is_lt (g.K.Ord.cmp a b)) (ranks_by g.met.K.Ord.total (λ k. k))
    (always_returns_same _ _ _ (λ a r f' k. (ap is_lt k.met.0, k.met.1)))
