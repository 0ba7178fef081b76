use Rattle.std.proofs.Common.{ap}
use Rattle.std.proofs.lemmas.Fn.{always_returns_same}
use Rattle.std.proofs.lemmas.List.MinMax.{ranks_by, IsStrictWeakOrder-flip}
use Rattle.std.specs.Ordering.{is_lt}
use Rattle.ordered_multimap.specs.Pairs.{values_of}
use Rattle.ordered_multimap.proofs.KeySorts.Mapped.{OnOk-then}
use Rattle.ordered_multimap_callers.proofs.sorted.sort_descending.Goals as goal

pub returns-clause-sorted : goal.returns-clause-sorted
returns-clause-sorted g c =
    OnOk-then c.sort_keys_by.result (λ sorted. sorted (λ j k. is_lt (g.K.Ord.cmp k j))
    (IsStrictWeakOrder-flip _ (ranks_by g.met.K.Ord.total (λ k. k)))
    (always_returns_same _ _ _ (λ a r f' k. (ap is_lt k.met.0, k.met.1)))) c.sort_keys_by.ensures.sorted

pub returns-clause-values : goal.returns-clause-values
returns-clause-values g c = λ k. ap (λ pairs. values_of g.K.PartialEq.eq pairs k) c.sort_keys_by.ensures.reordered.pairs
