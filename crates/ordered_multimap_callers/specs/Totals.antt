-- A report of keys by the totals of their values.
use Rattle.std.specs.Prelude.{ℕ, ◌-◌, ◌^◌, Bool, List, min, sum, IsSortedByKey}
use Rattle.std.specs.Ordering.{nat_cmp}
use Rattle.ordered_multimap.specs.Lists.{Lists}
use Rattle.ordered_multimap.specs.Pairs.{values_of}

-- the sum of the values, or the largest `u64` where that is less
abbrev pub total : List ℕ → ℕ
total values = min (sum values) (2 ^ 64 - 1)

-- no key stands behind one whose values have a lower total
abbrev pub DescendByTotals : {K : Type 0} → (K → K → Bool) → Lists K ℕ → Type 0
DescendByTotals eq m =
    IsSortedByKey (λ k. total (values_of eq m.pairs k)) (λ a b. nat_cmp b a) m.keys
