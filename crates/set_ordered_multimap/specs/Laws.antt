-- What the laws say of every set and of every list of pairs.
use Rattle.std.specs.Prelude.{◌≡◌, ℕ, Bool, List}
use Rattle.ordered_multimap.specs.Changes.{built_from, removed}
use Rattle.ordered_multimap.specs.End.{End}
use Rattle.ordered_multimap.specs.Lists.{Lists, empty_lists}
use Rattle.ordered_multimap.specs.OneValue.{index_removed}
use Rattle.ordered_multimap.specs.Popped.{popped}
use Rattle.set_ordered_multimap.specs.Set.{IsSet, set_inserted, value_removed, all_inserted}
use Rattle.set_ordered_multimap.specs.Set.{first_pairs}

module _ {K : Type 0} (eq : K → K → Bool) {V : Type 0} (value_eq : V → V → Bool) where
  -- a change of a set gives a set
  pub record ChangesKeepSets : Type 0 where
    pub inserted : (m : Lists K V) (k : K) (v : V) → IsSet eq value_eq m
        → IsSet eq value_eq (set_inserted eq value_eq m k v)
    pub value_removed : (m : Lists K V) (k : K) (v : V) → IsSet eq value_eq m
        → IsSet eq value_eq (value_removed eq value_eq m k v)
    pub index_removed : (m : Lists K V) (k : K) (index : ℕ) → IsSet eq value_eq m
        → IsSet eq value_eq (index_removed eq (eq k) m index)
    pub removed : (m : Lists K V) (k : K) → IsSet eq value_eq m
        → IsSet eq value_eq (removed eq m k)
    pub popped : (end : End) (m : Lists K V) → IsSet eq value_eq m
        → IsSet eq value_eq (popped eq end m)

  -- of pairs inserted in turn into an empty set, each occurs once, at its first occurrence
  abbrev pub KeepsFirstPairs : List (K × V) → Type 0
  KeepsFirstPairs pairs =
      all_inserted eq value_eq empty_lists pairs ≡ built_from eq (first_pairs eq value_eq pairs)
