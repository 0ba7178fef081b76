-- What `set` leaves of the lists, by the value that it returns.
use Rattle.std.proofs.Common.{◌≡◌, Bool, true, false, List, [], ◌∷◌, Option, Some, None, slice_get}
use Rattle.ordered_multimap.specs.Changes.{appended}
use Rattle.ordered_multimap.specs.Multimap.{Multimap}
use Rattle.ordered_multimap.specs.OneValue.{only_written}
use Rattle.ordered_multimap.specs.Pairs.{has_items, values_of}
use Rattle.ordered_multimap.specs.SetLists.{value_set}
use Rattle.ordered_multimap.specs.Sets.{SetsValue}

module _ {K V S : Type 0} (eq : K → K → Bool) (key : K) (value : V) (old new : Multimap K V S) where
  by_values : (values : List V) (first : Option V) → first ≡ slice_get values 0
      → SetsValue eq key value old new first
      → new.lists ≡ elim (has_items values) [ true ↦ only_written (eq key) old.lists value | false ↦ appended eq old.lists key value ]
  by_values [] None is sets = sets.lists
  by_values [] (Some v) is sets = absurd (cc)
  by_values (w ∷ values) None is sets = absurd (cc)
  by_values (w ∷ values) (Some v) is sets = sets.only.lists

  -- where the first of the key's values is returned
  pub set-lists : (first : Option V) → first ≡ slice_get (values_of eq old.lists.pairs key) 0
      → SetsValue eq key value old new first → new.lists ≡ value_set eq old.lists key value
  set-lists = by_values (values_of eq old.lists.pairs key)
