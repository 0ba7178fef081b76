-- What becomes of the pairs of a key where one of its values goes, or one alone stays. The key is
-- told by a test, which accepts it and those that are equal to it.
use Rattle.std.specs.Prelude.{ℕ, suc, Bool, cond, ◌&&◌, List, [], ◌∷◌, slice_get, Some, None}
use Rattle.std.specs.List.{remove}
use Rattle.ordered_multimap.specs.Changes.{kept}
use Rattle.ordered_multimap.specs.Lists.{Lists, lists}
use Rattle.ordered_multimap.specs.Pairs.{pairs_except, positions_where}

-- how many items stand before the first one that a test accepts; all, where it accepts none
abbrev pub index_of : {X : Type 0} → (X → Bool) → List X → ℕ
index_of is [] = 0
index_of is (x ∷ xs) = cond (is x) 0 (suc (index_of is xs))

module _ {K V : Type 0} (accepts : K → Bool) where
  -- the pairs without the one of the value at an index among the accepted keys' values, counted
  -- from 0; all of them where there is no such value
  abbrev pub pairs_without_index : List (K × V) → ℕ → List (K × V)
  pairs_without_index pairs index = elim (slice_get (positions_where accepts pairs) index) [
    | None ↦ pairs
    | Some i ↦ remove pairs i
  ]

  -- the pairs without the first one of the accepted keys whose value a test accepts
  abbrev pub pairs_without_first : (V → Bool) → List (K × V) → List (K × V)
  pairs_without_first is [] = []
  pairs_without_first is (p ∷ pairs) =
      cond (accepts p.0 && is p.1) pairs (p ∷ pairs_without_first is pairs)

  -- the first pair of the accepted keys has this value, and their others are gone
  abbrev pub pairs_with_only : List (K × V) → V → List (K × V)
  pairs_with_only [] v = []
  pairs_with_only (p ∷ pairs) v =
      cond (accepts p.0) ((p.0, v) ∷ pairs_except accepts pairs) (p ∷ pairs_with_only pairs v)

  -- the same of both lists, where the keys stay
  abbrev pub only_written : Lists K V → V → Lists K V
  only_written m v = lists m.keys (pairs_with_only m.pairs v)

module _ {K V : Type 0} (eq : K → K → Bool) (accepts : K → Bool) where
  -- the value at the index goes, if there is one, and the key with its last value
  abbrev pub index_removed : Lists K V → ℕ → Lists K V
  index_removed m index = kept eq m (pairs_without_index accepts m.pairs index)

  -- the first accepted value goes, if there is one, and the key with its last value
  abbrev pub first_removed : (V → Bool) → Lists K V → Lists K V
  first_removed is m = kept eq m (pairs_without_first accepts is m.pairs)
