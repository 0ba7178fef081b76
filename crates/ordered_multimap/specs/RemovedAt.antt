-- One of several values of a key goes, by its index among them.
use Rattle.std.specs.Prelude.{ℕ, Bool, List, [], ◌∷◌, slice_get, Option, Some, None}
use Rattle.std.specs.List.{remove}
use Rattle.ordered_multimap.specs.Lists.{Lists, lists}
use Rattle.ordered_multimap.specs.Pairs.{positions_of, values_of}

-- the items, where there are two or more, and else none
abbrev pub several : {X : Type 0} → List X → List X
several [] = []
several (x ∷ []) = []
several (x ∷ y ∷ xs) = x ∷ y ∷ xs

module _ {K : Type 0} (eq : K → K → Bool) {V : Type 0} where
  -- the value at an index among the key's values, counted from 0, where the key has others
  abbrev pub removable_value_at : List (K × V) → K → ℕ → Option V
  removable_value_at pairs k index = slice_get (several (values_of eq pairs k)) index

  -- the position of its pair
  abbrev pub position_beside : List (K × V) → K → ℕ → Option ℕ
  position_beside pairs k index = slice_get (several (positions_of eq pairs k)) index

  -- the pairs without the pair of this value; all of them where there is no such value
  abbrev pub pairs_besides : List (K × V) → K → ℕ → List (K × V)
  pairs_besides pairs k index =
      elim (position_beside pairs k index) [ None ↦ pairs | Some i ↦ remove pairs i ]

  -- the pair of this value goes, if there is one, and the keys stay
  abbrev pub removed_at : Lists K V → K → ℕ → Lists K V
  removed_at m k index = lists m.keys (pairs_besides m.pairs k index)
