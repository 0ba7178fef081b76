-- What a call makes of the two lists that inserts the pair of each item of an iterator. No public
-- clause cites this module.
use Rattle.std.specs.Prelude.{◌≡◌, Bool, List, [], ◌∷◌, ◌++◌, map, Option, Result, MatchResult}
use Rattle.std.specs.Iterator.{Drains, Yields}
use Rattle.ordered_multimap.specs.Lists.{Lists}
use Rattle.ordered_multimap.specs.declared.list_ordered_multimap.refused.Refused.{Refused}
use Rattle.set_ordered_multimap.specs.Set.{all_inserted}

module _ {X K V : Type 0} (pair_of : X → K × V) (eq : K → K → Bool) (value_eq : V → V → Bool)
    {I T : Type 0} (becomes : I → T → Type 0) (steps : T → Option X → T → Type 0) where
  -- the pair of each of these items was inserted in turn: of all the iterator's, or of those before
  -- the refused one
  abbrev pub InsertsPairsOf : I → Lists K V → Lists K V → Result (Unit {0}) (Refused K V) → Type 0
  InsertsPairsOf iter old new r = (it : T) × (items : List X) × becomes iter it
      × (new ≡ all_inserted eq value_eq old (map pair_of items))
      × MatchResult r (λ _. Drains steps it items)
      (λ refused. (item : X) × (t : T) × Yields steps it (items ++ item ∷ []) t
      × (pair_of item ≡ (refused.key, refused.value)))
