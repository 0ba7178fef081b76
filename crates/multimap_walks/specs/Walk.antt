-- Walks over a list: what a step at either end gives and leaves, and a word of ends, which gives
-- one item for each of its letters.
use Rattle.std.specs.Prelude.{◌≡◌, ◌-◌, ℕ, List, [], ◌∷◌, ◌++◌, length, take, drop, replicate}
use Rattle.std.specs.Prelude.{slice_get, Option, Some, IfSome, MatchOption}
use Rattle.std.specs.Iterator.{at_most, UpTo}
use Rattle.std.specs.Iterator.SizeHint.{IsWithinCount}
use Rattle.multimap_walks.specs.declared.End.{End}
use Rattle.multimap_walks.specs.declared.End.TheVariants.{Front, Back}

module _ {X : Type 0} where
  -- the item at an end, or none of an empty list
  abbrev pub end_item : End → List X → Option X
  end_item Front items = slice_get items 0
  end_item Back items = slice_get items (length items - 1)

  -- the list without the item at an end
  abbrev pub end_rest : End → List X → List X
  end_rest Front items = drop 1 items
  end_rest Back items = take (length items - 1) items

  -- the list with one item more at an end
  abbrev pub with_end : End → X → List X → List X
  with_end Front item items = item ∷ items
  with_end Back item items = items ++ item ∷ []

  -- a step at an end of the items gave what shows the item there, if there is one, and left the
  -- others: std's `TakesFirst` and `TakesLast` in one
  abbrev pub TakesEnd : {G : Type 0} → End → (G → X) → List X → Option G → List X → Type 0
  TakesEnd end item_of old given new =
      MatchOption given ((old ≡ []) × (new ≡ [])) (λ x. old ≡ with_end end (item_of x) new)

  -- the hint has the number of items as both bounds
  abbrev pub TellsLength : ℕ × Option ℕ → List X → Type 0
  TellsLength hint items =
      IsWithinCount hint.0 (at_most (length items)) × IfSome hint.1 (UpTo (at_most (length items)))
      × (hint.0 ≡ length items) × (hint.1 ≡ Some (length items))

  -- for each letter the item at that end of what remains, which is then taken away
  abbrev pub answers_of_walk : List X → List End → List (Option X)
  answers_of_walk items [] = []
  answers_of_walk items (end ∷ word) =
      end_item end items ∷ answers_of_walk (end_rest end items) word

  -- the word that takes each item once, from the front
  abbrev pub forward : List X → List End
  forward items = replicate (length items) Front
