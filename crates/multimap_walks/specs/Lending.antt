-- What is left of the items that a walk hands out for writing, and what a step hands out.
use Rattle.std.specs.Prelude.{◌≡◌, ℕ, ◌+◌, List, Option, Some, MatchOption}
use Rattle.std.specs.Borrow.{MutBor}
use Rattle.multimap_slots.specs.Lists.{IsIn, AreDistinct}
use Rattle.multimap_slots.specs.Slots.{IsSound, link_at}
use Rattle.multimap_slots.specs.SlotCells.{lent_slots, IsLeft, TakesItem}
use Rattle.multimap_slots.specs.declared.cells_of.SlotCells.{SlotCells}
use Rattle.multimap_walks.specs.declared.links.ChainEnds.{ChainEnds}
use Rattle.multimap_walks.specs.declared.End.{End}
use Rattle.multimap_walks.specs.Along.{AreLeft, places_left}
use Rattle.multimap_walks.specs.Ends.{end_place}
use Rattle.multimap_walks.specs.Walk.{with_end}

-- where an item is handed out, one place goes, and else none
abbrev pub OneGoes : {X : Type 0} → ChainEnds → Option X → ChainEnds → Type 0
OneGoes old given new = MatchOption given (new ≡ old) (λ _. old.length ≡ new.length + 1)

-- the place at that end goes, of the places that the ends stand for
pub record PassesEnd (end : End) (places : ChainEnds → List ℕ) (left rest : ChainEnds)
    : Type 0 where
  pub places_are : places left ≡ with_end end (end_place end left) (places rest)
  pub count : left.length ≡ rest.length + 1

module _ {T L A F : Type 0} where
  -- every item of the list is left
  abbrev pub AllAreLeft : SlotCells T L A F → Type 0
  AllAreLeft cells = (p : ℕ) → IsIn p (lent_slots cells).order → IsLeft cells p

  -- the list is sound, and every item of it is left
  pub record NoneIsTaken (cells : SlotCells T L A F) : Type 0 where
    pub sound : IsSound (lent_slots cells)
    pub left : AllAreLeft cells

  -- the item of each of the places is left, and no place is there twice
  pub record AreUntaken (cells : SlotCells T L A F) (places : List ℕ) : Type 0 where
    pub distinct : AreDistinct places
    pub each : (p : ℕ) → IsIn p places → IsLeft cells p

  -- places of the order of the list are left, and the item of each
  pub record CanLend (cells : SlotCells T L A F) (left : ChainEnds) : Type 0 where
    pub sound : IsSound (lent_slots cells)
    pub are_left : AreLeft (lent_slots cells).order left
    pub untaken : AreUntaken cells (places_left (lent_slots cells).order left)

  -- no item is handed out, and nothing changes, or that of the place, which is then taken
  abbrev pub HandsOut : SlotCells T L A F → ℕ → Option (MutBor T) → SlotCells T L A F → Type 0
  HandsOut old place given new =
      MatchOption given (new ≡ old) (λ item. TakesItem old place item new)

  -- the same of an item with its link
  abbrev pub HandsOutSlot
      : SlotCells T L A F → ℕ → Option (MutBor T × L) → SlotCells T L A F → Type 0
  HandsOutSlot old place given new = MatchOption given (new ≡ old)
      (λ slot. TakesItem old place slot.0 new × (link_at (lent_slots old) place ≡ Some slot.1))
