-- The list of places, items and links, and what each change leaves of it.
use Rattle.std.specs.Prelude.{◌≡◌, ◌==◌, ℕ, not, Option, option_and_then, option_map}
use Rattle.std.specs.Prelude.{List, [], ◌∷◌, ◌++◌, filter}
use Rattle.std.specs.List.{filter_map}
use Rattle.multimap_slots.specs.Slots.{Slots, item_at, link_at}
use Rattle.multimap_slots.specs.Slots.{PushesBack, Removes, Detaches, IsDetached, TakesDetached}

-- a place with its item and its link
abbrev pub Slot : Type 0 → Type 0 → Type 0
Slot T L = ℕ × (T × L)

module _ {T L : Type 0} where
  -- the place with its item and its link, if it has both
  abbrev pub slot_at : Slots T L → ℕ → Option (Slot T L)
  slot_at s p = option_and_then
      (λ item. option_map (λ link. (p, (item, link))) (link_at s p)) (item_at s p)

  -- the listed places in order, each with its item and its link
  abbrev pub listed_slots : Slots T L → List (Slot T L)
  listed_slots s = filter_map (slot_at s) s.order

  -- the others, in their order
  abbrev pub slots_without : List (Slot T L) → ℕ → List (Slot T L)
  slots_without slots place = filter (λ e. not (e.0 == place)) slots

-- what comes stands last, what leaves is taken out, and a detached item was no part of the list
pub record ListsSlots (T L : Type 0) : Type 0 where
  pub pushed : (old new : Slots T L) (place : ℕ) (item : T) (link : L)
      → PushesBack old new place item link
      → listed_slots new ≡ listed_slots old ++ (place, (item, link)) ∷ []
  pub removed : (old new : Slots T L) (place : ℕ) (item : T) → Removes old new place item
      → listed_slots new ≡ slots_without (listed_slots old) place
  pub detached : (old new : Slots T L) (place : ℕ) → Detaches old new place
      → listed_slots new ≡ slots_without (listed_slots old) place
  pub taken : (old new : Slots T L) (place : ℕ) (item : T) → IsDetached old place
      → TakesDetached old new place item → listed_slots new ≡ listed_slots old
