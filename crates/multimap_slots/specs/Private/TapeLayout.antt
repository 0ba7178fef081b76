-- How the vectors of a tape agree. No public clause cites this module.
use Rattle.std.specs.Prelude.{◌≡◌, ℕ, ◌≤◌, List, Option, None, IsSome, get_or, slice_set, length}
use Rattle.std.specs.Prelude.{Result, OnErr, OnOk}
use Rattle.multimap_slots.specs.Lists.{IsIn}
use Rattle.multimap_slots.specs.Private.Runs.{RunLengths}
use Rattle.multimap_slots.specs.Slots.{DoublesIfGrown}
use Rattle.multimap_slots.specs.Tapes.{Taped, HasEndRoomFor, KeepsTape}

-- as many items and links as places in use, an item at each listed place, and memory for as many
-- items and links as for places, or for more
pub record IsTape {T L : Type 0} (items : List (Option T)) (links : List L) (runs : RunLengths)
    (items_capacity links_capacity : ℕ) : Type 0 where
  pub items_used : length items ≡ runs.used
  pub links_used : length links ≡ runs.used
  pub filled : (p : ℕ) → IsIn p runs.order → IsSome (get_or items p None)
  pub items_fit : runs.capacity ≤ items_capacity
  pub links_fit : runs.capacity ≤ links_capacity

-- what one slot held stands in another, and the first is empty
abbrev pub moved_item : {T : Type 0} → List (Option T) → ℕ → ℕ → List (Option T)
moved_item items from to = slice_set (slice_set items from None) to (get_or items from None)

-- there are so many slots behind those in use, or they were refused; only their number may differ,
-- and where it rises it at least doubles
pub record GrowsBehind {T L X E : Type 0} (more : ℕ) (old new : Taped T L) (result : Result X E)
    : Type 0 where
  pub room : OnOk result (HasEndRoomFor new more)
  pub refused : OnErr result (new.list.capacity ≡ old.list.capacity)
  pub unchanged : KeepsTape old new
  pub rises : old.list.capacity ≤ new.list.capacity
  pub doubles : DoublesIfGrown old.list.capacity new.list.capacity
