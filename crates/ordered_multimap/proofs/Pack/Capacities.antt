-- Key list and tape that have other capacities, and are else the same.
use Rattle.std.proofs.Common.{ℕ, ◌+◌, ◌≤◌, ◌/◌, min, Bool, length, ap, refl, arith}
use Rattle.std.specs.Ordering.{nat_cmp}
use Rattle.std.specs.FinMap.{FinMap}
use Rattle.multimap_slots.specs.Slots.{Slots, KeepsItems}
use Rattle.multimap_slots.specs.Tapes.{Taped, HasTapeRoomFor, KeepsCapacity, KeepsTape}
use Rattle.multimap_walks.specs.declared.links.ChainEnds.{ChainEnds}
use Rattle.multimap_walks.specs.declared.links.KeyLink.{KeyLink}
use Rattle.multimap_walks.specs.declared.links.ValueLink.{ValueLink}
use Rattle.multimap_walks.specs.Chained.{pairs_of}
use Rattle.ordered_multimap.specs.Agrees.{Agrees, items_of}
use Rattle.ordered_multimap.specs.Private.Append.{FitsKeys, GrowsFor}
use Rattle.ordered_multimap.specs.Rooms.{SameRooms}
use Rattle.ordered_multimap.specs.Private.Relocations.{AreRelocated}
use Rattle.ordered_multimap.proofs.Compact.Dense.{relocated-room}
use Rattle.ordered_multimap.proofs.Agreement.Agreed.{length-keys, length-pairs}
use Rattle.ordered_multimap.proofs.Agreement.Relocated.{agrees-relocated}
use Rattle.ordered_multimap.proofs.Append.Rooms.{map_of}

module _ {K V : Type 0} {eq : K → K → Bool} {hash : K
    → ℕ} {keys keys_after : Slots K KeyLink} {rows : FinMap nat_cmp ℕ} {values values_after : Slots V ValueLink}
    (agrees : Agrees eq hash keys rows values) (same_keys : KeepsItems keys keys_after) (same_values : KeepsItems values values_after)
    (key_room : keys.capacity ≤ keys_after.capacity) (value_room : values.capacity ≤ values_after.capacity) where
  widened : AreRelocated keys keys_after values values_after
  widened = relocated-room keys keys_after values values_after agrees.keys_sound agrees.values_sound same_keys same_values key_room value_room

  pub agrees-widened : Agrees eq hash keys_after rows values_after
  agrees-widened = agrees-relocated widened.name agrees widened.relocates

-- rooms, where so many more keys fit, and where the slots of values are as many or more
module _ {K V S : Type 0} {eq : K → K → Bool} {hash : K → ℕ} (keys : Slots K KeyLink) {rows : FinMap nat_cmp ℕ} (values : Taped V ValueLink)
    (agrees : Agrees eq hash keys rows values.list) (row_capacity : ℕ) (state : S) (left : ChainEnds) (additional : ℕ) where
  pub fits_keys : length (items_of keys) + additional ≤ min keys.capacity row_capacity → FitsKeys keys rows row_capacity additional
  fits_keys few = record {
    key = omega (arith, few, length-keys agrees);
    row = omega (arith, few, length-keys agrees, agrees.counted);
  }

  pub keys_fit : {keys_after : Slots K KeyLink} {rows_after : ℕ} → KeepsItems keys keys_after
      → FitsKeys keys_after rows rows_after additional
      → length (items_of keys) + additional ≤ min keys_after.capacity rows_after
  keys_fit same fits = omega (arith, fits.key, fits.row, ap (λ s. length s.order) same, length-keys agrees, agrees.counted)

  pub same_key_rooms : {keys_after : Slots K KeyLink} {rows_after : ℕ} → GrowsFor keys keys_after rows row_capacity rows_after additional
      → length (items_of keys) + additional ≤ min keys.capacity row_capacity
      → SameRooms (map_of keys row_capacity values state left) (map_of keys_after rows_after values state left)
  same_key_rooms grows few =
      let f = fits_keys few in
      record { keys = (λ i. min (grows.same_keys f i) (grows.same_rows f i)); values = refl; slots = refl; hasher = refl }

  pub fits_values : length (pairs_of keys values.list) + additional ≤ values.list.capacity / 2 → HasTapeRoomFor values additional
  fits_values few = omega (arith, few, length-pairs agrees)

  pub values_fit : {values_after : Taped V ValueLink} → KeepsTape values values_after → HasTapeRoomFor values_after additional
      → length (pairs_of keys values.list) + additional ≤ values_after.list.capacity / 2
  values_fit same fits = omega (arith, fits, ap (λ t. length t.list.order) same, length-pairs agrees)

  pub same_value_rooms : {values_after : Taped V ValueLink} → (HasTapeRoomFor values additional → KeepsCapacity values values_after)
      → length (pairs_of keys values.list) + additional ≤ values.list.capacity / 2
      → SameRooms (map_of keys row_capacity values state left) (map_of keys row_capacity values_after state left)
  same_value_rooms had_room few =
      let same = had_room (fits_values few) in
      record { keys = refl; values = ap (λ n. n / 2) same; slots = same; hasher = refl }
