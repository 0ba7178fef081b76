-- What an append makes of the rooms of a map.
use Rattle.std.proofs.Common.{◌≡◌, ℕ, ◌≤◌, ◌<◌, ◌*◌, ◌/◌, min, Bool, false, length, Result, OnOk, OnErr, IfErr, Ok, Err, refl, sym, ap, ◌∙◌}
use Rattle.std.proofs.Common.{arith}
use Rattle.std.proofs.Common.{IsOk, subst, true≢false}
use Rattle.std.proofs.Math.Nat.{lt_of_not-le}
use Rattle.std.specs.Cmp.{IsEquivalence}
use Rattle.std.specs.Ordering.{nat_cmp}
use Rattle.std.specs.FinMap.{FinMap}
use Rattle.multimap_slots.specs.Slots.{Slots, DoublesIfGrown}
use Rattle.multimap_slots.specs.Tapes.{Taped, HasTapeRoomFor}
use Rattle.multimap_walks.specs.declared.links.ChainEnds.{ChainEnds}
use Rattle.multimap_walks.specs.declared.links.KeyLink.{KeyLink}
use Rattle.multimap_walks.specs.declared.links.ValueLink.{ValueLink}
use Rattle.multimap_walks.specs.Chained.{pairs_of}
use Rattle.ordered_multimap.specs.Lists.{Lists}
use Rattle.ordered_multimap.specs.Keys.{is_listed}
use Rattle.ordered_multimap.specs.MapSlots.{MapSlots}
use Rattle.ordered_multimap.specs.Multimap.{Multimap, multimap}
use Rattle.ordered_multimap.specs.Agrees.{Agrees, HasKey, items_of, lists_of}
use Rattle.ordered_multimap.specs.Private.Append.{FitsKeys, FitsOneMore, GrowsFor, MakesRoom}
use Rattle.ordered_multimap.specs.Private.Relocations.{KeepsCapacities}
use Rattle.ordered_multimap.specs.TapeNumbers.{TapeNumbers, numbers_of}
use Rattle.ordered_multimap.specs.declared.list_ordered_multimap.refused.RefusedValue.{RefusedValue}
use Rattle.ordered_multimap.specs.Additions.{IsAppended, IsAppendedAt, IsRefused, RefusesValue}
use Rattle.ordered_multimap.specs.Rooms.{GrowsForValue, HasPairRoom, KeepsRooms, RaisesNoRoom, SameRooms}
use Rattle.ordered_multimap.proofs.Agreement.Agreed.{value_room, key_room, row_room}
use Rattle.ordered_multimap.proofs.Agreement.LookUps.{absent_if_unlisted}

-- rooms of parts that are no smaller
module _ {K V S : Type 0} (both both_after : Lists K V) (keys keys_after rows rows_after slots slots_after : ℕ) (state : S)
    (tape tape_after : TapeNumbers) (places places_after : MapSlots K V) where
  pub keeps_rooms : keys ≤ keys_after → rows ≤ rows_after → slots ≤ slots_after
      → KeepsRooms (multimap both (min keys rows) (slots / 2) state tape places)
      (multimap both_after (min keys_after rows_after) (slots_after / 2) state tape_after places_after)
  keeps_rooms more_keys more_rows more_slots = record {
    keys = omega (arith, more_keys, more_rows);
    values = omega (arith, more_slots);
    hasher = refl;
  }

-- half of the slots doubles where they do
pub half_doubles : (slots slots_after : ℕ) → DoublesIfGrown slots slots_after → DoublesIfGrown (slots / 2) (slots_after / 2)
half_doubles slots slots_after doubles = λ (more : slots / 2 < slots_after / 2).
    let doubled : slots * 2 ≤ slots_after = doubles (omega (arith, more)) in omega (arith, doubled)

-- the map of these parts
abbrev pub map_of : {K V S : Type 0} → Slots K KeyLink → ℕ → Taped V ValueLink → S → ChainEnds → Multimap K V S
map_of keys row_capacity values state left =
    multimap (lists_of keys values.list) (min keys.capacity row_capacity) (values.list.capacity / 2) state (numbers_of values)
    (record { keys = keys; values = values.list; left = left })

-- rooms of parts that are as large
pub same_rooms : {K V S : Type 0} (keys keys_after : Slots K KeyLink) (rows rows_after : ℕ) (values values_after : Taped V ValueLink)
    (state : S)
    (left left_after : ChainEnds) → KeepsCapacities keys keys_after values values_after → rows_after ≡ rows
    → SameRooms (map_of keys rows values state left) (map_of keys_after rows_after values_after state left_after)
same_rooms keys keys_after rows rows_after values values_after state left left_after same same_rows = record {
  keys = (λ i. min (same.keys_capacity i) (same_rows i));
  values = ap (λ n. n / 2) same.capacity;
  slots = same.capacity;
  hasher = refl;
}

module _ {K V S : Type 0} {eq : K → K → Bool} {old new : Multimap K V S} {k : K} where
  -- what grows for a value of a key that is there grows no more for a pair of it
  pub raises_none : GrowsForValue old new → RaisesNoRoom eq k old new
  raises_none grows = record {
    keys = λ few. grows.keys;
    present = λ there. grows.keys;
    values = grows.values;
    slots = grows.slots;
    doubles = grows.doubles;
  }

  pub appended_there : {place : ℕ} {value : V} → HasKey eq old.slots.keys k place → IsAppendedAt eq place value old new
      → IsAppended eq k value old new
  appended_there has came = record {
    lists = came.lists k has;
    rooms = came.grows.rooms;
    had_room = raises_none
        came.grows;
    taken = came.taken;
  }

  pub refused_there : {value : V} {r : RefusedValue V} → RefusesValue value old new r
      → IsRefused eq k value old new (record { key = k; value = r.value })
  refused_there came = record {
    returned = ap (λ v. record { key = k; value = v }) came.returned;
    lists = came.lists;
    rooms = came.grows.rooms;
    had_room = raises_none came.grows;
    taken = came.taken;
    full = λ room. came.full room.value;
  }

module _ {K V S : Type 0} {eq : K → K → Bool} {hash : K → ℕ} (keys : Slots K KeyLink) (rows : FinMap nat_cmp ℕ) (values : Taped V ValueLink)
    (agrees : Agrees eq hash keys rows values.list) (row_capacity : ℕ) (state : S) (left : ChainEnds) where
  -- where the key was present and the slots are as many as before if there was room
  module _ (keys_after : Slots K KeyLink) (rows_after : ℕ) (values_after : Taped V ValueLink) (left_after : ChainEnds) where
    pub grows_there : values.list.capacity ≤ values_after.list.capacity
        → (HasTapeRoomFor values 1 → values_after.list.capacity ≡ values.list.capacity)
        → DoublesIfGrown values.list.capacity values_after.list.capacity → keys_after.capacity ≡ keys.capacity → rows_after ≡ row_capacity
        → GrowsForValue (map_of keys row_capacity values state left) (map_of keys_after rows_after values_after state left_after)
    grows_there no_less had_room doubles same_keys same_rows = record {
      rooms = keeps_rooms _ _ _ _ _ _ _ _ _ _ _ _ _ (omega (arith, same_keys)) (omega (arith, same_rows)) no_less;
      keys = (λ i. min (same_keys i) (same_rows i));
      values = λ short. ap (λ n. n / 2) (had_room (value_room agrees (values.list.capacity / 2) short));
      slots = λ short. had_room (value_room agrees (values.list.capacity / 2) short);
      doubles = record { keys = λ more. absurd (omega (arith, more, same_keys, same_rows)); values = half_doubles _ _ doubles };
    }

module _ {K V S : Type 0} {eq : K → K → Bool} (laws : IsEquivalence eq) {hash : K → ℕ} (keys : Slots K KeyLink) (rows : FinMap nat_cmp ℕ)
    (values : Taped V ValueLink)
    (agrees : Agrees eq hash keys rows values.list) (row_capacity : ℕ) (state : S) (left : ChainEnds) (key : K) where
  pub fits_value : length (pairs_of keys values.list) < values.list.capacity / 2 → HasTapeRoomFor values 1
  fits_value short = value_room agrees (values.list.capacity / 2) short

  -- of an absent key
  pub fits_pair : is_listed eq (items_of keys) key ≡ false → HasPairRoom eq (map_of keys row_capacity values state left) key
      → FitsOneMore keys rows row_capacity values
  fits_pair unlisted room =
      let few = room.key (absent_if_unlisted laws agrees key unlisted) in
      record {
        key = key_room agrees row_capacity few;
        row = row_room agrees row_capacity few;
        value = fits_value room.value;
      }

  module _ (keys_after : Slots K KeyLink) (rows_after : ℕ) (values_after : Taped V ValueLink) (made : MakesRoom values values_after) where
    pub raises_none_absent : is_listed eq (items_of keys) key ≡ false → GrowsFor keys keys_after rows row_capacity rows_after 1
        → RaisesNoRoom eq key (map_of keys row_capacity values state left) (map_of keys_after rows_after values_after state left)
    raises_none_absent unlisted grows = record {
      keys = λ few.
          let fits : FitsKeys keys rows row_capacity 1 = record {
            key = key_room agrees row_capacity few;
            row = row_room agrees row_capacity
                few;
          } in
          (λ i. min (grows.same_keys fits i) (grows.same_rows fits i));
      present = λ there. absurd (true≢false (sym there ∙ absent_if_unlisted laws agrees key unlisted));
      values = λ short. ap (λ n. n / 2) (made.had_room (fits_value short));
      slots = λ short. made.had_room (fits_value short);
      doubles = record { keys = grows.doubles; values = half_doubles _ _ made.doubles };
    }

pub on_err : {X E P : Type 0} (r : Result X E) → P → OnErr r P
on_err (Ok x) p = tt
on_err (Err e) p = p

-- the first of two facts on a refusal
pub first_on_err : {X E : Type 0} (P Q : Type 0) (r : Result X E) → OnErr r (P × Q) → OnErr r P
first_on_err P Q (Ok x) both = both
first_on_err P Q (Err e) both = both.0

pub on_ok-map : {X E P Q : Type 0} → (P → Q) → (r : Result X E) → OnOk r P → OnOk r Q
on_ok-map f (Ok x) p = f p
on_ok-map f (Err e) p = tt

-- two facts on a refusal
pub both_on_err : {X E : Type 0} (P Q : Type 0) (r : Result X E) → OnErr r P → OnErr r Q → OnErr r (P × Q)
both_on_err P Q (Ok x) p q = tt
both_on_err P Q (Err e) p q = (p, q)

-- what is said on a refusal, and what of the error
pub if_err-map : {X E P : Type 0} {Q R : E → Type 0} → ((e : E) → P → Q e → R e) → (r : Result X E) → OnErr r P → IfErr r Q → IfErr r R
if_err-map f (Ok x) p q = tt
if_err-map f (Err e) p q = f e p q

-- a refusal that leaves the room as it was, and that doesn't come where so much fits: it doesn't fit
pub short_on_err : {X E : Type 0} (fits : ℕ → ℕ) (now room wanted : ℕ) (r : Result X E) → OnErr r (now ≡ room)
    → (wanted ≤ fits room → IsOk r) → OnErr r (fits now < wanted)
short_on_err fits now room wanted (Ok x) same succeeds = tt
short_on_err fits now room wanted (Err e) same succeeds = lt_of_not-le (λ few. true≢false (sym (succeeds (subst (λ n. wanted ≤ fits n) same few))))
