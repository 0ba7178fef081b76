-- Room in a map, and what the changing calls keep of it.
use Rattle.std.specs.Prelude.{◌≡◌, ℕ, ◌+◌, ◌≤◌, ◌<◌, Bool, true, false, length, Result, IfOk, IsOk}
use Rattle.std.specs.Prelude.{OnErr, OnOk}
use Rattle.multimap_slots.specs.Slots.{DoublesIfGrown}
use Rattle.ordered_multimap.specs.Lists.{empty_lists}
use Rattle.ordered_multimap.specs.Pairs.{is_present}
use Rattle.ordered_multimap.specs.Multimap.{Multimap}
use Rattle.ordered_multimap.specs.TapeNumbers.{AreUnused}

module _ {K V S : Type 0} where
  -- no pair, on a tape that was not used
  pub record IsNewMap (m : Multimap K V S) : Type 0 where
    pub empty : m.lists ≡ empty_lists
    pub unused : AreUnused m.tape

  -- a new map, with room for so many keys and values
  pub record IsNewMapFor (keys values : ℕ) (m : Multimap K V S) : Type 0 where
    pub new : IsNewMap m
    pub key_room : keys ≤ m.key_room
    pub value_room : values ≤ m.value_room

  -- a new map with room for so many keys and values was made; it is refused only where room was
  -- asked for
  pub record StartsWithRoom (keys values : ℕ) {E : Type 0} (r : Result (Multimap K V S) E) : Type 0
    where
      pub new : IfOk r (IsNewMapFor keys values)
      pub succeeds : keys ≡ 0 → values ≡ 0 → IsOk r

  -- one more key fits
  abbrev pub HasKeyRoom : Multimap K V S → Type 0
  HasKeyRoom m = length m.lists.keys < m.key_room

  -- one more value fits
  abbrev pub HasValueRoom : Multimap K V S → Type 0
  HasValueRoom m = length m.lists.pairs < m.value_room

  -- one more pair of the key fits; a present key needs room for the value alone
  pub record HasPairRoom (eq : K → K → Bool) (m : Multimap K V S) (k : K) : Type 0 where
    pub value : HasValueRoom m
    pub key : is_present eq m.lists.pairs k ≡ false → HasKeyRoom m

  -- so many more keys fit, and so many more values
  pub record HasRoomForPairs (m : Multimap K V S) (n : ℕ) : Type 0 where
    pub keys : length m.lists.keys + n ≤ m.key_room
    pub values : length m.lists.pairs + n ≤ m.value_room

  -- no room is lower than before, and the hash builder is the same
  pub record KeepsRooms (old new : Multimap K V S) : Type 0 where
    pub keys : old.key_room ≤ new.key_room
    pub values : old.value_room ≤ new.value_room
    pub hasher : new.hasher ≡ old.hasher

  -- a room that grows at least doubles
  pub record DoublesRooms (old new : Multimap K V S) : Type 0 where
    pub keys : DoublesIfGrown old.key_room new.key_room
    pub values : DoublesIfGrown old.value_room new.value_room

  -- where one more of them fits, the room is the same, and for values no slot was added; a present
  -- key wants no room for keys; where there is none, a room that grows at least doubles
  pub record RaisesNoRoom (eq : K → K → Bool) (k : K) (old new : Multimap K V S) : Type 0 where
    pub keys : HasKeyRoom old → new.key_room ≡ old.key_room
    pub present : is_present eq old.lists.pairs k ≡ true → new.key_room ≡ old.key_room
    pub values : HasValueRoom old → new.value_room ≡ old.value_room
    pub slots : HasValueRoom old → new.tape.slots ≡ old.tape.slots
    pub doubles : DoublesRooms old new

  -- the same for a value of a key that is there: the room for keys is as it was
  pub record GrowsForValue (old new : Multimap K V S) : Type 0 where
    pub rooms : KeepsRooms old new
    pub keys : new.key_room ≡ old.key_room
    pub values : HasValueRoom old → new.value_room ≡ old.value_room
    pub slots : HasValueRoom old → new.tape.slots ≡ old.tape.slots
    pub doubles : DoublesRooms old new

  -- all rooms, the number of slots and the hash builder are the same
  pub record SameRooms (old new : Multimap K V S) : Type 0 where
    pub keys : new.key_room ≡ old.key_room
    pub values : new.value_room ≡ old.value_room
    pub slots : new.tape.slots ≡ old.tape.slots
    pub hasher : new.hasher ≡ old.hasher

  -- all rooms, the hash builder and all numbers of the tape are the same
  pub record SameNumbers (old new : Multimap K V S) : Type 0 where
    pub rooms : SameRooms old new
    pub tape : new.tape ≡ old.tape

  -- both lists are the same, no room is lower, and one that grows at least doubles
  pub record OnlyGrows (old new : Multimap K V S) : Type 0 where
    pub lists : new.lists ≡ old.lists
    pub rooms : KeepsRooms old new
    pub doubles : DoublesRooms old new

  -- the lists are the same, with room for so many keys and values, on a tape that is new
  pub record IsPacked (keys values : ℕ) (old new : Multimap K V S) : Type 0 where
    pub lists : new.lists ≡ old.lists
    pub hasher : new.hasher ≡ old.hasher
    pub key_room : keys ≤ new.key_room
    pub value_room : values ≤ new.value_room
    pub unused : AreUnused new.tape

  -- the map was packed, or it was refused and left as it was
  pub record Packs (keys values : ℕ) (old new : Multimap K V S) {X E : Type 0} (r : Result X E)
      : Type 0 where
    pub ok : OnOk r (IsPacked keys values old new)
    pub refused : OnErr r (new ≡ old)

  -- an insertion needs room for a key and a value where the key is absent, else none
  pub record HasInsertRoom (eq : K → K → Bool) (m : Multimap K V S) (k : K) : Type 0 where
    pub key : is_present eq m.lists.pairs k ≡ false → HasKeyRoom m
    pub value : is_present eq m.lists.pairs k ≡ false → HasValueRoom m

  -- where one more of them fits, the room is the same, and where the key was present, all rooms are
  pub record InsertRaisesNoRoom (eq : K → K → Bool) (k : K)
      (old new : Multimap K V S) : Type 0 where
    pub had_room : RaisesNoRoom eq k old new
    pub present : is_present eq old.lists.pairs k ≡ true → SameRooms old new
