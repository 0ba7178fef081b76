-- What an addition leaves of a map. What is said of the key at a place is said for every key that
-- is equal to the one there.
use Rattle.std.specs.Prelude.{◌≡◌, ℕ, Bool, length, Result, IfErr, IsOk, OnOk}
use Rattle.ordered_multimap.specs.declared.list_ordered_multimap.refused.Refused.{Refused}
use Rattle.ordered_multimap.specs.declared.list_ordered_multimap.refused.RefusedValue.{RefusedValue}
use Rattle.ordered_multimap.specs.Agrees.{HasKey}
use Rattle.ordered_multimap.specs.Changes.{appended, inserted}
use Rattle.ordered_multimap.specs.Multimap.{Multimap}
use Rattle.ordered_multimap.specs.Pairs.{values_of}
use Rattle.ordered_multimap.specs.Rooms.{GrowsForValue, HasPairRoom, HasValueRoom}
use Rattle.ordered_multimap.specs.Rooms.{InsertRaisesNoRoom, KeepsRooms, RaisesNoRoom}
use Rattle.ordered_multimap.specs.TapeNumbers.{TakesOut}

module _ {K V S : Type 0} where
  -- a pair of the key was put last
  pub record IsAppended (eq : K → K → Bool) (key : K) (value : V) (old new : Multimap K V S)
      : Type 0 where
    pub lists : new.lists ≡ appended eq old.lists key value
    pub rooms : KeepsRooms old new
    pub had_room : RaisesNoRoom eq key old new
    pub taken : TakesOut 0 old.tape new.tape

  -- all pairs of the key went, and one was put last
  pub record IsInserted (eq : K → K → Bool) (key : K) (value : V) (old new : Multimap K V S)
      : Type 0 where
    pub lists : new.lists ≡ inserted eq old.lists key value
    pub rooms : KeepsRooms old new
    pub had_room : InsertRaisesNoRoom eq key old new
    pub taken : TakesOut (length (values_of eq old.lists.pairs key)) old.tape new.tape

  -- the pair comes back, since there was no memory for room that the map still lacks; both lists
  -- stay, and no value was removed
  pub record IsRefused (eq : K → K → Bool) (key : K) (value : V) (old new : Multimap K V S)
      (pair : Refused K V) : Type 0 where
    pub returned : pair ≡ record { key = key; value = value }
    pub lists : new.lists ≡ old.lists
    pub rooms : KeepsRooms old new
    pub had_room : RaisesNoRoom eq key old new
    pub taken : TakesOut 0 old.tape new.tape
    pub full : ¬ HasPairRoom eq new key

  -- a pair of the key at the place was put last
  pub record IsAppendedAt (eq : K → K → Bool) (place : ℕ) (value : V) (old new : Multimap K V S)
      : Type 0 where
    pub lists : (k : K) → HasKey eq old.slots.keys k place
        → new.lists ≡ appended eq old.lists k value
    pub grows : GrowsForValue old new
    pub taken : TakesOut 0 old.tape new.tape

  -- the value comes back, since there was no memory for room that the map still lacks; both lists
  -- stay, and no value was removed
  pub record RefusesValue (value : V) (old new : Multimap K V S) (r : RefusedValue V) : Type 0 where
    pub returned : r.value ≡ value
    pub lists : new.lists ≡ old.lists
    pub grows : GrowsForValue old new
    pub taken : TakesOut 0 old.tape new.tape
    pub full : ¬ HasValueRoom new

  -- a pair of the key was put last, or refused, but only where there was no room
  pub record Appends (eq : K → K → Bool) (key : K) (value : V) (old new : Multimap K V S)
      {X : Type 0} (r : Result X (Refused K V)) : Type 0 where
    pub ok : OnOk r (IsAppended eq key value old new)
    pub refused : IfErr r (IsRefused eq key value old new)
    pub succeeds : HasPairRoom eq old key → IsOk r
