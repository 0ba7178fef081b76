-- What appending many values under one key leaves.
use Rattle.std.specs.Prelude.{◌≡◌, ◌+◌, ◌≤◌, ℕ, Bool, true, false, List, [], ◌∷◌, ◌++◌, length}
use Rattle.std.specs.Prelude.{map, Option, Some, None, Result, IsOk, MatchResult, OnErr}
use Rattle.std.specs.Iterator.{Count, Drains, HoldsAlong, Yields, size}
use Rattle.ordered_multimap.specs.Agrees.{HasKey}
use Rattle.ordered_multimap.specs.Changes.{all_appended}
use Rattle.ordered_multimap.specs.Lists.{Lists}
use Rattle.ordered_multimap.specs.Multimap.{Multimap}
use Rattle.ordered_multimap.specs.Pairs.{is_present}
use Rattle.ordered_multimap.specs.Rooms.{DoublesRooms, HasKeyRoom, HasValueRoom, KeepsRooms}
use Rattle.ordered_multimap.specs.Rooms.{SameRooms}
use Rattle.ordered_multimap.specs.TapeNumbers.{TakesOut}
use Rattle.ordered_multimap.specs.declared.list_ordered_multimap.refused.Refused.{Refused}
use Rattle.ordered_multimap.specs.declared.list_ordered_multimap.refused.RefusedValue.{RefusedValue}

-- the pairs of the key with these values
abbrev pub under_key : {K V : Type 0} → K → List V → List (K × V)
under_key key values = map (λ v. (key, v)) values

module _ {K V T : Type 0} (steps : T → Option V → T → Type 0) (key : K) where
  -- the key comes back where no value was appended
  abbrev pub key_back : List V → Option K
  key_back [] = Some key
  key_back (v ∷ values) = None

  -- the iterator was read so far: it gave these values, and last of all the refused one
  abbrev pub StopsAtValue : T → List V → Refused (Option K) V → Type 0
  StopsAtValue it values refused = (t : T) × Yields steps it (values ++ refused.value ∷ []) t
      × (refused.key ≡ key_back values)

module _ {K V : Type 0} (eq : K → K → Bool) (key : K) {I T : Type 0} (becomes : I → T → Type 0)
    (steps : T → Option V → T → Type 0) where
  -- each of these values was appended under the key in turn: all of the iterator's, or those before
  -- the refused one
  abbrev pub AppendsMany : I → Lists K V → Lists K V → Result ℕ (Refused (Option K) V) → Type 0
  AppendsMany values old new r = (it : T) × (given : List V) × becomes values it
      × (new ≡ all_appended eq old (under_key key given))
      × MatchResult r (λ count. (count ≡ length given) × Drains steps it given)
      (StopsAtValue steps key it given)

module _ {K V S : Type 0} (eq : K → K → Bool) (key : K) where
  -- so many more values of the key fit
  pub record HasRoomForValues (m : Multimap K V S) (n : ℕ) : Type 0 where
    pub values : length m.lists.pairs + n ≤ m.value_room
    pub absent : is_present eq m.lists.pairs key ≡ false → HasKeyRoom m

  -- no room is lower, one that grows at least doubles, and no value leaves; where the key is
  -- present, or has room, no room for keys grows; where there is room for as many values as may
  -- come at most, nothing does
  pub record GrowsForMany (most : Type 0) (old new : Multimap K V S) : Type 0 where
    pub rooms : KeepsRooms old new
    pub doubles : DoublesRooms old new
    pub taken : TakesOut 0 old.tape new.tape
    pub present : is_present eq old.lists.pairs key ≡ true → new.key_room ≡ old.key_room
    pub key_room : HasKeyRoom old → new.key_room ≡ old.key_room
    pub had_room : most → SameRooms old new

  module _ {I T : Type 0} (becomes : I → T → Type 0) where
    -- however many values the iterator gives, so many more fit
    abbrev pub HasRoomForGivenValues : {X : Type 0} → (T → Option X → T → Type 0) → I
        → Multimap K V S → Type 0
    HasRoomForGivenValues steps values m = (it : T) → becomes values it
        → HoldsAlong steps it (λ given. HasRoomForValues m (length given))

    -- as many more fit as the iterator says that it has left at most
    abbrev pub HasRoomForMostValues : (T → Count) → I → Multimap K V S → Type 0
    HasRoomForMostValues left values m =
        (it : T) → becomes values it → HasRoomForValues m (size (left it))

    -- nothing is refused where all values that come, or may come, have room, and the map has grown
    -- for them alone
    pub record GrowsForAllValues {X Y E : Type 0} (steps : T → Option X → T → Type 0)
        (left : T → Count) (values : I) (old new : Multimap K V S) (r : Result Y E) : Type 0 where
      pub grows : GrowsForMany (HasRoomForMostValues left values old) old new
      pub succeeds : HasRoomForGivenValues steps values old → IsOk r
      pub succeeds_for_most : HasRoomForMostValues left values old → IsOk r

module _ {K V S : Type 0} where
  -- so many more values fit
  abbrev pub HasValueRoomFor : Multimap K V S → ℕ → Type 0
  HasValueRoomFor m n = length m.lists.pairs + n ≤ m.value_room

  -- no room for keys has grown; where so many more values fit, no room has
  pub record GrowsBehind (most : Type 0) (old new : Multimap K V S) : Type 0 where
    pub rooms : KeepsRooms old new
    pub keys : new.key_room ≡ old.key_room
    pub doubles : DoublesRooms old new
    pub taken : TakesOut 0 old.tape new.tape
    pub had_room : most → SameRooms old new

  -- these values of an iterator were appended in turn under the key at the place: all of them, or
  -- those before one for which there was no room, which comes back
  pub record AppendsManyAt (eq : K → K → Bool) (place : ℕ) {T : Type 0}
      (steps : T → Option V → T → Type 0) (left : T → Count) (it : T) (old new : Multimap K V S)
      (r : Result ℕ (RefusedValue V)) : Type 0 where
    pub given : List V
    pub lists : (k : K) → HasKey eq old.slots.keys k place
        → new.lists ≡ all_appended eq old.lists (under_key k given)
    pub read : MatchResult r (λ count. (count ≡ length given) × Drains steps it given)
        (λ refused. (t : T) × Yields steps it (given ++ refused.value ∷ []) t)
    pub full : OnErr r (¬ HasValueRoom new)
    pub grows : GrowsBehind (HasValueRoomFor old (size (left it))) old new
    pub succeeds : HoldsAlong steps it (λ values. HasValueRoomFor old (length values)) → IsOk r
    pub succeeds_for_most : HasValueRoomFor old (size (left it)) → IsOk r
