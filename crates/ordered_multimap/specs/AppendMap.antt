-- What moving all pairs of another map to the end of this one leaves of both.
use Rattle.std.specs.Prelude.{◌≡◌, ◌+◌, ◌≤◌, Bool, length}
use Rattle.ordered_multimap.specs.Changes.{merged}
use Rattle.ordered_multimap.specs.Extends.{AppendsAll}
use Rattle.ordered_multimap.specs.Lists.{empty_lists}
use Rattle.ordered_multimap.specs.Multimap.{Multimap}
use Rattle.ordered_multimap.specs.Pairs.{is_present, values_where}
use Rattle.ordered_multimap.specs.Rooms.{DoublesRooms, KeepsRooms, OnlyGrows, SameRooms}
use Rattle.ordered_multimap.specs.TapeNumbers.{TakesOut}

-- no pair is left, all rooms are as before, and no slot is a hole
pub record IsCleared {K V S : Type 0} (old new : Multimap K V S) : Type 0 where
  pub lists : new.lists ≡ empty_lists
  pub rooms : SameRooms old new
  pub taken : TakesOut (length old.lists.pairs) old.tape new.tape
  pub holes : new.tape.holes ≡ 0

module _ {K V S T : Type 0} where
  -- as many more keys fit as the other map has, and as many more values
  pub record HasRoomForMap (m : Multimap K V S) (other : Multimap K V T) : Type 0 where
    pub keys : length m.lists.keys + length other.lists.keys ≤ m.key_room
    pub values : length m.lists.pairs + length other.lists.pairs ≤ m.value_room

  -- each pair of the other map was appended in turn, and that map was cleared
  pub record AppendsMap (eq : K → K → Bool) (old new : Multimap K V S)
      (other other_after : Multimap K V T) : Type 0 where
    pub appended : AppendsAll eq old other.lists.pairs new
    pub cleared : IsCleared other other_after

  -- the values that the other map's keys had here left, its pairs were appended in turn, and that
  -- map was cleared; no room is lower, and one that grows at least doubles
  pub record InsertsMap (eq : K → K → Bool) (old new : Multimap K V S)
      (other other_after : Multimap K V T) : Type 0 where
    pub lists : new.lists ≡ merged eq old.lists other.lists.pairs
    pub rooms : KeepsRooms old new
    pub doubles : DoublesRooms old new
    pub taken : TakesOut
        (length (values_where (is_present eq other.lists.pairs) old.lists.pairs)) old.tape new.tape
    pub cleared : IsCleared other other_after

  -- there was no memory for room that this map still lacks for all of the other one; the other map
  -- is as it was, and so are the lists
  pub record RefusesMap (old new : Multimap K V S) (other other_after : Multimap K V T) : Type 0
    where
      pub grows : OnlyGrows old new
      pub taken : TakesOut 0 old.tape new.tape
      pub other_is : other_after ≡ other
      pub full : ¬ HasRoomForMap new other
