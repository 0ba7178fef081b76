-- What a step at the place of a key leaves of the map. No public clause cites this module.
use Rattle.std.specs.Prelude.{◌≡◌, ℕ, Bool, Some}
use Rattle.multimap_slots.specs.Lists.{IsIn}
use Rattle.multimap_walks.specs.Walk.{end_item}
use Rattle.multimap_walks.specs.declared.End.{End}
use Rattle.ordered_multimap.specs.Agrees.{HasKey}
use Rattle.ordered_multimap.specs.Detaches.{HoldsDrain, left_of}
use Rattle.ordered_multimap.specs.Keys.{stored_key}
use Rattle.ordered_multimap.specs.Lists.{Lists}
use Rattle.ordered_multimap.specs.Multimap.{Multimap}
use Rattle.ordered_multimap.specs.Pairs.{values_where}
use Rattle.ordered_multimap.specs.Removals.{LosesWhere}
use Rattle.ordered_multimap.specs.Rooms.{SameRooms}
use Rattle.ordered_multimap.specs.TapeNumbers.{TakesOut}

-- the values that the accepted keys had have left for a drain, and these are the lists then
pub record DetachesWhere {K V S : Type 0} (accepts : K → Bool) (old new : Multimap K V S)
    (after : Lists K V) : Type 0 where
  pub left : left_of new ≡ values_where accepts old.lists.pairs
  pub loses : LosesWhere accepts old new after

module _ {K V S : Type 0} (eq : K → K → Bool) (old new : Multimap K V S) where
  -- each key stands where it stood
  abbrev pub KeepsPlaces : Type 0
  KeepsPlaces = (k : K) (place : ℕ) → HasKey eq old.slots.keys k place
      → HasKey eq new.slots.keys k place

  -- a key stands at the place as before, and each key that is equal to it
  pub record KeepsPlace (place : ℕ) : Type 0 where
    pub listed : IsIn place new.slots.keys.order
    pub stays : (k : K) → HasKey eq old.slots.keys k place → HasKey eq new.slots.keys k place

  -- the same, and no room has changed
  pub record StaysInRoom (place : ℕ) : Type 0 where
    pub place_stays : KeepsPlace place
    pub rooms : SameRooms old new

  -- the values that the key had have left for a drain, and these are the lists then
  abbrev pub DetachesValues : K → Lists K V → Type 0
  DetachesValues k after = DetachesWhere (eq k) old new after

-- the map keeps where the values of a drain stand, and no room has changed
pub record HoldsInRoom {K V S : Type 0} (old new : Multimap K V S) : Type 0 where
  pub drain : HoldsDrain new
  pub rooms : SameRooms old new

-- the lists are as they were, and no pair was taken out
pub record KeepsBothLists {K V S : Type 0} (old new : Multimap K V S) : Type 0 where
  pub lists : new.lists ≡ old.lists
  pub taken : TakesOut 0 old.tape new.tape

-- the key at an end of the keys stands at the place
pub record HasEndKey {K V S : Type 0} (eq : K → K → Bool) (end : End) (m : Multimap K V S)
    (place : ℕ) : Type 0 where
  pub key : K
  pub there : HasKey eq m.slots.keys key place
  pub stored : stored_key eq m.lists.keys key ≡ key
  pub at_end : end_item end m.lists.keys ≡ Some key
