-- What a call that takes the values of a key out leaves of a map. The key is told by a test, which
-- accepts it and those that are equal to it.
use Rattle.std.specs.Prelude.{◌≡◌, Bool, length}
use Rattle.ordered_multimap.specs.Changes.{removed_where}
use Rattle.ordered_multimap.specs.Lists.{Lists}
use Rattle.ordered_multimap.specs.Multimap.{Multimap}
use Rattle.ordered_multimap.specs.Pairs.{values_where}
use Rattle.ordered_multimap.specs.Rooms.{SameRooms}
use Rattle.ordered_multimap.specs.TapeNumbers.{TakesOut}

module _ {K V S : Type 0} (accepts : K → Bool) (old new : Multimap K V S) where
  -- the values that the accepted keys had have left, and these are the lists then
  pub record LosesWhere (after : Lists K V) : Type 0 where
    pub lists : new.lists ≡ after
    pub taken : TakesOut (length (values_where accepts old.lists.pairs)) old.tape new.tape

-- the key was removed with all its values, if it was there, and no room has changed
pub record IsRemovedWhere {K V S : Type 0} (accepts : K → Bool) (eq : K → K → Bool)
    (old new : Multimap K V S) : Type 0 where
  pub loses : LosesWhere accepts old new (removed_where eq accepts old.lists)
  pub rooms : SameRooms old new

module _ {K V S : Type 0} (eq : K → K → Bool) (old new : Multimap K V S) (k : K) where
  -- the values that the key had have left, and these are the lists then
  abbrev pub LosesValues : Lists K V → Type 0
  LosesValues after = LosesWhere (eq k) old new after
