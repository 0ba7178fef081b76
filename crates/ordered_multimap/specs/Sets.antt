-- What a call leaves of a map that sets the first value of a key, and drops its others.
use Rattle.std.specs.Prelude.{◌≡◌, ◌-◌, Bool, Option, Some, None, length}
use Rattle.ordered_multimap.specs.Additions.{IsAppended}
use Rattle.ordered_multimap.specs.Multimap.{Multimap}
use Rattle.ordered_multimap.specs.OneValue.{only_written}
use Rattle.ordered_multimap.specs.Pairs.{values_of}
use Rattle.ordered_multimap.specs.Rooms.{SameRooms}
use Rattle.ordered_multimap.specs.TapeNumbers.{TakesOut}

module _ {K V S : Type 0} (eq : K → K → Bool) (key : K) (value : V) (old new : Multimap K V S) where
  -- the first pair of the key has this value, and its others have left; the keys stay
  pub record LeavesOnly : Type 0 where
    pub lists : new.lists ≡ only_written (eq key) old.lists value
    pub taken : TakesOut (length (values_of eq old.lists.pairs key) - 1) old.tape new.tape

  -- the same of a key that was there, where no room has changed
  pub record IsOnlyValue : Type 0 where
    pub only : LeavesOnly
    pub rooms : SameRooms old new

  -- an old value comes back where the key was there, and else the pair was put last
  abbrev pub SetsValue : Option V → Type 0
  SetsValue (Some first) = IsOnlyValue
  SetsValue None = IsAppended eq key value old new
