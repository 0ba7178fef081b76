-- What is left of a map that keeps some of its pairs, beside which ones these are. No public clause
-- cites this module.
use Rattle.std.specs.Prelude.{◌≡◌, ◌≤◌, ◌-◌, Bool, length}
use Rattle.ordered_multimap.specs.Keys.{keys_named_by}
use Rattle.ordered_multimap.specs.Multimap.{Multimap}
use Rattle.ordered_multimap.specs.Rooms.{SameRooms}
use Rattle.ordered_multimap.specs.TapeNumbers.{TakesOut}

-- some pairs have left, with the keys that no pair names then; rooms stay
pub record LosesSome {K V S : Type 0} (eq : K → K → Bool) (old new : Multimap K V S) : Type 0 where
  pub keys : new.lists.keys ≡ keys_named_by eq old.lists.keys new.lists.pairs
  pub rooms : SameRooms old new
  pub taken : TakesOut (length old.lists.pairs - length new.lists.pairs) old.tape new.tape
  pub fewer : length new.lists.pairs ≤ length old.lists.pairs
