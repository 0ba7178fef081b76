-- What the calls leave of a set: its lists, its rooms and its tape's numbers, and a set again.
use Rattle.std.specs.Prelude.{◌≡◌, ◌≤◌, ◌-◌, Bool, length}
use Rattle.ordered_multimap.specs.End.{End}
use Rattle.ordered_multimap.specs.Keys.{keys_named_by}
use Rattle.ordered_multimap.specs.KeySorts.{ReordersKeys}
use Rattle.ordered_multimap.specs.Lists.{empty_lists}
use Rattle.ordered_multimap.specs.Multimap.{Multimap}
use Rattle.ordered_multimap.specs.PairSorts.{ReordersPairs}
use Rattle.ordered_multimap.specs.PopAnswers.{IsPopped}
use Rattle.ordered_multimap.specs.Removals.{IsRemovedWhere}
use Rattle.ordered_multimap.specs.Rooms.{IsNewMap, SameRooms}
use Rattle.ordered_multimap.specs.TapeNumbers.{TakesOut}
use Rattle.set_ordered_multimap.specs.Set.{IsSet, value_removed_where}

module _ {K V S : Type 0} (eq : K → K → Bool) (value_eq : V → V → Bool) where
  -- a set without pairs, on a tape that was not used
  pub record IsNewSet (m : Multimap K V S) : Type 0 where
    pub empty : IsNewMap m
    pub set : IsSet eq value_eq m.lists

  -- such a set with this hash builder
  pub record IsNewSetWith (state : S) (m : Multimap K V S) : Type 0 where
    pub new : IsNewSet m
    pub hasher : m.hasher ≡ state

  module _ (old new : Multimap K V S) where
    -- no pair is left, all rooms are as before, and no slot is a hole
    pub record IsClearedSet : Type 0 where
      pub lists : new.lists ≡ empty_lists
      pub set : IsSet eq value_eq new.lists
      pub rooms : SameRooms old new
      pub taken : TakesOut (length old.lists.pairs) old.tape new.tape
      pub holes : new.tape.holes ≡ 0

    -- pairs have left, with the keys that no pair names then; rooms stay, and so does a set
    pub record LosesPairs : Type 0 where
      pub keys : new.lists.keys ≡ keys_named_by eq old.lists.keys new.lists.pairs
      pub set : IsSet eq value_eq old.lists → IsSet eq value_eq new.lists
      pub rooms : SameRooms old new
      pub taken : TakesOut (length old.lists.pairs - length new.lists.pairs) old.tape new.tape
      pub fewer : length new.lists.pairs ≤ length old.lists.pairs

    -- the pair of the accepted keys with an equal value has left, if there was one, with a key that
    -- no pair names then; rooms stay, and so does a set
    pub record LosesValueWhere (accepts : K → Bool) (v : V) : Type 0 where
      pub lists : new.lists ≡ value_removed_where eq value_eq accepts old.lists v
      pub set : IsSet eq value_eq old.lists → IsSet eq value_eq new.lists
      pub rooms : SameRooms old new

    -- the accepted key has left with all its values, if it was there; rooms stay, and so does a set
    pub record LosesKeyWhere (accepts : K → Bool) : Type 0 where
      pub removed : IsRemovedWhere accepts eq old new
      pub set : IsSet eq value_eq old.lists → IsSet eq value_eq new.lists

    -- the pair at an end has left, if there was one, and its key with its last value; rooms stay,
    -- and so does a set
    pub record LosesEnd (end : End) : Type 0 where
      pub popped : IsPopped eq end old new
      pub set : IsSet eq value_eq old.lists → IsSet eq value_eq new.lists

    -- the keys are the same in another order; pairs, rooms and numbers stay, and so does a set
    pub record ReordersSet : Type 0 where
      pub reordered : ReordersKeys old new
      pub set : IsSet eq value_eq old.lists → IsSet eq value_eq new.lists

    -- the pairs are the same in another order; the keys stay, no room is lower, and a set stays one
    pub record ReordersSetPairs : Type 0 where
      pub reordered : ReordersPairs old new
      pub set : IsSet eq value_eq old.lists → IsSet eq value_eq new.lists
