-- A pair that is put last, behind the values of its key or in the place of these.
use Rattle.std.proofs.Common.{Bool, true, false, ap}
use Rattle.std.specs.Cmp.{IsEquivalence}
use Rattle.ordered_multimap.specs.Additions.{IsAppended}
use Rattle.ordered_multimap.specs.Agrees.{LacksKey}
use Rattle.ordered_multimap.specs.Multimap.{Multimap}
use Rattle.ordered_multimap.specs.Pairs.{has_items}
use Rattle.ordered_multimap.specs.Private.AppendMap.{PutsInRoom}
use Rattle.ordered_multimap.specs.Private.KeySteps.{KeepsPlaces}
use Rattle.ordered_multimap.specs.Rooms.{HasPairRoom, SameRooms}
use Rattle.ordered_multimap.proofs.Agreement.AbsentKeys.{inserted_new}

-- a pair of an absent key, for which there was room
pub puts_new : {K V S : Type 0} {eq : K → K → Bool} (laws : IsEquivalence eq) (replaces : Bool) {old new : Multimap K V S} {k : K} {v : V}
    → LacksKey eq old.lists k → HasPairRoom eq old k → KeepsPlaces eq old new → IsAppended eq k v old new
    → PutsInRoom eq replaces k v old new
puts_new {eq = eq} laws replaces {old} {new} {k} {v} lacks room places came = by replaces
  where
    same : SameRooms old new
    same = record {
      keys = came.had_room.keys (room.key (ap (λ vs. has_items vs) lacks.no_value));
      values = came.had_room.values room.value;
      slots = came.had_room.slots room.value;
      hasher = came.rooms.hasher;
    }

    by : (b : Bool) → PutsInRoom eq b k v old new
    by true =
        let all = inserted_new laws lacks came in
        record { lists = all.lists; rooms = same; taken = all.taken; places = places }
    by false = record { lists = came.lists; rooms = same; taken = came.taken; places = places }
