-- How the rooms of a map grow for pairs that come one after another.
use Rattle.std.proofs.Common.{◌≤◌, ◌*◌, ℕ, Bool, refl, arith, ◌∙◌, inl, inr}
use Rattle.std.proofs.lemmas.Bool.{cases_lt}
use Rattle.multimap_slots.specs.Slots.{DoublesIfGrown}
use Rattle.ordered_multimap.specs.Extends.{GrowsForPairs}
use Rattle.ordered_multimap.specs.Multimap.{Multimap}
use Rattle.ordered_multimap.specs.Rooms.{DoublesRooms, HasKeyRoom, HasPairRoom, HasRoomForPairs, HasValueRoom, KeepsRooms, RaisesNoRoom}
use Rattle.ordered_multimap.specs.Rooms.{SameRooms}
use Rattle.ordered_multimap.specs.TapeNumbers.{TapeNumbers, TakesOut}

-- a number that grows twice has doubled
doubles-then : (a b c : ℕ) → a ≤ b → b ≤ c → DoublesIfGrown a b → DoublesIfGrown b c → DoublesIfGrown a c
doubles-then a b c more later first second = λ grown. elim (cases_lt a b) [
  | inl less ↦ let doubled : a * 2 ≤ b = first less in omega (arith, doubled, later)
  | inr same ↦ let doubled : b * 2 ≤ c = second (omega (arith, grown, same)) in omega (arith, doubled, more)
]

pub takes_none-then : {a b c : TapeNumbers} → TakesOut 0 a b → TakesOut 0 b c → TakesOut 0 a c
takes_none-then first second = record {
  freed = omega (arith, first.freed, second.freed);
  paid = omega (arith, first.paid, second.paid);
}

module _ {K V S : Type 0} where
  pub keeps_rooms-then : {a b c : Multimap K V S} → KeepsRooms a b → KeepsRooms b c → KeepsRooms a c
  keeps_rooms-then first second = record {
    keys = omega (arith, first.keys, second.keys);
    values = omega (arith, first.values, second.values);
    hasher = second.hasher ∙ first.hasher;
  }

  pub doubles_rooms-then : {a b c : Multimap K V S} → KeepsRooms a b → KeepsRooms b c → DoublesRooms a b → DoublesRooms b c → DoublesRooms a c
  doubles_rooms-then more later first second = record {
    keys = doubles-then _ _ _ more.keys later.keys first.keys second.keys;
    values = doubles-then _ _ _ more.values later.values first.values second.values;
  }

  -- room for more is room for fewer
  pub room-fewer : {m : Multimap K V S} {few many : ℕ} → few ≤ many → HasRoomForPairs m many → HasRoomForPairs m few
  room-fewer fewer room = record { keys = omega (arith, fewer, room.keys); values = omega (arith, fewer, room.values) }

  -- where one more pair fits, one of any key does
  module _ (eq : K → K → Bool) {m : Multimap K V S} (room : HasRoomForPairs m 1) where
    has_key_room : HasKeyRoom m
    has_key_room = omega (arith, room.keys)

    has_value_room : HasValueRoom m
    has_value_room = omega (arith, room.values)

    pub has_pair_room : (k : K) → HasPairRoom eq m k
    has_pair_room k = record { value = has_value_room; key = λ _. has_key_room }

  module _ {given most : Type 0} where
    -- nothing has grown
    pub grows_for_none : (m : Multimap K V S) → GrowsForPairs given most m m
    grows_for_none m = record {
      rooms = record { keys = omega arith; values = omega arith; hasher = refl };
      doubles = record { keys = λ grown. omega (arith, grown); values = λ grown. omega (arith, grown) };
      taken = record { freed = omega arith; paid = omega arith };
      key_room = λ _. refl;
      had_room = λ _. record { keys = refl; values = refl; slots = refl; hasher = refl };
    }

    -- one more pair came last, or was refused, and there was room for it where there was for all
    pub grows_for_one : (eq : K → K → Bool) {old now new : Multimap K V S} {k : K}
        → (given → HasRoomForPairs now 1) → (most → HasRoomForPairs now 1)
        → GrowsForPairs given most old now → KeepsRooms now new → RaisesNoRoom eq k now new → TakesOut 0 now.tape new.tape
        → GrowsForPairs given most old new
    grows_for_one eq {old} {now} {new} for_given for_most grows rooms raises taken = record {
      rooms = keeps_rooms-then grows.rooms rooms;
      doubles = doubles_rooms-then grows.rooms rooms grows.doubles raises.doubles;
      taken = takes_none-then grows.taken taken;
      key_room = λ given. raises.keys (has_key_room eq (for_given given)) ∙ grows.key_room given;
      had_room = λ most. same_rooms (for_most most) (grows.had_room most);
    }
      where
        same_rooms : HasRoomForPairs now 1 → SameRooms old now → SameRooms old new
        same_rooms room same = record {
          keys = raises.keys (has_key_room eq room) ∙ same.keys;
          values = raises.values (has_value_room eq room) ∙ same.values;
          slots = raises.slots (has_value_room eq room) ∙ same.slots;
          hasher = rooms.hasher ∙ same.hasher;
        }
