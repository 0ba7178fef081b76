-- Values that are appended in turn behind the others of a key.
use Rattle.std.proofs.Common.{◌≡◌, ◌+◌, ◌≤◌, ℕ, Bool, true, false, List, [], ◌∷◌, ◌++◌, length, length-append, refl, sym, ap, ◌∙◌, arith}
use Rattle.std.proofs.lemmas.List.{length-map, map-append}
use Rattle.ordered_multimap.specs.Additions.{IsAppendedAt}
use Rattle.ordered_multimap.specs.Agrees.{HasKey}
use Rattle.ordered_multimap.specs.AppendMany.{GrowsBehind, GrowsForMany, HasRoomForValues, HasValueRoomFor, under_key}
use Rattle.ordered_multimap.specs.Changes.{all_appended, appended}
use Rattle.ordered_multimap.specs.Keys.{stored_key}
use Rattle.ordered_multimap.specs.Lists.{Lists}
use Rattle.ordered_multimap.specs.Multimap.{Multimap}
use Rattle.ordered_multimap.specs.Pairs.{is_present}
use Rattle.ordered_multimap.specs.Private.KeySteps.{KeepsPlaces}
use Rattle.ordered_multimap.specs.Rooms.{GrowsForValue, HasPairRoom, HasValueRoom, KeepsRooms, OnlyGrows, RaisesNoRoom, SameRooms}
use Rattle.ordered_multimap.specs.TapeNumbers.{TakesOut}
use Rattle.ordered_multimap.proofs.Append.Extended.{all_appended-push, length-pairs}
use Rattle.ordered_multimap.proofs.Callers.Growth.{doubles_rooms-then, keeps_rooms-then, takes_none-then}

module _ {K V S : Type 0} where
  pub grows_behind-none : {most : Type 0} (m : Multimap K V S) → GrowsBehind most m m
  grows_behind-none m = record {
    rooms = record { keys = omega arith; values = omega arith; hasher = refl };
    keys = refl;
    doubles = record { keys = λ grown. omega (arith, grown); values = λ grown. omega (arith, grown) };
    taken = record { freed = omega arith; paid = omega arith };
    had_room = λ _. record { keys = refl; values = refl; slots = refl; hasher = refl };
  }

  -- one more value was appended, or refused
  pub grows_behind-then : {most : Type 0} {old now new : Multimap K V S} → (most → HasValueRoom now) → GrowsBehind most old now
      → GrowsForValue now new → TakesOut 0 now.tape new.tape → GrowsBehind most old new
  grows_behind-then room was grows taken = record {
    rooms = keeps_rooms-then was.rooms grows.rooms;
    keys = grows.keys ∙ was.keys;
    doubles = doubles_rooms-then was.rooms grows.rooms was.doubles grows.doubles;
    taken = takes_none-then was.taken taken;
    had_room = λ most.
        let same = was.had_room most in
        record {
          keys = grows.keys ∙ same.keys;
          values = grows.values (room most) ∙ same.values;
          slots = grows.slots (room most) ∙ same.slots;
          hasher = grows.rooms.hasher ∙ same.hasher;
        };
  }

  -- these values were appended under the key at the place
  pub record IsBehind (eq : K → K → Bool) (place : ℕ) (most : Type 0) (old now : Multimap K V S) (given : List V) : Type 0 where
    pub lists : (k : K) → HasKey eq old.slots.keys k place → now.lists ≡ all_appended eq old.lists (under_key k given)
    pub places : KeepsPlaces eq old now
    pub grows : GrowsBehind most old now
    pub counted : length now.lists.pairs ≡ length old.lists.pairs + length given

  module _ {eq : K → K → Bool} {place : ℕ} {most : Type 0} {old : Multimap K V S} where
    pub behind-start : IsBehind eq place most old old []
    behind-start = record {
      lists = λ k has. refl;
      places = λ k p has. has;
      grows = grows_behind-none old;
      counted = omega arith;
    }

    module _ {now : Multimap K V S} {given : List V} (w : IsBehind eq place most old now given) where
      -- where one more fitted from the start, one does now
      pub still_room : HasValueRoomFor old (length given + 1) → HasValueRoom now
      still_room room = omega (arith, room, w.counted, w.grows.rooms.values)

      pub behind-step : {new : Multimap K V S} {v : V} (key : K) → HasKey eq old.slots.keys key place
          → (most → HasValueRoomFor old (length given + 1)) → IsAppendedAt eq place v now new → KeepsPlaces eq now new
          → IsBehind eq place most old new (given ++ v ∷ [])
      behind-step {new} {v} key has room came places = record {
        lists = λ k own.
            came.lists k (w.places k place own)
            ∙ ap (λ m. appended eq m k v) (w.lists k own)
            ∙ sym (all_appended-push eq old.lists (under_key k given) k v)
            ∙ ap (all_appended eq old.lists) (sym (map-append (λ x. (k, x)) given (v ∷ [])));
        places = λ k p own. places k p (w.places k p own);
        grows = grows_behind-then (λ all. still_room (room all)) w.grows came.grows came.taken;
        counted = omega (
          arith,
          w.counted,
          ap (λ m. length m.pairs) (came.lists key (w.places key place has)),
          length-append now.lists.pairs ((stored_key eq now.lists.keys key, v) ∷ []),
          length-append given (v ∷ []),
        );
      }

-- so many values were appended under a key
pub length-many : {K V : Type 0} (eq : K → K → Bool) (m : Lists K V) (key : K) (values : List V)
    → length (all_appended eq m (under_key key values)).pairs ≡ length m.pairs + length values
length-many eq m key values =
    length-pairs eq m (under_key key values) ∙ ap (λ n. length m.pairs + n) (length-map values (λ v. (key, v)))

module _ {K V S : Type 0} {eq : K → K → Bool} {key : K} {old reserved : Multimap K V S} (same : reserved.lists ≡ old.lists) where
  -- where values of the key fit, one fits once room was reserved
  pub fits_one : {n : ℕ} → 1 ≤ n → KeepsRooms old reserved → HasRoomForValues eq key old n → HasPairRoom eq reserved key
  fits_one some rooms room = record {
    value = omega (arith, some, room.values, rooms.values, ap (λ m. length m.pairs) same);
    key = λ absent.
        let lacks : is_present eq old.lists.pairs key ≡ false = sym (ap (λ m. is_present eq m.pairs key) same) ∙ absent in
        omega (arith, room.absent lacks, rooms.keys, ap (λ m. length m.keys) same);
  }

  -- room was reserved, and the first value was appended, or refused
  pub grows_first : {most : Type 0} {new : Multimap K V S} → OnlyGrows old reserved → reserved.key_room ≡ old.key_room → TakesOut 0 old.tape reserved.tape
      → (most → SameRooms old reserved) → (most → HasPairRoom eq reserved key)
      → KeepsRooms reserved new → RaisesNoRoom eq key reserved new → TakesOut 0 reserved.tape new.tape → GrowsForMany eq key most old new
  grows_first {most} {new} grows keys taken had_room fits rooms raises takes = record {
    rooms = keeps_rooms-then grows.rooms rooms;
    doubles = doubles_rooms-then grows.rooms rooms grows.doubles raises.doubles;
    taken = takes_none-then taken takes;
    present = λ there. raises.present (ap (λ m. is_present eq m.pairs key) same ∙ there) ∙ keys;
    key_room = λ room. raises.keys (omega (arith, room, keys, ap (λ m. length m.keys) same)) ∙ keys;
    had_room = λ all.
        let before = had_room all in let room = fits all in
        record {
          keys = key_room room ∙ before.keys;
          values = raises.values room.value ∙ before.values;
          slots = raises.slots room.value ∙ before.slots;
          hasher = rooms.hasher ∙ before.hasher;
        };
  }
    where
      key_room : HasPairRoom eq reserved key → new.key_room ≡ reserved.key_room
      key_room room =
          let P : Bool → Type 0 = λ b. is_present eq reserved.lists.pairs key ≡ b → new.key_room ≡ reserved.key_room in
          elim (is_present eq reserved.lists.pairs key) as P [
            | true ↦ λ there. raises.present there
            | false ↦ λ absent. raises.keys (room.key absent)
          ] refl

-- and then others behind it
pub grows_rest : {K V S : Type 0} {eq : K → K → Bool} {key : K} {most left : Type 0} {old now new : Multimap K V S} → (most → left)
    → GrowsForMany eq key most old now → GrowsBehind left now new → GrowsForMany eq key most old new
grows_rest fits first rest = record {
  rooms = keeps_rooms-then first.rooms rest.rooms;
  doubles = doubles_rooms-then first.rooms rest.rooms first.doubles rest.doubles;
  taken = takes_none-then first.taken rest.taken;
  present = λ there. rest.keys ∙ first.present there;
  key_room = λ room. rest.keys ∙ first.key_room room;
  had_room = λ most.
      let before = first.had_room most in let after = rest.had_room (fits most) in
      record {
        keys = after.keys ∙ before.keys;
        values = after.values ∙ before.values;
        slots = after.slots ∙ before.slots;
        hasher = after.hasher ∙ before.hasher;
      };
}

-- room was reserved, and then values were appended behind the others of a key
pub grows_behind-reserved : {K V S : Type 0} {most left : Type 0} {old reserved new : Multimap K V S} → OnlyGrows old reserved
    → reserved.key_room ≡ old.key_room → TakesOut 0 old.tape reserved.tape → (most → SameRooms old reserved) → (most → left)
    → GrowsBehind left reserved new → GrowsBehind most old new
grows_behind-reserved grows keys taken had_room fits rest = record {
  rooms = keeps_rooms-then grows.rooms rest.rooms;
  keys = rest.keys ∙ keys;
  doubles = doubles_rooms-then grows.rooms rest.rooms grows.doubles rest.doubles;
  taken = takes_none-then taken rest.taken;
  had_room = λ most.
      let before = had_room most in let after = rest.had_room (fits most) in
      record {
        keys = after.keys ∙ before.keys;
        values = after.values ∙ before.values;
        slots = after.slots ∙ before.slots;
        hasher = after.hasher ∙ before.hasher;
      };
}
