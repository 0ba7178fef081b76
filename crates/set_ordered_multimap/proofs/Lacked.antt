-- The pairs that a set lacks of another one, and what is left of that one once it has them.
use Rattle.std.proofs.Common.{◌≡◌, ◌-◌, ◌≤◌, Bool, false, not, cond, List, [], ◌∷◌, filter, length, refl, sym, ap, ◌∙◌, subst, arith}
use Rattle.std.specs.Cmp.{IsEquivalence}
use Rattle.std.specs.List.{AllByRecursion, IsDistinct}
use Rattle.std.specs.Map.{keys_of}
use Rattle.ordered_multimap.proofs.Callers.Places.{filter_shorter}
use Rattle.ordered_multimap.specs.AppendMap.{HasRoomForMap, IsCleared}
use Rattle.ordered_multimap.specs.Changes.{all_appended, kept}
use Rattle.ordered_multimap.specs.Keys.{is_listed}
use Rattle.ordered_multimap.specs.Lists.{Lists}
use Rattle.ordered_multimap.specs.Multimap.{Multimap}
use Rattle.ordered_multimap.specs.Rooms.{SameRooms}
use Rattle.ordered_multimap.specs.TapeNumbers.{TakesOut}
use Rattle.set_ordered_multimap.proofs.Callers.FirstPairs.{all_inserted-first_pairs}
use Rattle.set_ordered_multimap.proofs.Callers.Sets.{IsSet-empty}
use Rattle.set_ordered_multimap.specs.AppendSet.{lacked}
use Rattle.set_ordered_multimap.specs.Set.{IsSet, same_pair, all_inserted, first_pairs, has_pair}
use Rattle.set_ordered_multimap.specs.SetChanges.{IsClearedSet}

-- items that a test passes over stay where what it picks goes
filter_apart : {X : Type 0} (test : X → Bool) (xs : List X) → AllByRecursion (λ x. test x ≡ false) xs
    → filter (λ x. not (test x)) xs ≡ xs
filter_apart test [] apart = refl
filter_apart test (x ∷ xs) apart =
    let rest = filter (λ y. not (test y)) xs in
    ap (λ b. cond (not b) (x ∷ rest) rest) apart.0 ∙ ap (λ ys. x ∷ ys) (filter_apart test xs apart.1)

module _ {K V : Type 0} (eq : K → K → Bool) (value_eq : V → V → Bool) where
  -- pairs that differ are each the first one
  first_pairs-distinct : (pairs : List (K × V)) → IsDistinct (same_pair eq value_eq) pairs → first_pairs eq value_eq pairs ≡ pairs
  unfolding IsDistinct
  first_pairs-distinct [] distinct = refl
  first_pairs-distinct (p ∷ pairs) distinct =
      ap (λ ps. p ∷ filter (λ q. not (same_pair eq value_eq p q)) ps) (first_pairs-distinct pairs distinct.1)
      ∙ ap (λ ps. p ∷ ps) (filter_apart (same_pair eq value_eq p) pairs distinct.0)

  -- so appending those that are lacked is inserting all
  pub inserts-lacked : IsEquivalence eq → IsEquivalence value_eq → (m : Lists K V) (pairs : List (K × V))
      → IsDistinct (same_pair eq value_eq) pairs → all_appended eq m (lacked eq value_eq m pairs) ≡ all_inserted eq value_eq m pairs
  inserts-lacked keys values m pairs distinct =
      ap (λ ps. all_appended eq m (lacked eq value_eq m ps)) (sym (first_pairs-distinct pairs distinct))
      ∙ sym (all_inserted-first_pairs keys values m pairs)

  module _ {S T : Type 0} where
    -- where all have room, those that are lacked do
    pub room_for_lacked : (m : Multimap K V S) (other left : Multimap K V T) → HasRoomForMap m other
        → left.lists ≡ kept eq other.lists (lacked eq value_eq m.lists other.lists.pairs) → HasRoomForMap m left
    room_for_lacked m other left room is =
        let pairs = lacked eq value_eq m.lists other.lists.pairs in
        record {
          keys = omega (
            arith,
            room.keys,
            filter_shorter (is_listed eq (keys_of pairs)) other.lists.keys,
            ap (λ (l : Lists K V). length l.keys) is,
          );
          values = omega (
            arith,
            room.values,
            filter_shorter (λ p. not (has_pair eq value_eq m.lists.pairs p.0 p.1)) other.lists.pairs,
            ap (λ (l : Lists K V). length l.pairs) is,
          );
        }

  -- some pairs have left, and then all the others
  pub cleared-then : {S : Type 0} {old left new : Multimap K V S} → SameRooms old left
      → TakesOut (length old.lists.pairs - length left.lists.pairs) old.tape left.tape
      → length left.lists.pairs ≤ length old.lists.pairs → IsCleared left new → IsClearedSet eq value_eq old new
  cleared-then rooms taken fewer cleared = record {
    lists = cleared.lists;
    set = subst (IsSet eq value_eq) (sym cleared.lists) (IsSet-empty eq value_eq);
    rooms = record {
      keys = cleared.rooms.keys ∙ rooms.keys;
      values = cleared.rooms.values ∙ rooms.values;
      slots = cleared.rooms.slots ∙ rooms.slots;
      hasher = cleared.rooms.hasher ∙ rooms.hasher;
    };
    taken = record {
      freed = omega (arith, taken.freed, fewer, cleared.taken.freed);
      paid = omega (arith, taken.paid, fewer, cleared.taken.paid);
    };
    holes = cleared.holes;
  }
