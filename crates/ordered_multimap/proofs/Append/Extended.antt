-- Pairs that are appended in turn.
use Rattle.std.proofs.Common.{◌≡◌, ◌≤◌, ◌+◌, Bool, List, [], ◌∷◌, ◌++◌, length, length-append, map, Ok, Err, refl, ap, ◌∙◌, subst, arith}
use Rattle.std.specs.Iterator.{Count, Yields}
use Rattle.std.proofs.lemmas.List.{map-id}
use Rattle.std.specs.Prelude.{IsOk, Option, Result}
use Rattle.ordered_multimap.specs.Lists.{Lists}
use Rattle.ordered_multimap.specs.Changes.{appended, all_appended}
use Rattle.ordered_multimap.specs.Extends.{AppendsAll, Extends, ExtendsInRoom, GrowsForAll, GrowsForPairs, StoppedForRoom}
use Rattle.ordered_multimap.specs.Private.Extends.{AppendsPairsOf}
use Rattle.ordered_multimap.specs.declared.list_ordered_multimap.refused.Refused.{Refused}
use Rattle.ordered_multimap.specs.Keys.{stored_key}
use Rattle.ordered_multimap.specs.Multimap.{Multimap}
use Rattle.ordered_multimap.specs.Rooms.{HasRoomForPairs, KeepsRooms, RaisesNoRoom}
use Rattle.ordered_multimap.specs.TapeNumbers.{TakesOut}
use Rattle.ordered_multimap.proofs.Callers.Growth.{grows_for_one}
use Rattle.ordered_multimap.proofs.Callers.ListedKeys.{length-keys_with}

pub all_appended-push : {K V : Type 0} (eq : K → K → Bool) (m : Lists K V) (pairs : List (K × V)) (k : K) (v : V)
    → all_appended eq m (pairs ++ (k, v) ∷ []) ≡ appended eq (all_appended eq m pairs) k v
all_appended-push eq m [] k v = refl
all_appended-push eq m (p ∷ pairs) k v = all_appended-push eq (appended eq m p.0 p.1) pairs k v

-- each pair that is appended adds a pair, and a key at most
module _ {K V : Type 0} (eq : K → K → Bool) where
  length-keys : (m : Lists K V) (pairs : List (K × V)) → length (all_appended eq m pairs).keys ≤ length m.keys + length pairs
  length-keys m [] = omega arith
  length-keys m (p ∷ pairs) = omega (arith, length-keys (appended eq m p.0 p.1) pairs, length-keys_with eq m.keys p.0)

  pub length-pairs : (m : Lists K V) (pairs : List (K × V)) → length (all_appended eq m pairs).pairs ≡ length m.pairs + length pairs
  length-pairs m [] = omega arith
  length-pairs m (p ∷ pairs) = omega (
    arith,
    length-pairs (appended eq m p.0 p.1) pairs,
    length-append m.pairs
        ((stored_key eq m.keys p.0, p.1) ∷ []),
  )

-- a map that had room for one more pair than were appended has room for it now
pub room_left : {K V S : Type 0} (eq : K → K → Bool) {old now : Multimap K V S} (pairs : List (K × V))
    → HasRoomForPairs old (length pairs + 1) → now.lists ≡ all_appended eq old.lists pairs → KeepsRooms old now → HasRoomForPairs now 1
room_left eq {old} pairs room lists rooms = record {
  keys = omega (arith, ap (λ m. length m.keys) lists, length-keys eq old.lists pairs, room.keys, rooms.keys);
  values = omega (arith, ap (λ m. length m.pairs) lists, length-pairs eq old.lists pairs, room.values, rooms.values);
}

-- one more pair was appended, or refused
pub grows_on : {K V S : Type 0} (eq : K → K → Bool) {old now new : Multimap K V S} {given most : Type 0} (pairs : List (K × V)) {k : K}
    → (given → HasRoomForPairs old (length pairs + 1)) → (most → HasRoomForPairs old (length pairs + 1))
    → now.lists ≡ all_appended eq old.lists pairs → GrowsForPairs given most old now
    → KeepsRooms now new → RaisesNoRoom eq k now new → TakesOut 0 now.tape new.tape → GrowsForPairs given most old new
grows_on eq pairs for_given for_most lists grows =
    grows_for_one eq (λ given. room_left eq pairs (for_given given) lists grows.rooms)
    (λ most. room_left eq pairs (for_most most) lists grows.rooms) grows

-- pairs were appended, and the map has grown for them alone
pub appends_all : {K V S : Type 0} {eq : K → K → Bool} {old new : Multimap K V S} {given most : Type 0} {pairs : List (K × V)}
    → new.lists ≡ all_appended eq old.lists pairs → GrowsForPairs given most old new → AppendsAll eq old pairs new
appends_all lists grows = record { lists = lists; rooms = grows.rooms; doubles = grows.doubles; taken = grows.taken }

-- how a map has grown is said the same of another result that is no refusal where the first is none
pub grows_for_all-with : {K V S I T X Y Z E F : Type 0} {becomes : I → T → Type 0} {steps : T → Option X → T → Type 0} {left : T → Count}
    {iter : I} {old new : Multimap K V S} {r : Result Y E} {s : Result Z F} → (IsOk r → IsOk s)
    → GrowsForAll becomes steps left iter old new r → GrowsForAll becomes steps left iter old new s
grows_for_all-with ok g = record {
  grows = g.grows;
  succeeds = λ room. ok (g.succeeds room);
  succeeds_for_most = λ room. ok (g.succeeds_for_most room);
}

-- what came before the last item came
pub Yields-before : {S A : Type 0} (steps : S → Option A → S → Type 0) (s : S) (xs : List A) (x : A) (t : S)
    → Yields steps s (xs ++ x ∷ []) t → (u : S) × Yields steps s xs u
Yields-before steps s [] x t given = (s, refl)
Yields-before steps s (y ∷ ys) x t given = let rest = Yields-before steps given.0 ys x t given.2 in (rest.0, (given.0, given.1, rest.1))

-- items that are their own pairs were appended: so these pairs were
pub extends_in_room-own : {K V S I T E : Type 0} (eq : K → K → Bool) {becomes : I → T → Type 0} {steps : T → Option (K × V) → T → Type 0}
    {left : T → Count} {iter : I} {old new : Multimap K V S} {r : Result (Unit {0}) E}
    → ExtendsInRoom becomes steps left (λ m items n. AppendsAll eq m (map (λ pair. pair) items) n) iter old new r
    → ExtendsInRoom becomes steps left (AppendsAll eq) iter old new r
extends_in_room-own eq {old = old} {new = new} e =
    let ran = e.ran in
    record {
      ran = (ran.0, ran.1, ran.2, subst (λ pairs. AppendsAll eq old pairs new) (map-id ran.1) ran.3, ran.4);
      grows = e.grows;
    }

module _ {K V I T : Type 0} (eq : K → K → Bool) (becomes : I → T → Type 0) (steps : T → Option (K × V) → T → Type 0) where
  pub extends-own : {iter : I} {old new : Lists K V} (r : Result (Unit {0}) (Refused K V))
      → AppendsPairsOf (λ pair. pair) eq becomes steps iter old new r → Extends eq becomes steps iter old new r
  extends-own {old} (Ok u) all = (all.0, all.1, all.2, all.3 ∙ ap (all_appended eq old) (map-id all.1), all.4)
  extends-own {old} (Err refused) all = (
    all.0,
    all.1,
    all.2,
    all.3 ∙ ap (all_appended eq old) (map-id all.1),
    (all.4.1, subst (λ pair. Yields steps all.0 (all.1 ++ pair ∷ []) all.4.1) all.4.3 all.4.2),
  )

  -- where it stopped at a pair, it stopped at an item that is its own pair
  pub stopped-own : {S E : Type 0} (iter : I) (old new : Multimap K V S) (r : Result (Unit {0}) E)
      → StoppedForRoom eq (AppendsPairsOf (λ pair. pair) eq becomes steps iter) old new r
      → StoppedForRoom eq (Extends eq becomes steps iter) old new r
  stopped-own iter old new (Ok u) stopped = tt
  stopped-own iter old new (Err e) stopped = (stopped.0, extends-own (Err stopped.0) stopped.1, stopped.2)
