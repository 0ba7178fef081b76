-- Insertions in turn: their lists, how much longer these become, and how the rooms grow.
use Rattle.std.proofs.Common.{◌≡◌, ◌+◌, ◌≤◌, Bool, true, false, cond, List, [], ◌∷◌, ◌++◌, length, length-append, refl, sym, ap, ◌∙◌, subst}
use Rattle.std.proofs.Common.{arith}
use Rattle.std.proofs.Common.{Option, Result, Ok, Err}
use Rattle.std.proofs.lemmas.List.{map-id}
use Rattle.std.specs.Cmp.{IsEquivalence}
use Rattle.std.specs.Iterator.{Yields}
use Rattle.ordered_multimap.specs.Additions.{Appends, IsAppended, IsRefused}
use Rattle.ordered_multimap.specs.Changes.{appended}
use Rattle.ordered_multimap.specs.Extends.{GrowsForPairs}
use Rattle.ordered_multimap.specs.Keys.{stored_key}
use Rattle.ordered_multimap.specs.Lists.{Lists}
use Rattle.ordered_multimap.specs.Multimap.{Multimap}
use Rattle.ordered_multimap.specs.Rooms.{HasRoomForPairs, KeepsRooms}
use Rattle.ordered_multimap.proofs.Callers.Growth.{grows_for_one}
use Rattle.ordered_multimap.proofs.Callers.ListedKeys.{length-keys_with}
use Rattle.ordered_multimap.specs.declared.list_ordered_multimap.refused.Refused.{Refused}
use Rattle.set_ordered_multimap.proofs.Callers.Sets.{IsSet-appended}
use Rattle.set_ordered_multimap.specs.Insertions.{HasRoomToInsert, InsertsAll, InsertsPairs}
use Rattle.set_ordered_multimap.specs.Private.Insertions.{InsertsPairsOf}
use Rattle.set_ordered_multimap.specs.Set.{IsSet, has_pair, set_inserted, all_inserted}

module _ {K V : Type 0} (eq : K → K → Bool) (value_eq : V → V → Bool) where
  -- neither list is longer than before by more than one
  one_more : (m : Lists K V) (k : K) (v : V) → (length (set_inserted eq value_eq m k v).keys ≤ length m.keys + 1)
      × (length (set_inserted eq value_eq m k v).pairs ≤ length m.pairs + 1)
  one_more m k v = elim (has_pair eq value_eq m.pairs k v) as (λ b. let n : Lists K V = cond b m (appended eq m k v) in
      (length n.keys ≤ length m.keys + 1) × (length n.pairs ≤ length m.pairs + 1)) [
        | true ↦ (omega arith, omega arith)
        | false ↦ (length-keys_with eq m.keys k, omega (arith, length-append m.pairs ((stored_key eq m.keys k, v) ∷ [])))
      ]

  -- nor by more than there are pairs
  pub lengths-inserted : (m : Lists K V) (pairs : List (K × V))
      → (length (all_inserted eq value_eq m pairs).keys ≤ length m.keys + length pairs)
      × (length (all_inserted eq value_eq m pairs).pairs ≤ length m.pairs + length pairs)
  lengths-inserted m [] = (omega arith, omega arith)
  lengths-inserted m (p ∷ pairs) =
      let first = one_more m p.0 p.1 in
      let rest = lengths-inserted (set_inserted eq value_eq m p.0 p.1) pairs in
      (omega (arith, first.0, rest.0), omega (arith, first.1, rest.1))

  module _ {S : Type 0} where
    -- so where there was room for so many pairs and one more, there is room for one
    pub room_left : {m n : Multimap K V S} (pairs : List (K × V)) → HasRoomForPairs m (length pairs + 1)
        → n.lists ≡ all_inserted eq value_eq m.lists pairs → KeepsRooms m n → HasRoomForPairs n 1
    room_left {m} pairs room is rooms =
        let long = lengths-inserted m.lists pairs in
        record {
          keys = omega (arith, room.keys, rooms.keys, long.0, ap (λ (l : Lists K V). length l.keys) is);
          values = omega (arith, room.values, rooms.values, long.1, ap (λ (l : Lists K V). length l.pairs) is);
        }

    -- where a pair was refused that there was no room to insert, there is none afterwards
    pub no_room_to_insert : {m n : Multimap K V S} {pair : Refused K V} (k : K) (v : V) → IsRefused eq k v m n pair
        → ¬ HasRoomToInsert eq value_eq m k v → ¬ HasRoomToInsert eq value_eq n pair.key pair.value
    no_room_to_insert {m} {n} k v refused none room =
        let here : HasRoomToInsert eq value_eq n k v =
        subst (λ (p : Refused K V). HasRoomToInsert eq value_eq n p.key p.value) refused.returned room in
        none (λ absent. absurd (refused.full
        (here (ap (λ (l : Lists K V). has_pair eq value_eq l.pairs k v) refused.lists ∙ absent))))

    -- an insertion grows for the pair alone, whether it was there or not
    pub grows-inserted : {given : Type 0} (old m n : Multimap K V S) (k : K) (v : V) → (given → HasRoomForPairs m 1)
        → (has_pair eq value_eq m.lists.pairs k v ≡ true → n ≡ m)
        → (has_pair eq value_eq m.lists.pairs k v ≡ false → IsAppended eq k v m n)
        → GrowsForPairs given given old m → GrowsForPairs given given old n
    grows-inserted {given} old m n k v room same more grows = elim (has_pair eq value_eq m.lists.pairs k v) as
        (λ b. has_pair eq value_eq m.lists.pairs k v ≡ b → GrowsForPairs given given old n) [
          | true ↦ λ there. subst (GrowsForPairs given given old) (sym (same there)) grows
          | false ↦ λ absent. let a = more absent in grows_for_one eq room room grows a.rooms a.had_room a.taken
        ] refl

-- lists to which a new pair was appended, or was refused, are a set again
pub IsSet-appends : {K V S X : Type 0} {eq : K → K → Bool} {value_eq : V → V → Bool} → IsEquivalence eq → IsEquivalence value_eq
    → (m n : Multimap K V S) (k : K) (v : V) (r : Result X (Refused K V)) → Appends eq k v m n r
    → has_pair eq value_eq m.lists.pairs k v ≡ false → IsSet eq value_eq m.lists → IsSet eq value_eq n.lists
IsSet-appends {eq = eq} {value_eq = value_eq} keys values m n k v (Ok x) a absent set =
    subst (IsSet eq value_eq) (sym a.ok.lists) (IsSet-appended keys values m.lists k v absent set)
IsSet-appends {eq = eq} {value_eq = value_eq} keys values m n k v (Err e) a absent set = subst (IsSet eq value_eq) (sym a.refused.lists) set

-- pairs that were inserted in turn, and how the rooms have grown for them
pub inserts_pairs : {K V S : Type 0} {eq : K → K → Bool} {value_eq : V → V → Bool} {old new : Multimap K V S} {given most : Type 0}
    {pairs : List (K × V)} → new.lists ≡ all_inserted eq value_eq old.lists pairs
    → (IsSet eq value_eq old.lists → IsSet eq value_eq new.lists) → GrowsForPairs given most old new
    → InsertsPairs eq value_eq old pairs new
inserts_pairs lists set grows = record { lists = lists; set = set; rooms = grows.rooms; doubles = grows.doubles; taken = grows.taken }

module _ {K V I T : Type 0} (eq : K → K → Bool) (value_eq : V → V → Bool) (becomes : I → T → Type 0)
    (steps : T → Option (K × V) → T → Type 0) where
  -- items that are their own pairs were inserted: so these pairs were
  pub inserts-own : {iter : I} {old new : Lists K V} (r : Result (Unit {0}) (Refused K V))
      → InsertsPairsOf (λ pair. pair) eq value_eq becomes steps iter old new r → InsertsAll eq value_eq becomes steps iter old new r
  inserts-own {old} (Ok u) all = (all.0, all.1, all.2, all.3 ∙ ap (all_inserted eq value_eq old) (map-id all.1), all.4)
  inserts-own {old} (Err refused) all = (
    all.0,
    all.1,
    all.2,
    all.3 ∙ ap (all_inserted eq value_eq old) (map-id all.1),
    (all.4.1, subst (λ pair. Yields steps all.0 (all.1 ++ pair ∷ []) all.4.1) all.4.3 all.4.2),
  )
