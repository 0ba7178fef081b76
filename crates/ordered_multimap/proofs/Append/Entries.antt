-- What a removed pair is, and what one is that an entry put last.
use Rattle.std.proofs.Common.{◌≡◌, ℕ, suc, ◌+◌, Bool, true, false, cond, List, [], ◌∷◌, ◌++◌, filter, length, map, slice_get, Option, Some}
use Rattle.std.proofs.Common.{None, is_some, option_map, refl, sym, ap, ◌∙◌, subst, arith, true≢false}
use Rattle.std.specs.Cmp.{IsEquivalence}
use Rattle.std.specs.List.{enumerate_from}
use Rattle.multimap_slots.specs.Slots.{DoublesIfGrown}
use Rattle.ordered_multimap.specs.Changes.{appended, first_written}
use Rattle.ordered_multimap.specs.Keys.{is_listed, keys_with, stored_key}
use Rattle.ordered_multimap.specs.Lists.{Lists, lists}
use Rattle.ordered_multimap.specs.Multimap.{Multimap}
use Rattle.ordered_multimap.specs.Pairs.{has_items, is_present, values_of, with_first_value, with_value_at}
use Rattle.ordered_multimap.specs.TapeNumbers.{TakesOut}
use Rattle.ordered_multimap.specs.Writes.{IsWritten}
use Rattle.ordered_multimap.specs.Additions.{IsAppended}
use Rattle.ordered_multimap.proofs.Append.Inserted.{values_of-append}
use Rattle.ordered_multimap.proofs.Callers.ListedKeys.{stored_key_absent}

-- a removed pair is the stored key with the first value
pub entry_parts : {K V : Type 0} (key : K) (o : Option V) (r : K × V) → Some r ≡ option_map (λ v. (key, v)) o → (r.0 ≡ key) × (o ≡ Some r.1)
entry_parts key None r e = absurd (true≢false (ap is_some e))
entry_parts {K} {V} key (Some v) r e = let same : r ≡ (key, v) = cc in (ap (λ p. p.0) same, ap Some (sym (ap (λ p. p.1) same)))

-- the last pair with another value
put_last : {K V : Type 0} (pairs : List (K × V)) (j : K) (v w : V)
    → with_value_at (pairs ++ (j, v) ∷ []) (length pairs) w ≡ pairs ++ (j, w) ∷ []
put_last [] j v w = refl
put_last (p ∷ pairs) j v w = ap (λ ps. p ∷ ps) (put_last pairs j v w)

module _ {K V : Type 0} (eq : K → K → Bool) (k j : K) (own : eq k j ≡ true) where
  -- of a key without a value it is the only position
  last_position : (at : ℕ) (pairs : List (K × V)) (v : V) → values_of eq pairs k ≡ []
      → map (λ e. e.0) (filter (λ e. eq k e.1.0) (enumerate_from at (pairs ++ (j, v) ∷ []))) ≡ (at + length pairs) ∷ []
  last_position at [] v none = rw own (ap (λ n. n ∷ []) (omega arith))
  last_position at (p ∷ pairs) v none =
      let rest : List (ℕ × (K × V)) = enumerate_from (at + 1) (pairs ++ (j, v) ∷ []) in
      let later : List V = values_of eq pairs k in
      let P : Bool → Type 0 = λ b. map (λ q. q.1) (cond b (p ∷ filter (λ q. eq k q.0) pairs) (filter (λ q. eq k q.0) pairs)) ≡ []
      → map (λ e. e.0) (cond b ((at, p) ∷ filter (λ e. eq k e.1.0) rest) (filter (λ e. eq k e.1.0) rest)) ≡
      (at + suc (length pairs)) ∷ [] in
      elim (eq k p.0) as P [
        | true ↦ λ e. absurd (true≢false (ap has_items e))
        | false ↦ λ e. last_position (at + 1) pairs v e ∙ ap (λ n. n ∷ []) (omega arith)
      ] none

  last_first : (pairs : List (K × V)) (v w : V) → values_of eq pairs k ≡ []
      → with_first_value eq (pairs ++ (j, v) ∷ []) k w ≡ pairs ++ (j, w) ∷ []
  last_first pairs v w none =
      let all : List (K × V) = pairs ++ (j, v) ∷ [] in
      ap (λ ps. elim (slice_get ps 0) [ None ↦ all | Some i ↦ with_value_at all i w ])
      (last_position 0 pairs v none ∙ ap (λ n. n ∷ []) (omega arith)) ∙ put_last pairs j v w

none_present : {X : Type 0} (xs : List X) → has_items xs ≡ false → xs ≡ []
none_present [] e = refl
none_present (x ∷ xs) e = absurd (true≢false e)

-- the first value of a key that has come is the one that came with it
pub new_first : {K V : Type 0} {eq : K → K → Bool} (laws : IsEquivalence eq) (m new : Lists K V) (k : K) (v w : V)
    → is_listed eq m.keys k ≡ false → is_present eq m.pairs k ≡ false → new ≡ appended eq m k v
    → slice_get (values_of eq new.pairs k) 0 ≡ Some w → w ≡ v
new_first {K} {V} {eq} laws m new k v w unlisted absent came first =
    let j = stored_key eq m.keys k in
    let own : eq k j ≡ true = ap (eq k) (stored_key_absent laws k m.keys unlisted) ∙ laws.refl k in
    let alone : values_of eq ((j, v) ∷ []) k ≡ v ∷ [] = rw own refl in
    let there : Some w ≡ Some v =
    sym first
    ∙ ap (λ n. slice_get (values_of eq n.pairs k) 0) came
    ∙ ap (λ vs. slice_get vs 0) (values_of-append eq k m.pairs ((j, v) ∷ [])
    ∙ ap (λ vs. vs ++ values_of eq ((j, v) ∷ []) k) (none_present (values_of eq m.pairs k) absent) ∙ alone) in
    cc

-- a pair that was put last, and then written
pub written_last : {K V S : Type 0} {eq : K → K → Bool} (laws : IsEquivalence eq) (old new after : Multimap K V S) (k : K) (v w : V)
    → is_listed eq old.lists.keys k ≡ false → is_present eq old.lists.pairs k ≡ false
    → IsAppended eq k v old new → IsWritten new after (first_written eq new.lists k w) → IsAppended eq k w old after
written_last {eq = eq} laws old new after k v w unlisted absent came written =
    let rooms = came.rooms in let raises = came.had_room in
    let j = stored_key eq old.lists.keys k in
    let own : eq k j ≡ true = ap (eq k) (stored_key_absent laws k old.lists.keys unlisted) ∙ laws.refl k in
    record {
      lists =
          written.lists ∙ ap (λ m. first_written eq m k w) came.lists
          ∙ ap (λ ps. lists (keys_with eq old.lists.keys k) ps)
          (last_first eq k j own old.lists.pairs v w (none_present (values_of eq old.lists.pairs k) absent));
      rooms = record {
        keys = omega (arith, rooms.keys, written.rooms.keys);
        values = omega (arith, rooms.values, written.rooms.values);
        hasher = written.rooms.hasher ∙ rooms.hasher;
      };
      had_room = record {
        keys = λ few. written.rooms.keys ∙ raises.keys few;
        present = λ there. written.rooms.keys ∙ raises.present there;
        values = λ few. written.rooms.values ∙ raises.values few;
        slots = λ few. written.rooms.slots ∙ raises.slots few;
        doubles = record {
          keys = subst (DoublesIfGrown old.key_room) (sym written.rooms.keys) raises.doubles.keys;
          values = subst (DoublesIfGrown old.value_room) (sym written.rooms.values) raises.doubles.values;
        };
      };
      taken = subst (λ t. TakesOut 0 old.tape t) (sym written.tape) came.taken;
    }
