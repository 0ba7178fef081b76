-- The laws of the definitions.
use Rattle.std.proofs.Common.{◌≡◌, ◌-◌, Bool, true, false, not, cond, ◌||◌, List, [], ◌∷◌, ◌++◌, filter, length, take, slice_get, Some}
use Rattle.std.proofs.Common.{refl, sym, ap, ap₂, ◌∙◌, subst, inl, inr, arith}
use Rattle.std.proofs.lemmas.List.{append-nil, append_assoc, length-append, take_at}
use Rattle.std.proofs.lemmas.List.Elements.{filter-append}
use Rattle.std.specs.List.{IsDistinct}
use Rattle.std.specs.Map.{keys_of}
use Rattle.std.specs.Cmp.{IsEquivalence}
use Rattle.multimap_walks.specs.declared.End.TheVariants.{Back}
use Rattle.multimap_walks.specs.Walk.{end_item, end_rest}
use Rattle.multimap_slots.specs.Lists.{IsIn}
use Rattle.ordered_multimap.specs.Lists.{Lists, lists, IsWellFormed}
use Rattle.ordered_multimap.specs.Pairs.{has_items, is_present}
use Rattle.ordered_multimap.specs.Keys.{is_listed, stored_key, keys_with, keys_named_by}
use Rattle.ordered_multimap.specs.Changes.{appended, all_appended, first_occurrences, under_listed}
use Rattle.ordered_multimap.specs.Laws.{PopUndoesAppend, IsRebuilt, IsRebuiltOfBoth}
use Rattle.multimap_slots.proofs.Callers.PlaceLists.{IsIn-kept, IsIn-left, IsIn-right}
use Rattle.ordered_multimap.proofs.Callers.Members.{filter-all, keys_of-append}
use Rattle.ordered_multimap.proofs.Callers.ListedKeys.{is_listed-self, stored_key_member, stored_key_absent, stored_key_only}
use Rattle.ordered_multimap.proofs.Callers.WellFormed.{same_keys, is_present-keys}

module _ {X : Type 0} where
  pub has_items-push : (xs : List X) (x : X) → has_items (xs ++ x ∷ []) ≡ true
  has_items-push [] x = refl
  has_items-push (y ∷ xs) x = refl

  slice_get-push : (xs : List X) (x : X) → slice_get (xs ++ x ∷ []) (length xs) ≡ Some x
  slice_get-push [] x = refl
  slice_get-push (y ∷ xs) x = slice_get-push xs x

  length-push : (xs : List X) (x : X) → length (xs ++ x ∷ []) - 1 ≡ length xs
  length-push xs x = omega (arith, length-append xs (x ∷ []))

  -- the last item, and the list without it
  pub end_item-push : (xs : List X) (x : X) → end_item Back (xs ++ x ∷ []) ≡ Some x
  end_item-push xs x = ap (slice_get (xs ++ x ∷ [])) (length-push xs x) ∙ slice_get-push xs x

  pub end_rest-push : (xs : List X) (x : X) → end_rest Back (xs ++ x ∷ []) ≡ xs
  end_rest-push xs x = ap (λ n. take n (xs ++ x ∷ [])) (length-push xs x) ∙ take_at xs (x ∷ []) (length xs) refl

module _ {K V : Type 0} {eq : K → K → Bool} (laws : IsEquivalence eq) where
  -- the keys that the old pairs name, once a key came
  keys_named_by-keys_with : (m : Lists K V) (k : K) → IsWellFormed eq m → keys_named_by eq (keys_with eq m.keys k) m.pairs ≡ m.keys
  keys_named_by-keys_with m k formed =
      let named : K → Bool = is_listed eq (keys_of m.pairs) in
      let old : filter named m.keys ≡ m.keys = filter-all named m.keys
      (λ j member. is_listed-self laws j (keys_of m.pairs) (formed.used j member)) in
      let P : Bool → Type 0 = λ b. is_listed eq m.keys k ≡ b → filter named (cond b m.keys (m.keys ++ k ∷ [])) ≡ m.keys in
      elim (is_listed eq m.keys k) as P [
        | true ↦ λ _. old
        | false ↦ λ e. filter-append named m.keys (k ∷ [])
            ∙ ap (λ keys. filter named m.keys ++ keys) (ap (λ b. cond b (k ∷ []) []) (same_keys laws m k formed ∙ e))
            ∙ append-nil (filter named m.keys) ∙ old
      ] refl

  -- the stored key is still named exactly if the key was present
  is_listed-stored_key : (m : Lists K V) (k : K) → IsWellFormed eq m
      → is_listed eq (keys_of m.pairs) (stored_key eq m.keys k) ≡ is_present eq m.pairs k
  is_listed-stored_key m k formed =
      let P : Bool → Type 0 = λ b. is_listed eq m.keys k ≡ b → is_listed eq (keys_of m.pairs) (stored_key eq m.keys k) ≡ b in
      elim (is_listed eq m.keys k) as P [
        | true ↦ λ e. is_listed-self laws _ (keys_of m.pairs) (formed.used _ (stored_key_member laws k m.keys e).0)
        | false ↦ λ e. ap (is_listed eq (keys_of m.pairs)) (stored_key_absent laws k m.keys e) ∙ same_keys laws m k formed ∙ e
      ] refl ∙ sym (is_present-keys laws m k formed)

  pub pop_undoes_append : (m : Lists K V) (k : K) (v : V) → IsWellFormed eq m → PopUndoesAppend eq m k v
  pop_undoes_append m k v formed =
      let last : K × V = (stored_key eq m.keys k, v) in
      record {
        lists_again = rw (has_items-push m.pairs last, end_rest-push m.pairs last)
            (ap (λ keys. lists keys m.pairs) (keys_named_by-keys_with m k formed));
        answer = rw (end_item-push m.pairs last, end_rest-push m.pairs last, is_listed-stored_key m k formed) refl;
      }

-- first occurrences as one more pair comes
module _ {K : Type 0} {eq : K → K → Bool} (laws : IsEquivalence eq) where
  pub is_listed-others : (j k : K) (keys : List K) → eq k j ≡ false → is_listed eq (filter (λ i. not (eq j i)) keys) k ≡ is_listed eq keys k
  is_listed-others j k [] e = refl
  is_listed-others j k (i ∷ keys) e =
      let P : Bool → Type 0 = λ b. eq j i ≡ b
      → is_listed eq (cond (not b) (i ∷ filter (λ i. not (eq j i)) keys) (filter (λ i. not (eq j i)) keys)) k ≡
      (eq k i || is_listed eq keys k) in
      elim (eq j i) as P [
        | true ↦ λ y. let apart : eq k i ≡ false = laws.symm k i ∙ sym (laws.congr j i k y) ∙ laws.symm j k ∙ e in
            rw apart (is_listed-others j k keys e)
        | false ↦ λ y. ap (λ b. eq k i || b) (is_listed-others j k keys e)
      ] refl

module _ {K V : Type 0} {eq : K → K → Bool} (laws : IsEquivalence eq) where
  pub first_occurrences-push : (pairs : List (K × V)) (k : K) (v : V)
      → first_occurrences eq (pairs ++ (k, v) ∷ []) ≡ keys_with eq (first_occurrences eq pairs) k
  first_occurrences-push [] k v = refl
  first_occurrences-push (q ∷ pairs) k v =
      let apart : K → Bool = λ i. not (eq q.0 i) in
      let keys : List K = first_occurrences eq pairs in
      let P : Bool → Type 0 = λ b. eq k q.0 ≡ b
      → (q.0 ∷ filter apart (keys_with eq keys k)) ≡ cond (b || is_listed eq (filter apart keys) k) (q.0 ∷ filter apart keys)
      ((q.0 ∷ filter apart keys) ++ k ∷ []) in
      let Q : Bool → Type 0 = λ b. is_listed eq keys k ≡ b
      → (q.0 ∷ filter apart (cond b keys (keys ++ k ∷ []))) ≡ cond b (q.0 ∷ filter apart keys) (q.0 ∷ (filter apart keys ++ k ∷ [])) in
      ap (λ js. q.0 ∷ filter apart js) (first_occurrences-push pairs k v) ∙ elim (eq k q.0) as P [
        | true ↦ λ y.
            let back : eq q.0 k ≡ true = laws.symm q.0 k ∙ y in
            elim (is_listed eq keys k) as (λ b. (q.0 ∷ filter apart (cond b keys (keys ++ k ∷ []))) ≡ q.0 ∷ filter apart keys) [
              | true ↦ refl
              | false ↦ ap (λ js. q.0 ∷ js) (filter-append apart keys (k ∷ [])
                  ∙ ap (λ b. filter apart keys ++ cond (not b) (k ∷ []) []) back ∙ append-nil (filter apart keys))
            ]
        | false ↦ λ n. rw (is_listed-others laws q.0 k keys n) (elim (is_listed eq keys k) as Q [
          | true ↦ λ _. refl
          | false ↦ λ _. ap (λ js. q.0 ∷ js) (filter-append apart keys (k ∷ [])
              ∙ ap (λ b. filter apart keys ++ cond (not b) (k ∷ []) []) (laws.symm q.0 k ∙ n))
        ] refl)
      ] refl

  first_occurrences-members : (j : K) (pairs : List (K × V)) → IsIn j (first_occurrences eq pairs) → IsIn j (keys_of pairs)
  first_occurrences-members j [] member = member
  first_occurrences-members j (q ∷ pairs) member =
      elim member [
        | inl here ↦ inl here
        | inr later ↦ inr (first_occurrences-members j pairs (IsIn-kept (λ i. not (eq q.0 i)) j (first_occurrences eq pairs) later).0)
      ]

  -- the pairs name no two keys that are equal and not the same
  pub record IsExact (pairs : List (K × V)) : Type 0 where
    pub same : (i j : K) → IsIn i (keys_of pairs) → IsIn j (keys_of pairs) → eq i j ≡ true → i ≡ j

  -- then appending them gives the pairs as they are
  built_on : (done pairs : List (K × V)) → IsExact (done ++ pairs)
      → all_appended eq (lists (first_occurrences eq done) done) pairs ≡ lists (first_occurrences eq (done ++ pairs)) (done ++ pairs)
  built_on done [] exact = ap (λ all. lists (first_occurrences eq all) all) (sym (append-nil done))
  built_on done (p ∷ pairs) exact =
      let keys : List K = first_occurrences eq done in
      let whole : (done ++ p ∷ []) ++ pairs ≡ done ++ p ∷ pairs = append_assoc done (p ∷ []) pairs in
      let P : Bool → Type 0 = λ b. is_listed eq keys p.0 ≡ b → stored_key eq keys p.0 ≡ p.0 in
      let own : stored_key eq keys p.0 ≡ p.0 = elim (is_listed eq keys p.0) as P [
        | true ↦ λ e.
            let s = stored_key_member laws p.0 keys e in
            let named = λ (j : K). subst (IsIn j) (sym (keys_of-append done (p ∷ pairs))) in
            sym (exact.same p.0 _ (named p.0 (IsIn-right p.0 (keys_of done) _ (inl refl)))
            (named (stored_key eq keys p.0) (IsIn-left _ (keys_of done) _ (first_occurrences-members _ done s.0))) s.1)
        | false ↦ λ e. stored_key_absent laws p.0 keys e
      ] refl in
      let step : appended eq (lists keys done) p.0 p.1 ≡ lists (first_occurrences eq (done ++ p ∷ [])) (done ++ p ∷ []) =
      ap (λ new. lists new (done ++ (stored_key eq keys p.0, p.1) ∷ [])) (sym (first_occurrences-push done p.0 p.1))
      ∙ ap (λ key. lists (first_occurrences eq (done ++ p ∷ [])) (done ++ (key, p.1) ∷ [])) own in
      ap (λ m. all_appended eq m pairs) step ∙ built_on (done ++ p ∷ []) pairs (subst IsExact (sym whole) exact)
      ∙ ap (λ all. lists (first_occurrences eq all) all) whole

  -- pairs of listed keys are under their own keys
  pub under_own : (keys : List K) (pairs : List (K × V)) → IsDistinct eq keys → ((k : K) → IsIn k (keys_of pairs) → IsIn k keys)
      → under_listed eq keys pairs ≡ pairs
  under_own keys [] distinct each = refl
  under_own keys (p ∷ pairs) distinct each =
      ap₂ (λ k ps. (k, p.1) ∷ ps) (stored_key_only laws p.0 p.0 keys distinct (each p.0 (inl refl)) (laws.refl p.0))
      (under_own keys pairs distinct (λ k later. each k (inr later)))

  pub rebuilt_of_both : (m : Lists K V) → IsWellFormed eq m → IsRebuiltOfBoth eq m
  rebuilt_of_both m formed = ap (lists m.keys) (under_own m.keys m.pairs formed.distinct formed.listed)

  pub rebuilt : (m : Lists K V) → IsWellFormed eq m → IsRebuilt eq m
  rebuilt m formed = built_on [] m.pairs (record {
    same = λ i j left right e. sym (stored_key_only laws i i m.keys formed.distinct (formed.listed i left) (laws.refl i))
        ∙ stored_key_only laws i j m.keys formed.distinct (formed.listed j right) e;
  })
