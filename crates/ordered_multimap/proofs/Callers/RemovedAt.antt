-- What a removal of one of several values leaves: nothing changes of an absent key, lists stay well formed, and pairs are no more than
-- before.
use Rattle.std.proofs.Common.{◌≡◌, ◌⊎◌, ◌+◌, ◌<◌, ◌≤◌, ℕ, zero, suc, Bool, true, false, cond, List, [], ◌∷◌, length, filter, map, slice_get}
use Rattle.std.proofs.Common.{Option, Some, None, refl, sym, ap, ◌∙◌, subst, inl, inr, arith, true≢false}
use Rattle.std.specs.Cmp.{IsEquivalence}
use Rattle.std.specs.List.{enumerate_from, remove}
use Rattle.std.specs.Map.{keys_of}
use Rattle.multimap_slots.specs.Lists.{IsIn}
use Rattle.ordered_multimap.specs.Keys.{stored_key}
use Rattle.ordered_multimap.specs.Lists.{Lists, lists, IsWellFormed}
use Rattle.ordered_multimap.specs.Pairs.{has_items, is_present, positions_of, values_of}
use Rattle.ordered_multimap.specs.RemovedAt.{several, removable_value_at, position_beside, pairs_besides, removed_at}
use Rattle.ordered_multimap.proofs.Callers.ListedKeys.{stored_key_only}
use Rattle.ordered_multimap.proofs.Agreement.LookUps.{length-positions_of}

-- one item fewer, or none
remove_few : {X : Type 0} (xs : List X) (i : ℕ) → length (remove xs i) ≤ length xs
remove_few [] zero = omega arith
remove_few [] (suc i) = omega arith
remove_few (x ∷ xs) zero = omega arith
remove_few (x ∷ xs) (suc i) = omega (arith, remove_few xs i)

remove_member : {X : Type 0} (x : X) (xs : List X) (i : ℕ) → IsIn x (remove xs i) → IsIn x xs
remove_member x [] zero member = member
remove_member x [] (suc i) member = member
remove_member x (y ∷ xs) zero member = inr member
remove_member x (y ∷ xs) (suc i) member = elim member [ inl here ↦ inl here | inr later ↦ inr (remove_member x xs i later) ]

empty : {X : Type 0} (xs : List X) → length xs ≡ 0 → xs ≡ []
empty [] none = refl
empty (x ∷ xs) none = absurd (omega (arith, none))

no_items : {X : Type 0} (xs : List X) → has_items xs ≡ false → length xs ≡ 0
no_items [] none = refl
no_items (x ∷ xs) none = absurd (true≢false none)

-- of fewer than two items none is one of several
two_items : {X : Type 0} (xs : List X) (i : ℕ) (x : X) → slice_get (several xs) i ≡ Some x → (1 < length xs) × (slice_get xs i ≡ Some x)
two_items [] i x e = absurd (cc)
two_items (y ∷ []) i x e = absurd (cc)
two_items (y ∷ z ∷ xs) i x e = (omega arith, e)

keys_of-remove : {K V : Type 0} (pairs : List (K × V)) (i : ℕ) → keys_of (remove pairs i) ≡ remove (keys_of pairs) i
keys_of-remove [] zero = refl
keys_of-remove [] (suc i) = refl
keys_of-remove (p ∷ pairs) zero = refl
keys_of-remove (p ∷ pairs) (suc i) = ap (λ ks. p.0 ∷ ks) (keys_of-remove pairs i)

-- an item that is gone stood at the index
removed_here : {X : Type 0} (x : X) (xs : List X) (i : ℕ) → IsIn x xs → IsIn x (remove xs i) ⊎ (slice_get xs i ≡ Some x)
removed_here x [] i member = absurd member
removed_here x (y ∷ xs) zero member = elim member [ inl here ↦ inr (ap Some (sym here)) | inr later ↦ inl later ]
removed_here x (y ∷ xs) (suc i) member = elim member [
  | inl here ↦ inl (inl here)
  | inr later ↦ elim (removed_here x xs i later) [ inl stays ↦ inl (inr stays) | inr gone ↦ inr gone ]
]

key_at : {K V : Type 0} (pairs : List (K × V)) (i : ℕ) (p : K × V) → slice_get pairs i ≡ Some p → slice_get (keys_of pairs) i ≡ Some p.0
key_at [] i p e = absurd (cc)
key_at (q ∷ pairs) zero p e = let same : q ≡ p = cc in ap (λ r. Some r.0) same
key_at (q ∷ pairs) (suc i) p e = key_at pairs i p e

module _ {K V : Type 0} (eq : K → K → Bool) (k : K) where
  -- where two pairs or more are the key's, one is left of them whichever pair goes
  one_of_some : (pairs : List (K × V)) → 0 < length (values_of eq pairs k) → (q : K × V) × IsIn q pairs × (eq k q.0 ≡ true)
  one_of_some [] some = absurd (omega (arith, some))
  one_of_some (p ∷ pairs) some =
      let P : Bool → Type 0 = λ b. eq k p.0 ≡ b → 0 < length
      (map (λ q. q.1) (cond b (p ∷ filter (λ q. eq k q.0) pairs) (filter (λ q. eq k q.0) pairs)))
      → (q : K × V) × IsIn q (p ∷ pairs) × (eq k q.0 ≡ true) in
      elim (eq k p.0) as P [
        | true ↦ λ own _. (p, inl refl, own)
        | false ↦ λ _ more. let found = one_of_some pairs more in (found.0, inr found.1, found.2)
      ] refl some

  one_left : (pairs : List (K × V)) (i : ℕ) → 1 < length (values_of eq pairs k) → (q : K × V) × IsIn q (remove pairs i) × (eq k q.0 ≡ true)
  one_left [] i more = absurd (omega (arith, more))
  one_left (p ∷ pairs) zero more =
      one_of_some pairs (fewer more)
    where
      fewer : 1 < length (values_of eq (p ∷ pairs) k) → 0 < length (values_of eq pairs k)
      fewer = elim (eq k p.0) as (λ b. 1 < length (map (λ q. q.1)
          (cond b (p ∷ filter (λ q. eq k q.0) pairs) (filter (λ q. eq k q.0) pairs))) → 0 < length (values_of eq pairs k)) [
            | true ↦ λ two. omega (arith, two)
            | false ↦ λ two. omega (arith, two)
          ]
  one_left (p ∷ pairs) (suc i) more =
      let P : Bool → Type 0 = λ b. eq k p.0 ≡ b → 1 < length
      (map (λ q. q.1) (cond b (p ∷ filter (λ q. eq k q.0) pairs) (filter (λ q. eq k q.0) pairs)))
      → (q : K × V) × IsIn q (p ∷ remove pairs i) × (eq k q.0 ≡ true) in
      elim (eq k p.0) as P [
        | true ↦ λ own _. (p, inl refl, own)
        | false ↦ λ _ two. let found = one_left pairs i two in (found.0, inr found.1, found.2)
      ] refl more

  -- a position of the key is that of a pair of it
  pair_at_position : (at : ℕ) (pairs : List (K × V)) (n j : ℕ)
      → slice_get (map (λ e. e.0) (filter (λ e. eq k e.1.0) (enumerate_from at pairs))) n ≡ Some j
      → (i : ℕ) × (j ≡ at + i) × ((p : K × V) × (slice_get pairs i ≡ Some p) × (eq k p.0 ≡ true))
  pair_at_position at [] n j e = absurd (let bad = e in cc)
  pair_at_position at (p ∷ pairs) n j e =
      let rest : List (ℕ × (K × V)) = enumerate_from (at + 1) pairs in
      let Found : Type 0 = (i : ℕ) × (j ≡ at + i) × ((q : K × V) × (slice_get (p ∷ pairs) i ≡ Some q) × (eq k q.0 ≡ true)) in
      let later : (m : ℕ) → slice_get (map (λ e. e.0) (filter (λ e. eq k e.1.0) rest)) m ≡ Some j → Found =
      λ m there. let found = pair_at_position (at + 1) pairs m j there in (suc found.0, omega (arith, found.1), found.2) in
      let P : Bool → Type 0 = λ b. eq k p.0 ≡ b → slice_get
      (map (λ e. e.0) (cond b ((at, p) ∷ filter (λ e. eq k e.1.0) rest) (filter (λ e. eq k e.1.0) rest))) n ≡ Some j → Found in
      elim (eq k p.0) as P [
        | true ↦ λ own. first own later n
        | false ↦ λ _. later n
      ] refl e
    where
      first : eq k p.0 ≡ true
          → ((m : ℕ) → slice_get (map (λ e. e.0) (filter (λ e. eq k e.1.0) (enumerate_from (at + 1) pairs))) m ≡ Some j
          → (i : ℕ) × (j ≡ at + i) × ((q : K × V) × (slice_get (p ∷ pairs) i ≡ Some q) × (eq k q.0 ≡ true)))
          → (m : ℕ) → slice_get (at ∷ map (λ e. e.0) (filter (λ e. eq k e.1.0) (enumerate_from (at + 1) pairs))) m ≡ Some j
          → (i : ℕ) × (j ≡ at + i) × ((q : K × V) × (slice_get (p ∷ pairs) i ≡ Some q) × (eq k q.0 ≡ true))
      first own later zero here = let same : at ≡ j = cc in (0, omega (arith, same), (p, refl, own))
      first own later (suc m) there = later m there

  -- what is made of the pairs by the position of a value, if there is one
  abbrev without_at : List (K × V) → Option ℕ → List (K × V)
  without_at pairs p = elim p as (λ _. List (K × V)) [ None ↦ pairs | Some i ↦ remove pairs i ]

  pub pairs_besides-few : (pairs : List (K × V)) (index : ℕ) → length (pairs_besides eq pairs k index) ≤ length pairs
  pairs_besides-few pairs index = elim (position_beside eq pairs k index) as
      (λ p. length (without_at pairs p) ≤ length pairs) [ None ↦ omega arith | Some i ↦ remove_few pairs i ]

  -- an absent key has no value that can go
  pub removable_value_at-absent : (pairs : List (K × V)) (index : ℕ) → is_present eq pairs k ≡ false → removable_value_at eq pairs k index ≡ None
  removable_value_at-absent pairs index absent = ap (λ vs. slice_get (several vs) index)
      (empty (values_of eq pairs k) (no_items (values_of eq pairs k) absent))

  pub removed_at-absent : (m : Lists K V) (index : ℕ) → is_present eq m.pairs k ≡ false → removed_at eq m k index ≡ m
  removed_at-absent m index absent =
      let none : positions_of eq m.pairs k ≡ [] = empty (positions_of eq m.pairs k)
      (length-positions_of eq k 0 m.pairs ∙ no_items (values_of eq m.pairs k) absent) in
      ap (λ ps. lists m.keys (without_at m.pairs (slice_get (several ps) index))) none

module _ {K V : Type 0} {eq : K → K → Bool} (laws : IsEquivalence eq) (m : Lists K V) (k : K) (formed : IsWellFormed eq m) where
  -- the key of the pair that goes is that of another one
  still_used : (i : ℕ) (p : K × V) → slice_get m.pairs i ≡ Some p → eq k p.0 ≡ true → 1 < length (values_of eq m.pairs k)
      → IsIn p.0 (keys_of (remove m.pairs i))
  still_used i p at own more =
      let other = one_left eq k m.pairs i more in
      let named : IsIn other.0.0 (keys_of m.pairs) = key_member other.0 m.pairs (remove_member other.0 m.pairs i other.1) in
      let here : IsIn p.0 (keys_of m.pairs) = key_member p m.pairs (indexed m.pairs i p at) in
      let first : stored_key eq m.keys k ≡ other.0.0 = stored_key_only laws k other.0.0 m.keys formed.distinct
      (formed.listed other.0.0 named) other.2 in
      let second : stored_key eq m.keys k ≡ p.0 = stored_key_only laws k p.0 m.keys formed.distinct (formed.listed p.0 here) own in
      subst (λ j. IsIn j (keys_of (remove m.pairs i))) (sym first ∙ second) (key_member other.0 (remove m.pairs i) other.1)
    where
      key_member : (q : K × V) (pairs : List (K × V)) → IsIn q pairs → IsIn q.0 (keys_of pairs)
      key_member q [] member = absurd member
      key_member q (r ∷ pairs) member = elim member [ inl here ↦ inl (ap (λ s. s.0) here) | inr later ↦ inr (key_member q pairs later) ]

      indexed : (pairs : List (K × V)) (i : ℕ) (q : K × V) → slice_get pairs i ≡ Some q → IsIn q pairs
      indexed [] i q e = absurd (cc)
      indexed (r ∷ pairs) zero q e = inl (let same : r ≡ q = cc in sym same)
      indexed (r ∷ pairs) (suc i) q e = inr (indexed pairs i q e)

  pub removed_at_well_formed : (index : ℕ) → IsWellFormed eq (removed_at eq m k index)
  removed_at_well_formed index = by (position_beside eq m.pairs k index) refl
    where
      by : (p : Option ℕ) → position_beside eq m.pairs k index ≡ p → IsWellFormed eq (lists m.keys (without_at eq k m.pairs p))
      by None none = formed
      by (Some j) there =
          let two = two_items (positions_of eq m.pairs k) index j there in
          let found = pair_at_position eq k 0 m.pairs index j two.1 in
          let place : j ≡ found.0 = omega (arith, found.1) in
          let pair = found.2 in
          let more : 1 < length (values_of eq m.pairs k) = omega (arith, two.0, length-positions_of eq k 0 m.pairs) in
          subst (λ i. IsWellFormed eq (lists m.keys (remove m.pairs i))) (sym place) (record {
            distinct = formed.distinct;
            listed = λ c member. formed.listed c (remove_member c (keys_of m.pairs) found.0
                (subst (IsIn c) (keys_of-remove m.pairs found.0) member));
            used = λ c member. elim (removed_here c (keys_of m.pairs) found.0 (formed.used c member)) [
              | inl stays ↦ subst (IsIn c) (sym (keys_of-remove m.pairs found.0)) stays
              | inr gone ↦
                  let same : Some pair.0.0 ≡ Some c = sym (key_at m.pairs found.0 pair.0 pair.1) ∙ gone in
                  let key : pair.0.0 ≡ c = cc in
                  subst (λ i. IsIn i (keys_of (remove m.pairs found.0))) key (still_used found.0 pair.0 pair.1 pair.2 more)
            ];
          })
