-- Listed keys, where the keys' equality is an equivalence.
use Rattle.std.proofs.Common.{◌≡◌, ◌⊎◌, Bool, true, false, cond, ◌||◌, List, [], ◌∷◌, ◌++◌, filter, find, unwrap_or, Some, None, refl, sym}
use Rattle.std.proofs.Common.{◌≤◌, ◌+◌, ap, arith, length, length-append}
use Rattle.std.proofs.Common.{◌∙◌, inl, inr, true≢false}
use Rattle.std.specs.List.{IsDistinct, AllByRecursion, list_any}
use Rattle.std.specs.Map.{keys_of, values_of as values_in}
use Rattle.std.specs.Cmp.{IsEquivalence}
use Rattle.std.proofs.lemmas.Map.Keys.{IsDistinct-push}
use Rattle.multimap_slots.specs.Lists.{IsIn}
use Rattle.ordered_multimap.specs.Pairs.{has_items, is_present, is_present_where}
use Rattle.ordered_multimap.specs.Keys.{is_listed, stored_key, stored_where, keys_with}
use Rattle.multimap_slots.proofs.Callers.PlaceLists.{IsIn-left, IsIn-right, IsIn-append}

or_right : (a b : Bool) → b ≡ true → (a || b) ≡ true
or_right a b e = elim a as (λ v. (v || b) ≡ true) [ true ↦ refl | false ↦ e ]

-- one more key makes the list longer by one at most
pub length-keys_with : {K : Type 0} (eq : K → K → Bool) (keys : List K) (k : K) → length (keys_with eq keys k) ≤ length keys + 1
length-keys_with eq keys k = elim (is_listed eq keys k) as (λ b. length (cond b keys (keys ++ k ∷ [])) ≤ length keys + 1) [
  | true ↦ omega arith
  | false ↦ omega (arith, length-append keys (k ∷ []))
]

-- keys that a test accepts
module _ {K : Type 0} (accepts : K → Bool) where
  -- an accepted member is found
  pub any_member : (j : K) (keys : List K) → IsIn j keys → accepts j ≡ true → list_any accepts keys ≡ true
  any_member j [] member e = absurd member
  any_member j (i ∷ keys) member e =
      elim member [
        | inl here ↦ ap (λ b. b || list_any accepts keys) (ap accepts (sym here) ∙ e)
        | inr later ↦ or_right (accepts i) (list_any accepts keys) (any_member j keys later e)
      ]

  -- and what is found is a member
  pub any_found : (keys : List K) → list_any accepts keys ≡ true → (j : K) × (IsIn j keys × (accepts j ≡ true))
  any_found [] found = absurd (true≢false (sym found))
  any_found (j ∷ keys) found =
      let P : Bool → Type 0 = λ b. accepts j ≡ b → (b || list_any accepts keys) ≡ true
      → (i : K) × (IsIn i (j ∷ keys) × (accepts i ≡ true)) in
      elim (accepts j) as P [
        | true ↦ λ e _. (j, (inl refl, e))
        | false ↦ λ _ later. let f = any_found keys later in (f.0, (inr f.1.0, f.1.1))
      ] refl found

  -- where one is listed, the first of them is the stored one, whatever key stands for an absent one
  pub find_stored : (k : K) (keys : List K) → list_any accepts keys ≡ true → find accepts keys ≡ Some (stored_where accepts keys k)
  find_stored k [] found = absurd (true≢false (sym found))
  find_stored k (j ∷ keys) found =
      let P : Bool → Type 0 = λ b. (b || list_any accepts keys) ≡ true
      → cond b (Some j) (find accepts keys) ≡ Some (unwrap_or (cond b (Some j) (find accepts keys)) k) in
      elim (accepts j) as P [ true ↦ λ _. refl | false ↦ λ later. find_stored k keys later ] found

  -- and where none is, there is no first one
  pub find_none : (keys : List K) → list_any accepts keys ≡ false → find accepts keys ≡ None
  find_none [] none = refl
  find_none (j ∷ keys) none =
      let P : Bool → Type 0 = λ b. (b || list_any accepts keys) ≡ false → cond b (Some j) (find accepts keys) ≡ None in
      elim (accepts j) as P [ true ↦ λ never. absurd (true≢false never) | false ↦ λ later. find_none keys later ] none

  -- one has a value if the pairs name it
  pub is_present-any : {V : Type 0} (pairs : List (K × V)) → is_present_where accepts pairs ≡ list_any accepts (keys_of pairs)
  is_present-any [] = refl
  is_present-any {V = V} (p ∷ pairs) =
      let rest : List (K × V) = filter (λ p. accepts p.0) pairs in
      let P : Bool → Type 0 = λ b. has_items (values_in (cond b (p ∷ rest) rest)) ≡ (b || list_any accepts (keys_of pairs)) in
      elim (accepts p.0) as P [ true ↦ refl | false ↦ is_present-any pairs ]

-- a key has a value if the pairs name it
pub is_present-is_listed : {K V : Type 0} (eq : K → K → Bool) (k : K) (pairs : List (K × V))
    → is_present eq pairs k ≡ is_listed eq (keys_of pairs) k
is_present-is_listed eq k pairs = is_present-any (eq k) pairs

module _ {K : Type 0} {eq : K → K → Bool} (laws : IsEquivalence eq) where
  pub is_listed-member : (k j : K) (keys : List K) → IsIn j keys → eq k j ≡ true → is_listed eq keys k ≡ true
  is_listed-member k j keys member e = any_member (eq k) j keys member e

  pub is_listed-self : (k : K) (keys : List K) → IsIn k keys → is_listed eq keys k ≡ true
  is_listed-self k keys member = is_listed-member k k keys member (laws.refl k)

  -- where an equal key is listed, the stored key is a member, and equal
  pub stored_key_member : (k : K) (keys : List K) → is_listed eq keys k ≡ true
      → IsIn (stored_key eq keys k) keys × (eq k (stored_key eq keys k) ≡ true)
  stored_key_member k [] listed = absurd (true≢false (sym listed))
  stored_key_member k (j ∷ keys) listed =
      let P : Bool → Type 0 = λ b. eq k j ≡ b → (b || is_listed eq keys k) ≡ true
      → let s = unwrap_or (cond b (Some j) (find (eq k) keys)) k in IsIn s (j ∷ keys) × (eq k s ≡ true) in
      elim (eq k j) as P [
        | true ↦ λ e _. (inl refl, e)
        | false ↦ λ e later. let found = stored_key_member k keys later in (inr found.0, found.1)
      ] refl listed

  -- and where none is, it is the key itself
  pub stored_key_absent : (k : K) (keys : List K) → is_listed eq keys k ≡ false → stored_key eq keys k ≡ k
  stored_key_absent k [] absent = refl
  stored_key_absent k (j ∷ keys) absent =
      let P : Bool → Type 0 = λ b. (b || is_listed eq keys k) ≡ false → unwrap_or (cond b (Some j) (find (eq k) keys)) k ≡ k in
      elim (eq k j) as P [ true ↦ λ never. absurd (true≢false never) | false ↦ λ later. stored_key_absent k keys later ] absent

  pub apart_member : (k j : K) (keys : List K) → AllByRecursion (λ y. eq k y ≡ false) keys → IsIn j keys → eq k j ≡ false
  apart_member k j [] apart member = absurd member
  apart_member k j (i ∷ keys) apart member = elim member [
    | inl here ↦ ap (eq k) here
        ∙ apart.0
    | inr later ↦ apart_member k j keys apart.1 later
  ]

  -- of distinct keys the stored one is the only member that is equal
  pub stored_key_only : (k j : K) (keys : List K) → IsDistinct eq keys → IsIn j keys → eq k j ≡ true → stored_key eq keys k ≡ j
  unfolding IsDistinct
  stored_key_only k j [] distinct member e = absurd member
  stored_key_only k j (i ∷ keys) distinct member e =
      let P : Bool → Type 0 = λ b. eq k i ≡ b → unwrap_or (cond b (Some i) (find (eq k) keys)) k ≡ j in
      elim member [
        | inl here ↦ elim (eq k i) as P [ true ↦ λ _. sym here | false ↦ λ n. absurd (true≢false (sym e ∙ ap (eq k) here ∙ n)) ] refl
        | inr later ↦ elim (eq k i) as P [
          | true ↦ λ y. absurd (true≢false (sym e ∙ laws.congr k i j y ∙ apart_member i j keys distinct.0 later))
          | false ↦ λ _. stored_key_only k j keys distinct.1 later e
        ] refl
      ]

  AllByRecursion-filter : (test : K → Bool) (P : K → Type 0) (keys : List K) → AllByRecursion P keys → AllByRecursion P (filter test keys)
  AllByRecursion-filter test P [] all = tt
  AllByRecursion-filter test P (k ∷ keys) all =
      elim (test k) as (λ b. AllByRecursion P (cond b (k ∷ filter test keys) (filter test keys))) [
        | true ↦ (all.0, AllByRecursion-filter test P keys all.1)
        | false ↦ AllByRecursion-filter test P keys all.1
      ]

  -- some of distinct keys are distinct
  pub IsDistinct-filter : (test : K → Bool) (keys : List K) → IsDistinct eq keys → IsDistinct eq (filter test keys)
  unfolding IsDistinct
  IsDistinct-filter test [] distinct = tt
  IsDistinct-filter test (k ∷ keys) distinct =
      elim (test k) as (λ b. IsDistinct eq (cond b (k ∷ filter test keys) (filter test keys))) [
        | true ↦ (AllByRecursion-filter test (λ y. eq k y ≡ false) keys distinct.0, IsDistinct-filter test keys distinct.1)
        | false ↦ IsDistinct-filter test keys distinct.1
      ]

  -- once a key has come, its stored key is a member, and so is each old key
  pub keys_with-stored_key : (k : K) (keys : List K) → IsIn (stored_key eq keys k) (keys_with eq keys k)
  keys_with-stored_key k keys =
      let P : Bool → Type 0 = λ b. is_listed eq keys k ≡ b → IsIn (stored_key eq keys k) (cond b keys (keys ++ k ∷ [])) in
      elim (is_listed eq keys k) as P [
        | true ↦ λ e. (stored_key_member k keys e).0
        | false ↦ λ e. IsIn-right _ keys (k ∷ []) (inl (stored_key_absent k keys e))
      ] refl

  pub keys_with-old : (k j : K) (keys : List K) → IsIn j keys → IsIn j (keys_with eq keys k)
  keys_with-old k j keys member = elim (is_listed eq keys k) as
      (λ b. IsIn j (cond b keys (keys ++ k ∷ []))) [ true ↦ member | false ↦ IsIn-left j keys (k ∷ []) member ]

  -- no other key is
  pub keys_with-cases : (k j : K) (keys : List K) → IsIn j (keys_with eq keys k) → IsIn j keys ⊎ (stored_key eq keys k ≡ j)
  keys_with-cases k j keys member =
      let P : Bool → Type 0 = λ b. is_listed eq keys k ≡ b → IsIn j (cond b keys (keys ++ k ∷ []))
      → IsIn j keys ⊎ (stored_key eq keys k ≡ j) in
      elim (is_listed eq keys k) as P [
        | true ↦ λ e old. inl old
        | false ↦ λ e among. elim (IsIn-append j keys (k ∷ []) among) [
          | inl old ↦ inl old
          | inr new ↦ elim new [ inl here ↦ inr (stored_key_absent k keys e ∙ sym here) | inr never ↦ absurd never ]
        ]
      ] refl member

  pub keys_with-distinct : (k : K) (keys : List K) → IsDistinct eq keys → IsDistinct eq (keys_with eq keys k)
  keys_with-distinct k keys distinct =
      let P : Bool → Type 0 = λ b. is_listed eq keys k ≡ b → IsDistinct eq (cond b keys (keys ++ k ∷ [])) in
      elim (is_listed eq keys k) as P [ true ↦ λ e. distinct | false ↦ λ e. IsDistinct-push laws keys k distinct e ] refl
