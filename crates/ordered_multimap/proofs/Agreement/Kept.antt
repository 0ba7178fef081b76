-- What of a list is kept, and what is made of it.
use Rattle.std.proofs.Common.{◌≡◌, ◌++◌, length, length-append, arith, Bool, true, false, not, cond, List, [], ◌∷◌, filter, Option, Some}
use Rattle.std.proofs.Common.{None, refl, sym, ap, ◌∙◌, inl, inr}
use Rattle.std.specs.Cmp.{IsEquivalence}
use Rattle.std.specs.List.{filter_map, cons_option}
use Rattle.std.specs.Map.{keys_of}
use Rattle.multimap_slots.specs.Lists.{IsIn}
use Rattle.ordered_multimap.specs.Keys.{is_listed}
use Rattle.ordered_multimap.specs.Pairs.{pairs_without}

-- a test that passes only kept items sees no other
pub filter-among : {X : Type 0} (test keep : X → Bool) (xs : List X) → ((x : X) → IsIn x xs → test x ≡ true → keep x ≡ true)
    → filter test (filter keep xs) ≡ filter test xs
filter-among test keep [] among = refl
filter-among test keep (x ∷ xs) among =
    let rest = filter-among test keep xs (λ y i. among y (inr i)) in
    let P : Bool → Type 0 = λ b. test x ≡ b → filter test (cond (keep x) (x ∷ filter keep xs) (filter keep xs)) ≡ cond b
    (x ∷ filter test xs) (filter test xs) in
    elim (test x) as P [
      | true ↦ λ e. rw (among x (inl refl) e, e) (ap (λ ys. x ∷ ys) rest)
      | false ↦ λ e.
          let Q : Bool → Type 0 = λ b. filter test (cond b (x ∷ filter keep xs) (filter keep xs)) ≡ filter test xs in
          elim (keep x) as Q [ true ↦ rw e rest | false ↦ rest ]
    ] refl

-- what is made of the kept items is what passes of all that is made
pub filter_map-filter : {X Y : Type 0} (f : X → Option Y) (keep : X → Bool) (test : Y → Bool) (xs : List X)
    → ((x : X) → IsIn x xs → (y : Y) → f x ≡ Some y → keep x ≡ test y) → filter_map f (filter keep xs) ≡ filter test (filter_map f xs)
filter_map-filter f keep test [] same = refl
filter_map-filter {X} {Y} f keep test (x ∷ xs) same =
    let rest = filter_map-filter f keep test xs (λ z i. same z (inr i)) in
    let P : Option Y → Type 0 = λ o. f x ≡ o → filter_map f (cond (keep x) (x ∷ filter keep xs) (filter keep xs)) ≡ filter test
    (cons_option o (filter_map f xs)) in
    elim (f x) as P [
      | None ↦ λ e.
          let Q : Bool → Type 0 = λ b. filter_map f (cond b (x ∷ filter keep xs) (filter keep xs)) ≡ filter test (filter_map f xs) in
          elim (keep x) as Q [ true ↦ ap (λ o. cons_option o (filter_map f (filter keep xs))) e ∙ rest | false ↦ rest ]
      | Some y ↦ λ e.
          let Q : Bool → Type 0 = λ b. keep x ≡ b → filter_map f (cond b (x ∷ filter keep xs) (filter keep xs)) ≡ cond b
          (y ∷ filter test (filter_map f xs)) (filter test (filter_map f xs)) in
          elim (keep x) as Q [
            | true ↦ λ _. ap (λ o. cons_option o (filter_map f (filter keep xs))) e ∙ ap (λ ys. y ∷ ys) rest
            | false ↦ λ _. rest
          ] refl
          ∙ ap (λ b. cond b (y ∷ filter test (filter_map f xs)) (filter test (filter_map f xs))) (same x (inl refl) y e)
    ] refl

-- the keys of the pairs of other keys
pub keys_of-without : {K V : Type 0} (eq : K → K → Bool) (k : K) (pairs : List (K × V))
    → keys_of (pairs_without eq pairs k) ≡ filter (λ j. not (eq k j)) (keys_of pairs)
keys_of-without eq k [] = refl
keys_of-without {K} eq k (p ∷ pairs) =
    let P : Bool → Type 0 = λ b. keys_of (cond b (p ∷ pairs_without eq pairs k) (pairs_without eq pairs k)) ≡ cond b
    (p.0 ∷ filter (λ j. not (eq k j)) (keys_of pairs)) (filter (λ j. not (eq k j)) (keys_of pairs)) in
    elim (not (eq k p.0)) as P [ true ↦ ap (λ js. p.0 ∷ js) (keys_of-without eq k pairs) | false ↦ keys_of-without eq k pairs ]

-- no key that is equal to k is among those that aren't
module _ {K : Type 0} {eq : K → K → Bool} (laws : IsEquivalence eq) where
  pub is_listed-equal : (k j : K) (keys : List K) → eq k j ≡ true → is_listed eq (filter (λ i. not (eq k i)) keys) j ≡ false
  is_listed-equal k j [] e = refl
  is_listed-equal k j (i ∷ keys) e =
      let rest : List K = filter (λ i. not (eq k i)) keys in
      let P : Bool → Type 0 = λ b. eq k i ≡ b → is_listed eq (cond (not b) (i ∷ rest) rest) j ≡ false in
      elim (eq k i) as P [
        | true ↦ λ _. is_listed-equal k j keys e
        | false ↦ λ n. rw (sym (laws.congr k j i e) ∙ n) (is_listed-equal k j keys e)
      ] refl

-- lists that end alike are alike
pub push_inj : {X : Type 0} (xs ys : List X) (x y : X) → xs ++ x ∷ [] ≡ ys ++ y ∷ [] → (xs ≡ ys) × (x ≡ y)
push_inj [] [] x y e = (refl, let same : x ≡ y = cc in same)
push_inj [] (z ∷ ys) x y e = absurd (omega (arith, ap length e, length-append ys (y ∷ [])))
push_inj (w ∷ xs) [] x y e = absurd (omega (arith, ap length e, length-append xs (x ∷ [])))
push_inj (w ∷ xs) (z ∷ ys) x y e =
    let head : w ≡ z = cc in
    let tails : xs ++ x ∷ [] ≡ ys ++ y ∷ [] = cc in
    let rest = push_inj xs ys x y tails in
    ((λ i. head i ∷ rest.0 i), rest.1)
