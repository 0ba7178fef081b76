-- Items in the order of their ranks, of which those of one rank keep theirs.
use Rattle.std.proofs.Common.{◌≡◌, ◌≢◌, ℕ, suc, ◌<◌, ◌≤◌, Bool, true, false, cond, List, [], ◌∷◌, ◌++◌, filter}
use Rattle.std.proofs.Common.{append-nil, refl, sym, ap, subst, ◌∙◌, arith, length, get_or, inl, inr}
use Rattle.std.proofs.lemmas.Bool.{cases_lt, true≢false}
use Rattle.std.proofs.lemmas.List.Sorted.{IsNonDecreasingBy-from_sort}
use Rattle.std.proofs.lemmas.Bool.Decides.{nat_tests}
use Rattle.std.proofs.lemmas.List.Elements.{filter-append}
use Rattle.std.specs.Cmp.{nat_cmp_is}
use Rattle.std.specs.Prelude.{nat_le}
use Rattle.std.specs.List.Sorted.{IsNonDecreasingBy, IsSortedByKey, IsStableByKey, ties}
use Rattle.std.specs.Ordering.{is_lt, nat_cmp}
use Rattle.std.specs.declared.cmp.Ordering.TheVariants.{Less, Equal, Greater}

below : (a b : ℕ) → a < b → is_lt (nat_cmp a b) ≡ true
below a b less = ap is_lt (sym (nat_cmp_is a b Less less))

same_below : (a b : ℕ) → a ≡ b → is_lt (nat_cmp a b) ≡ false
same_below a b same = ap is_lt (sym (nat_cmp_is a b Equal same))

above : (a b : ℕ) → b < a → is_lt (nat_cmp a b) ≡ false
above a b more = ap is_lt (sym (nat_cmp_is a b Greater more))

module _ {X : Type 0} (rank : X → ℕ) where
  abbrev is_lower : X → X → Bool
  is_lower x y = is_lt (nat_cmp (rank x) (rank y))

  -- no rank falls, and none is below this one
  abbrev pub IsRising : ℕ → List X → Type 0
  IsRising low [] = Unit {0}
  IsRising low (x ∷ xs) = (low ≤ rank x) × IsRising (rank x) xs

  ties_same : (x y : X) → rank x ≡ rank y → ties is_lower x y ≡ true
  ties_same x y same = rw (same_below (rank x) (rank y) same, same_below (rank y) (rank x) (sym same)) refl

  ties_below : (x y : X) → rank x < rank y → ties is_lower x y ≡ false
  ties_below x y less = rw (below (rank x) (rank y) less) refl

  ties_above : (x y : X) → rank y < rank x → ties is_lower x y ≡ false
  ties_above x y more = rw (above (rank x) (rank y) more, below (rank y) (rank x) more) refl

  lower : (low lower : ℕ) (xs : List X) → lower ≤ low → IsRising low xs → IsRising lower xs
  lower low least [] less up = tt
  lower low least (x ∷ xs) less up = (omega (arith, less, up.0), up.1)

  rises_from : (xs : List X) (low : ℕ) → ((d : X) → 0 < length xs → low ≤ rank (get_or xs 0 d)) → IsNonDecreasingBy rank xs → IsRising low xs
  rises_from [] low first up = tt
  rises_from (x ∷ xs) low first up =
      (first x (omega arith), rises_from xs (rank x) (λ d some. up 0 1 d (omega arith) (omega (arith, some))) (λ i j d less inside. up (suc i) (suc j) d (omega (arith, less)) (omega (arith, inside))))

  pub sorted_rises : (xs : List X) → IsSortedByKey rank nat_cmp xs → IsRising 0 xs
  sorted_rises xs sorted = rises_from xs 0 (λ d some. omega arith) (IsNonDecreasingBy-from_sort rank xs sorted)

  -- nothing ties with what is below all
  none_tie : (x : X) (xs : List X) (low : ℕ) → rank x < low → IsRising low xs → filter (ties is_lower x) xs ≡ []
  none_tie x [] low less up = refl
  none_tie x (y ∷ xs) low less up = rw (ties_below x y (omega (arith, less, up.0))) (none_tie x xs (rank y) (omega (arith, less, up.0)) up.1)

  head_ties : (x : X) (xs ys : List X) → filter (ties is_lower x) ys ≡ filter (ties is_lower x) (x ∷ xs) → filter (ties is_lower x) ys ≢ []
  head_ties x xs ys same none =
      let is : x ∷ filter (ties is_lower x) xs ≡ [] =
      sym (ap (λ b. cond b (x ∷ filter (ties is_lower x) xs) (filter (ties is_lower x) xs)) (ties_same x x refl)) ∙ sym same ∙ none in
      absurd (omega (arith, ap length is))

  module _ (x y : X) (xs ys : List X) where
    heads : x ∷ xs ≡ y ∷ ys → x ≡ y
    heads is = cc

    tails : x ∷ xs ≡ y ∷ ys → xs ≡ ys
    tails is = cc

  -- the first of two lists are the same, and what is behind them is stable
  module _ (x y : X) (xs ys : List X) (tie : rank x ≡ rank y) (same : IsStableByKey rank nat_cmp (x ∷ xs) (y ∷ ys)) where
    first_same : y ≡ x
    first_same =
        heads y x (filter (ties is_lower x) ys) (filter (ties is_lower x) xs)
        (sym (ap (λ b. cond b (y ∷ filter (ties is_lower x) ys) (filter (ties is_lower x) ys)) (ties_same x y tie))
        ∙ same x ∙ ap (λ b. cond b (x ∷ filter (ties is_lower x) xs) (filter (ties is_lower x) xs)) (ties_same x x refl))

    rest_stable : IsStableByKey rank nat_cmp xs ys
    rest_stable z = by (ties is_lower z x) (ties is_lower z y) (ap (ties is_lower z) first_same) (same z)
      where
        by : (b c : Bool) → c ≡ b → cond c (y ∷ filter (ties is_lower z) ys) (filter (ties is_lower z) ys) ≡ cond b (x ∷ filter (ties is_lower z) xs) (filter (ties is_lower z) xs)
            → filter (ties is_lower z) ys ≡ filter (ties is_lower z) xs
        by true true e is = tails y x (filter (ties is_lower z) ys) (filter (ties is_lower z) xs) is
        by false false e is = is
        by true false e is = absurd (true≢false (sym e))
        by false true e is = absurd (true≢false e)

  -- one order alone rises and is stable
  pub one_order : (xs ys : List X) (low : ℕ) → IsRising low xs → IsRising low ys → IsStableByKey rank nat_cmp xs ys → ys ≡ xs
  one_order [] [] low up rises same = refl
  one_order [] (y ∷ ys) low up rises same = absurd (head_ties y ys [] (sym (same y)) refl)
  one_order (x ∷ xs) [] low up rises same = absurd (head_ties x xs [] (same x) refl)
  one_order (x ∷ xs) (y ∷ ys) low up rises same = elim (cases_lt (rank x) (rank y)) [
    | inl less ↦ absurd (head_ties x xs (y ∷ ys) (same x) (none_tie x (y ∷ ys) (rank y) less (omega arith, rises.1)))
    | inr most ↦ elim (cases_lt (rank y) (rank x)) [
      | inl more ↦ absurd (head_ties y ys (x ∷ xs) (sym (same y)) (none_tie y (x ∷ xs) (rank x) more (omega arith, up.1)))
      | inr least ↦
          let tie : rank x ≡ rank y = omega (arith, most, least) in
          ap (λ z. z ∷ ys) (first_same x y xs ys tie same)
          ∙ ap (λ zs. x ∷ zs) (one_order xs ys (rank x) up.1 (subst (λ r. IsRising r ys) (sym tie) rises.1) (rest_stable x y xs ys tie same))
    ]
  ]

  -- an item behind those of its rank and of lower ones
  abbrev pub inserted : X → List X → List X
  inserted new [] = new ∷ []
  inserted new (x ∷ xs) = cond (nat_le (rank x) (rank new)) (x ∷ inserted new xs) (new ∷ x ∷ xs)

  inserted_rises : (new : X) (xs : List X) (low : ℕ) → low ≤ rank new → IsRising low xs → IsRising low (inserted new xs)
  inserted_rises new [] low least up = (least, tt)
  inserted_rises new (x ∷ xs) low least up = by (nat_le (rank x) (rank new)) refl (λ below. inserted_rises new xs (rank x) below up.1)
    where
      by : (is : Bool) → nat_le (rank x) (rank new) ≡ is → (rank x ≤ rank new → IsRising (rank x) (inserted new xs))
          → IsRising low (cond is (x ∷ inserted new xs) (new ∷ x ∷ xs))
      by true is later = (up.0, later (grind (arith, nat_tests)))
      by false is later = (least, (grind (arith, nat_tests), up.1))

  none_behind : (z : X) (new : X) (xs : List X) (low : ℕ) → rank new < low → IsRising low xs → ties is_lower z new ≡ true → filter (ties is_lower z) xs ≡ []
  none_behind z new xs low less up tied = elim (cases_lt (rank z) low) [
    | inl below ↦ none_tie z xs low below up
    | inr most ↦ absurd (true≢false (sym tied ∙ ties_above z new (omega (arith, most, less))))
  ]

  inserted_stable : (new : X) (xs : List X) (low : ℕ) → IsRising low xs → IsStableByKey rank nat_cmp (xs ++ new ∷ []) (inserted new xs)
  inserted_stable new [] low up z = refl
  inserted_stable new (x ∷ xs) low up z = by (nat_le (rank x) (rank new)) refl (inserted_stable new xs (rank x) up.1 z)
    where
      test : X → Bool
      test = ties is_lower z

      by : (is : Bool) → nat_le (rank x) (rank new) ≡ is → filter test (inserted new xs) ≡ filter test (xs ++ new ∷ [])
          → filter test (cond is (x ∷ inserted new xs) (new ∷ x ∷ xs)) ≡ filter test ((x ∷ xs) ++ new ∷ [])
      by true is later = ap (λ ys. cond (test x) (x ∷ ys) ys) later
      by false is later =
          ap (λ ys. cond (test new) (new ∷ ys) ys) refl
          ∙ by_tie (test new) refl (grind (arith, nat_tests))
          ∙ sym (filter-append test (x ∷ xs) (new ∷ []))
        where
          by_tie : (tied : Bool) → test new ≡ tied → rank new < rank x
              → cond (test new) (new ∷ filter test (x ∷ xs)) (filter test (x ∷ xs)) ≡ filter test (x ∷ xs) ++ cond (test new) (new ∷ []) []
          by_tie true tied less =
              let none = none_behind z new (x ∷ xs) (rank x) less (omega arith, up.1) tied in
              rw tied (ap (λ ys. new ∷ ys) none ∙ sym (ap (λ ys. ys ++ new ∷ []) none))
          by_tie false tied less = rw tied (sym (append-nil (filter test (x ∷ xs))))

  -- what a stable sort makes of items and one more behind them
  pub sorted_inserted : (new : X) (xs ys : List X) → IsRising 0 xs → IsSortedByKey rank nat_cmp ys
      → IsStableByKey rank nat_cmp (xs ++ new ∷ []) ys → ys ≡ inserted new xs
  sorted_inserted new xs ys up sorted stable =
      one_order (inserted new xs) ys 0 (inserted_rises new xs 0 (omega arith) up) (sorted_rises ys sorted)
      (λ z. stable z ∙ sym (inserted_stable new xs 0 up z))
