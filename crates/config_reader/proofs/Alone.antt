-- Where one item of a list passes a test, and what stays of a key once it is appended or removed.
use Rattle.std.proofs.Common.{◌≡◌, suc, Bool, true, false, cond, not, List, [], ◌∷◌, ◌++◌, filter}
use Rattle.std.proofs.Common.{All, IsPermutation, Some, find, length, map, unwrap_or}
use Rattle.std.proofs.Common.{refl, sym, ap, ◌∙◌, subst, arith}
use Rattle.std.proofs.lemmas.Bool.{true≢false}
use Rattle.std.proofs.lemmas.List.Elements.{All-cons, All-filter, All-nil, filter-append}
use Rattle.std.proofs.lemmas.List.Sorted.{All-permutation, sum_by-IsPermutation}
use Rattle.std.proofs.lemmas.List.Sums.{length-filter}
use Rattle.std.specs.Cmp.{IsEquivalence}
use Rattle.ordered_multimap.specs.Changes.{appended}
use Rattle.ordered_multimap.specs.Keys.{stored_key}
use Rattle.ordered_multimap.specs.Lists.{Lists}
use Rattle.ordered_multimap.specs.OneValue.{pairs_with_only}
use Rattle.ordered_multimap.specs.Pairs.{has_items, pairs_except, values_where}

module _ {X : Type 0} (test : X → Bool) where
  -- what holds of all that pass holds of each that passes
  told_of_all : (P : X → Type 0) (xs : List X) → All P (filter test xs)
      → All (λ x. test x ≡ true → P x) xs
  told_of_all P [] all = All-nil (λ x. test x ≡ true → P x)
  told_of_all P (x ∷ xs) all =
      let Told : X → Type 0 = λ y. test y ≡ true → P y in
      elim (test x) as (λ b. test x ≡ b → All P (cond b (x ∷ filter test xs) (filter test xs))
      → All Told (x ∷ xs)) [
        | true ↦ λ e here. All-cons Told x xs (λ _. here 0 x (omega arith))
            (told_of_all P xs (λ k d less. here (suc k) d (omega (arith, less))))
        | false ↦ λ e here. All-cons Told x xs (λ passes. absurd (true≢false (sym passes ∙ e)))
            (told_of_all P xs here)
      ] refl all

  all_pass : (xs : List X) → All (λ x. test x ≡ true) (filter test xs)
  all_pass [] = All-nil (λ x. test x ≡ true)
  all_pass (x ∷ xs) =
      let Passes : X → Type 0 = λ y. test y ≡ true in
      elim (test x) as (λ b. test x ≡ b → All Passes (cond b (x ∷ filter test xs) (filter test xs))) [
        | true ↦ λ e. All-cons Passes x (filter test xs) e (all_pass xs)
        | false ↦ λ e. all_pass xs
      ] refl

  one_of_all : (xs : List X) (x : X) → length xs ≡ 1 → All (λ y. y ≡ x) xs → xs ≡ x ∷ []
  one_of_all [] x one all = absurd (omega (arith, one))
  one_of_all (y ∷ []) x one all = ap (λ z. z ∷ []) (all 0 y (omega arith))
  one_of_all (y ∷ z ∷ xs) x one all = absurd (omega (arith, one))

  -- in another order it is still the one that passes
  pub alone_permuted : (xs ys : List X) (x : X) → IsPermutation xs ys → filter test xs ≡ x ∷ []
      → filter test ys ≡ x ∷ []
  alone_permuted xs ys x permuted alone =
      let Is : X → Type 0 = λ y. y ≡ x in
      let Told : X → Type 0 = λ y. test y ≡ true → y ≡ x in
      let first : All Is (x ∷ []) = All-cons Is x [] refl (All-nil Is) in
      let told = told_of_all Is xs (subst (λ zs. All Is zs) (sym alone) first) in
      let moved = All-filter test Told ys (All-permutation Told xs ys permuted told) in
      let passes = all_pass ys in
      let count = length-filter test ys ∙ sum_by-IsPermutation (λ y. cond (test y) 1 0) xs ys permuted
      ∙ sym (length-filter test xs) ∙ ap length alone in
      one_of_all (filter test ys) x count (λ k d less. moved k d less (passes k d less))

module _ {K V : Type 0} (accepts : K → Bool) where
  pub none_left : (pairs : List (K × V)) → values_where accepts (pairs_except accepts pairs) ≡ []
  none_left [] = refl
  none_left (p ∷ pairs) =
      elim (accepts p.0) as (λ b. accepts p.0 ≡ b → values_where accepts
      (cond (not b) (p ∷ pairs_except accepts pairs) (pairs_except accepts pairs)) ≡ []) [
        | true ↦ λ e. none_left pairs
        | false ↦ λ e. rw e (none_left pairs)
      ] refl

  -- the pairs with one value alone have that value alone
  pub only_one : (pairs : List (K × V)) (v : V) → has_items (values_where accepts pairs) ≡ true
      → values_where accepts (pairs_with_only accepts pairs v) ≡ v ∷ []
  only_one [] v some = absurd (true≢false (sym some))
  only_one (p ∷ pairs) v some =
      elim (accepts p.0) as (λ b. accepts p.0 ≡ b
      → has_items (map (λ (q : K × V). q.1) (cond b (p ∷ filter (λ q. accepts q.0) pairs)
      (filter (λ q. accepts q.0) pairs))) ≡ true
      → values_where accepts (cond b ((p.0, v) ∷ pairs_except accepts pairs)
      (p ∷ pairs_with_only accepts pairs v)) ≡ v ∷ []) [
        | true ↦ λ e some. rw e (ap (λ vs. v ∷ vs) (none_left pairs))
        | false ↦ λ e some. rw e (only_one pairs v some)
      ] refl some

module _ {K : Type 0} {eq : K → K → Bool} (laws : IsEquivalence eq) where
  pub same_stored : (k : K) (keys : List K) → eq k (stored_key eq keys k) ≡ true
  same_stored k [] = laws.refl k
  same_stored k (j ∷ keys) =
      elim (eq k j) as (λ b. eq k j ≡ b
      → eq k (unwrap_or (cond b (Some j) (find (eq k) keys)) k) ≡ true) [
        | true ↦ λ e. e
        | false ↦ λ e. same_stored k keys
      ] refl

  other_stored : (k j : K) (keys : List K) → eq k j ≡ false → eq k (stored_key eq keys j) ≡ false
  other_stored k j keys apart =
      laws.symm k (stored_key eq keys j)
      ∙ sym (laws.congr j (stored_key eq keys j) k (same_stored j keys)) ∙ laws.symm j k ∙ apart

  module _ {V : Type 0} (m : Lists K V) (k : K) (none : filter (λ p. eq k p.0) m.pairs ≡ []) where
    -- an absent key that is appended has one pair
    pub alone_appended : (v : V) → filter (λ p. eq k p.0) (appended eq m k v).pairs
        ≡ (stored_key eq m.keys k, v) ∷ []
    alone_appended v =
        let p : K × V = (stored_key eq m.keys k, v) in
        let test : K × V → Bool = λ q. eq k q.0 in
        filter-append test m.pairs (p ∷ []) ∙ ap (λ ps. ps ++ filter test (p ∷ [])) none
        ∙ ap (λ b. cond b (p ∷ []) []) (same_stored k m.keys)

    -- and is still absent where another one is appended
    pub absent_appended : (j : K) (v : V) → eq k j ≡ false
        → filter (λ p. eq k p.0) (appended eq m j v).pairs ≡ []
    absent_appended j v apart =
        let p : K × V = (stored_key eq m.keys j, v) in
        let test : K × V → Bool = λ q. eq k q.0 in
        filter-append test m.pairs (p ∷ []) ∙ ap (λ ps. ps ++ filter test (p ∷ [])) none
        ∙ ap (λ b. cond b (p ∷ []) []) (other_stored k j m.keys apart)
