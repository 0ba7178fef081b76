-- The bits of a mask, and the lanes that it stands for.
use Rattle.std.proofs.Common.{◌≡◌, ℕ, zero, suc, ◌+◌, ◌-◌, ◌/◌, ◌%◌, ◌^◌, ◌<◌, ◌≤◌, min, Bool, true, false, cond, eqb, List, [], ◌∷◌, map}
use Rattle.std.proofs.Common.{length, get_or, replicate, refl, sym, ap, subst, ◌∙◌, arith, w8}
use native.Mathlib.Numerals.{one-add}
use native.Mathlib.Nat.{zero-div}
use lib.Bits.{bit_and, and_step, and_shr}
use lib.Pow.{shr-shr}
use lib.Count.{count_trailing_zeros, under}
use lib.Lanes.{zip2, mask_l, top, chunk}
use borrow.Author.Tests.{eqb-true, eq-eqb}
use Rattle.std.proofs.lemmas.Simd.{bit_mask_l, bitmask_splat, length-chunk, get_or-chunk}
use Rattle.multimap_table.specs.Private.Layout.{IsBitSet}

abbrev digit : ℕ → ℕ → ℕ
digit n k = n / 2 ^ k % 2

digit-suc : (n k : ℕ) → digit n (suc k) ≡ digit (n / 2) k
digit-suc n k = ap (λ x. x % 2) (ap (λ j. n / 2 ^ j) (sym (one-add k)) ∙ sym (shr-shr n 1 k))

low_and : (x y : ℕ) → bit_and x y % 2 ≡ min (x % 2) (y % 2)
low_and x y = omega (arith, and_step x y)

digit_and : (a b k : ℕ) → digit (bit_and a b) k ≡ min (digit a k) (digit b k)
digit_and a b k = ap (λ x. x % 2) (and_shr a b k) ∙ low_and (a / 2 ^ k) (b / 2 ^ k)

both : (x y : ℕ) → min (x % 2) (y % 2) ≡ 1 → (x % 2 ≡ 1) × (y % 2 ≡ 1)
both x y h = omega arith

pub bits_from_and : (a b k : ℕ) → IsBitSet (bit_and a b) k → IsBitSet a k × IsBitSet b k
unfolding IsBitSet
bits_from_and a b k h = both (a / 2 ^ k) (b / 2 ^ k) (sym (digit_and a b k) ∙ h)

lowest_by : (b t d : ℕ) → b % 2 ≡ d → (b % 2 ≡ 0 → digit (b / 2) t ≡ 1) → digit b (under d t) ≡ 1
lowest_by b t zero e half = digit-suc b t ∙ half e
lowest_by b t (suc d) e half = omega arith

-- the lowest bit of a mask is set
pub bit_trailing_zeros : (w b : ℕ) → 0 < b → b < 2 ^ w → IsBitSet b (count_trailing_zeros w b)
unfolding IsBitSet count_trailing_zeros
bit_trailing_zeros zero b p q = absurd (omega arith)
bit_trailing_zeros (suc w) b p q = lowest_by b (count_trailing_zeros w (b / 2)) (b % 2) refl
    (λ e. bit_trailing_zeros w (b / 2) (omega arith) (omega arith))

others_by : (b t d j : ℕ) → 0 < b → b % 2 ≡ d → digit b j ≡ 1 → (j ≡ under d t → ⊥)
    → ((i : ℕ) → b % 2 ≡ 0 → digit (b / 2) i ≡ 1 → (i ≡ t → ⊥) → digit (bit_and (b / 2) (b / 2 - 1)) i ≡ 1)
    → digit (bit_and b (b - 1)) j ≡ 1
others_by b t zero zero p e s ne half = absurd (omega arith)
others_by b t zero (suc i) p e s ne half =
    let less : (b - 1) / 2 ≡ b / 2 - 1 = omega arith in
    digit-suc (bit_and b (b - 1)) i ∙ ap (λ x. digit x i) (and_shr b (b - 1) 1 ∙ ap (bit_and (b / 2)) less)
    ∙ half i e (sym (digit-suc b i) ∙ s) (λ z. ne (ap suc z))
others_by b t (suc d) zero p e s ne half = absurd (ne refl)
others_by b t (suc d) (suc i) p e s ne half =
    let same_half : (b - 1) / 2 ≡ b / 2 = omega arith in
    let same : digit (b - 1) (suc i) ≡ 1 = digit-suc (b - 1) i ∙ ap (λ x. digit x i) same_half ∙ sym (digit-suc b i) ∙ s in
    digit_and b (b - 1) (suc i) ∙ (λ z. min (s z) (same z))

-- to take the lowest bit away leaves the others
pub bit_remove_lowest : (w b j : ℕ) → 0 < b → b < 2 ^ w → IsBitSet b j → (j ≡ count_trailing_zeros w b → ⊥) → IsBitSet (bit_and b (b - 1)) j
unfolding IsBitSet count_trailing_zeros
bit_remove_lowest zero b j p q s ne = absurd (omega arith)
bit_remove_lowest (suc w) b j p q s ne = others_by b (count_trailing_zeros w (b / 2)) (b % 2) j p refl s ne
    (λ i e. bit_remove_lowest w (b / 2) i (omega arith) (omega arith))

pub no_bit_zero : (k : ℕ) → IsBitSet 0 k → ⊥
unfolding IsBitSet
no_bit_zero k h = let e : ◌≡◌ {A = ℕ} 0 1 = sym (ap (λ n. n % 2) (zero-div (2 ^ k))) ∙ h in omega arith

is_one : (b : Bool) → ◌≡◌ {A = ℕ} (cond b 1 0) 1 → b ≡ true
is_one true h = refl
is_one false h = absurd (omega arith)

-- bit k of the mask of a comparison is the comparison at element k
pub bit_of_mask : (ms : List Bool) (k : ℕ) → IsBitSet (mask_l ms) k → get_or ms k false ≡ true
unfolding IsBitSet
bit_of_mask ms k h = is_one (get_or ms k false) (sym (bit_mask_l ms k) ∙ h)

pub mask_bit : (ms : List Bool) (k : ℕ) → get_or ms k false ≡ true → IsBitSet (mask_l ms) k
unfolding IsBitSet
mask_bit ms k h = bit_mask_l ms k ∙ ap (λ b. cond b 1 0) h

compared_true : (xs : List ℕ) (y k : ℕ) → get_or (map (λ x. eqb x y) xs) k false ≡ true → (k < length xs) × (get_or xs k 0 ≡ y)
compared_true [] y k h = absurd (let e : ◌≡◌ {A = Bool} false true = h in cc)
compared_true (x ∷ xs) y zero h = (omega arith, eqb-true x y h)
compared_true (x ∷ xs) y (suc k) h = let w = compared_true xs y k h in (omega (arith, w.0), w.1)

true_compared : (xs : List ℕ) (y k : ℕ) → k < length xs → get_or xs k 0 ≡ y → get_or (map (λ x. eqb x y) xs) k false ≡ true
true_compared [] y k p e = absurd (omega arith)
true_compared (x ∷ xs) y zero p e = eq-eqb x y e
true_compared (x ∷ xs) y (suc k) p e = true_compared xs y k (omega arith) e

-- the mask of the sixteen elements from i on that equal y
abbrev pub equal_mask : List ℕ → ℕ → ℕ → ℕ
equal_mask xs i y = mask_l (map (top 7) (zip2 (λ a b. cond (eqb a b) 255 0) (chunk i 16 xs) (replicate 16 y))) % 2 ^ 64

pub equal_from_bit : (xs : List ℕ) (i y : ℕ) → i + 16 ≤ length xs → (k : ℕ) → IsBitSet (equal_mask xs i y) k
    → (k < 16) × (get_or xs (i + k) 0 ≡ y)
equal_from_bit xs i y room k h =
    let long = length-chunk i 16 xs room in
    let compared = bitmask_splat w8 (λ a b. eqb a b) (chunk i 16 xs) 16 y long (omega arith) in
    let at = compared_true (chunk i 16 xs) y k (bit_of_mask _ k (subst (λ n. IsBitSet n k) compared h)) in
    let small : k < 16 = omega (arith, at.0, long) in
    (small, sym (get_or-chunk i 16 xs k 0 small) ∙ at.1)

pub bit_from_equal : (xs : List ℕ) (i y : ℕ) → i + 16 ≤ length xs → (k : ℕ) → k < 16 → get_or xs (i + k) 0 ≡ y
    → IsBitSet (equal_mask xs i y) k
bit_from_equal xs i y room k small e =
    let long = length-chunk i 16 xs room in
    let compared = bitmask_splat w8 (λ a b. eqb a b) (chunk i 16 xs) 16 y long (omega arith) in
    subst (λ n. IsBitSet n k) (sym compared) (mask_bit _ k
    (true_compared (chunk i 16 xs) y k (omega (arith, long)) (get_or-chunk i 16 xs k 0 small ∙ e)))
