-- Numbers and their texts.
use Rattle.std.proofs.Common.{◌≡◌, ℕ, zero, suc, ◌<◌, ◌≤◌, ◌^◌, true, false, nat_eq, List, [], ◌∷◌, length, drop, get_or, Result, Ok, Err}
use Rattle.std.proofs.Common.{Option, None, Some, refl, sym, ap, ◌∙◌, subst, arith, inl, inr}
use Rattle.std.specs.Prelude.{ℤ, pos, negsuc, FitsSigned}
use Rattle.std.proofs.Math.IntN.{neg_ℤ}
use Rattle.std.specs.Result.{OkIff, result_ok}
use Rattle.std.specs.Int.{w64}
use Rattle.std.specs.Str.{all_ascii_digits, IsUtf8}
use Rattle.std.specs.Str.Parse.{digits_value, ParsesSigned}
use Rattle.std.specs.Fmt.{decimal, signed_decimal}
use Rattle.std.proofs.lemmas.Bool.{ne_eqb}
use Rattle.std.proofs.lemmas.Str.{IsUtf8-from_ascii}
use Rattle.std.proofs.lemmas.Str.Parse.{IsNumeralModel, numerals_by_value, tells_all_ascii_digits, parse_signed_plain}
use Rattle.std.proofs.lemmas.Str.Parse.{parse_signed_minus, digit_at}
use Rattle.std.proofs.lemmas.Fmt.{digits_decimal, digits_value-decimal, decimal-digits_value, decimal_nonempty, decimal_digit}
use Rattle.std.proofs.lemmas.Fmt.{first_decimal, IsAscii-signed}
use Rattle.multimap_tool.specs.Private.Parts.{IsWithout, StartsANumber, StartsBelowZero, StartsAValue, IsKeyIn, IsKeyOf, IsValueOf}

-- texts of digits, and the numbers that they stand for
abbrev pub AreDigits : List ℕ → Type 0
AreDigits text = all_ascii_digits text ≡ true

pub numerals : IsNumeralModel AreDigits (digits_value 10)
numerals = numerals_by_value AreDigits tells_all_ascii_digits

-- digits have no space among them
digits_without_space : (text : List ℕ) → AreDigits text → IsWithout 32 text
digits_without_space [] digits = refl
digits_without_space (c ∷ text) digits =
    let parts = tells_all_ascii_digits.parts c text digits in
    let apart : nat_eq 32 c ≡ false = ne_eqb 32 c (λ e. omega (arith, e, parts.0.0)) in
    rw apart (digits_without_space text parts.1)

pub decimal_without_space : (n : ℕ) → n < 2 ^ 64 → IsWithout 32 (decimal n)
decimal_without_space n small = digits_without_space (decimal n) (digits_decimal numerals n small)

pub signed_without_space : (z : ℤ) → FitsSigned w64 z → IsWithout 32 (signed_decimal z)
signed_without_space (pos n) fits = decimal_without_space n (omega (arith, fits.sfits))
signed_without_space (negsuc n) fits = decimal_without_space (suc n) (omega (arith, fits.sfits))

-- a number's text begins as it should
decimal_starts : (n : ℕ) → n < 2 ^ 64 → StartsANumber (decimal n)
decimal_starts n small =
    let some = decimal_nonempty n small in
    let first = digit_at (decimal n) 0 (numerals.to (decimal n) (digits_decimal numerals n small)) some in
    record {
      some = some;
      least = first.0;
      greatest = first.1;
      alone = λ zero_first. elim n as (λ m. m < 2 ^ 64 → get_or (decimal m) 0 0 ≡ 48 → length (decimal m) ≡ 1) [
        | zero ↦ λ _ _. ap length (decimal_digit 0 (omega arith))
        | suc m ↦ λ fits first_zero. absurd (omega (arith, first_decimal (suc m) (omega arith) fits, first_zero))
      ] small zero_first;
    }

-- the text of a negative number
negative_starts : (n : ℕ) → n < 2 ^ 63 → StartsBelowZero (45 ∷ decimal (suc n))
negative_starts n small =
    let starts = decimal_starts (suc n) (omega (arith, small)) in
    record {
      some = omega (arith, starts.some);
      sign = refl;
      least = first_decimal (suc n) (omega arith) (omega (arith, small));
      greatest = starts.greatest;
    }

-- different numbers have different texts
pub decimal_same : (m n : ℕ) → m < 2 ^ 64 → n < 2 ^ 64 → decimal m ≡ decimal n → m ≡ n
decimal_same m n small fits same =
    sym (digits_value-decimal numerals m small) ∙ ap (digits_value 10) same ∙ digits_value-decimal numerals n fits

pub signed_same : (v w : ℤ) → FitsSigned w64 v → FitsSigned w64 w → signed_decimal v ≡ signed_decimal w → v ≡ w
signed_same (pos m) (pos n) small fits same =
    ap pos (decimal_same m n (omega (arith, small.sfits)) (omega (arith, fits.sfits)) same)
signed_same (pos m) (negsuc n) small fits same =
    absurd (omega (arith, (decimal_starts m (omega (arith, small.sfits))).least, ap (λ t. get_or t 0 0) same))
signed_same (negsuc m) (pos n) small fits same =
    absurd (omega (arith, (decimal_starts n (omega (arith, fits.sfits))).least, ap (λ t. get_or t 0 0) same))
signed_same (negsuc m) (negsuc n) small fits same =
    let e : suc m ≡ suc n = decimal_same (suc m) (suc n) (omega (arith, small.sfits)) (omega (arith, fits.sfits)) (ap (drop 1) same) in
    ap negsuc (omega (arith, e))

-- a text that begins in neither way, or is no text at all, spells no value
pub no_value : (text : List ℕ) → (StartsAValue text → ⊥) → IsValueOf text None
no_value text otherwise = elim [
  | pos n ↦ λ fits same. otherwise (inl (subst StartsANumber same (decimal_starts n (omega (arith, fits.sfits)))))
  | negsuc n ↦ λ fits same. otherwise (inr (subst StartsBelowZero same (negative_starts n fits.sfits)))
]

pub no_value_text : (text : List ℕ) → (IsUtf8 text → ⊥) → IsValueOf text None
no_value_text text otherwise = λ z fits same. otherwise
    (subst IsUtf8 same (IsUtf8-from_ascii (signed_decimal z) (IsAscii-signed z fits.sfits)))

-- a key is a value from 0 on
pub no_key_in : (text : List ℕ) → IsValueOf text None → IsKeyIn text None
no_key_in text not_value = λ k small same. not_value (pos k) (record { sfits = omega (arith, small) }) same

pub key_in_value : (text : List ℕ) (v : ℤ) (found : Option ℕ) → FitsSigned w64 v → signed_decimal v ≡ text → IsKeyOf v found
    → IsKeyIn text found
key_in_value text v None fits spelled none = λ k small same.
    none k small (signed_same (pos k) v (record { sfits = omega (arith, small) }) fits (same ∙ sym spelled))
key_in_value text v (Some k) fits spelled is = ap signed_decimal is ∙ spelled

-- digits alone are parsed as a number from 0 on
plain_parsed : {E : Type 0} (text : List ℕ) (r : Result ℤ E) → StartsANumber text → ParsesSigned w64 10 text r
    → IsValueOf text (result_ok r)
plain_parsed text r starts parses =
    let read = parse_signed_plain numerals w64 text r parses (λ plus. omega (arith, starts.least, plus))
    (λ minus. omega (arith, starts.least, minus)) in
    elim r as (λ r. OkIff r (AreDigits text × (0 < length text) × (digits_value 10 text < 2 ^ 63)) (pos (digits_value 10 text))
    → IsValueOf text (result_ok r)) [
      | Ok z ↦ λ found. ap signed_decimal found.1 ∙ decimal-digits_value numerals text found.0.0 starts.some starts.alone
          (omega (arith, found.0.2))
      | Err e ↦ λ none. elim [
        | pos n ↦ λ fits same. none (
          subst AreDigits same (digits_decimal numerals n (omega (arith, fits.sfits))),
          starts.some,
          subst (λ ds. digits_value 10 ds < 2 ^ 63) same (rw (digits_value-decimal numerals n (omega (arith, fits.sfits))) fits.sfits),
        )
        | negsuc n ↦ λ fits same. omega (arith, starts.least, ap (λ t. get_or t 0 0) same)
      ]
    ] read

-- and digits behind a minus sign as one below 0
below_zero_parts : (text : List ℕ) → StartsBelowZero text → text ≡ 45 ∷ drop 1 text
below_zero_parts [] starts = absurd (omega (arith, starts.some))
below_zero_parts (c ∷ text) starts = ap (λ d. d ∷ text) starts.sign

below_zero_digits : (text : List ℕ) → StartsBelowZero text → StartsANumber (drop 1 text)
below_zero_digits [] starts = absurd (omega (arith, starts.some))
below_zero_digits (c ∷ text) starts = record {
  some = omega (arith, starts.some);
  least = omega (arith, starts.least);
  greatest = starts.greatest;
  alone = λ zero_first. absurd (omega (arith, starts.least, zero_first));
}

below_zero_first : (text : List ℕ) → StartsBelowZero text → 49 ≤ get_or (drop 1 text) 0 0
below_zero_first [] starts = absurd (omega (arith, starts.some))
below_zero_first (c ∷ text) starts = starts.least

negated : (digits : List ℕ) (n : ℕ) → decimal n ≡ digits → 49 ≤ get_or digits 0 0 → signed_decimal (neg_ℤ (pos n)) ≡ 45 ∷ digits
negated digits zero same first = absurd (omega (arith, first, ap (λ t. get_or t 0 0) (sym same ∙ decimal_digit 0 (omega arith))))
negated digits (suc n) same first = ap (λ t. 45 ∷ t) same

below_zero_parsed : {E : Type 0} (text : List ℕ) (r : Result ℤ E) → StartsBelowZero text → ParsesSigned w64 10 text r
    → IsValueOf text (result_ok r)
below_zero_parsed text r starts parses =
    let digits = drop 1 text in
    let whole : text ≡ 45 ∷ digits = below_zero_parts text starts in
    let number = below_zero_digits text starts in
    let read = parse_signed_minus numerals w64 text r parses starts.sign in
    elim r as (λ r. OkIff r (AreDigits digits × (0 < length digits) × (digits_value 10 digits ≤ 2 ^ 63))
    (neg_ℤ (pos (digits_value 10 digits))) → IsValueOf text (result_ok r)) [
      | Ok z ↦ λ found.
          ap signed_decimal found.1
          ∙ negated digits (digits_value 10 digits) (decimal-digits_value numerals digits found.0.0 number.some number.alone
          (omega (arith, found.0.2))) (below_zero_first text starts)
          ∙ sym whole
      | Err e ↦ λ none. elim [
        | pos n ↦ λ fits same. omega (arith, (decimal_starts n (omega (arith, fits.sfits))).least, ap (λ t. get_or t 0 0) same, starts.sign)
        | negsuc n ↦ λ fits same.
            let spelled : decimal (suc n) ≡ digits = ap (drop 1) same in
            none (
              subst AreDigits spelled (digits_decimal numerals (suc n) (omega (arith, fits.sfits))),
              number.some,
              subst (λ ds. digits_value 10 ds ≤ 2 ^ 63) spelled
                  (rw (digits_value-decimal numerals (suc n) (omega (arith, fits.sfits))) (omega (arith, fits.sfits))),
            )
      ]
    ] read

pub value_parsed : {E : Type 0} (text : List ℕ) (r : Result ℤ E) → StartsAValue text → ParsesSigned w64 10 text r
    → IsValueOf text (result_ok r)
value_parsed text r starts parses = elim starts [
  | inl number ↦ plain_parsed text r number parses
  | inr below ↦ below_zero_parsed text r
      below parses
]
