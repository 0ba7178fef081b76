-- The text in front of what is left without the white space at the start.
use Rattle.std.proofs.Common.{◌≡◌, ◌≢◌, ℕ, ◌+◌, ◌-◌, ◌==◌, List, [], ◌++◌, drop, length, take}
use Rattle.std.proofs.Common.{refl, sym, ap, ◌∙◌, subst, inl, inr, arith}
use Rattle.std.proofs.Common.{Option, Some, None, unwrap_or, MatchOption}
use Rattle.std.proofs.lemmas.Bool.{cases_lt}
use Rattle.std.proofs.lemmas.List.{length-drop, take-append-drop, take_all}
use Rattle.std.proofs.lemmas.List.Folds.{list_any-append}
use Rattle.std.specs.List.{list_any}
use Rattle.std.specs.Borrow.{Bor}
use Rattle.std.specs.Str.{IsTrimStart}
use Rattle.std.specs.Str.Pattern.{FindsTextSuffix, StripsSuffix}
use Rattle.config_reader.specs.Blocks.{IsBlank}
use Rattle.config_reader.specs.Names.{Lacks}
use Rattle.config_reader.proofs.Values.{or_false}

lacks_taken : (b n : ℕ) (text : List ℕ) → Lacks b text → Lacks b (take n text)
lacks_taken b n text lacks =
    (or_false (list_any (λ c. c == b) (take n text)) (list_any (λ c. c == b) (drop n text))
    (sym (list_any-append (λ c. c == b) (take n text) (drop n text)) ∙ ap (list_any (λ c. c == b)) (take-append-drop n text) ∙ lacks)).0

lacks_dropped : (b n : ℕ) (text : List ℕ) → Lacks b text → Lacks b (drop n text)
lacks_dropped b n text lacks =
    (or_false (list_any (λ c. c == b) (take n text)) (list_any (λ c. c == b) (drop n text))
    (sym (list_any-append (λ c. c == b) (take n text) (drop n text)) ∙ ap (list_any (λ c. c == b)) (take-append-drop n text) ∙ lacks)).1

-- a part of a text lacks what the text lacks
pub lacks_part : (b n m : ℕ) (text : List ℕ) → Lacks b text → Lacks b (take m (drop n text))
lacks_part b n m text lacks = lacks_taken b m (drop n text) (lacks_dropped b n text lacks)

pub none_blank : IsBlank []
none_blank = ([], refl, tt)

same_front : (s : List ℕ) (n m : ℕ) → m ≡ length s - n → take (length s - m) s ≡ take n s
same_front s n m is =
    elim (cases_lt n (length s)) [
      | inl less ↦ ap (λ k. take k s) (omega (arith, is, less))
      | inr more ↦ take_all (length s - m) s (omega (arith, is, more)) ∙ sym (take_all n s more)
    ]

blank_front : (s r : List ℕ) → IsTrimStart s r → IsBlank (take (length s - length r) s)
blank_front s r trim =
    subst IsBlank (sym (same_front s trim.0 (length r) (ap length trim.1 ∙ length-drop trim.0 s)))
    trim.2

pub blank_stripped : (P : Type 0) (s r : List ℕ) → IsTrimStart s r → (found : Option (Bor (List ℕ)))
    (none : Bor (List ℕ)) → none.now ≡ []
    → MatchOption found P (λ front. StripsSuffix (FindsTextSuffix r) s front.now)
    → IsBlank (unwrap_or found none).now
blank_stripped P s r trim None none empty is = subst IsBlank (sym empty) none_blank
blank_stripped P s r trim (Some front) none empty is =
    subst IsBlank (sym (is.2 ∙ ap (λ n. take (length s - n) s) is.1.0)) (blank_front s r trim)

-- what is taken off the end of a text, and what stays
module _ (s r : List ℕ) (trim : IsTrimStart s r) (found : Option (Bor (List ℕ))) (none : Bor (List ℕ))
    (is : MatchOption found ((front : List ℕ) → s ≢ front ++ r) (λ front. StripsSuffix (FindsTextSuffix r) s front.now)) where
  pub length_stripped : (result : Bor (List ℕ)) → result ≡ unwrap_or found none → length result.now + length r ≡ length s
  length_stripped result same = ap (λ (front : Bor (List ℕ)). length front.now + length r) same ∙ by found is
    where
      by : (found : Option (Bor (List ℕ)))
          → MatchOption found ((front : List ℕ) → s ≢ front ++ r) (λ front. StripsSuffix (FindsTextSuffix r) s front.now)
          → length (unwrap_or found none).now + length r ≡ length s
      by None is = absurd (is (take trim.0 s) (sym (take-append-drop trim.0 s) ∙ ap (λ t. take trim.0 s ++ t) (sym trim.1)))
      by (Some front) is = omega (arith, is.3, is.1.0)

  pub lacks_stripped : (result : Bor (List ℕ)) → result ≡ unwrap_or found none → (b : ℕ) → Lacks b s → Lacks b result.now
  lacks_stripped result same b lacks = subst (λ (front : Bor (List ℕ)). Lacks b front.now) (sym same) (by found is)
    where
      by : (found : Option (Bor (List ℕ)))
          → MatchOption found ((front : List ℕ) → s ≢ front ++ r) (λ front. StripsSuffix (FindsTextSuffix r) s front.now)
          → Lacks b (unwrap_or found none).now
      by None is = absurd (is (take trim.0 s) (sym (take-append-drop trim.0 s) ∙ ap (λ t. take trim.0 s ++ t) (sym trim.1)))
      by (Some front) is = subst (Lacks b) (sym is.2) (lacks_taken b (length s - is.0) s lacks)
