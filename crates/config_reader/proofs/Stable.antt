-- A line and a value are what they are, whatever stands behind the line feed that ends them.
use Rattle.std.proofs.Common.{◌≡◌, ◌⊎◌, ℕ, suc, ◌+◌, ◌==◌, ◌&&◌, Bool, true, false, ◌||◌, not, cond, List, [], ◌∷◌, ◌++◌}
use Rattle.std.proofs.Common.{refl, sym, ap, ◌∙◌, arith, length, drop, take, Option, Some, None, inl, inr}
use Rattle.std.proofs.lemmas.Bool.{and_parts, eqb-true, true≢false}
use Rattle.std.proofs.Math.Seq.{drop-append-add, take-append_seam}
use Rattle.std.specs.List.{after_first, before_first, list_any, position_or_len}
use Rattle.std.specs.Prelude.{if◌then◌else◌, option_and_then}
use Rattle.config_reader.specs.declared.value.Effect.{Effect}
use Rattle.config_reader.specs.declared.value.Mode.{Mode}
use Rattle.config_reader.specs.declared.value.Mode.TheVariants.{Comment, Gap, Word, WordEscape, WordJoin, Joined, Quotes, QuotesEscape, QuotesJoin}
use Rattle.config_reader.specs.Lines.{is_lined}
use Rattle.config_reader.specs.Names.{Lacks}
use Rattle.config_reader.specs.Values.{affected, ended, ends_value, may_end, read_on, stepped}
use Rattle.config_reader.proofs.Called.{same}
use Rattle.config_reader.proofs.Values.{end_read, step_read}

pub one_more : (n : ℕ) → 1 + n ≡ suc n
one_more n = omega arith

pub two_more : (n : ℕ) → suc n + 1 ≡ suc (n + 1)
two_more n = omega arith

module _ (b : ℕ) where
  abbrev is_it : ℕ → Bool
  is_it c = c == b

  -- what stands in front of the first such byte, and behind it
  length_cut : (front behind : List ℕ) → Lacks b front → position_or_len is_it (front ++ b ∷ behind) ≡ length front
  length_cut [] behind none = rw (same b) refl
  length_cut (c ∷ front) behind none = by (c == b) none (length_cut front behind)
    where
      by : (is : Bool) → (is || list_any is_it front) ≡ false
          → (Lacks b front → position_or_len is_it (front ++ b ∷ behind) ≡ length front)
          → cond (not is) (1 + position_or_len is_it (front ++ b ∷ behind)) 0 ≡ suc (length front)
      by true none later = absurd (true≢false none)
      by false none later = ap (λ n. 1 + n) (later none) ∙ one_more (length front)

  pub before_cut : (front behind : List ℕ) → Lacks b front → before_first is_it (front ++ b ∷ behind) ≡ front
  before_cut front behind none =
      ap (λ i. take i (front ++ b ∷ behind)) (length_cut front behind none) ∙ take-append_seam front (b ∷ behind)

  pub after_cut : (front behind : List ℕ) → Lacks b front → after_first is_it (front ++ b ∷ behind) ≡ behind
  after_cut front behind none =
      ap (λ i. drop (i + 1) (front ++ b ∷ behind)) (length_cut front behind none) ∙ drop-append-add front (b ∷ behind) 1

  -- it is the same, whatever stands behind another one
  pub same_before : (front x : List ℕ) → before_first is_it (front ++ b ∷ x) ≡ before_first is_it front
  same_before [] x = rw (same b) refl
  same_before (c ∷ front) x = by (c == b) (same_before front x)
    where
      by : (is : Bool) → before_first is_it (front ++ b ∷ x) ≡ before_first is_it front
          → take (cond (not is) (1 + position_or_len is_it (front ++ b ∷ x)) 0) (c ∷ (front ++ b ∷ x))
          ≡ take (cond (not is) (1 + position_or_len is_it front) 0) (c ∷ front)
      by true later = refl
      by false later =
          ap (λ i. take i (c ∷ (front ++ b ∷ x))) (one_more (position_or_len is_it (front ++ b ∷ x)))
          ∙ ap (λ t. c ∷ t) later
          ∙ sym (ap (λ i. take i (c ∷ front)) (one_more (position_or_len is_it front)))

-- a rest is there
may_end_before : (mode : Mode) (b c : ℕ) (rest other : List ℕ) → may_end mode (b ∷ rest) ≡ true → may_end mode (c ∷ other) ≡ true
may_end_before Gap b c rest other is = refl
may_end_before Word b c rest other is = refl
may_end_before Joined b c rest other is = refl
may_end_before Comment b c rest other is = refl
may_end_before Quotes b c rest other is = is
may_end_before WordEscape b c rest other is = is
may_end_before WordJoin b c rest other is = is
may_end_before QuotesEscape b c rest other is = is
may_end_before QuotesJoin b c rest other is = is

-- where a text may end, a line may
ends_too : (mode : Mode) (rest : List ℕ) → may_end mode [] ≡ true → (ends_value mode ≡ true) × (may_end mode (10 ∷ rest) ≡ true)
ends_too Gap rest is = (refl, refl)
ends_too Word rest is = (refl, refl)
ends_too Comment rest is = (refl, refl)
ends_too Joined rest is = absurd (true≢false (sym is))
ends_too Quotes rest is = absurd (true≢false (sym is))
ends_too WordEscape rest is = absurd (true≢false (sym is))
ends_too WordJoin rest is = absurd (true≢false (sym is))
ends_too QuotesEscape rest is = absurd (true≢false (sym is))
ends_too QuotesJoin rest is = absurd (true≢false (sym is))

no_some : {X : Type 0} {x : X} {P : Type 0} → None ≡ Some x → P
no_some is = absurd cc

the_step : {X : Type 0} {x y : X} → Some x ≡ Some y → y ≡ x
the_step is = cc

-- a line feed within a value joins a line, which has to be there
wants_more : (mode : Mode) (step : Mode × Effect) → ends_value mode ≡ false → stepped mode 10 ≡ Some step → may_end step.0 [] ≡ false
wants_more Gap step ends is = absurd (true≢false ends)
wants_more Word step ends is = absurd (true≢false ends)
wants_more Comment step ends is = absurd (true≢false ends)
wants_more Joined step ends is = absurd (true≢false ends)
wants_more Quotes step ends is = absurd (true≢false ends)
wants_more WordEscape step ends is = ap (λ s. may_end s.0 []) (the_step is)
wants_more WordJoin step ends is = ap (λ s. may_end s.0 []) (the_step is)
wants_more QuotesEscape step ends is = ap (λ s. may_end s.0 []) (the_step is)
wants_more QuotesJoin step ends is = ap (λ s. may_end s.0 []) (the_step is)

-- a value up to a line feed, or up to the end of the text, where a line feed may be added
pub record IsCut (text cut rest : List ℕ) : Type 0 where
  pub is : (text ≡ cut ++ 10 ∷ rest) ⊎ ((text ≡ cut) × (rest ≡ []) × ((cut ≡ []) ⊎ (is_lined cut ≡ false)))

pub record IsStable (mode : Mode) (value gap text : List ℕ) (r : List ℕ × List ℕ) : Type 0 where
  pub cut : List ℕ
  pub is_cut : IsCut text cut r.1
  pub same : (rest : List ℕ) → read_on mode value gap (cut ++ 10 ∷ rest) ≡ Some (r.0, rest)

pub longer_cut : (b : ℕ) (text cut rest : List ℕ) → IsCut text cut rest → (text ≡ [] → rest ≡ [] → (b == 10) ≡ false) → IsCut (b ∷ text) (b ∷ cut) rest
longer_cut b text cut rest c no_feed = record { is = by c.is }
  where
    last : (cut : List ℕ) → text ≡ cut → rest ≡ [] → (cut ≡ []) ⊎ (is_lined cut ≡ false) → is_lined (b ∷ cut) ≡ false
    last [] same none either = no_feed same none
    last (d ∷ cut) same none (inl is) = absurd (omega (arith, ap length is))
    last (d ∷ cut) same none (inr is) = is

    by : (text ≡ cut ++ 10 ∷ rest) ⊎ ((text ≡ cut) × (rest ≡ []) × ((cut ≡ []) ⊎ (is_lined cut ≡ false)))
        → (b ∷ text ≡ (b ∷ cut) ++ 10 ∷ rest) ⊎ ((b ∷ text ≡ b ∷ cut) × (rest ≡ []) × ((b ∷ cut ≡ []) ⊎ (is_lined (b ∷ cut) ≡ false)))
    by (inl is) = inl (ap (λ t. b ∷ t) is)
    by (inr is) = inr (ap (λ t. b ∷ t) is.0, is.1, inr (last cut is.0 is.1 is.2))

-- what a value is doesn't change with what stands behind it
pub value_stable : (mode : Mode) (value gap text : List ℕ) (r : List ℕ × List ℕ) → read_on mode value gap text ≡ Some r
    → IsStable mode value gap text r
unfolding read_on
value_stable mode value gap [] r is = by (may_end mode []) refl is
  where
    by : (whole : Bool) → may_end mode [] ≡ whole → (if whole then Some (value, []) else None) ≡ Some r → IsStable mode value gap [] r
    by true ends same =
        let parts : (value, []) ≡ r = cc in
        record {
          cut = [];
          is_cut = record { is = inr (refl, sym (ap (λ p. p.1) parts), inl refl) };
          same = λ rest. end_read mode value gap rest (ends_too mode rest ends).0
              ∙ rw (ends_too mode rest ends).1 (ap (λ v. Some (v, rest)) (ap (λ p. p.0) parts));
        }
    by false ends same = absurd cc
value_stable mode value gap (b ∷ text) r is =
    by_end (b == 10 && ends_value mode) refl is
    (λ step. value_stable step.0 (affected step.1 b value gap).0 (affected step.1 b value gap).1 text r)
  where
    by_whole : (whole : Bool) → b ≡ 10 → ends_value mode ≡ true → may_end mode (b ∷ text) ≡ whole
        → (if whole then Some (value, text) else None) ≡ Some r → IsStable mode value gap (b ∷ text) r
    by_whole true feed ends may same =
        let parts : (value, text) ≡ r = cc in
        record {
          cut = [];
          is_cut = record { is = inl (ap (λ first. first ∷ text) feed ∙ ap (λ p. 10 ∷ p.1) parts) };
          same = λ rest. end_read mode value gap rest ends
              ∙ rw (may_end_before mode b 10 text rest may) (ap (λ v. Some (v, rest)) (ap (λ p. p.0) parts));
        }
    by_whole false feed ends may same = absurd cc

    no_feed : (step : Mode × Effect) → (b == 10 && ends_value mode) ≡ false → stepped mode b ≡ Some step → text ≡ [] → r.1 ≡ []
        → read_on step.0 (affected step.1 b value gap).0 (affected step.1 b value gap).1 text ≡ Some r → (b == 10) ≡ false
    no_feed step goes is none end read = by_feed (b == 10) refl goes
      where
        by_feed : (feed : Bool) → (b == 10) ≡ feed → (feed && ends_value mode) ≡ false → feed ≡ false
        by_feed true feed ends =
            let stuck : may_end step.0 [] ≡ false = wants_more mode step ends (ap (stepped mode) (sym (eqb-true b 10 feed)) ∙ is) in
            let nothing : ended step.0 (affected step.1 b value gap).0 [] ≡ None = rw stuck refl in
            let at_end = ap (read_on step.0 (affected step.1 b value gap).0 (affected step.1 b value gap).1) (sym none) ∙ read in
            absurd (no_some (sym nothing ∙ at_end))
        by_feed false feed ends = refl

    by_step : (step : Option (Mode × Effect)) → stepped mode b ≡ step → (b == 10 && ends_value mode) ≡ false
        → option_and_then (λ step. read_on step.0 (affected step.1 b value gap).0 (affected step.1 b value gap).1 text) step ≡ Some r
        → ((step : Mode × Effect) → read_on step.0 (affected step.1 b value gap).0 (affected step.1 b value gap).1 text ≡ Some r
        → IsStable step.0 (affected step.1 b value gap).0 (affected step.1 b value gap).1 text r)
        → IsStable mode value gap (b ∷ text) r
    by_step None is goes same later = absurd cc
    by_step (Some step) is goes same later =
        let behind = later step same in
        record {
          cut = b ∷ behind.cut;
          is_cut = longer_cut b text behind.cut r.1 behind.is_cut (λ none end. no_feed step goes is none end same);
          same = λ rest. step_read mode value gap b (behind.cut ++ 10 ∷ rest) step goes is ∙ behind.same rest;
        }

    by_end : (ends : Bool) → (b == 10 && ends_value mode) ≡ ends
        → (if ends then ended mode value (b ∷ text) else
        option_and_then (λ step. read_on step.0 (affected step.1 b value gap).0 (affected step.1 b value gap).1 text) (stepped mode b)) ≡ Some r
        → ((step : Mode × Effect) → read_on step.0 (affected step.1 b value gap).0 (affected step.1 b value gap).1 text ≡ Some r
        → IsStable step.0 (affected step.1 b value gap).0 (affected step.1 b value gap).1 text r)
        → IsStable mode value gap (b ∷ text) r
    by_end true ends same later =
        let both = and_parts (b == 10) (ends_value mode) ends in
        by_whole (may_end mode (b ∷ text)) (eqb-true b 10 both.0) both.1 refl same
    by_end false ends same later = by_step (stepped mode b) refl ends same later
