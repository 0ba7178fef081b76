-- A value that is read of a text is a text.
use Rattle.std.proofs.Common.{◌≡◌, ◌⊎◌, ℕ, ◌<◌, ◌-◌, ◌==◌, ◌&&◌, ◌||◌, Bool, true, false, List, [], ◌∷◌, ◌++◌}
use Rattle.std.proofs.Common.{append_assoc, append-nil, refl, sym, ap, subst, ◌∙◌, arith, length, length-append, Option, Some, None, inl}
use Rattle.std.proofs.Common.{inr}
use Rattle.std.proofs.lemmas.Bool.{and_parts, eqb-true, true≢false}
use Rattle.std.proofs.lemmas.Bool.Decides.{nat_tests}
use Rattle.std.proofs.lemmas.Str.{IsCharBoundary-at_seam, IsCharBoundary-end, IsUtf8-append}
use Rattle.std.specs.Prelude.{if◌then◌else◌, option_and_then, IfSome, IsUtf8}
use Rattle.std.specs.Str.{IsCharBoundary}
use Rattle.config_reader.specs.declared.value.Effect.{Effect}
use Rattle.config_reader.specs.declared.value.Effect.TheVariants.{Add, Blank, Keep, Skip}
use Rattle.config_reader.specs.declared.value.Mode.{Mode}
use Rattle.config_reader.specs.declared.value.Mode.TheVariants.{Comment, Gap, Word, WordEscape, WordJoin, Joined, Quotes, QuotesEscape}
use Rattle.config_reader.specs.declared.value.Mode.TheVariants.{QuotesJoin}
use Rattle.config_reader.specs.Values.{affected, ended, ends_value, is_blank, is_mark, may_end, read_on, step_in_escape, step_in_plain}
use Rattle.config_reader.specs.Values.{step_in_quotes, stepped, value_read}
use Rattle.config_reader.proofs.Texts.{BeginsSmall, front_text, one_byte, utf8_before, utf8_behind, without}
use Rattle.config_reader.proofs.Values.{read_behind}

-- the value, the blanks behind it and the rest are a text
record IsText (value gap rest : List ℕ) : Type 0 where
  all : IsUtf8 ((value ++ gap) ++ rest)
  blank : BeginsSmall gap

value_text : (value gap rest : List ℕ) → IsText value gap rest → BeginsSmall rest → IsUtf8 value
value_text value gap rest is small = front_text value gap (front_text (value ++ gap) rest is.all small) is.blank

-- a byte goes from the rest to the value, or to the blanks
moved : (value gap : List ℕ) (b : ℕ) (rest : List ℕ) → (value ++ gap) ++ b ∷ rest ≡ (value ++ (gap ++ b ∷ [])) ++ rest
moved value gap b rest =
    sym (append_assoc (value ++ gap) (b ∷ []) rest) ∙ ap (λ t. t ++ rest) (append_assoc value gap (b ∷ []))

kept : (front : List ℕ) (b : ℕ) (rest : List ℕ) → front ++ b ∷ rest ≡ ((front ++ b ∷ []) ++ []) ++ rest
kept front b rest = sym (append_assoc front (b ∷ []) rest) ∙ ap (λ t. t ++ rest) (sym (append-nil (front ++ b ∷ [])))

begins_too : (gap : List ℕ) (b : ℕ) → BeginsSmall gap → b < 128 → BeginsSmall (gap ++ b ∷ [])
begins_too [] b begins small = small
begins_too (c ∷ gap) b begins small = begins

abbrev IsSmall : Effect → Type 0
IsSmall (Add c) = c < 128
IsSmall Skip = Unit {0}
IsSmall Blank = Unit {0}
IsSmall Keep = Unit {0}

effect_text : (effect : Effect) (b : ℕ) (value gap rest : List ℕ) → b < 128 → IsSmall effect → IsText value gap (b ∷ rest)
    → IsText (affected effect b value gap).0 (affected effect b value gap).1 rest
effect_text Skip b value gap rest small fits is = record { all = without (value ++ gap) b rest is.all small; blank = is.blank }
effect_text Blank b [] gap rest small fits is = record { all = without gap b rest is.all small; blank = is.blank }
effect_text Blank b (first ∷ value) gap rest small fits is = record {
  all = subst IsUtf8 (moved (first ∷ value) gap b rest) is.all;
  blank = begins_too gap b is.blank small;
}
effect_text Keep b value gap rest small fits is = record {
  all = subst (λ t. IsUtf8 (t ++ rest)) (sym (append-nil (value ++ gap))) (without (value ++ gap) b rest is.all small);
  blank = tt;
}
effect_text (Add c) b value gap rest small fits is = record {
  all = subst (λ t. IsUtf8 (t ++ rest)) (sym (append-nil ((value ++ gap) ++ c ∷ [])))
      (IsUtf8-append ((value ++ gap) ++ c ∷ []) rest
      (IsUtf8-append (value ++ gap) (c ∷ []) (utf8_before (value ++ gap) b rest is.all small) (one_byte c fits))
      (utf8_behind (value ++ gap) b rest is.all small));
  blank = tt;
}

own_text : (b : ℕ) (value gap rest : List ℕ) → IsText value gap (b ∷ rest) → IsText ((value ++ gap) ++ b ∷ []) [] rest
own_text b value gap rest is = record { all = subst IsUtf8 (kept (value ++ gap) b rest) is.all; blank = tt }

abbrev is_comment : Mode → Bool
is_comment Comment = true
is_comment Gap = false
is_comment Word = false
is_comment Joined = false
is_comment Quotes = false
is_comment WordEscape = false
is_comment WordJoin = false
is_comment QuotesEscape = false
is_comment QuotesJoin = false

-- an ASCII byte that has an effect, or any byte that is kept as it is
abbrev IsStep : ℕ → Mode × Effect → Type 0
IsStep b step =
    ((b < 128) × IsSmall step.1 × (is_comment step.0 ≡ true → step.1 ≡ Skip))
    ⊎ ((step.1 ≡ Add b) × (is_comment step.0 ≡ false))

small_of : (b c : ℕ) → c < 128 → (b == c) ≡ true → b < 128
small_of b c small is = omega (arith, small, eqb-true b c is)

blank_small : (b : ℕ) → is_blank b ≡ true → b < 128
blank_small b is = grind (arith, nat_tests)

mark_small : (b : ℕ) → is_mark b ≡ true → b < 128
mark_small b is = grind (arith, nat_tests)

no_comment : {P : Type 0} → false ≡ true → P
no_comment is = absurd (true≢false (sym is))

plain_step : (b : ℕ) → IsStep b (step_in_plain b)
plain_step b = by (b == 34) refl (b == 92) refl (is_blank b) refl
  where
    by : (quote : Bool) → (b == 34) ≡ quote → (backslash : Bool) → (b == 92) ≡ backslash → (blank : Bool) → is_blank b ≡ blank
        → IsStep b (if quote then (Quotes, Keep) else if backslash then (WordEscape, Keep) else if blank then (Gap, Blank) else
        (Word, Add b))
    by true is backslash k blank w = inl (small_of b 34 (omega arith) is, tt, no_comment)
    by false is true k blank w = inl (small_of b 92 (omega arith) k, tt, no_comment)
    by false is false k true w = inl (blank_small b w, tt, no_comment)
    by false is false k false w = inr (refl, refl)

quotes_step : (b : ℕ) → IsStep b (step_in_quotes b)
quotes_step b = by (b == 34) refl (b == 92) refl
  where
    by : (quote : Bool) → (b == 34) ≡ quote → (backslash : Bool) → (b == 92) ≡ backslash
        → IsStep b (if quote then (Word, Skip) else if backslash then (QuotesEscape, Skip) else (Quotes, Add b))
    by true is backslash k = inl (small_of b 34 (omega arith) is, tt, no_comment)
    by false is true k = inl (small_of b 92 (omega arith) k, tt, no_comment)
    by false is false k = inr (refl, refl)

the_step : {step other : Mode × Effect} → Some other ≡ Some step → other ≡ step
the_step is = cc

no_step : {step : Mode × Effect} {P : Type 0} → None ≡ Some step → P
no_step is = absurd cc

-- a line feed or a carriage return behind a backslash
join_step : (b c : ℕ) (mode : Mode) (other : Option (Mode × Effect)) (step : Mode × Effect) → c < 128 → is_comment mode ≡ false
    → (other ≡ Some step → IsStep b step) → (if b == c then Some (mode, Skip) else other) ≡ Some step → IsStep b step
join_step b c mode other step small comment later = by (b == c) refl
  where
    by : (is : Bool) → (b == c) ≡ is → (if is then Some (mode, Skip) else other) ≡ Some step → IsStep b step
    by true same is = subst (IsStep b) (the_step is) (inl (small_of b c small same, tt, λ _. refl))
    by false same is = later is

-- an escape stands for an ASCII byte
escape_step : (mode : Mode) (b : ℕ) (step : Mode × Effect) → is_comment mode ≡ false → step_in_escape mode b ≡ Some step → IsStep b step
escape_step mode b step comment = by (b == 34 || b == 92) refl (b == 110) refl (b == 116) refl (b == 98) refl
  where
    adds : (c : ℕ) → b < 128 → c < 128 → Some (mode, Add c) ≡ Some step → IsStep b step
    adds c small fits is = subst (IsStep b) (the_step is) (inl (small, fits, λ now. absurd (true≢false (sym now ∙ comment))))

    either_small : (b == 34 || b == 92) ≡ true → b < 128
    either_small is = grind (arith, nat_tests)

    by : (own : Bool) → (b == 34 || b == 92) ≡ own → (feed : Bool) → (b == 110) ≡ feed → (tab : Bool) → (b == 116) ≡ tab
        → (back : Bool) → (b == 98) ≡ back
        → (if own then Some (mode, Add b) else if feed then Some (mode, Add 10) else if tab then Some (mode, Add 9) else
        if back then Some (mode, Add 8) else None) ≡ Some step → IsStep b step
    by true o feed f tab t back k is = adds b (either_small o) (either_small o) is
    by false o true f tab t back k is = adds 10 (small_of b 110 (omega arith) f) (omega arith) is
    by false o false f true t back k is = adds 9 (small_of b 116 (omega arith) t) (omega arith) is
    by false o false f false t true k is = adds 8 (small_of b 98 (omega arith) k) (omega arith) is
    by false o false f false t false k is = no_step is

word_step : (b : ℕ) (step : Mode × Effect) → (if is_mark b then None else Some (step_in_plain b)) ≡ Some step → IsStep b step
word_step b step = by (is_mark b)
  where
    by : (mark : Bool) → (if mark then None else Some (step_in_plain b)) ≡ Some step → IsStep b step
    by true same = no_step same
    by false same = subst (IsStep b) (the_step same) (plain_step b)

step_is : (mode : Mode) (b : ℕ) (step : Mode × Effect) → is_comment mode ≡ false → stepped mode b ≡ Some step → IsStep b step
step_is Comment b step none is = absurd (true≢false none)
step_is Gap b step none is = by (is_mark b) refl is
  where
    by : (mark : Bool) → is_mark b ≡ mark → (if mark then Some (Comment, Skip) else Some (step_in_plain b)) ≡ Some step → IsStep b step
    by true m same = subst (IsStep b) (the_step same) (inl (mark_small b m, tt, λ _. refl))
    by false m same = subst (IsStep b) (the_step same) (plain_step b)
step_is Word b step none is = word_step b step is
step_is Joined b step none is = word_step b step is
step_is Quotes b step none is = subst (IsStep b) (the_step is) (quotes_step b)
step_is WordEscape b step none is =
    join_step b 13 WordJoin (if b == 10 then Some (Joined, Skip) else step_in_escape Word b) step (omega arith) refl
    (join_step b 10 Joined (step_in_escape Word b) step (omega arith) refl (escape_step Word b step refl)) is
step_is WordJoin b step none is = join_step b 10 Joined None step (omega arith) refl no_step is
step_is QuotesEscape b step none is =
    join_step b 13 QuotesJoin (if b == 10 then Some (Quotes, Skip) else step_in_escape Quotes b) step (omega arith) refl
    (join_step b 10 Quotes (step_in_escape Quotes b) step (omega arith) refl (escape_step Quotes b step refl)) is
step_is QuotesJoin b step none is = join_step b 10 Quotes None step (omega arith) refl no_step is

-- so much is known of what is read: of a comment only that the value is a text
abbrev IsRead : Bool → List ℕ → List ℕ → List ℕ → Type 0
IsRead true value gap rest = IsUtf8 value
IsRead false value gap rest = IsText value gap rest

read_ends : (comment : Bool) (value gap rest : List ℕ) → IsRead comment value gap rest → BeginsSmall rest → IsUtf8 value
read_ends true value gap rest is small = is
read_ends false value gap rest is small = value_text value gap rest is small

in_comment : (mode : Mode) (b : ℕ) (step : Mode × Effect) → is_comment mode ≡ true → stepped mode b ≡ Some step → step ≡ (Comment, Skip)
in_comment Comment b step is same = sym (the_step same)
in_comment Gap b step is same = no_comment is
in_comment Word b step is same = no_comment is
in_comment Joined b step is same = no_comment is
in_comment Quotes b step is same = no_comment is
in_comment WordEscape b step is same = no_comment is
in_comment WordJoin b step is same = no_comment is
in_comment QuotesEscape b step is same = no_comment is
in_comment QuotesJoin b step is same = no_comment is

step_text : (step : Mode × Effect) (b : ℕ) (value gap rest : List ℕ) → IsStep b step → IsText value gap (b ∷ rest)
    → IsRead (is_comment step.0) (affected step.1 b value gap).0 (affected step.1 b value gap).1 rest
step_text step b value gap rest (inl known) is = by (is_comment step.0) known.2
  where
    by : (comment : Bool) → (comment ≡ true → step.1 ≡ Skip)
        → IsRead comment (affected step.1 b value gap).0 (affected step.1 b value gap).1 rest
    by true skips = subst (λ e. IsUtf8 (affected e b value gap).0) (sym (skips refl)) (value_text value gap (b ∷ rest) is known.0)
    by false skips = effect_text step.1 b value gap rest known.0 known.1 is
step_text step b value gap rest (inr known) is =
    subst (λ c. IsRead c (affected step.1 b value gap).0 (affected step.1 b value gap).1 rest) (sym known.1)
    (subst (λ e. IsText (affected e b value gap).0 (affected e b value gap).1 rest) (sym known.0) (own_text b value gap rest is))

next_read : (mode : Mode) (b : ℕ) (step : Mode × Effect) (value gap rest : List ℕ) → stepped mode b ≡ Some step
    → IsRead (is_comment mode) value gap (b ∷ rest)
    → IsRead (is_comment step.0) (affected step.1 b value gap).0 (affected step.1 b value gap).1 rest
next_read mode b step value gap rest is = by (is_comment mode) refl
  where
    by : (comment : Bool) → is_comment mode ≡ comment → IsRead comment value gap (b ∷ rest)
        → IsRead (is_comment step.0) (affected step.1 b value gap).0 (affected step.1 b value gap).1 rest
    by true comment read =
        subst (λ s. IsRead (is_comment s.0) (affected s.1 b value gap).0 (affected s.1 b value gap).1 rest)
        (sym (in_comment mode b step comment is)) read
    by false comment read = step_text step b value gap rest (step_is mode b step comment is) read

value_utf8 : (mode : Mode) (value gap text : List ℕ) (r : List ℕ × List ℕ) → IsRead (is_comment mode) value gap text
    → read_on mode value gap text ≡ Some r → IsUtf8 r.0
unfolding read_on
value_utf8 mode value gap [] r is read = by (may_end mode []) read
  where
    by : (whole : Bool) → (if whole then Some (value, []) else None) ≡ Some r → IsUtf8 r.0
    by true same =
        let parts : (value, []) ≡ r = cc in
        subst IsUtf8 (ap (λ p. p.0) parts) (read_ends (is_comment mode) value gap [] is tt)
    by false same = absurd cc
value_utf8 mode value gap (b ∷ text) r is read =
    by_end (b == 10 && ends_value mode) refl read
    (λ step known. value_utf8 step.0 (affected step.1 b value gap).0 (affected step.1 b value gap).1 text r
    (next_read mode b step value gap text known is))
  where
    by_whole : (whole : Bool) → b < 128 → (if whole then Some (value, text) else None) ≡ Some r → IsUtf8 r.0
    by_whole true small same =
        let parts : (value, text) ≡ r = cc in
        subst IsUtf8 (ap (λ p. p.0) parts) (read_ends (is_comment mode) value gap (b ∷ text) is small)
    by_whole false small same = absurd cc

    by_step : (step : Option (Mode × Effect)) → stepped mode b ≡ step
        → option_and_then (λ step. read_on step.0 (affected step.1 b value gap).0 (affected step.1 b value gap).1 text) step ≡ Some r
        → ((step : Mode × Effect) → stepped mode b ≡ Some step
        → read_on step.0 (affected step.1 b value gap).0 (affected step.1 b value gap).1 text ≡ Some r → IsUtf8 r.0)
        → IsUtf8 r.0
    by_step None known same later = absurd cc
    by_step (Some step) known same later = later step known same

    by_end : (ends : Bool) → (b == 10 && ends_value mode) ≡ ends
        → (if ends then ended mode value (b ∷ text) else
        option_and_then (λ step. read_on step.0 (affected step.1 b value gap).0 (affected step.1 b value gap).1 text)
        (stepped mode b)) ≡ Some r
        → ((step : Mode × Effect) → stepped mode b ≡ Some step
        → read_on step.0 (affected step.1 b value gap).0 (affected step.1 b value gap).1 text ≡ Some r → IsUtf8 r.0)
        → IsUtf8 r.0
    by_end true ends same later =
        by_whole (may_end mode (b ∷ text)) (small_of b 10 (omega arith) (and_parts (b == 10) (ends_value mode) ends).0) same
    by_end false ends same later = by_step (stepped mode b) refl same later

-- what is no text is read of no text
pub none_read : (text : List ℕ) → IsUtf8 text → IfSome (value_read text) (λ r. ¬ IsUtf8 r.0) → value_read text ≡ None
none_read text utf8 bad = by (value_read text) refl bad
  where
    by : (read : Option (List ℕ × List ℕ)) → value_read text ≡ read → IfSome read (λ r. ¬ IsUtf8 r.0) → read ≡ None
    by None same bad = refl
    by (Some r) same bad = absurd (bad (value_utf8 Gap [] [] text r (record { all = utf8; blank = tt }) same))

-- behind the last line of a value a character begins
pub value_boundary : (text value behind : List ℕ) → IsUtf8 text → value_read text ≡ Some (value, behind)
    → IsCharBoundary text (length text - length behind)
value_boundary text value behind utf8 read = by (read_behind Gap [] [] text (value, behind) read)
  where
    by : ((before : List ℕ) × (text ≡ before ++ 10 ∷ behind)) ⊎ (behind ≡ []) → IsCharBoundary text (length text - length behind)
    by (inl found) =
        let lines : List ℕ = found.0 ++ 10 ∷ [] in
        let is : text ≡ lines ++ behind = found.1 ∙ sym (append_assoc found.0 (10 ∷ []) behind) in
        let place : length text - length behind ≡ length lines = omega (arith, ap length is, length-append lines behind) in
        subst (IsCharBoundary text) (sym place)
        (IsCharBoundary-at_seam text lines behind is (utf8_behind found.0 10 behind (subst IsUtf8 found.1 utf8) (omega arith)))
    by (inr none) =
        let place : length text - length behind ≡ length text = omega (arith, ap length none) in
        subst (IsCharBoundary text) (sym place) (IsCharBoundary-end text)
