-- A value that is not read is not read with a line feed behind it, either.
use Rattle.std.proofs.Common.{◌≡◌, ℕ, ◌+◌, ◌==◌, ◌&&◌, ◌||◌, Bool, true, false, List, [], ◌∷◌, ◌++◌}
use Rattle.std.proofs.Common.{refl, sym, ap, ◌∙◌, Option, Some, None}
use Rattle.std.proofs.lemmas.Bool.{true≢false}
use Rattle.std.specs.Prelude.{if◌then◌else◌, option_and_then}
use Rattle.config_reader.specs.declared.value.Effect.{Effect}
use Rattle.config_reader.specs.declared.value.Effect.TheVariants.{Add, Blank, Keep, Skip}
use Rattle.config_reader.specs.declared.value.Mode.{Mode}
use Rattle.config_reader.specs.declared.value.Mode.TheVariants.{Comment, Gap, Word, WordEscape, WordJoin, Joined, Quotes, QuotesEscape}
use Rattle.config_reader.specs.declared.value.Mode.TheVariants.{QuotesJoin}
use Rattle.config_reader.specs.Lines.{is_lined}
use Rattle.config_reader.specs.Values.{affected, ended, ends_value, is_blank, is_mark, may_end, read_on, step_in_escape, step_in_plain}
use Rattle.config_reader.specs.Values.{step_in_quotes, stepped, value_read}

pub none_is : {X : Type 0} {x : X} {P : Type 0} → Some x ≡ None → P
none_is is = absurd cc

-- whether a value may end doesn't depend on the bytes behind it
same_end : (mode : Mode) (b : ℕ) (rest other : List ℕ) → may_end mode (b ∷ rest) ≡ may_end mode (b ∷ other)
same_end Gap b rest other = refl
same_end Word b rest other = refl
same_end Joined b rest other = refl
same_end Comment b rest other = refl
same_end Quotes b rest other = refl
same_end WordEscape b rest other = refl
same_end WordJoin b rest other = refl
same_end QuotesEscape b rest other = refl
same_end QuotesJoin b rest other = refl

abbrev is_joined : Mode → Bool
is_joined Joined = true
is_joined Gap = false
is_joined Word = false
is_joined Comment = false
is_joined Quotes = false
is_joined WordEscape = false
is_joined WordJoin = false
is_joined QuotesEscape = false
is_joined QuotesJoin = false

abbrev joins : Mode × Effect → Bool
joins step = is_joined step.0

-- a value that may not end with the text may not end with a line feed, either
no_end : (mode : Mode) (value gap : List ℕ) → is_joined mode ≡ false → may_end mode [] ≡ false → read_on mode value gap (10 ∷ []) ≡ None
unfolding read_on
no_end Gap value gap other none = absurd (true≢false none)
no_end Word value gap other none = absurd (true≢false none)
no_end Comment value gap other none = absurd (true≢false none)
no_end Joined value gap other none = absurd (true≢false other)
no_end Quotes value gap other none = refl
no_end WordEscape value gap other none = refl
no_end WordJoin value gap other none = refl
no_end QuotesEscape value gap other none = refl
no_end QuotesJoin value gap other none = refl

the_step : {step other : Mode × Effect} → Some other ≡ Some step → step ≡ other
the_step is = cc

no_step : {step : Mode × Effect} {P : Type 0} → None ≡ Some step → P
no_step is = absurd cc

plain_not_joined : (b : ℕ) → is_joined (step_in_plain b).0 ≡ false
plain_not_joined b = by (b == 34) (b == 92) (is_blank b)
  where
    by : (quote backslash blank : Bool)
        → joins (if quote then (Quotes, Keep) else if backslash then (WordEscape, Keep) else if blank then (Gap, Blank) else
        (Word, Add b)) ≡ false
    by true backslash blank = refl
    by false true blank = refl
    by false false true = refl
    by false false false = refl

word_not_joined : (b : ℕ) (step : Mode × Effect) → (if is_mark b then None else Some (step_in_plain b)) ≡ Some step
    → is_joined step.0 ≡ false
word_not_joined b step = by (is_mark b)
  where
    by : (mark : Bool) → (if mark then None else Some (step_in_plain b)) ≡ Some step → is_joined step.0 ≡ false
    by true same = no_step same
    by false same = ap (λ s. is_joined s.0) (the_step same) ∙ plain_not_joined b

quotes_not_joined : (b : ℕ) → is_joined (step_in_quotes b).0 ≡ false
quotes_not_joined b = by (b == 34) (b == 92)
  where
    by : (quote backslash : Bool) → joins (if quote then (Word, Skip) else if backslash then (QuotesEscape, Skip) else
        (Quotes, Add b)) ≡ false
    by true backslash = refl
    by false true = refl
    by false false = refl

escape_not_joined : (mode : Mode) (b : ℕ) (step : Mode × Effect) → is_joined mode ≡ false → step_in_escape mode b ≡ Some step
    → is_joined step.0 ≡ false
escape_not_joined mode b step none = by (b == 34 || b == 92) (b == 110) (b == 116) (b == 98)
  where
    stays : (effect : Effect) → Some (mode, effect) ≡ Some step → is_joined step.0 ≡ false
    stays effect is = ap (λ s. is_joined s.0) (the_step is) ∙ none

    by : (own feed tab back : Bool)
        → (if own then Some (mode, Add b) else if feed then Some (mode, Add 10) else if tab then Some (mode, Add 9) else
        if back then Some (mode, Add 8) else None) ≡ Some step → is_joined step.0 ≡ false
    by true feed tab back is = stays (Add b) is
    by false true tab back is = stays (Add 10) is
    by false false true back is = stays (Add 9) is
    by false false false true is = stays (Add 8) is
    by false false false false is = no_step is

by_feed : (b : ℕ) (feeds : Mode) (other : Option (Mode × Effect)) (step : Mode × Effect) → (b == 10) ≡ false
    → (other ≡ Some step → is_joined step.0 ≡ false)
    → (if b == 10 then Some (feeds, Skip) else other) ≡ Some step → is_joined step.0 ≡ false
by_feed b feeds other step none later = by (b == 10) none
  where
    by : (feed : Bool) → feed ≡ false → (if feed then Some (feeds, Skip) else other) ≡ Some step → is_joined step.0 ≡ false
    by true none is = absurd (true≢false none)
    by false none is = later is

no_join : (b : ℕ) (returns feeds : Mode) (other : Option (Mode × Effect)) (step : Mode × Effect) → (b == 10) ≡ false
    → is_joined returns ≡ false
    → (other ≡ Some step → is_joined step.0 ≡ false)
    → (if b == 13 then Some (returns, Skip) else if b == 10 then Some (feeds, Skip) else other) ≡ Some step → is_joined step.0 ≡ false
no_join b returns feeds other step none joins later = by (b == 13)
  where
    by : (return : Bool) → (if return then Some (returns, Skip) else if b == 10 then Some (feeds, Skip) else other) ≡ Some step
        → is_joined step.0 ≡ false
    by true is = ap (λ s. is_joined s.0) (the_step is) ∙ joins
    by false is = by_feed b feeds other step none later is

-- only a line feed joins a line
not_joined : (mode : Mode) (b : ℕ) (step : Mode × Effect) → (b == 10) ≡ false → stepped mode b ≡ Some step → is_joined step.0 ≡ false
not_joined Comment b step other is = ap (λ s. is_joined s.0) (the_step is)
not_joined Gap b step other is = by (is_mark b) is
  where
    by : (mark : Bool) → (if mark then Some (Comment, Skip) else Some (step_in_plain b)) ≡ Some step → is_joined step.0 ≡ false
    by true same = ap (λ s. is_joined s.0) (the_step same)
    by false same = ap (λ s. is_joined s.0) (the_step same) ∙ plain_not_joined b
not_joined Word b step other is = word_not_joined b step is
not_joined Joined b step other is = word_not_joined b step is
not_joined Quotes b step other is = ap (λ s. is_joined s.0) (the_step is) ∙ quotes_not_joined b
not_joined WordEscape b step other is = no_join b WordJoin Joined (step_in_escape Word b) step other refl
    (escape_not_joined Word b step refl) is
not_joined WordJoin b step other is = by_feed b Joined None step other no_step is
not_joined QuotesEscape b step other is = no_join b QuotesJoin Quotes (step_in_escape Quotes b) step other refl
    (escape_not_joined Quotes b step refl) is
not_joined QuotesJoin b step other is = by_feed b Quotes None step other no_step is

-- a value that isn't read isn't read with a line feed behind it, either
abbrev Later : Mode → ℕ → List ℕ → List ℕ → List ℕ → Mode × Effect → Type 0
Later mode b value gap text step =
    stepped mode b ≡ Some step
    → read_on step.0 (affected step.1 b value gap).0 (affected step.1 b value gap).1 text ≡ None
    → read_on step.0 (affected step.1 b value gap).0 (affected step.1 b value gap).1 (text ++ 10 ∷ []) ≡ None

step_refused : (mode : Mode) (value gap : List ℕ) (b : ℕ) (text : List ℕ) → ((step : Mode × Effect) → Later mode b value gap text step)
    → read_on mode value gap (b ∷ text) ≡ None → read_on mode value gap (b ∷ (text ++ 10 ∷ [])) ≡ None
unfolding read_on
step_refused mode value gap b text later none = by_end (b == 10 && ends_value mode) none
  where
    by_whole : (whole other : Bool) (read longer : List ℕ × List ℕ) → whole ≡ other → (if whole then Some read else None) ≡ None
        → (if other then Some longer else None) ≡ None
    by_whole true other read longer same none = none_is none
    by_whole false true read longer same none = absurd (true≢false (sym same))
    by_whole false false read longer same none = refl

    by_step : (step : Option (Mode × Effect)) → stepped mode b ≡ step
        → option_and_then (λ step. read_on step.0 (affected step.1 b value gap).0 (affected step.1 b value gap).1 text) step ≡ None
        → option_and_then (λ step. read_on step.0 (affected step.1 b value gap).0 (affected step.1 b value gap).1 (text ++ 10 ∷ []))
        step ≡ None
    by_step None is none = refl
    by_step (Some step) is none = later step is none

    by_end : (ends : Bool)
        → (if ends then ended mode value (b ∷ text) else
        option_and_then (λ step. read_on step.0 (affected step.1 b value gap).0 (affected step.1 b value gap).1 text)
        (stepped mode b)) ≡ None
        → (if ends then ended mode value (b ∷ (text ++ 10 ∷ [])) else
        option_and_then (λ step. read_on step.0 (affected step.1 b value gap).0 (affected step.1 b value gap).1 (text ++ 10 ∷ []))
        (stepped mode b)) ≡ None
    by_end true none = by_whole (may_end mode (b ∷ text)) (may_end mode (b ∷ (text ++ 10 ∷ []))) (value, text) (value, text ++ 10 ∷ [])
        (same_end mode b text (text ++ 10 ∷ [])) none
    by_end false none = by_step (stepped mode b) refl none

last_refused : (mode : Mode) (value gap : List ℕ) → is_joined mode ≡ false → read_on mode value gap [] ≡ None
    → read_on mode value gap (10 ∷ []) ≡ None
unfolding read_on
last_refused mode value gap other none = by (may_end mode []) (value, []) refl none
  where
    by : (whole : Bool) (read : List ℕ × List ℕ) → may_end mode [] ≡ whole → (if whole then Some read else None) ≡ None
        → read_on mode value gap (10 ∷ []) ≡ None
    by true read may none = none_is none
    by false read may none = no_end mode value gap other may

value_refused : (mode : Mode) (value gap : List ℕ) (b : ℕ) (text : List ℕ) → is_lined (b ∷ text) ≡ false
    → read_on mode value gap (b ∷ text) ≡ None → read_on mode value gap (b ∷ (text ++ 10 ∷ [])) ≡ None
value_refused mode value gap b [] bare none =
    step_refused mode value gap b []
    (λ step is. last_refused step.0 (affected step.1 b value gap).0 (affected step.1 b value gap).1 (not_joined mode b step bare is)) none
value_refused mode value gap b (c ∷ text) bare none =
    step_refused mode value gap b (c ∷ text)
    (λ step is. value_refused step.0 (affected step.1 b value gap).0 (affected step.1 b value gap).1 c text bare) none

pub read_refused : (value : List ℕ) → is_lined (61 ∷ value) ≡ false → value_read value ≡ None → value_read (value ++ 10 ∷ []) ≡ None
unfolding read_on
read_refused [] bare none = none_is none
read_refused (b ∷ value) bare none = value_refused Gap [] [] b value bare none
