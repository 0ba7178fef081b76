-- How an encoded text is read, step by step, and that what is written is read again.
use Rattle.std.proofs.Common.{◌≡◌, ◌≢◌, ℕ, ◌+◌, ◌*◌, ◌/◌, ◌%◌, ◌<◌, ◌≤◌, Bool, true, false, ◌==◌, ◌&&◌, List, [], ◌∷◌, ◌++◌, append_assoc}
use Rattle.std.proofs.Common.{append-nil, refl, sym, ap, subst, ◌∙◌, arith, lt-ltb, ne_eqb, Some, None, length, get_or}
use Rattle.std.specs.Prelude.{Option, All}
use Rattle.std.proofs.lemmas.Bool.{eqb-true}
use Rattle.std.proofs.lemmas.Bool.Decides.{nat_tests}
use Rattle.std.proofs.lemmas.List.{get_or_default}
use Rattle.std.proofs.lemmas.List.Elements.{All-head, All-tail}
use Rattle.std.proofs.lemmas.Fmt.{hex_byte}
use Rattle.std.specs.Char.{digit_value, is_digit}
use Rattle.std.specs.Fmt.{digit_glyph}
use Rattle.std.specs.List.{list_any}
use Rattle.query_fields.specs.Escape.{is_plain, escape_of, written_byte, written, read_byte, before, behind, read}

-- a byte that isn't `%`
byte_read : (b : ℕ) (rest : List ℕ) → (b == 37) ≡ false → read (b ∷ rest) ≡ before (read_byte b) (read rest)
unfolding read
byte_read b [] other = rw other
byte_read b (c ∷ []) other = rw other
byte_read b (c ∷ d ∷ rest) other = rw other

pub space_read : (rest : List ℕ) → read (43 ∷ rest) ≡ before 32 (read rest)
space_read rest = byte_read 43 rest refl

pub other_read : (b : ℕ) (rest : List ℕ) → b ≢ 37 → b ≢ 43 → read (b ∷ rest) ≡ before b (read rest)
other_read b rest no_escape no_space =
    byte_read b rest (ne_eqb b 37 no_escape) ∙ rw (ne_eqb b 43 no_space)

-- `%` and two digits
pub escape_read : (high low : ℕ) (rest : List ℕ) → digit_value high < 16 → digit_value low < 16
    → read (37 ∷ high ∷ low ∷ rest) ≡ before (16 * digit_value high + digit_value low) (read rest)
unfolding read
escape_read high low rest h l = rw (lt-ltb (digit_value high) 16 h, lt-ltb (digit_value low) 16 l)

-- `%` and no two digits
pub bad_high_read : (high low : ℕ) (rest : List ℕ) → 16 ≤ digit_value high
    → read (37 ∷ high ∷ low ∷ rest) ≡ None
unfolding read
bad_high_read high low rest bad =
    let no : is_digit high 16 ≡ false = grind (arith, nat_tests) in rw no

pub bad_low_read : (high low : ℕ) (rest : List ℕ) → 16 ≤ digit_value low
    → read (37 ∷ high ∷ low ∷ rest) ≡ None
unfolding read
bad_low_read high low rest bad =
    let no : (is_digit high 16 && is_digit low 16) ≡ false = grind (arith, nat_tests) in rw no

-- `%` at the end, and before the last byte
pub cut_read : (digits : List ℕ) → length digits ≡ 0 → read (37 ∷ digits) ≡ None
unfolding read
cut_read [] none = refl
cut_read (d ∷ digits) none = absurd (omega arith)

pub cut_behind_read : (high : ℕ) (rest : List ℕ) → length rest ≡ 0 → read (37 ∷ high ∷ rest) ≡ None
unfolding read
cut_behind_read high [] none = refl
cut_behind_read high (d ∷ rest) none = absurd (omega arith)

-- nothing
nothing_read : (rest : List ℕ) → length rest ≡ 0 → read rest ≡ Some []
unfolding read
nothing_read [] none = refl
nothing_read (d ∷ rest) none = absurd (omega arith)

pub glyph_value : (d : ℕ) → d < 16 → digit_value (digit_glyph true d) ≡ d
glyph_value d h = grind (arith, nat_tests)

-- what holds of any two digits and their value holds of those of a byte
pub digits_hold : (Holds : ℕ → ℕ → ℕ → Type 0) (b : ℕ) → b < 256
    → ((high low : ℕ) → digit_value high < 16 → digit_value low < 16 → Holds high low (16 * digit_value high + digit_value low))
    → Holds (digit_glyph true (b / 16)) (digit_glyph true (b % 16)) b
digits_hold Holds b h any =
    let high = glyph_value (b / 16) (omega arith) in
    let low = glyph_value (b % 16) (omega arith) in
    let same : 16 * (b / 16) + b % 16 ≡ b = omega arith in
    let value : 16 * digit_value (digit_glyph true (b / 16)) + digit_value (digit_glyph true (b % 16)) ≡ b = rw (high, low) same in
    subst (Holds (digit_glyph true (b / 16)) (digit_glyph true (b % 16))) value
    (any (digit_glyph true (b / 16)) (digit_glyph true (b % 16)) (omega (arith, high)) (omega (arith, low)))

-- an escape is read as its byte
escape_of_read : (b : ℕ) (rest : List ℕ) → b < 256 → read (escape_of b ++ rest) ≡ before b (read rest)
escape_of_read b rest h =
    digits_hold (λ high low v. read (37 ∷ high ∷ low ∷ rest) ≡ before v (read rest)) b h (λ high low x y. escape_read high low rest x y)

-- what stands for itself is no `%` and no `+`
pub kept : (b : ℕ) → is_plain b ≡ true → (b ≢ 37) × (b ≢ 43)
kept b plain = (grind (arith, nat_tests), grind (arith, nat_tests))

pub kept_is_ascii : (b : ℕ) → is_plain b ≡ true → b < 128
kept_is_ascii b plain = grind (arith, nat_tests)

-- the three forms of a byte that is written
pub plain_written : (b : ℕ) → is_plain b ≡ true → written_byte b ≡ b ∷ []
unfolding written_byte
plain_written b plain = rw plain

pub space_written : written_byte 32 ≡ 43 ∷ []
unfolding written_byte
space_written = refl

pub escape_written : (b : ℕ) → is_plain b ≡ false → b ≢ 32 → written_byte b ≡ escape_of b
unfolding written_byte
escape_written b other no_space = rw (other, ne_eqb b 32 no_space)

-- what holds of each form holds of what is written of a byte
pub form_holds : (Holds : ℕ → List ℕ → Type 0) (b : ℕ) → (is_plain b ≡ true → Holds b (b ∷ [])) → Holds 32 (43 ∷ [])
    → Holds b (escape_of b) → Holds b (written_byte b)
form_holds Holds b plain space escape = by_kind (is_plain b) (b == 32) refl refl
  where
    by_kind : (u s : Bool) → is_plain b ≡ u → (b == 32) ≡ s → Holds b (written_byte b)
    by_kind true s is_plain is_space = rw (plain_written b is_plain) (plain is_plain)
    by_kind false true is_plain is_space = rw (eqb-true b 32 is_space, space_written) space
    by_kind false false is_plain is_space = rw (escape_written b is_plain (grind (arith, nat_tests))) escape

-- a byte that is written is read again
written_byte_read : (b : ℕ) (rest : List ℕ) → b < 256 → read (written_byte b ++ rest) ≡ before b (read rest)
written_byte_read b rest h =
    form_holds (λ c form. read (form ++ rest) ≡ before c (read rest)) b
    (λ plain. other_read b rest (kept b plain).0 (kept b plain).1) (space_read rest) (escape_of_read b rest h)

-- what is written is read again
pub written_read : (text : List ℕ) → All (λ b. b < 256) text → read (written text) ≡ Some text
written_read [] bytes = nothing_read [] refl
written_read (b ∷ text) bytes =
    written_byte_read b (written text) (All-head (λ b. b < 256) b text bytes)
    ∙ ap (before b) (written_read text (All-tail (λ b. b < 256) b text bytes))

-- the bytes of a text, by their places
pub bytes_fit : (text : List ℕ) → ((i : ℕ) → get_or text i 0 < 256) → All (λ b. b < 256) text
bytes_fit text fits k d h = rw (get_or_default text k d 0 h) (fits k)

-- a text without escapes is read as it is
pub plain_read : (text : List ℕ) → list_any (λ b. b == 37) text ≡ false → list_any (λ b. b == 43) text ≡ false → read text ≡ Some text
plain_read [] no_escape no_space = nothing_read [] refl
plain_read (b ∷ text) no_escape no_space =
    other_read b text (grind (arith, nat_tests)) (grind (arith, nat_tests))
    ∙ ap (before b) (plain_read text (grind (arith, nat_tests)) (grind (arith, nat_tests)))

-- bytes read, and nothing behind them
pub all_read : (bytes rest : List ℕ) → length rest ≡ 0 → behind bytes (read rest) ≡ Some bytes
all_read bytes rest none = rw (nothing_read rest none) (ap Some (append-nil bytes))

-- bytes read, and one more
pub one_more_read : (bytes : List ℕ) (b : ℕ) (rest : Option (List ℕ)) → behind bytes (before b rest) ≡ behind (bytes ++ b ∷ []) rest
one_more_read bytes b None = refl
one_more_read bytes b (Some more) = ap Some (sym (append_assoc bytes (b ∷ []) more))

pub none_before_read : (rest : Option (List ℕ)) → behind [] rest ≡ rest
none_before_read None = refl
none_before_read (Some more) = refl

-- what is read behind `%`
pub ruleset strict_escape_steps = (escape_read, bad_high_read, bad_low_read, cut_read, cut_behind_read)

-- what is read at another byte
pub ruleset first_steps = (space_read, other_read)

-- what a loop has read
pub ruleset reading = (all_read, one_more_read, none_before_read)

-- how a byte is written
pub ruleset forms = (plain_written, space_written, escape_written, kept_is_ascii, hex_byte)
