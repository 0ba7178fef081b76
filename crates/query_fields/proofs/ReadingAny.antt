-- How any bytes are read, step by step, and that what is written is read again.
use Rattle.std.proofs.Common.{◌≡◌, ◌≢◌, ℕ, ◌+◌, ◌*◌, ◌<◌, ◌≤◌, false, ◌==◌, ◌&&◌, List, [], ◌∷◌, ◌++◌, append-nil, append_assoc}
use Rattle.std.proofs.Common.{refl, sym, ap, ◌∙◌, arith, lt-ltb, ne_eqb, length}
use Rattle.std.proofs.lemmas.Bool.Decides.{nat_tests}
use Rattle.std.specs.Char.{digit_value, is_digit}
use Rattle.std.specs.List.{list_any}
use Rattle.query_fields.specs.Escape.{read_byte, read_any}
use Rattle.query_fields.proofs.Reading.{escape_read, bad_high_read, bad_low_read, cut_read, cut_behind_read}

-- a byte that isn't `%`
byte_any : (b : ℕ) (rest : List ℕ) → (b == 37) ≡ false → read_any (b ∷ rest) ≡ read_byte b ∷ read_any rest
unfolding read_any
byte_any b [] other = refl
byte_any b (c ∷ []) other = refl
byte_any b (c ∷ d ∷ rest) other = rw other refl

pub space_any : (rest : List ℕ) → read_any (43 ∷ rest) ≡ 32 ∷ read_any rest
space_any rest = byte_any 43 rest refl

pub other_any : (b : ℕ) (rest : List ℕ) → b ≢ 37 → b ≢ 43 → read_any (b ∷ rest) ≡ b ∷ read_any rest
other_any b rest no_escape no_space =
    byte_any b rest (ne_eqb b 37 no_escape) ∙ rw (ne_eqb b 43 no_space)

-- `%` and two digits
pub escape_any : (high low : ℕ) (rest : List ℕ) → digit_value high < 16 → digit_value low < 16
    → read_any (37 ∷ high ∷ low ∷ rest) ≡ (16 * digit_value high + digit_value low) ∷ read_any rest
unfolding read_any
escape_any high low rest h l = rw (lt-ltb (digit_value high) 16 h, lt-ltb (digit_value low) 16 l)

-- `%` and no two digits
pub bad_high_any : (high low : ℕ) (rest : List ℕ) → 16 ≤ digit_value high
    → read_any (37 ∷ high ∷ low ∷ rest) ≡ 37 ∷ read_any (high ∷ low ∷ rest)
unfolding read_any
bad_high_any high low rest bad =
    let no : is_digit high 16 ≡ false = grind (arith, nat_tests) in rw no refl

pub bad_low_any : (high low : ℕ) (rest : List ℕ) → 16 ≤ digit_value low
    → read_any (37 ∷ high ∷ low ∷ rest) ≡ 37 ∷ read_any (high ∷ low ∷ rest)
unfolding read_any
bad_low_any high low rest bad =
    let no : (is_digit high 16 && is_digit low 16) ≡ false = grind (arith, nat_tests) in rw no refl

-- `%` at the end, and before the last byte
pub cut_any : (digits : List ℕ) → length digits ≡ 0 → read_any (37 ∷ digits) ≡ 37 ∷ read_any digits
unfolding read_any
cut_any [] none = refl
cut_any (d ∷ digits) none = absurd (omega arith)

pub cut_behind_any : (high : ℕ) (rest : List ℕ) → length rest ≡ 0 → read_any (37 ∷ high ∷ rest) ≡ 37 ∷ read_any (high ∷ rest)
unfolding read_any
cut_behind_any high [] none = refl
cut_behind_any high (d ∷ rest) none = absurd (omega arith)

-- nothing
pub nothing_any : (rest : List ℕ) → length rest ≡ 0 → read_any rest ≡ []
unfolding read_any
nothing_any [] none = refl
nothing_any (d ∷ rest) none = absurd (omega arith)

-- bytes without escapes are read as they are
pub plain_any : (text : List ℕ) → list_any (λ b. b == 37) text ≡ false → list_any (λ b. b == 43) text ≡ false → read_any text ≡ text
plain_any [] no_escape no_space = nothing_any [] refl
plain_any (b ∷ text) no_escape no_space =
    other_any b text (grind (arith, nat_tests)) (grind (arith, nat_tests))
    ∙ ap (λ bs. b ∷ bs) (plain_any text (grind (arith, nat_tests)) (grind (arith, nat_tests)))

-- bytes read, and nothing behind them
pub all_any : (bytes rest : List ℕ) → length rest ≡ 0 → bytes ++ read_any rest ≡ bytes
all_any bytes rest none = rw (nothing_any rest none) (append-nil bytes)

-- bytes read, and one more
pub one_more_any : (bytes : List ℕ) (b : ℕ) (rest : List ℕ) → bytes ++ (b ∷ rest) ≡ (bytes ++ b ∷ []) ++ rest
one_more_any bytes b rest = sym (append_assoc bytes (b ∷ []) rest)

-- what is read behind `%`, strictly or not
pub ruleset escape_steps = (
  escape_read,
  bad_high_read,
  bad_low_read,
  cut_read,
  cut_behind_read,
  escape_any,
  bad_high_any,
  bad_low_any,
  cut_any,
  cut_behind_any,
)

-- what is read at another byte
pub ruleset first_of_any_steps = (space_any, other_any)

-- what a loop has read
pub ruleset any_read = (all_any, one_more_any)
