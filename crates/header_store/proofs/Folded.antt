-- Where lines go on, and which bytes they may have, step by step.
use Rattle.std.proofs.Common.{◌≡◌, ℕ, true, false, ◌==◌, Bool, List, [], ◌∷◌, ◌++◌, refl, sym, length, arith, append-nil, append_assoc}
use Rattle.header_store.specs.Fields.{are_allowed, is_allowed, is_blank, is_line_end, unfolded}
use Rattle.header_store.specs.Message.{behind_folded}

-- within a line
pub within_line : (b : ℕ) (rest : List ℕ) → behind_folded false (b ∷ rest) ≡ behind_folded (b == 10) rest
unfolding behind_folded
within_line b rest = refl

-- at the start of a line that goes on, and of another one
pub line_goes_on : (b : ℕ) (rest : List ℕ) → is_blank b ≡ true → behind_folded true (b ∷ rest) ≡ behind_folded (b == 10) rest
unfolding behind_folded
line_goes_on b rest blank = rw blank refl

pub other_line : (b : ℕ) (rest : List ℕ) → is_blank b ≡ false → behind_folded true (b ∷ rest) ≡ b ∷ rest
unfolding behind_folded
other_line b rest other = rw other refl

pub no_line : (begins : Bool) (rest : List ℕ) → length rest ≡ 0 → behind_folded begins rest ≡ rest
unfolding behind_folded
no_line begins [] none = refl
no_line begins (b ∷ rest) none = absurd (omega arith)

pub ruleset header_steps = (within_line, line_goes_on, other_line, no_line)

-- a byte of a value, in a line and where two lines meet
pub byte_stays : (b : ℕ) (value : List ℕ) → is_line_end b ≡ false → unfolded false (b ∷ value) ≡ b ∷ unfolded false value
unfolding unfolded
byte_stays b value plain = rw plain refl

pub line_ends : (b : ℕ) (value : List ℕ) → is_line_end b ≡ true → unfolded false (b ∷ value) ≡ 32 ∷ unfolded true value
unfolding unfolded
line_ends b value end = rw end refl

pub end_goes_on : (b : ℕ) (value : List ℕ) → is_line_end b ≡ true → unfolded true (b ∷ value) ≡ unfolded true value
unfolding unfolded
end_goes_on b value end = rw end refl

pub blank_goes : (b : ℕ) (value : List ℕ) → is_line_end b ≡ false → is_blank b ≡ true → unfolded true (b ∷ value) ≡ unfolded true value
unfolding unfolded
blank_goes b value plain blank = rw (plain, blank) refl

pub next_line : (b : ℕ) (value : List ℕ) → is_line_end b ≡ false → is_blank b ≡ false → unfolded true (b ∷ value) ≡ b ∷ unfolded false value
unfolding unfolded
next_line b value plain other = rw (plain, other) refl

pub no_byte : (is_behind : Bool) (value : List ℕ) → length value ≡ 0 → unfolded is_behind value ≡ []
unfolding unfolded
no_byte is_behind [] none = refl
no_byte is_behind (b ∷ value) none = absurd (omega arith)

-- bytes that were added, and one more, or none
pub one_more_byte : (bytes : List ℕ) (b : ℕ) (rest : List ℕ) → bytes ++ (b ∷ rest) ≡ (bytes ++ b ∷ []) ++ rest
one_more_byte bytes b rest = sym (append_assoc bytes (b ∷ []) rest)

pub all_added : (bytes : List ℕ) (is_behind : Bool) (rest : List ℕ) → length rest ≡ 0 → bytes ++ unfolded is_behind rest ≡ bytes
all_added bytes is_behind rest none = rw (no_byte is_behind rest none) (append-nil bytes)

pub ruleset value_steps = (byte_stays, line_ends, end_goes_on, blank_goes, next_line, one_more_byte, all_added)

-- a byte that is allowed, another one, and none
pub byte_allowed : (b : ℕ) (text : List ℕ) → is_allowed b text ≡ true → are_allowed (b ∷ text) ≡ are_allowed text
unfolding are_allowed
byte_allowed b text allowed = rw allowed refl

pub byte_forbidden : (b : ℕ) (text : List ℕ) → is_allowed b text ≡ false → are_allowed (b ∷ text) ≡ false
unfolding are_allowed
byte_forbidden b text forbidden = rw forbidden refl

pub none_forbidden : (text : List ℕ) → length text ≡ 0 → are_allowed text ≡ true
unfolding are_allowed
none_forbidden [] none = refl
none_forbidden (b ∷ text) none = absurd (omega arith)

pub ruleset allowed_steps = (byte_allowed, byte_forbidden, none_forbidden)
