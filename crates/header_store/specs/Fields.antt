-- What stands before and behind a byte, and what RFC 9110 allows in names and values of headers.
use Rattle.std.specs.Prelude.{ℕ, ◌<◌, ◌==◌, ◌&&◌, ◌||◌, Bool, true, false, not, IsTrue, nat_eq}
use Rattle.std.specs.Prelude.{List, [], ◌∷◌, length, All, codes, if◌then◌else◌}
use Rattle.std.specs.Char.{is_ascii_alphanumeric, is_ascii_control}
use Rattle.std.specs.List.{after_first, before_first, list_any}
use Rattle.header_store.specs.declared.field.Field.{Field}
use Rattle.header_store.specs.declared.field.Field.TheVariants.{Read, Written}

-- the byte may stand in a token: a letter, a digit or one of some marks
abbrev pub is_token_byte : ℕ → Bool
is_token_byte byte =
    is_ascii_alphanumeric byte || list_any (λ mark. nat_eq mark byte) (codes "!#$%&'*+-.^_`|~")

-- the text is a token, as names are
abbrev pub IsToken : List ℕ → Type 0
IsToken text = (0 < length text) × All (λ byte. IsTrue (is_token_byte byte)) text

-- the byte may stand in a value: a tab, or what is no control character
abbrev pub is_value_byte : ℕ → Bool
is_value_byte byte = (byte == 9) || not (is_ascii_control byte)

-- no byte of the text is forbidden in a value
abbrev pub IsValue : List ℕ → Type 0
IsValue text = All (λ byte. IsTrue (is_value_byte byte)) text

-- what stands before the first such byte of a text, or the whole text where there is none
abbrev pub before_byte : ℕ → List ℕ → List ℕ
before_byte separator text = before_first (λ byte. byte == separator) text

-- what stands behind the first such byte of a text, or nothing where there is none
abbrev pub behind_byte : ℕ → List ℕ → List ℕ
behind_byte separator text = after_first (λ byte. byte == separator) text

-- whether a line ends in front of this text
abbrev pub ends_here : List ℕ → Bool
ends_here [] = true
ends_here (byte ∷ text) = byte == 10

-- whether the byte may stand in a value, or ends one of its lines: a line feed, or a carriage
-- return in front of one or at the end
abbrev pub is_allowed : ℕ → List ℕ → Bool
is_allowed byte behind = (is_value_byte byte || byte == 10) || (byte == 13 && ends_here behind)

-- whether each byte may
unfoldable pub are_allowed : List ℕ → Bool
are_allowed [] = true
are_allowed (byte ∷ text) = is_allowed byte text && are_allowed text

-- a space or a tab
abbrev pub is_blank : ℕ → Bool
is_blank byte = (byte == 32) || (byte == 9)

-- what ends a line
abbrev pub is_line_end : ℕ → Bool
is_line_end byte = (byte == 10) || (byte == 13)

-- a value on one line: where it goes on with another line, what ends the line and the blanks behind
-- that are one space
unfoldable pub unfolded : Bool → List ℕ → List ℕ
unfolded is_behind [] = []
unfolded true (byte ∷ value) =
    if is_line_end byte || is_blank byte then unfolded true value else byte ∷ unfolded false value
unfolded false (byte ∷ value) =
    if is_line_end byte then 32 ∷ unfolded true value else byte ∷ unfolded false value

-- the value within its lines, or as a command has it
abbrev pub value_bytes : Field → List ℕ
value_bytes (Read lines value) = value.now
value_bytes (Written value) = value.now

-- the value on one line
abbrev pub value_of : Field → List ℕ
value_of (Read lines value) = unfolded false value.now
value_of (Written value) = value.now

-- the lines that it stands on, where no command wrote it
abbrev pub lines_of : Field → List ℕ
lines_of (Read lines value) = lines.now
lines_of (Written value) = []
