-- How a message is read: its first line, its headers, and what ends them.
use Rattle.std.specs.Char.{is_ascii_digit}
use Rattle.std.specs.List.{list_all}
use Rattle.std.specs.Prelude.{◌≡◌, ℕ, ◌==◌, ◌&&◌, ◌||◌, ◌-◌, Bool, true, false, not}
use Rattle.std.specs.Prelude.{List, [], ◌∷◌, codes, drop, if◌then◌else◌, length, take}
use Rattle.std.specs.Str.{IsTrimAscii, bytes_eq}
use Rattle.ordered_multimap.specs.Changes.{appended}
use Rattle.ordered_multimap.specs.Lists.{Lists}
use Rattle.ordered_multimap.specs.Pairs.{has_items}
use Rattle.program_parts.specs.Lines.{without_return}
use Rattle.header_store.specs.declared.field.Field.{Field}
use Rattle.header_store.specs.declared.name.Name.{Name}
use Rattle.header_store.specs.Changed.{same_name}
use Rattle.header_store.specs.Fields.{IsToken, are_allowed, before_byte, behind_byte, is_blank}
use Rattle.header_store.specs.Fields.{is_token_byte, is_value_byte, lines_of, value_bytes}

-- whether a carriage return stands last
abbrev pub ends_with_return : List ℕ → Bool
ends_with_return line = bytes_eq (drop (length line - 1) line) (13 ∷ [])

-- the first line of a text, without its line feed and a carriage return in front of that
abbrev pub line_in : List ℕ → List ℕ
line_in text = without_return (before_byte 10 text)

-- what ends the first line of a text: a line feed, with or without a carriage return in front
abbrev pub line_end_in : List ℕ → List ℕ
line_end_in text =
    if ends_with_return (before_byte 10 text) then 13 ∷ 10 ∷ [] else 10 ∷ []

-- whether a text is empty, or begins with an empty line
abbrev pub begins_end : List ℕ → Bool
begins_end text = not (has_items (line_in text))

-- whether the byte is a digit and the whole of a word
abbrev pub is_digit_alone : List ℕ → Bool
is_digit_alone [] = false
is_digit_alone (digit ∷ rest) = is_ascii_digit digit && not (has_items rest)

-- a digit, or two with a point between them
abbrev pub is_number : List ℕ → Bool
is_number [] = false
is_number (major ∷ []) = is_ascii_digit major
is_number (major ∷ point ∷ rest) = is_ascii_digit major && point == 46 && is_digit_alone rest

-- a version, as `HTTP/1.1`
abbrev pub is_version : List ℕ → Bool
is_version word = bytes_eq (take 5 word) (codes "HTTP/") && is_number (drop 5 word)

-- three digits
abbrev pub is_code : List ℕ → Bool
is_code word = (length word == 3) && list_all is_ascii_digit word

-- a version and a code, with a space behind each if more follows
abbrev pub is_status_line : List ℕ → Bool
is_status_line line =
    is_version (before_byte 32 line) && is_code (before_byte 32 (behind_byte 32 line))

-- a token, as names are
abbrev pub is_token : List ℕ → Bool
is_token word = has_items word && list_all is_token_byte word

-- a method, a target and a version, with one space between them
abbrev pub is_request_line : List ℕ → Bool
is_request_line line =
    (is_token (before_byte 32 line) && has_items (before_byte 32 (behind_byte 32 line)))
    && is_version (behind_byte 32 (behind_byte 32 line))

-- a request or status line, without control characters but tabs
abbrev pub is_start_line : List ℕ → Bool
is_start_line line =
    (is_status_line line || is_request_line line) && list_all is_value_byte line

-- what stands behind the first line of a text
abbrev pub behind_line : List ℕ → List ℕ
behind_line text = behind_byte 10 text

-- the first line of a text with what ends it
abbrev pub whole_line : List ℕ → List ℕ
whole_line text = take (length text - length (behind_line text)) text

-- the request or status line with what ends it, if the text begins with one
abbrev pub start_in : List ℕ → List ℕ
start_in text = if is_start_line (line_in text) then whole_line text else []

-- what stands behind the lines that go on, where a line may begin here: each of them begins with a
-- blank
unfoldable pub behind_folded : Bool → List ℕ → List ℕ
behind_folded begins [] = []
behind_folded begins (b ∷ rest) =
    if begins && not (is_blank b) then b ∷ rest else behind_folded (b == 10) rest

-- what stands behind the header that a text begins with: its line, and the lines that go on with it
abbrev pub behind_header : List ℕ → List ℕ
behind_header text = behind_folded false text

-- the lines of that header
abbrev pub header_in : List ℕ → List ℕ
header_in text = take (length text - length (behind_header text)) text

-- The header stands on these lines: its name in front of the first colon, and behind that its
-- value, with blanks around it and no forbidden byte. The lines are kept as they are.
pub record IsHeader (name : Name) (field : Field) (lines : List ℕ) : Type 0 where
  pub token : IsToken name.text.0.now
  pub named : name.text.0.now ≡ before_byte 58 lines
  pub allowed : are_allowed (behind_byte 58 lines) ≡ true
  pub value : IsTrimAscii (behind_byte 58 lines) (value_bytes field)
  pub stays : lines_of field ≡ lines

-- These headers stand at the start of the text, one behind the other, each was appended, and the
-- end of the headers stands behind them.
abbrev pub Reads : List (Name × Field)
    → List ℕ → Lists Name Field → List ℕ → Lists Name Field → Type 0
Reads [] text old rest new = (begins_end text ≡ true) × (rest ≡ text) × (new ≡ old)
Reads (header ∷ headers) text old rest new =
    (begins_end text ≡ false) × IsHeader header.0 header.1 (header_in text)
    × Reads headers (behind_header text) (appended same_name old header.0 header.1) rest new

-- the headers of a text are appended, up to the rest
abbrev pub IsReadAs : List ℕ → Lists Name Field → List ℕ → Lists Name Field → Type 0
IsReadAs text old rest new =
    (headers : List (Name × Field)) × Reads headers text old rest new
