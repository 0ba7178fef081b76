-- What the program makes of a message's headers, and what it writes of them.
use Rattle.std.specs.List.{flat_map}
use Rattle.std.specs.Prelude.{ℕ, ◌-◌, Bool, List, [], ◌∷◌, ◌++◌, codes, drop, if◌then◌else◌, length}
use Rattle.std.specs.Str.{bytes_eq}
use Rattle.program_parts.specs.Lines.{without_return}
use Rattle.header_store.specs.declared.command.Form.{Form}
use Rattle.header_store.specs.declared.command.Form.TheVariants.{First, Lines, Joined}
use Rattle.header_store.specs.declared.field.Field.{Field}
use Rattle.header_store.specs.declared.field.Field.TheVariants.{Read, Written}
use Rattle.header_store.specs.declared.name.Name.{Name}
use Rattle.header_store.specs.Fields.{before_byte, value_of}

-- a text and a line feed
abbrev pub line_of : List ℕ → List ℕ
line_of text = text ++ 10 ∷ []

-- a text and what ends its line
abbrev pub ended : List ℕ → List ℕ → List ℕ
ended line_end text = text ++ line_end

-- whether a line feed stands last
abbrev pub is_lined : List ℕ → Bool
is_lined lines = bytes_eq (drop (length lines - 1) lines) (10 ∷ [])

-- the lines, of which the last one ends so if nothing ends it
abbrev pub lined : List ℕ → List ℕ → List ℕ
lined line_end lines = if is_lined lines then lines else ended line_end (without_return lines)

-- the request or status line as it stands, if there is one
abbrev pub start_text : List ℕ → List ℕ → List ℕ
start_text line_end [] = []
start_text line_end (b ∷ line) = lined line_end (b ∷ line)

-- a header as it stands in a message: on the lines that were read, or on a line that ends so
abbrev pub header_text : List ℕ → Name → Field → List ℕ
header_text line_end name (Read lines value) = lined line_end lines.now
header_text line_end name (Written value) =
    name.text.0.now ++ (codes ": " ++ ended line_end value.now)

-- each header as it stands, in order
abbrev pub header_lines : List ℕ → List (Name × Field) → List ℕ
header_lines line_end headers = flat_map (λ p. header_text line_end p.0 p.1) headers

-- the name as this header spells it
abbrev pub spelled : Name → Field → List ℕ
spelled name (Read lines value) = before_byte 58 lines.now
spelled name (Written value) = name.text.0.now

-- each header on a line, with its value on one
abbrev pub listed : List (Name × Field) → List ℕ
listed headers = flat_map (λ p. spelled p.0 p.1 ++ (codes ": " ++ line_of (value_of p.1))) headers

-- each name on a line
abbrev pub name_lines : List Name → List ℕ
name_lines names = flat_map (λ name. line_of name.text.0.now) names

-- each value on a line, with the label in front
abbrev pub value_lines : List ℕ → List (List ℕ) → List ℕ
value_lines label [] = []
value_lines label (value ∷ values) = label ++ line_of value ++ value_lines label values

-- each value with the separator in front
abbrev pub all_behind : List ℕ → List (List ℕ) → List ℕ
all_behind separator [] = []
all_behind separator (value ∷ values) = separator ++ value ++ all_behind separator values

-- the values in this form, with the label in front of each line
abbrev pub shown : Form → List ℕ → List (List ℕ) → List ℕ
shown Lines label values = value_lines label values
shown form label [] = []
shown First label (value ∷ values) = label ++ line_of value
shown (Joined separator) label (value ∷ values) =
    label ++ value ++ line_of (all_behind separator.now values)
