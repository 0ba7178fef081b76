-- What the program writes of a configuration.
use Rattle.std.specs.Cow.{cow_str_bytes}
use Rattle.std.specs.Prelude.{ℕ, List, [], ◌∷◌, ◌++◌, Option, Some, None, codes, if◌then◌else◌}
use Rattle.config_reader.specs.declared.config.Lines.{Lines}
use Rattle.config_reader.specs.declared.name.Name.{Name}
use Rattle.config_reader.specs.declared.section.Section.{Section}
use Rattle.config_reader.specs.Names.{is_named_section, is_setting_of}

-- a text and a line feed
abbrev pub line_of : List ℕ → List ℕ
line_of text = text ++ 10 ∷ []

-- the value of a setting on a line, if there is one
abbrev pub value_line : Option Lines → List ℕ
value_line None = []
value_line (Some setting) = line_of (cow_str_bytes setting.value)

-- the value of each setting on a line, in order
abbrev pub value_lines : List Lines → List ℕ
value_lines [] = []
value_lines (setting ∷ settings) = line_of (cow_str_bytes setting.value) ++ value_lines settings

-- the texts of all lines, in order
abbrev pub texts_of : List (Name × Lines) → List ℕ
texts_of [] = []
texts_of (pair ∷ pairs) = cow_str_bytes pair.1.text ++ texts_of pairs

-- each key of the section on a line, in order
abbrev pub key_lines : Section → List Name → List ℕ
key_lines section [] = []
key_lines section (name ∷ names) =
    (if is_setting_of section name then line_of name.key.0.now else []) ++ key_lines section names

-- the name behind a dot, if there is one
abbrev pub behind_dot : List ℕ → List ℕ
behind_dot [] = []
behind_dot (byte ∷ bytes) = codes "." ++ byte ∷ bytes

-- the name of a section as a question has it
abbrev pub section_name : Section → List ℕ
section_name section = section.word.0.now ++ behind_dot section.sub.now

-- the name of each section on a line, in order
abbrev pub section_lines : List Name → List ℕ
section_lines [] = []
section_lines (name ∷ names) =
    (if is_named_section name then line_of (section_name name.section) else [])
    ++ section_lines names

-- the name between quotes and behind a blank, if there is one
abbrev pub in_quotes : List ℕ → List ℕ
in_quotes [] = []
in_quotes (byte ∷ bytes) = codes " \"" ++ (byte ∷ bytes) ++ codes "\""

-- the line that opens a section
abbrev pub section_line : Section → List ℕ
section_line section = codes "[" ++ section.word.0.now ++ in_quotes section.sub.now ++ codes "]\n"
