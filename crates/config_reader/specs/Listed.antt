-- How settings are listed: by a name as git has it, and the value behind a sign.
use Rattle.std.specs.Cow.{cow_str_bytes}
use Rattle.std.specs.List.{list_any}
use Rattle.std.specs.Prelude.{ℕ, Bool, ◌==◌, not, if◌then◌else◌, List, [], ◌∷◌, ◌++◌, codes}
use Rattle.std.specs.Str.{str_to_ascii_lowercase}
use Rattle.config_reader.specs.declared.command.Form.{Form}
use Rattle.config_reader.specs.declared.command.Form.TheVariants.{Line, Zero}
use Rattle.config_reader.specs.declared.config.Lines.{Lines}
use Rattle.config_reader.specs.declared.name.Name.{Name}
use Rattle.config_reader.specs.declared.section.Section.{Section}
use Rattle.config_reader.specs.Names.{has_no_key, is_no_section}
use Rattle.config_reader.specs.Written.{behind_dot}

-- what stands in front of a value: `=`, or a line feed where a zero byte ends the setting
abbrev pub sign_of : Form → ℕ
sign_of Line = 61
sign_of Zero = 10

-- what stands behind a setting: a line feed, or a zero byte
abbrev pub end_of : Form → ℕ
end_of Line = 10
end_of Zero = 0

-- the name of a section, with its word in small letters
abbrev pub listed_section : Section → List ℕ
listed_section section = str_to_ascii_lowercase section.word.0.now ++ behind_dot section.sub.now

-- the name of a setting, with its key in small letters too; above the first section the key alone
abbrev pub listed_name : Name → List ℕ
listed_name name =
    (if is_no_section name.section then [] else listed_section name.section ++ codes ".")
    ++ str_to_ascii_lowercase name.key.0.now

-- the value behind its sign, byte for byte; none of a key that stands alone on its line
abbrev pub listed_value : Form → Lines → List ℕ
listed_value form lines =
    if list_any (λ b. b == 61) (cow_str_bytes lines.text)
    then sign_of form ∷ cow_str_bytes lines.value else []

-- a setting
abbrev pub listed : Form → Name → Lines → List ℕ
listed form name lines = listed_name name ++ listed_value form lines ++ end_of form ∷ []

-- whether the lines are a setting
abbrev pub is_set : Name × Lines → Bool
is_set pair = not (has_no_key pair.0)

-- each setting, in order
abbrev pub listed_all : Form → List (Name × Lines) → List ℕ
listed_all form [] = []
listed_all form (pair ∷ pairs) =
    (if is_set pair then listed form pair.0 pair.1 else []) ++ listed_all form pairs
