-- What a text says, line by line.
use Rattle.std.specs.Cow.{cow_str_bytes}
use Rattle.std.specs.List.{after_first, before_first, list_any}
use Rattle.std.specs.Prelude.{ℕ, suc, zero, ◌-◌, Bool, false, ◌==◌, if◌then◌else◌, nat_lt}
use Rattle.std.specs.Prelude.{List, [], ◌∷◌, ◌++◌, length, Option, Some, None}
use Rattle.std.specs.Prelude.{option_and_then, option_map}
use Rattle.std.specs.Str.{str_to_ascii_lowercase, trim, trim_start}
use Rattle.config_reader.specs.declared.config.Lines.{Lines}
use Rattle.config_reader.specs.declared.name.Name.{Name}
use Rattle.config_reader.specs.Lines.{behind_line, first_line, says_nothing}
use Rattle.config_reader.specs.Names.{has_no_key, is_key}
use Rattle.config_reader.specs.Sections.{opened, spelled}
use Rattle.config_reader.specs.Values.{value_read}

-- a setting: the word of its section, the name between quotes, the key and the value; the case of
-- word and key counts for nothing
abbrev pub Setting : Type 0
Setting = (List ℕ × List ℕ) × (List ℕ × List ℕ)

abbrev pub lowered : List ℕ × List ℕ → List ℕ × List ℕ
lowered section = (str_to_ascii_lowercase section.0, section.1)

abbrev pub setting_of : List ℕ × List ℕ → List ℕ → List ℕ → Setting
setting_of section key value = (lowered section, (str_to_ascii_lowercase key, value))

-- the settings among these lines, in order
abbrev pub settings_of : List (Name × Lines) → List Setting
settings_of [] = []
settings_of (pair ∷ pairs) =
    if has_no_key pair.0 then settings_of pairs else
    setting_of (spelled pair.0.section) pair.0.key.0.now (cow_str_bytes pair.1.value)
    ∷ settings_of pairs

-- how far a line is indented
abbrev pub indent_of : List ℕ → ℕ
indent_of line = length line - length (trim_start line)

-- whether it is indented more than the setting above it in its section
abbrev pub is_deeper : ℕ → Option ℕ → Bool
is_deeper indent None = false
is_deeper indent (Some above) = nat_lt above indent

-- the key and the value of the setting that a text begins with, and what stands behind its lines
abbrev pub setting_at : List ℕ → Option (List ℕ × List ℕ × List ℕ)
setting_at text =
    if list_any (λ b. b == 61) (first_line text)
    then (if is_key (trim (before_first (λ b. b == 61) (first_line text)))
    then option_map (λ r. (trim (before_first (λ b. b == 61) (first_line text)), r.0, r.1))
    (value_read (after_first (λ b. b == 61) text)) else None)
    else (if is_key (trim (first_line text))
    then Some (trim (first_line text), [], behind_line text) else None)

-- what the first item of a text is: its settings, the section that is open behind it, how far the
-- last setting there is indented, and the rest of the text
abbrev pub Item : Type 0
Item = List Setting × (List ℕ × List ℕ) × Option ℕ × List ℕ

abbrev pub setting_item : List ℕ × List ℕ → Option ℕ → List ℕ → Option Item
setting_item section above text =
    if is_deeper (indent_of (first_line text)) above then None else
    option_map
    (λ r. (setting_of section r.0 r.1 ∷ [], section, Some (indent_of (first_line text)), r.2))
    (setting_at text)

-- the same, by what its first line is without the blanks in front
abbrev pub item_of : List ℕ → List ℕ × List ℕ → Option ℕ → List ℕ → Option Item
item_of [] section above text = setting_item section above text
item_of (b ∷ inside) section above text =
    if b == 91 then option_map (λ inner. ([], inner, None, behind_line text)) (opened inside)
    else setting_item section above text

abbrev pub item_at : List ℕ × List ℕ → Option ℕ → List ℕ → Option Item
item_at section above text =
    if says_nothing (first_line text) then Some ([], section, above, behind_line text)
    else item_of (trim_start (first_line text)) section above text

-- the settings that a text of at most so many items says, below this section and a setting that is
-- indented so; none where a line is at fault
unfoldable pub said : ℕ → List ℕ × List ℕ → Option ℕ → List ℕ → Option (List Setting)
said items section above [] = Some []
said zero section above (b ∷ text) = None
said (suc items) section above (b ∷ text) =
    option_and_then (λ r. option_map (λ later. r.0 ++ later) (said items r.1 r.2 r.3))
    (item_at section above (b ∷ text))

-- the settings that a text says
abbrev pub text_says : List ℕ → Option (List Setting)
text_says text = said (length text) ([], []) None text
