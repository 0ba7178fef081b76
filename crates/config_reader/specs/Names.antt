-- When two names are the same, and what they name.
use Rattle.std.specs.Char.{is_ascii_alphabetic, is_ascii_alphanumeric, is_whitespace}
use Rattle.std.specs.List.{list_any}
use Rattle.std.specs.Prelude.{◌≡◌, ℕ, ◌==◌, Bool, true, false, not, ◌&&◌, ◌||◌, List, [], ◌∷◌, ◌++◌}
use Rattle.std.specs.Str.{bytes_eq, chars, str_eq_ignore_ascii_case, trim, trim_end}
use Rattle.ordered_multimap.specs.Pairs.{has_items}
use Rattle.config_reader.specs.declared.name.Name.{Name}
use Rattle.config_reader.specs.declared.section.Section.{Section}

-- words that differ in the case of ASCII letters alone are the same, names between quotes are not
abbrev pub same_section : Section → Section → Bool
same_section section other =
    str_eq_ignore_ascii_case section.word.0.now other.word.0.now
    && bytes_eq section.sub.now other.sub.now

-- and so are keys
abbrev pub same_name : Name → Name → Bool
same_name name other =
    same_section name.section other.section
    && str_eq_ignore_ascii_case name.key.0.now other.key.0.now

-- no section is open: neither a word nor a name between quotes
abbrev pub is_no_section : Section → Bool
is_no_section section =
    str_eq_ignore_ascii_case section.word.0.now [] && bytes_eq section.sub.now []

-- the name of lines that are no setting
abbrev pub has_no_key : Name → Bool
has_no_key name = str_eq_ignore_ascii_case name.key.0.now []

-- the name of a setting of the section
abbrev pub is_setting_of : Section → Name → Bool
is_setting_of section name = same_section name.section section && not (has_no_key name)

-- the name of a section, and of none of its settings
abbrev pub is_named_section : Name → Bool
is_named_section name = has_no_key name && not (is_no_section name.section)

-- a blank, or one of `.:="\[]#;`
abbrev pub is_outside_key : ℕ → Bool
is_outside_key c =
    is_whitespace c || c == 46 || c == 58 || c == 61 || c == 34 || c == 92
    || c == 91 || c == 93 || c == 35 || c == 59

-- whether a setting can have this key
abbrev pub is_key : List ℕ → Bool
is_key text = has_items text && not (list_any is_outside_key (chars text))

-- git allows keys of letters, digits and `-` that begin with a letter
abbrev pub is_outside_git : ℕ → Bool
is_outside_git b = not (is_ascii_alphanumeric b || b == 45)

abbrev pub is_git_key : List ℕ → Bool
is_git_key [] = false
is_git_key (b ∷ bytes) = is_ascii_alphabetic b && not (list_any is_outside_git bytes)

-- the byte stands nowhere in the text
abbrev pub Lacks : ℕ → List ℕ → Type 0
Lacks b text = list_any (λ c. c == b) text ≡ false

-- the section has the word, without the blanks around it, and the name
abbrev pub IsCalled : List ℕ → List ℕ → Section → Type 0
IsCalled word name section = (section.word.0.now ≡ trim word) × (section.sub.now ≡ name)

-- what a section is called by: its word and a name behind the first dot, or its word alone
pub record IsCalledByDot (text : List ℕ) (section : Section) : Type 0 where
  pub dotted : (word name : List ℕ) → text ≡ word ++ 46 ∷ name → Lacks 46 word
      → IsCalled word name section
  pub alone : Lacks 46 text → IsCalled text [] section

-- or its word and a name between quotes, behind which blanks may stand
pub record IsCalledBy (text : List ℕ) (section : Section) : Type 0 where
  pub quoted : (word name : List ℕ) → trim_end text ≡ word ++ 34 ∷ (name ++ 34 ∷ []) → Lacks 34 word
      → IsCalled word name section
  pub other : Lacks 34 text → IsCalledByDot text section

-- the section that a name names in front of its last dot; none where nothing stands there
abbrev pub IsOpenAs : List ℕ → Section → Type 0
IsOpenAs [] section = is_no_section section ≡ true
IsOpenAs (b ∷ text) section = IsCalledBy (b ∷ text) section
