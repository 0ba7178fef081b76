-- What commands leave of a configuration.
use Rattle.std.specs.Cow.{cow_str_bytes}
use Rattle.std.specs.List.Sorted.{IsSortedBy, IsStableBy}
use Rattle.std.specs.Ordering.{is_lt, nat_cmp}
use Rattle.std.specs.Prelude.{◌≡◌, ℕ, ◌+◌, ◌-◌, ◌^◌, ◌≤◌, min, Bool, true, false, ◌==◌, ◌&&◌, not}
use Rattle.std.specs.Prelude.{Option, Some, None, if◌then◌else◌}
use Rattle.std.specs.Prelude.{List, [], ◌∷◌, ◌++◌, IsPermutation, codes, map, option_map}
use Rattle.std.specs.Prelude.{length, slice_get, unwrap_or}
use Rattle.ordered_multimap.specs.Changes.{appended, removed}
use Rattle.ordered_multimap.specs.End.TheVariants.{Back}
use Rattle.ordered_multimap.specs.Keys.{stored_key}
use Rattle.ordered_multimap.specs.Lists.{Lists}
use Rattle.ordered_multimap.specs.Pairs.{is_present, values_of}
use Rattle.ordered_multimap.specs.SetLists.{value_set}
use Rattle.ordered_multimap.specs.Walk.{end_item}
use Rattle.config_reader.specs.declared.command.Command.{Command}
use Rattle.config_reader.specs.declared.command.Command.TheVariants.{Set, Add, Unset}
use Rattle.config_reader.specs.declared.config.Lines.{Lines}
use Rattle.config_reader.specs.declared.name.Name.{Name}
use Rattle.config_reader.specs.declared.section.Section.{Section}
use Rattle.config_reader.specs.Blocks.{AreSetting, IsBlank, IsConfig, IsWritten}
use Rattle.config_reader.specs.Blocks.{settings_rank}
use Rattle.config_reader.specs.Lines.{first_line, lined}
use Rattle.config_reader.specs.Names.{has_no_key, is_git_key, is_key, is_no_section, same_name}
use Rattle.config_reader.specs.Said.{indent_of, settings_of, text_says}
use Rattle.config_reader.specs.Values.{written}
use Rattle.config_reader.specs.Written.{line_of, section_line, texts_of}

-- a setting of this value: its text is the key and the value on a line, indented so
pub record IsSetting (indent key value : List ℕ) (setting : Lines) : Type 0 where
  pub holds : cow_str_bytes setting.value ≡ value
  pub text : cow_str_bytes setting.text ≡ line_of (indent ++ key ++ codes " = " ++ written value)

-- how far the last setting of this rank is indented, if there is one, or this one in front of them
abbrev pub last_indent : ℕ → List (Name × Lines) → Option ℕ → Option ℕ
last_indent rank [] last = last
last_indent rank (pair ∷ pairs) last =
    last_indent rank pairs (if not (has_no_key pair.0) && pair.1.rank == rank
    then Some (indent_of (first_line (cow_str_bytes pair.1.text))) else last)

-- the rank of the one is lower
abbrev pub is_above : Name × Lines → Name × Lines → Bool
is_above pair other = is_lt (nat_cmp pair.1.rank other.1.rank)

-- the lines are added behind those of the same rank and of lower ones: all are sorted by rank, and
-- those of one rank stand as they stood
pub record AddsByRank (name : Name) (lines : Lines) (old new : Lists Name Lines) : Type 0 where
  pub keys : new.keys ≡ (appended same_name old name lines).keys
  pub pairs : IsPermutation (appended same_name old name lines).pairs new.pairs
  pub sorted : IsSortedBy is_above new.pairs
  pub stable : IsStableBy is_above (appended same_name old name lines).pairs new.pairs

-- the rank of the last line, or 0
abbrev pub last_rank : List (Name × Lines) → ℕ
last_rank pairs = unwrap_or (option_map (λ pair. pair.1.rank) (end_item Back pairs)) 0

-- one more section has a rank above the last one's
abbrev pub HasRoom : Lists Name Lines → Type 0
HasRoom m = last_rank m.pairs ≤ 2 ^ 63 + 2

-- the line of the section of this name is added at the end, with a rank above the last one's
pub record AddsSection (name : Name) (old new : Lists Name Lines) (rank : ℕ) : Type 0 where
  pub line : Lines
  pub text : cow_str_bytes line.text ≡ section_line name.section
  pub value : cow_str_bytes line.value ≡ []
  pub of_rank : line.rank ≡ rank
  pub above : rank ≡ min (settings_rank (last_rank old.pairs) + 2) (2 ^ 64 - 1)
  pub lists : new ≡ appended same_name old name line

-- the rank of the section's settings: 0 above the first section, and that of its last line; the
-- line of a section that isn't there is added
pub record Opens (section : Section) (old new : Lists Name Lines) (rank : ℕ) : Type 0 where
  pub name : Name
  pub of_section : name.section ≡ section
  pub no_key : name.key.0.now ≡ []
  pub none : is_no_section section ≡ true → (new ≡ old) × (rank ≡ 0)
  pub there : is_no_section section ≡ false → is_present same_name old.pairs name ≡ true
      → (new ≡ old) × (option_map (λ line. settings_rank line.rank)
      (end_item Back (values_of same_name old.pairs name)) ≡ Some rank)
  pub absent : is_no_section section ≡ false → is_present same_name old.pairs name ≡ false
      → AddsSection name old new rank

-- the section is opened, and a setting of this value is added under the name, at the section's end
pub record Adds (name : Name) (value : List ℕ) (old new : Lists Name Lines) : Type 0 where
  pub opened : Lists Name Lines
  pub indent : List ℕ
  pub blank : IsBlank indent
  pub setting : Lines
  pub opens : Opens name.section old opened setting.rank
  pub is_setting : IsSetting indent name.key.0.now value setting
  pub indented : (n : ℕ) → last_indent setting.rank opened.pairs None ≡ Some n
      → length indent ≡ n
  pub reads : is_key name.key.0.now ≡ true
      → AreSetting (cow_str_bytes setting.text) name.key.0.now value (length indent)
  pub adds : AddsByRank name setting opened new

-- a setting of this value takes the place of the name's first one, and its others are gone
pub record Replaces (name : Name) (value : List ℕ) (old new : Lists Name Lines) : Type 0 where
  pub first : Lines
  pub is_first : Some first ≡ slice_get (values_of same_name old.pairs name) 0
  pub indent : List ℕ
  pub blank : IsBlank indent
  pub setting : Lines
  pub is_setting : IsSetting indent (stored_key same_name old.keys name).key.0.now value setting
  pub rank : setting.rank ≡ first.rank
  pub indented : length indent ≡ indent_of (first_line (cow_str_bytes first.text))
  pub reads : is_key (stored_key same_name old.keys name).key.0.now ≡ true
      → AreSetting (cow_str_bytes setting.text) (stored_key same_name old.keys name).key.0.now
      value (length indent)
  pub lists : new ≡ value_set same_name old name setting

-- the first setting of the name has this value, and its others are gone; a setting of an absent
-- name is added
pub record Sets (name : Name) (value : List ℕ) (old new : Lists Name Lines) : Type 0 where
  pub present : is_present same_name old.pairs name ≡ true → Replaces name value old new
  pub absent : is_present same_name old.pairs name ≡ false → Adds name value old new

-- what a command leaves of the configuration
abbrev pub Leaves : Command → Lists Name Lines → Lists Name Lines → Type 0
Leaves (Set name value) old new = Sets name value.now old new
Leaves (Add name value) old new = Adds name value.now old new
Leaves (Unset name) old new = new ≡ removed same_name old name
Leaves _ old new = new ≡ old

-- what was set is what is read: a name with a key has this value alone; an unset name has none
abbrev pub IsReadBack : Command → Lists Name Lines → Type 0
IsReadBack (Set name value) m = has_no_key name ≡ false
    → map (λ setting. cow_str_bytes setting.value) (values_of same_name m.pairs name)
    ≡ value.now ∷ []
IsReadBack (Unset name) m = is_present same_name m.pairs name ≡ false
IsReadBack _ m = Unit {0}

-- a name with a key that a setting can have, in a section that can be written
abbrev pub IsOfSetting : Name → Type 0
IsOfSetting name = (is_key name.key.0.now ≡ true) × IsWritten name.section

-- the name that a command writes is one that a setting can have
abbrev pub IsAllowed : Command → Type 0
IsAllowed (Set name value) = IsOfSetting name
IsAllowed (Add name value) = IsOfSetting name
IsAllowed (Unset name) = IsOfSetting name
IsAllowed _ = Unit {0}

-- git allows the key that a command writes
abbrev pub WritesGitKey : Command → Type 0
WritesGitKey (Set name value) = is_git_key name.key.0.now ≡ true
WritesGitKey (Add name value) = is_git_key name.key.0.now ≡ true
WritesGitKey _ = Unit {0}

-- such a command leaves lines that are read as what they stand for
abbrev pub KeepsConfig : Command → Lists Name Lines → Lists Name Lines → Type 0
KeepsConfig command old new = IsAllowed command → HasRoom old → IsConfig old → IsConfig new

-- the settings of these lines are those that their text says
abbrev pub SaysSettings : Lists Name Lines → Type 0
SaysSettings m = text_says (texts_of m.pairs) ≡ Some (settings_of m.pairs)

-- a text is read, and then the command is carried out
pub record CarriesOut (text : List ℕ) (command : Command) (new : Lists Name Lines) : Type 0 where
  pub read : Lists Name Lines
  pub texts : texts_of read.pairs ≡ lined text
  pub says : text_says (lined text) ≡ Some (settings_of read.pairs)
  pub leaves : Leaves command read new
  pub read_again : IsAllowed command → SaysSettings new
