-- Lines as a reader takes them, whatever stands behind them.
use Rattle.std.specs.Cow.{cow_str_bytes}
use Rattle.std.specs.Prelude.{◌≡◌, ◌≢◌, ◌⊎◌, ℕ, ◌+◌, ◌-◌, ◌%◌, ◌^◌, ◌≤◌, ◌<◌, true, false}
use Rattle.std.specs.Prelude.{List, [], ◌∷◌, ◌++◌}
use Rattle.std.specs.Prelude.{length, Option, Some, None}
use Rattle.std.specs.Char.{is_not_whitespace}
use Rattle.std.specs.Str.{NoCharPasses, trim_start}
use Rattle.ordered_multimap.specs.Lists.{Lists}
use Rattle.config_reader.specs.declared.config.Lines.{Lines}
use Rattle.config_reader.specs.declared.name.Name.{Name}
use Rattle.config_reader.specs.declared.reader.Reader.{Reader}
use Rattle.config_reader.specs.declared.section.Section.{Section}
use Rattle.config_reader.specs.Lines.{IsReadTo, behind_line, first_line, is_lined, lined}
use Rattle.config_reader.specs.Lines.{says_nothing}
use Rattle.config_reader.specs.Names.{has_no_key, is_key, is_no_section}
use Rattle.config_reader.specs.Said.{Item, indent_of, is_deeper, item_at, lowered, said, setting_of}
use Rattle.config_reader.specs.Sections.{spelled}
use Rattle.config_reader.specs.Written.{section_line, texts_of}

-- each character is white space
abbrev pub IsBlank : List ℕ → Type 0
IsBlank text = NoCharPasses is_not_whitespace text

-- the lines say nothing
pub record AreSilent (text : List ℕ) : Type 0 where
  pub items : ℕ
  pub few : items ≤ length text
  pub same : (section : List ℕ × List ℕ) (above : Option ℕ) (more : ℕ) (rest : List ℕ)
      → said (items + more) section above (text ++ rest) ≡ said more section above rest

-- the line opens this section
pub record OpensSection (text : List ℕ) (inner : List ℕ × List ℕ) : Type 0 where
  pub some : 0 < length text
  pub same : (section : List ℕ × List ℕ) (above : Option ℕ) (rest : List ℕ)
      → item_at section above (text ++ rest) ≡ Some ([], inner, None, rest)

-- the line that is written for the section opens it; none is above the first section
abbrev pub IsWritten : Section → Type 0
IsWritten section =
    is_no_section section ≡ false → OpensSection (section_line section) (spelled section)

-- the lines are a setting of this key and value, which is indented so
pub record AreSetting (text key value : List ℕ) (indent : ℕ) : Type 0 where
  pub some : 0 < length text
  pub indented : indent ≡ indent_of (first_line text)
  pub same : (section : List ℕ × List ℕ) (above : Option ℕ) (rest : List ℕ)
      → is_deeper indent above ≡ false
      → item_at section above (text ++ rest)
      ≡ Some (setting_of section key value ∷ [], section, Some indent, rest)

-- the rank of the settings of the section that a line of this rank is in
abbrev pub settings_rank : ℕ → ℕ
settings_rank rank = rank - rank % 2

-- it is the rank of a section's settings
abbrev pub IsOfSettings : ℕ → Type 0
IsOfSettings rank = settings_rank rank ≡ rank

-- the section that is open, how far its last setting is indented, and the rank of the last line
pub record Place : Type 0 where
  pub section : List ℕ × List ℕ
  pub above : Option ℕ
  pub rank : ℕ

abbrev pub start : Place
start = record { section = ([], []); above = None; rank = 0 }

-- a line of the name is in this section
abbrev pub IsNamedBy : List ℕ × List ℕ → Name → Type 0
IsNamedBy section name = lowered (spelled name.section) ≡ lowered section

-- lines that say nothing, the line of a section, and a setting, from one place in a text to another
pub record IsSilentAt (old : Place) (pair : Name × Lines) (new : Place) : Type 0 where
  pub text : AreSilent (cow_str_bytes pair.1.text)
  pub no_key : has_no_key pair.0 ≡ true
  pub named : IsNamedBy old.section pair.0
  pub section : new.section ≡ old.section
  pub above : new.above ≡ old.above
  pub of_rank : pair.1.rank ≡ new.rank
  pub later : old.rank ≤ new.rank
  pub inside : settings_rank new.rank ≡ settings_rank old.rank

pub record OpensAt (old : Place) (pair : Name × Lines) (new : Place) : Type 0 where
  pub text : OpensSection (cow_str_bytes pair.1.text) new.section
  pub no_key : has_no_key pair.0 ≡ true
  pub named : IsNamedBy new.section pair.0
  pub above : new.above ≡ None
  pub of_rank : pair.1.rank ≡ new.rank
  pub later : old.rank < new.rank
  pub begins : IsOfSettings new.rank

pub record SetsAt (old : Place) (pair : Name × Lines) (new : Place) : Type 0 where
  pub key : List ℕ
  pub indent : ℕ
  pub text : AreSetting (cow_str_bytes pair.1.text) key (cow_str_bytes pair.1.value) indent
  pub has_key : has_no_key pair.0 ≡ false
  pub fits : is_deeper indent old.above ≡ false
  pub setting : setting_of (spelled pair.0.section) pair.0.key.0.now (cow_str_bytes pair.1.value)
      ≡ setting_of old.section key (cow_str_bytes pair.1.value)
  pub of_rank : pair.1.rank ≡ old.rank
  pub inside : IsOfSettings old.rank
  pub same : new ≡ record { section = old.section; above = Some indent; rank = old.rank }

abbrev pub IsReadAt : Place → Name × Lines → Place → Type 0
IsReadAt old pair new = IsSilentAt old pair new ⊎ (OpensAt old pair new ⊎ SetsAt old pair new)

-- these lines are read as what they stand for, from one place to another
abbrev pub AreRead : Place → List (Name × Lines) → Place → Type 0
AreRead old [] new = new ≡ old
AreRead old (pair ∷ pairs) new =
    (behind : Place) × IsReadAt old pair behind × AreRead behind pairs new

-- each name with a key has one that a setting can have
abbrev pub HaveKeys : List Name → Type 0
HaveKeys [] = Unit {0}
HaveKeys (name ∷ names) =
    (has_no_key name ≡ false → is_key name.key.0.now ≡ true) × HaveKeys names

-- where a reader is, behind a line of this rank
abbrev pub place_of : Reader → ℕ → Place
place_of reader rank =
    record { section = spelled reader.section; above = reader.indent; rank = rank }

-- the first item of what the reader still has to read
abbrev pub item_of_rest : Reader → Option Item
item_of_rest reader = item_at (spelled reader.section) reader.indent reader.rest.now

-- the lines and the reader have this text, kept or still to be read
abbrev pub KeepsAll : Reader → Lists Name Lines → List ℕ → Type 0
KeepsAll reader m all = IsReadTo (texts_of m.pairs) reader.between.now reader.rest.now all

-- all that was read is kept, the last of it with at most this rank, but for lines behind it that
-- say nothing
pub record IsKept (reader : Reader) (most : ℕ) (m : Lists Name Lines) : Type 0 where
  pub rank : ℕ
  pub least : reader.rank ≤ rank
  pub highest : rank ≤ most
  pub inside : IsOfSettings reader.rank
  pub few : reader.rank ≤ 2 ^ 63 + 1
  pub read : AreRead start m.pairs (place_of reader rank)
  pub keys : HaveKeys m.keys
  pub lines : List ℕ
  pub between : reader.between.now ≡ lines ++ reader.rest.now
  pub silent : AreSilent (lined lines)
  pub lined_are : (is_lined lines ≡ true) ⊎ (reader.rest.now ≡ [])

-- lines that are read as what they stand for
pub record IsConfig (m : Lists Name Lines) : Type 0 where
  pub end : Place
  pub read : AreRead start m.pairs end
  pub keys : HaveKeys m.keys

-- the first line of a text opens a section: its bracket, and what stands behind the line
pub record IsSectionLine (text inside behind : List ℕ) : Type 0 where
  pub some : 0 < length text
  pub says : says_nothing (first_line text) ≡ false
  pub begins : trim_start (first_line text) ≡ 91 ∷ inside
  pub behind_is : behind ≡ behind_line text

-- or it is any other line that says something
pub record IsSettingLine (text line : List ℕ) : Type 0 where
  pub some : 0 < length text
  pub line_is : line ≡ first_line text
  pub says : says_nothing (first_line text) ≡ false
  pub other : (inside : List ℕ) → trim_start (first_line text) ≢ 91 ∷ inside
