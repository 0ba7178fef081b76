-- An item that is read.
use Rattle.std.specs.Cow.{cow_str_bytes}
use Rattle.std.specs.Prelude.{◌≡◌, ℕ, List, ◌++◌}
use Rattle.ordered_multimap.specs.Changes.{appended}
use Rattle.ordered_multimap.specs.Lists.{Lists}
use Rattle.config_reader.specs.declared.config.Lines.{Lines}
use Rattle.config_reader.specs.declared.name.Name.{Name}
use Rattle.config_reader.specs.declared.section.Section.{Section}
use Rattle.config_reader.specs.Lines.{lined}
use Rattle.config_reader.specs.Names.{same_name}

-- the lines of a text in front of its end, of this value and rank, are added behind all others,
-- under the section and the key
pub record AddsItem (section : Section) (key value text behind : List ℕ) (rank : ℕ)
    (old new : Lists Name Lines) : Type 0 where
  pub name : Name
  pub of_section : name.section ≡ section
  pub of_key : name.key.0.now ≡ key
  pub lines : Lines
  pub of_value : cow_str_bytes lines.value ≡ value
  pub of_rank : lines.rank ≡ rank
  pub of_text : (part : List ℕ) → text ≡ part ++ behind
      → cow_str_bytes lines.text ≡ lined part
  pub lists : new ≡ appended same_name old name lines
