-- What is the same of names that are the same.
use Rattle.std.proofs.Common.{◌≡◌, ℕ, true, false, List, [], ◌∷◌}
use Rattle.std.proofs.Common.{refl, sym, ap, ◌∙◌}
use Rattle.std.proofs.lemmas.Bool.{and_parts, true≢false}
use Rattle.std.proofs.lemmas.Slice.Eq.{bytes_eq-Decides}
use Rattle.std.specs.Str.{bytes_eq, str_eq_ignore_ascii_case, str_to_ascii_lowercase}
use Rattle.ordered_multimap.specs.Pairs.{has_items}
use Rattle.config_reader.specs.declared.name.Name.{Name}
use Rattle.config_reader.specs.declared.section.Section.{Section}
use Rattle.config_reader.specs.Names.{has_no_key, is_no_section, same_name, same_section}
use Rattle.config_reader.specs.Said.{lowered, setting_of}
use Rattle.config_reader.specs.Sections.{spelled}

same_bytes : (a b : List ℕ) → bytes_eq a b ≡ true → a ≡ b
same_bytes a b same = (bytes_eq-Decides a b).0 same

-- what is the same of two names that are the same
module _ (name other : Name) (same : same_name name other ≡ true) where
  parts : (same_section name.section other.section ≡ true) × (str_eq_ignore_ascii_case name.key.0.now other.key.0.now ≡ true)
  parts = and_parts (same_section name.section other.section) (str_eq_ignore_ascii_case name.key.0.now other.key.0.now) same

  sections : (str_eq_ignore_ascii_case name.section.word.0.now other.section.word.0.now ≡ true)
      × (bytes_eq name.section.sub.now other.section.sub.now ≡ true)
  sections =
      and_parts (str_eq_ignore_ascii_case name.section.word.0.now other.section.word.0.now)
      (bytes_eq name.section.sub.now other.section.sub.now) parts.0

  pub same_key : str_to_ascii_lowercase name.key.0.now ≡ str_to_ascii_lowercase other.key.0.now
  same_key = same_bytes (str_to_ascii_lowercase name.key.0.now) (str_to_ascii_lowercase other.key.0.now) parts.1

  pub same_spelled : lowered (spelled name.section) ≡ lowered (spelled other.section)
  same_spelled =
      rw (
        same_bytes (str_to_ascii_lowercase name.section.word.0.now) (str_to_ascii_lowercase other.section.word.0.now) sections.0,
        same_bytes name.section.sub.now other.section.sub.now sections.1,
      ) refl

  pub same_setting : (value : List ℕ) → setting_of (spelled name.section) name.key.0.now value
      ≡ setting_of (spelled other.section) other.key.0.now value
  same_setting value = ap (λ s. (s, (str_to_ascii_lowercase name.key.0.now, value))) same_spelled
      ∙ ap (λ k. (lowered (spelled other.section), (k, value))) same_key

  pub same_no_key : has_no_key name ≡ has_no_key other
  same_no_key = ap (λ key. bytes_eq key (str_to_ascii_lowercase [])) same_key

pub empty_key : (name : Name) → name.key.0.now ≡ [] → has_no_key name ≡ true
empty_key name none = ap (λ key. str_eq_ignore_ascii_case key []) none

pub some_key : (key : List ℕ) → has_items key ≡ true → str_eq_ignore_ascii_case key [] ≡ false
some_key [] some = absurd (true≢false (sym some))
some_key (b ∷ key) some = refl

pub no_section : (section : Section) → is_no_section section ≡ true → lowered (spelled section) ≡ lowered ([], [])
no_section section is =
    let both = and_parts (str_eq_ignore_ascii_case section.word.0.now []) (bytes_eq section.sub.now []) is in
    rw (same_bytes (str_to_ascii_lowercase section.word.0.now) (str_to_ascii_lowercase []) both.0, same_bytes section.sub.now [] both.1) refl
