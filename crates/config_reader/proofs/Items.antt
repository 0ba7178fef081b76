-- The items of a text, one behind the other.
use Rattle.std.proofs.Common.{◌≡◌, ◌≢◌, ℕ, suc, zero, ◌<◌, ◌==◌, Bool, true, false, List, [], ◌∷◌, ◌++◌, Option, Some, None}
use Rattle.std.proofs.Common.{append_assoc, refl, sym, ap, arith, length}
use Rattle.std.proofs.lemmas.Bool.{eqb-true}
use Rattle.std.specs.Prelude.{option_and_then, option_map}
use Rattle.std.specs.Str.{trim_start}
use Rattle.config_reader.specs.Lines.{behind_line, first_line, says_nothing}
use Rattle.config_reader.specs.Said.{Setting, indent_of, is_deeper, item_at, item_of, said, setting_at, setting_item, setting_of}
use Rattle.config_reader.specs.Sections.{opened}

module _ (section : List ℕ × List ℕ) (above : Option ℕ) (text : List ℕ) where
  -- a line that says nothing
  pub nothing_item : says_nothing (first_line text) ≡ true
      → item_at section above text ≡ Some ([], section, above, behind_line text)
  nothing_item is = rw is refl

  -- the line of a section
  pub section_item : (inside : List ℕ) (inner : List ℕ × List ℕ) → says_nothing (first_line text) ≡ false
      → trim_start (first_line text) ≡ 91 ∷ inside → opened inside ≡ Some inner
      → item_at section above text ≡ Some ([], inner, None, behind_line text)
  section_item inside inner says begins opens = rw (says, begins, opens) refl

  -- any other line
  pub other_item : says_nothing (first_line text) ≡ false
      → ((inside : List ℕ) → trim_start (first_line text) ≢ 91 ∷ inside)
      → item_at section above text ≡ setting_item section above text
  other_item says other = rw says (by (trim_start (first_line text)) other)
    where
      by : (line : List ℕ) → ((inside : List ℕ) → line ≢ 91 ∷ inside)
          → item_of line section above text ≡ setting_item section above text
      by [] other = refl
      by (b ∷ inside) other = by_first (b == 91) refl
        where
          by_first : (is : Bool) → (b == 91) ≡ is → item_of (b ∷ inside) section above text ≡ setting_item section above text
          by_first true is = absurd (other inside (ap (λ c. c ∷ inside) (eqb-true b 91 is)))
          by_first false is = rw is refl

  -- a setting
  pub read_setting_item : (key value rest : List ℕ) → is_deeper (indent_of (first_line text)) above ≡ false
      → setting_at text ≡ Some (key, value, rest)
      → setting_item section above text
      ≡ Some (setting_of section key value ∷ [], section, Some (indent_of (first_line text)), rest)
  read_setting_item key value rest fits is = rw (fits, is) refl

-- what a text says is what its first item says, and then the rest
pub said_step : (items : ℕ) (section : List ℕ × List ℕ) (above : Option ℕ) (text : List ℕ) → 0 < length text
    → said (suc items) section above text
    ≡ option_and_then (λ r. option_map (λ later. r.0 ++ later) (said items r.1 r.2 r.3)) (item_at section above text)
unfolding said
said_step items section above [] some = absurd (omega (arith, some))
said_step items section above (b ∷ text) some = refl

pub said_end : (items : ℕ) (section : List ℕ × List ℕ) (above : Option ℕ) → said items section above [] ≡ Some []
unfolding said
said_end zero section above = refl
said_end (suc items) section above = refl

pub both_told : (first second : List Setting) (later : Option (List Setting))
    → option_map (λ all. first ++ all) (option_map (λ all. second ++ all) later)
    ≡ option_map (λ all. (first ++ second) ++ all) later
both_told first second None = refl
both_told first second (Some later) = ap Some (sym (append_assoc first second later))
