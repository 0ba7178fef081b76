-- Lines that are read one behind the other.
use Rattle.std.proofs.Common.{◌≡◌, ℕ, suc, ◌+◌, ◌-◌, ◌<◌, ◌≤◌, true, false, List, [], ◌∷◌, ◌++◌}
use Rattle.std.proofs.Common.{append_assoc, append-nil, refl, sym, ap, subst, ◌∙◌, arith, length, length-append, Option, Some, None, inl, inr}
use Rattle.std.specs.Cow.{cow_str_bytes}
use Rattle.std.specs.Prelude.{if◌then◌else◌, option_and_then, option_map}
use Rattle.config_reader.specs.declared.config.Lines.{Lines}
use Rattle.config_reader.specs.declared.name.Name.{Name}
use Rattle.config_reader.specs.Blocks.{AreRead, AreSilent, IsReadAt, Place, start}
use Rattle.config_reader.specs.Names.{has_no_key}
use Rattle.config_reader.specs.Said.{Setting, item_at, said, setting_of, settings_of, text_says}
use Rattle.config_reader.specs.Sections.{spelled}
use Rattle.config_reader.specs.Written.{texts_of}
use Rattle.config_reader.proofs.Items.{both_told, said_end, said_step}

-- what lines say, whatever stands behind them
pub record Say (old : Place) (text : List ℕ) (settings : List Setting) (new : Place) : Type 0 where
  pub items : ℕ
  pub few : items ≤ length text
  pub same : (more : ℕ) (rest : List ℕ) → said (items + more) old.section old.above (text ++ rest)
      ≡ option_map (λ later. settings ++ later) (said more new.section new.above rest)

none_more : (x : Option (List Setting)) → option_map (λ later. [] ++ later) x ≡ x
none_more None = refl
none_more (Some x) = refl

-- an item
one_said : (old : Place) (text : List ℕ) (settings : List Setting) (new : Place) → 0 < length text
    → ((rest : List ℕ) → item_at old.section old.above (text ++ rest) ≡ Some (settings, new.section, new.above, rest))
    → Say old text settings new
one_said old text settings new some is = record {
  items = 1;
  few = omega (arith, some);
  same = λ more rest.
      ap (λ n. said n old.section old.above (text ++ rest)) (one more)
      ∙ said_step more old.section old.above (text ++ rest) (omega (arith, some, length-append text rest))
      ∙ ap (option_and_then (λ r. option_map (λ later. r.0 ++ later) (said more r.1 r.2 r.3))) (is rest);
}
  where
    one : (more : ℕ) → 1 + more ≡ suc more
    one more = omega arith

abbrev pair_said : Name × Lines → List Setting
pair_said pair = settings_of (pair ∷ [])

read_said : (old : Place) (pair : Name × Lines) (new : Place) → IsReadAt old pair new
    → Say old (cow_str_bytes pair.1.text) (pair_said pair) new
read_said old pair new (inl silent) =
    let none : pair_said pair ≡ [] = rw silent.no_key refl in
    record {
      items = silent.text.items;
      few = silent.text.few;
      same = λ more rest.
          silent.text.same old.section old.above more rest
          ∙ rw (none, silent.section, silent.above) (sym (none_more (said more old.section old.above rest)));
    }
read_said old pair new (inr (inl opens)) =
    let none : pair_said pair ≡ [] = rw opens.no_key refl in
    one_said old (cow_str_bytes pair.1.text) (pair_said pair) new opens.text.some
    (λ rest. opens.text.same old.section old.above rest ∙ rw (none, opens.above) refl)
read_said old pair new (inr (inr sets)) =
    let one : pair_said pair ≡ setting_of old.section sets.key (cow_str_bytes pair.1.value) ∷ [] =
    rw sets.has_key (ap (λ s. s ∷ []) sets.setting) in
    one_said old (cow_str_bytes pair.1.text) (pair_said pair) new sets.text.some
    (λ rest. sets.text.same old.section old.above rest sets.fits ∙ rw (one, sets.same) refl)

settings_ahead : (pair : Name × Lines) (pairs : List (Name × Lines)) → settings_of (pair ∷ pairs) ≡ pair_said pair ++ settings_of pairs
settings_ahead pair pairs =
    elim (has_no_key pair.0) as (λ none.
    (if none then settings_of pairs else
    setting_of (spelled pair.0.section) pair.0.key.0.now (cow_str_bytes pair.1.value) ∷ settings_of pairs)
    ≡ (if none then [] else
    setting_of (spelled pair.0.section) pair.0.key.0.now (cow_str_bytes pair.1.value) ∷ []) ++ settings_of pairs) [
      | true ↦ refl
      | false ↦ refl
    ]

pub all_read : (old : Place) (pairs : List (Name × Lines)) (new : Place) → AreRead old pairs new
    → Say old (texts_of pairs) (settings_of pairs) new
all_read old [] new read = record {
  items = 0;
  few = omega arith;
  same = λ more rest. ap (λ n. said n old.section old.above rest) (nothing more)
      ∙ rw read (sym (none_more (said more old.section old.above rest)));
}
  where
    nothing : (more : ℕ) → 0 + more ≡ more
    nothing more = omega arith
all_read old (pair ∷ pairs) new read =
    let text = cow_str_bytes pair.1.text in
    let first = read_said old pair read.0 read.1 in
    let later = all_read read.0 pairs new read.2 in
    record {
      items = first.items + later.items;
      few = omega (arith, first.few, later.few, length-append text (texts_of pairs));
      same = λ more rest.
          ap (λ n. said n old.section old.above ((text ++ texts_of pairs) ++ rest)) (sum first.items later.items more)
          ∙ ap (said (first.items + (later.items + more)) old.section old.above) (append_assoc text (texts_of pairs) rest)
          ∙ first.same (later.items + more) (texts_of pairs ++ rest)
          ∙ ap (option_map (λ all. pair_said pair ++ all)) (later.same more rest)
          ∙ both_told (pair_said pair) (settings_of pairs) (said more new.section new.above rest)
          ∙ ap (λ s. option_map (λ all. s ++ all) (said more new.section new.above rest)) (sym (settings_ahead pair pairs));
    }
  where
    sum : (a b c : ℕ) → (a + b) + c ≡ a + (b + c)
    sum a b c = omega arith

-- the text of lines that are read says what they stand for
pub text_read : (pairs : List (Name × Lines)) (new : Place) → AreRead start pairs new → text_says (texts_of pairs) ≡ Some (settings_of pairs)
text_read pairs new read =
    let all = all_read start pairs new read in
    let text = texts_of pairs in
    let more = length text - all.items in
    ap (λ t. said (length text) ([], []) None t) (sym (append-nil text))
    ∙ ap (λ n. said n ([], []) None (text ++ [])) (rest (length text) all.items all.few)
    ∙ all.same more []
    ∙ ap (option_map (λ later. settings_of pairs ++ later)) (said_end more new.section new.above)
    ∙ ap Some (append-nil (settings_of pairs))
  where
    rest : (n m : ℕ) → m ≤ n → n ≡ m + (n - m)
    rest n m less = omega (arith, less)

-- one more is read
pub read_behind : (old : Place) (pairs : List (Name × Lines)) (mid : Place) (pair : Name × Lines) (new : Place)
    → AreRead old pairs mid → IsReadAt mid pair new → AreRead old (pairs ++ pair ∷ []) new
read_behind old [] mid pair new read is = (new, subst (λ place. IsReadAt place pair new) read is, refl)
read_behind old (p ∷ pairs) mid pair new read is = (read.0, read.1, read_behind read.0 pairs mid pair new read.2 is)

-- lines that say nothing, one behind the other
pub none_silent : AreSilent []
none_silent = record {
  items = 0;
  few = omega arith;
  same = λ section above more rest. ap (λ n. said n section above rest) (nothing more);
}
  where
    nothing : (more : ℕ) → 0 + more ≡ more
    nothing more = omega arith

pub both_silent : (first second : List ℕ) → AreSilent first → AreSilent second → AreSilent (first ++ second)
both_silent first second one two = record {
  items = one.items + two.items;
  few = omega (arith, one.few, two.few, length-append first second);
  same = λ section above more rest.
      ap (λ n. said n section above ((first ++ second) ++ rest)) (sum one.items two.items more)
      ∙ ap (said (one.items + (two.items + more)) section above) (append_assoc first second rest)
      ∙ one.same section above (two.items + more) (second ++ rest)
      ∙ two.same section above more rest;
}
  where
    sum : (a b c : ℕ) → (a + b) + c ≡ a + (b + c)
    sum a b c = omega arith

pub line_silent : (line : List ℕ) → 0 < length line
    → ((section : List ℕ × List ℕ) (above : Option ℕ) (rest : List ℕ) → item_at section above (line ++ rest) ≡ Some ([], section, above, rest))
    → AreSilent line
unfolding one_said
line_silent line some is = record {
  items = 1;
  few = omega (arith, some);
  same = λ section above more rest.
      (one_said (record { section = section; above = above; rank = 0 }) line [] (record { section = section; above = above; rank = 0 }) some (is section above)).same more rest
      ∙ none_more (said more section above rest);
}
