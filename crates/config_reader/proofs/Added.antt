-- A setting that is added behind those of its rank is read as what it stands for, and so are all lines around it.
use Rattle.std.proofs.Common.{◌≡◌, ◌⊎◌, ℕ, ◌+◌, ◌==◌, ◌<◌, ◌≤◌, Bool, true, false, not, ◌&&◌, cond, List, [], ◌∷◌}
use Rattle.std.proofs.Common.{refl, sym, ap, subst, ◌∙◌, arith, Option, Some, None, inl, inr}
use Rattle.std.proofs.lemmas.Bool.{eq-eqb, ne_eqb}
use Rattle.std.proofs.lemmas.Bool.Decides.{nat_tests}
use Rattle.std.specs.Cow.{cow_str_bytes}
use Rattle.std.specs.Prelude.{if◌then◌else◌, nat_le}
use Rattle.std.specs.Str.{str_to_ascii_lowercase}
use Rattle.config_reader.specs.declared.config.Lines.{Lines}
use Rattle.config_reader.specs.declared.name.Name.{Name}
use Rattle.config_reader.specs.Blocks.{AreRead, AreSetting, IsNamedBy, IsOfSettings, IsReadAt, Place, SetsAt, settings_rank}
use Rattle.config_reader.specs.Changed.{last_indent}
use Rattle.config_reader.specs.Lines.{first_line}
use Rattle.config_reader.specs.Names.{has_no_key}
use Rattle.config_reader.specs.Said.{indent_of, is_deeper, lowered}
use Rattle.config_reader.proofs.Levels.{closing_rank, rank_least, rank_most}
use Rattle.config_reader.proofs.Ranked.{IsRising, inserted}
use Rattle.config_reader.proofs.Removed.{IsReadFrom, opens_anywhere, silent_anywhere}

abbrev pub rank_of : Name × Lines → ℕ
rank_of pair = pair.1.rank

-- no rank falls along lines that are read
pub rises_at : (old : Place) (pair : Name × Lines) (new : Place) → IsReadAt old pair new → (old.rank ≤ new.rank) × (rank_of pair ≡ new.rank)
rises_at old pair new (inl silent) = (silent.later, silent.of_rank)
rises_at old pair new (inr (inl opens)) = (omega (arith, opens.later), opens.of_rank)
rises_at old pair new (inr (inr sets)) =
    let same : new.rank ≡ old.rank = ap (λ place. place.rank) sets.same in
    (omega (arith, same), sets.of_rank ∙ sym same)

pub read_rises : (old : Place) (pairs : List (Name × Lines)) (new : Place) → AreRead old pairs new → IsRising rank_of old.rank pairs
read_rises old [] new read = tt
read_rises old (pair ∷ pairs) new read =
    let at = rises_at old pair read.0 read.1 in
    (omega (arith, at.0, at.1), subst (λ low. IsRising rank_of low pairs) (sym at.1) (read_rises read.0 pairs new read.2))

-- how far the last setting of a rank is indented, behind one more line
module _ (r : ℕ) (pair : Name × Lines) (last : Option ℕ) where
  abbrev step : Option ℕ
  step = if not (has_no_key pair.0) && pair.1.rank == r then Some (indent_of (first_line (cow_str_bytes pair.1.text))) else last

  step_no_key : has_no_key pair.0 ≡ true → step ≡ last
  step_no_key none = rw none refl

  step_other : (rank_of pair == r) ≡ false → step ≡ last
  step_other other = by (not (has_no_key pair.0))
    where
      by : (keyed : Bool) → (if keyed && pair.1.rank == r then Some (indent_of (first_line (cow_str_bytes pair.1.text))) else last) ≡ last
      by true = rw other refl
      by false = refl

  step_setting : has_no_key pair.0 ≡ false → rank_of pair ≡ r → step ≡ Some (indent_of (first_line (cow_str_bytes pair.1.text)))
  step_setting keyed same = rw (keyed, eq-eqb (rank_of pair) r same) refl

module _ (section : List ℕ × List ℕ) (r : ℕ) (level : IsOfSettings r) where
  -- the section is open, or behind its settings
  abbrev pub IsHere : Place → Type 0
  IsHere place = (settings_rank place.rank ≡ r) × (lowered place.section ≡ lowered section)

  -- it is so somewhere along lines that are read
  abbrev pub IsReached : (old : Place) (pairs : List (Name × Lines)) (new : Place) → AreRead old pairs new → Type 0
  IsReached old [] new read = IsHere old
  IsReached old (pair ∷ pairs) new read = IsHere old ⊎ IsReached read.0 pairs new read.2

  pub reached : (old : Place) (pairs : List (Name × Lines)) (new : Place) (read : AreRead old pairs new) → IsHere old → IsReached old pairs new read
  reached old [] new read here = here
  reached old (pair ∷ pairs) new read here = inl here

  -- behind the settings of a section another one is opened before the next setting
  back_at : (old : Place) (pair : Name × Lines) (new : Place) → IsReadAt old pair new → IsHere new → r < new.rank → IsHere old
  back_at old pair new (inl silent) here more = (sym silent.inside ∙ here.0, ap lowered (sym silent.section) ∙ here.1)
  back_at old pair new (inr (inl opens)) here more = absurd (omega (arith, sym opens.begins ∙ here.0, more))
  back_at old pair new (inr (inr sets)) here more =
      (ap (λ (place : Place). settings_rank place.rank) (sym sets.same) ∙ here.0, ap (λ (place : Place). lowered place.section) (sym sets.same) ∙ here.1)

  back : (old : Place) (pairs : List (Name × Lines)) (new : Place) (read : AreRead old pairs new) → IsReached old pairs new read → r < old.rank → IsHere old
  back old [] new read here more = here
  back old (pair ∷ pairs) new read (inl here) more = here
  back old (pair ∷ pairs) new read (inr later) more =
      let after : r < read.0.rank = omega (arith, more, (rises_at old pair read.0 read.1).0) in
      back_at old pair read.0 read.1 (back read.0 pairs new read.2 later after) after

  -- no setting is read there, whatever stands above
  closed_free : (old here : Place) (pairs : List (Name × Lines)) (new : Place) → here.section ≡ old.section → here.rank ≡ old.rank → old.rank ≡ r + 1
      → AreRead old pairs new → IsReadFrom here pairs
  closed_free old here [] new section same closed read = (here, refl)
  closed_free old here (pair ∷ pairs) new section same closed read = by read.1 (λ next is level more. closed_free read.0 next pairs new is level more read.2)
    where
      by : IsReadAt old pair read.0
          → ((next : Place) → next.section ≡ read.0.section → next.rank ≡ read.0.rank → read.0.rank ≡ r + 1 → IsReadFrom next pairs)
          → IsReadFrom here (pair ∷ pairs)
      by (inl silent) later =
          let inside : settings_rank read.0.rank ≡ r = silent.inside ∙ ap settings_rank closed ∙ closing_rank r level in
          let next : Place = record { section = here.section; above = here.above; rank = read.0.rank } in
          let after = later next (section ∙ sym silent.section) refl (omega (arith, silent.later, closed, inside, rank_most read.0.rank)) in
          (after.0, (next, inl (silent_anywhere old here pair read.0 same section silent), after.1))
      by (inr (inl opens)) later = (new, (read.0, inr (inl (opens_anywhere old here pair read.0 same opens)), read.2))
      by (inr (inr sets)) later = absurd (omega (arith, sets.inside, closed, ap settings_rank closed ∙ closing_rank r level))

  -- no setting of this rank stands behind it
  last_above : (old : Place) (pairs : List (Name × Lines)) (new : Place) (last : Option ℕ) → AreRead old pairs new → r < old.rank → last_indent r pairs last ≡ last
  last_above old [] new last read more = refl
  last_above old (pair ∷ pairs) new last read more =
      let at = rises_at old pair read.0 read.1 in
      let other : (rank_of pair == r) ≡ false = ne_eqb (rank_of pair) r (λ is. omega (arith, at.0, at.1, more, is)) in
      ap (last_indent r pairs) (step_other r pair last other)
      ∙ last_above read.0 pairs new last read.2 (omega (arith, at.0, more))

  -- so it is behind the settings of a section
  free_at : (old here : Place) (pair : Name × Lines) (pairs : List (Name × Lines)) (mid new : Place) → here.section ≡ old.section → here.rank ≡ old.rank → old.rank ≡ r
      → r < rank_of pair → IsReadAt old pair mid → AreRead mid pairs new → IsReadFrom here (pair ∷ pairs)
  free_at old here pair pairs mid new section same at more (inl silent) read =
      let inside : settings_rank mid.rank ≡ r = silent.inside ∙ ap settings_rank at ∙ level in
      let next : Place = record { section = here.section; above = here.above; rank = mid.rank } in
      let after = closed_free mid next pairs new (section ∙ sym silent.section) refl (omega (arith, more, silent.of_rank, inside, rank_most mid.rank)) read in
      (after.0, (next, inl (silent_anywhere old here pair mid same section silent), after.1))
  free_at old here pair pairs mid new section same at more (inr (inl opens)) read =
      (new, (mid, inr (inl (opens_anywhere old here pair mid same opens)), read))
  free_at old here pair pairs mid new section same at more (inr (inr sets)) read = absurd (omega (arith, more, sets.of_rank, at))

  module _ (name : Name) (setting : Lines) (key : List ℕ) (indent : ℕ) (of_rank : setting.rank ≡ r) (has_key : has_no_key name ≡ false)
      (named : IsNamedBy section name) (key_is : str_to_ascii_lowercase name.key.0.now ≡ str_to_ascii_lowercase key)
      (reads : AreSetting (cow_str_bytes setting.text) key (cow_str_bytes setting.value) indent) where
    abbrev added : Name × Lines
    added = (name, setting)

    sets_here : (old : Place) → IsHere old → old.rank ≡ r → is_deeper indent old.above ≡ false
        → SetsAt old added (record { section = old.section; above = Some indent; rank = old.rank })
    sets_here old here same fits = record {
      key = key;
      indent = indent;
      text = reads;
      has_key = has_key;
      fits = fits;
      setting = ap (λ s. (s, (str_to_ascii_lowercase name.key.0.now, cow_str_bytes setting.value))) (named ∙ sym here.1)
          ∙ ap (λ k. (lowered old.section, (k, cow_str_bytes setting.value))) key_is;
      of_rank = of_rank ∙ sym same;
      inside = subst IsOfSettings (sym same) level;
      same = refl;
    }

    pub inserted_read : (old : Place) (pairs : List (Name × Lines)) (new : Place) (last : Option ℕ) (read : AreRead old pairs new) → IsReached old pairs new read
        → old.rank ≤ r → (old.rank ≡ r → old.above ≡ last) → (old.rank < r → last ≡ None)
        → is_deeper indent (last_indent r pairs last) ≡ false → IsReadFrom old (inserted rank_of added pairs)
    inserted_read old [] new last read here least same none fits =
        let at : old.rank ≡ r = omega (arith, least, here.0, rank_least old.rank) in
        let next : Place = record { section = old.section; above = Some indent; rank = old.rank } in
        (next, (next, inr (inr (sets_here old here at (ap (is_deeper indent) (same at) ∙ fits))), refl))
    inserted_read old (pair ∷ pairs) new last read is least same none fits =
        by (nat_le (rank_of pair) (rank_of added)) refl (inserted_read read.0 pairs new (step r pair last) read.2)
      where
        here_next : IsHere old → rank_of pair ≤ r → IsReadAt old pair read.0 → IsHere read.0
        here_next here low (inl silent) = (silent.inside ∙ here.0, ap lowered silent.section ∙ here.1)
        here_next here low (inr (inl opens)) = absurd (omega (arith, low, opens.of_rank, opens.later, here.0, rank_least old.rank))
        here_next here low (inr (inr sets)) =
            (ap (λ (place : Place). settings_rank place.rank) sets.same ∙ here.0, ap (λ (place : Place). lowered place.section) sets.same ∙ here.1)

        reached_next : (IsHere old ⊎ IsReached read.0 pairs new read.2) → rank_of pair ≤ r → IsReached read.0 pairs new read.2
        reached_next (inl here) low = reached read.0 pairs new read.2 (here_next here low read.1)
        reached_next (inr later) low = later

        same_next : IsReadAt old pair read.0 → read.0.rank ≡ r → read.0.above ≡ step r pair last
        same_next (inl silent) at =
            let inside : settings_rank old.rank ≡ r = sym silent.inside ∙ ap settings_rank at ∙ level in
            silent.above ∙ same (omega (arith, least, inside, rank_least old.rank)) ∙ sym (step_no_key r pair last silent.no_key)
        same_next (inr (inl opens)) at =
            opens.above ∙ sym (none (omega (arith, opens.later, at))) ∙ sym (step_no_key r pair last opens.no_key)
        same_next (inr (inr sets)) at =
            ap (λ place. place.above) sets.same ∙ ap Some sets.text.indented
            ∙ sym (step_setting r pair last sets.has_key (sets.of_rank ∙ sym (ap (λ place. place.rank) sets.same) ∙ at))

        none_next : IsReadAt old pair read.0 → read.0.rank < r → step r pair last ≡ None
        none_next (inl silent) low = step_no_key r pair last silent.no_key ∙ none (omega (arith, silent.later, low))
        none_next (inr (inl opens)) low = step_no_key r pair last opens.no_key ∙ none (omega (arith, opens.later, low))
        none_next (inr (inr sets)) low =
            let level : read.0.rank ≡ old.rank = ap (λ place. place.rank) sets.same in
            step_other r pair last (ne_eqb (rank_of pair) r (λ e. omega (arith, e, sets.of_rank, level, low))) ∙ none (omega (arith, level, low))

        here_now : (IsHere old ⊎ IsReached read.0 pairs new read.2) → r < rank_of pair → IsHere old
        here_now (inl here) more = here
        here_now (inr later) more =
            let after : r < read.0.rank = omega (arith, more, (rises_at old pair read.0 read.1).1) in
            back_at old pair read.0 read.1 (back read.0 pairs new read.2 later after) after

        put : r < rank_of pair → IsReadFrom old (added ∷ pair ∷ pairs)
        put more =
            let here = here_now is more in
            let at : old.rank ≡ r = omega (arith, least, here.0, rank_least old.rank) in
            let other : (rank_of pair == r) ≡ false = ne_eqb (rank_of pair) r (λ e. omega (arith, e, more)) in
            let after : r < read.0.rank = omega (arith, more, (rises_at old pair read.0 read.1).1) in
            let alone : last_indent r (pair ∷ pairs) last ≡ last = ap (last_indent r pairs) (step_other r pair last other) ∙ last_above read.0 pairs new last read.2 after in
            let next : Place = record { section = old.section; above = Some indent; rank = old.rank } in
            let behind = free_at old next pair pairs read.0 new refl refl at more read.1 read.2 in
            (behind.0, (next, inr (inr (sets_here old here at (ap (is_deeper indent) (same at ∙ sym alone) ∙ fits))), behind.1))

        by : (low : Bool) → nat_le (rank_of pair) (rank_of added) ≡ low
            → (IsReached read.0 pairs new read.2 → read.0.rank ≤ r → (read.0.rank ≡ r → read.0.above ≡ step r pair last) → (read.0.rank < r → step r pair last ≡ None)
            → is_deeper indent (last_indent r pairs (step r pair last)) ≡ false → IsReadFrom read.0 (inserted rank_of added pairs))
            → IsReadFrom old (cond low (pair ∷ inserted rank_of added pairs) (added ∷ pair ∷ pairs))
        by true low later =
            let below : rank_of pair ≤ rank_of added = grind (arith, nat_tests) in
            let at : rank_of pair ≤ r = omega (arith, below, of_rank) in
            let after = later (reached_next is at) (omega (arith, at, (rises_at old pair read.0 read.1).1)) (same_next read.1) (none_next read.1) fits in
            (after.0, (read.0, read.1, after.1))
        by false high later =
            let above : rank_of added < rank_of pair = grind (arith, nat_tests) in
            put (omega (arith, above, of_rank))
