-- Lines that stay where others go are still read as what they stand for.
use Rattle.std.proofs.Common.{◌≡◌, ℕ, Bool, true, false, not, cond, List, [], ◌∷◌, filter}
use Rattle.std.proofs.Common.{refl, sym, ap, subst, ◌∙◌, arith, Option, Some, None, inl, inr}
use Rattle.std.proofs.lemmas.Bool.{true≢false}
use Rattle.std.proofs.lemmas.Bool.Decides.{nat_tests}
use Rattle.std.specs.Cow.{cow_str_bytes}
use Rattle.std.specs.Map.{keys_of}
use Rattle.ordered_multimap.specs.Changes.{removed}
use Rattle.ordered_multimap.specs.Keys.{is_listed}
use Rattle.ordered_multimap.specs.Lists.{Lists}
use Rattle.config_reader.specs.declared.config.Lines.{Lines}
use Rattle.config_reader.specs.declared.name.Name.{Name}
use Rattle.config_reader.specs.Blocks.{AreRead, HaveKeys, IsConfig, IsOfSettings, IsReadAt, IsSilentAt, OpensAt, Place, SetsAt, settings_rank, start}
use Rattle.config_reader.specs.Names.{has_no_key, same_name}
use Rattle.config_reader.specs.Said.{is_deeper, lowered, setting_of}
use Rattle.config_reader.proofs.Settings.{same_no_key}

-- a setting that fits below the one fits below the other too
abbrev pub IsLooser : Option ℕ → Option ℕ → Type 0
IsLooser above other = (indent : ℕ) → is_deeper indent other ≡ false → is_deeper indent above ≡ false

pub same_looser : (above : Option ℕ) → IsLooser above above
same_looser above indent fits = fits

-- below a setting that fits
pub looser_below : (above : Option ℕ) (indent : ℕ) → is_deeper indent above ≡ false → IsLooser above (Some indent)
looser_below None indent fits other below = refl
looser_below (Some above) indent fits other below = grind (arith, nat_tests)

-- lines that are read from a place
abbrev pub IsReadFrom : Place → List (Name × Lines) → Type 0
IsReadFrom old pairs = (end : Place) × AreRead old pairs end

-- lines that say nothing, and the line of a section, are read below any setting
module _ (old here : Place) (pair : Name × Lines) (new : Place) (rank : here.rank ≡ old.rank) where
  pub opens_anywhere : OpensAt old pair new → OpensAt here pair new
  opens_anywhere opens = record {
    text = opens.text;
    no_key = opens.no_key;
    named = opens.named;
    above = opens.above;
    of_rank = opens.of_rank;
    later = omega (arith, opens.later, rank);
    begins = opens.begins;
  }

  pub silent_anywhere : here.section ≡ old.section → IsSilentAt old pair new → IsSilentAt here pair (record { section = here.section; above = here.above; rank = new.rank })
  silent_anywhere section silent = record {
    text = silent.text;
    no_key = silent.no_key;
    named = silent.named ∙ ap lowered (sym section);
    section = refl;
    above = refl;
    of_rank = silent.of_rank;
    later = omega (arith, silent.later, rank);
    inside = silent.inside ∙ ap settings_rank (sym rank);
  }

module _ (keep : Name × Lines → Bool) where
  pub left_read : (pairs : List (Name × Lines)) (old new here : Place) → here.section ≡ old.section → here.rank ≡ old.rank → IsLooser here.above old.above
      → ((pair : Name × Lines) → keep pair ≡ false → has_no_key pair.0 ≡ false)
      → AreRead old pairs new → IsReadFrom here (filter keep pairs)
  left_read [] old new here section rank above keyed read = (here, refl)
  left_read (pair ∷ pairs) old new here section rank above keyed read =
      by_keep (keep pair) refl (λ next same level looser. left_read pairs read.0 new next same level looser keyed read.2)
    where
      stays : (next : Place) → IsReadAt here pair next → IsReadFrom next (filter keep pairs) → IsReadFrom here (pair ∷ filter keep pairs)
      stays next is later = (later.0, (next, is, later.1))

      kept : IsReadAt old pair read.0 → ((next : Place) → next.section ≡ read.0.section → next.rank ≡ read.0.rank → IsLooser next.above read.0.above → IsReadFrom next (filter keep pairs))
          → IsReadFrom here (pair ∷ filter keep pairs)
      kept (inl silent) later =
          let next : Place = record { section = here.section; above = here.above; rank = read.0.rank } in
          stays next (inl (silent_anywhere old here pair read.0 rank section silent))
          (later next (section ∙ sym silent.section) refl (subst (IsLooser here.above) (sym silent.above) above))
      kept (inr (inl opens)) later = stays read.0 (inr (inl (opens_anywhere old here pair read.0 rank opens))) (later read.0 refl refl (same_looser read.0.above))
      kept (inr (inr sets)) later =
          let next : Place = record { section = here.section; above = Some sets.indent; rank = here.rank } in
          let is : SetsAt here pair next = record {
            key = sets.key;
            indent = sets.indent;
            text = sets.text;
            has_key = sets.has_key;
            fits = above sets.indent sets.fits;
            setting = sets.setting ∙ ap (λ s. setting_of s sets.key (cow_str_bytes pair.1.value)) (sym section);
            of_rank = sets.of_rank ∙ sym rank;
            inside = subst IsOfSettings (sym rank) sets.inside;
            same = refl;
          } in
          stays next (inr (inr is))
          (later next (section ∙ ap (λ place. place.section) (sym sets.same)) (rank ∙ ap (λ place. place.rank) (sym sets.same))
          (subst (λ place. IsLooser (Some sets.indent) place.above) (sym sets.same) (same_looser (Some sets.indent))))

      goes : IsReadAt old pair read.0 → has_no_key pair.0 ≡ false → ((next : Place) → next.section ≡ read.0.section → next.rank ≡ read.0.rank → IsLooser next.above read.0.above → IsReadFrom next (filter keep pairs))
          → IsReadFrom here (filter keep pairs)
      goes (inl silent) keyed later = absurd (true≢false (sym silent.no_key ∙ keyed))
      goes (inr (inl opens)) keyed later = absurd (true≢false (sym opens.no_key ∙ keyed))
      goes (inr (inr sets)) keyed later =
          later here (section ∙ ap (λ place. place.section) (sym sets.same)) (rank ∙ ap (λ place. place.rank) (sym sets.same))
          (subst (λ place. IsLooser here.above place.above) (sym sets.same)
          (looser_below here.above sets.indent (above sets.indent sets.fits)))

      by_keep : (stay : Bool) → keep pair ≡ stay → ((next : Place) → next.section ≡ read.0.section → next.rank ≡ read.0.rank → IsLooser next.above read.0.above → IsReadFrom next (filter keep pairs))
          → IsReadFrom here (cond stay (pair ∷ filter keep pairs) (filter keep pairs))
      by_keep true is later = kept read.1 later
      by_keep false is later = goes read.1 (keyed pair is) later

-- the names that go with a key have it
pub gone_has_key : (name : Name) → has_no_key name ≡ false → (pair : Name × Lines) → not (same_name name pair.0) ≡ false
    → has_no_key pair.0 ≡ false
gone_has_key name keyed pair gone = sym (same_no_key name pair.0 (not_kept (same_name name pair.0) gone)) ∙ keyed
  where
    not_kept : (is : Bool) → not is ≡ false → is ≡ true
    not_kept true gone = refl
    not_kept false gone = absurd (true≢false gone)

keys_left : (keep : Name → Bool) (names : List Name) → HaveKeys names → HaveKeys (filter keep names)
keys_left keep [] all = tt
keys_left keep (name ∷ names) all = by (keep name) (keys_left keep names all.1)
  where
    by : (stay : Bool) → HaveKeys (filter keep names) → HaveKeys (cond stay (name ∷ filter keep names) (filter keep names))
    by true later = (all.0, later)
    by false later = later

-- what `unset` leaves is read as what it stands for
pub removed_read : (name : Name) (old : Lists Name Lines) → has_no_key name ≡ false → IsConfig old
    → IsConfig (removed same_name old name)
removed_read name old keyed config =
    let left = left_read (λ p. not (same_name name p.0)) old.pairs start config.end start refl refl (same_looser None)
    (gone_has_key name keyed) config.read in
    record {
      end = left.0;
      read = left.1;
      keys = keys_left (is_listed same_name (keys_of (removed same_name old name).pairs)) old.keys config.keys;
    }
