-- Lines in which a setting takes the place of another one are still read as what they stand for.
use Rattle.std.proofs.Common.{◌≡◌, ℕ, Bool, true, false, not, cond, List, [], ◌∷◌, filter, map}
use Rattle.std.proofs.Common.{refl, sym, ap, subst, ◌∙◌, length, Some, inl, inr, slice_get, unwrap_or, find}
use Rattle.std.proofs.lemmas.Bool.{and_parts, true≢false}
use Rattle.std.specs.Cow.{cow_str_bytes}
use Rattle.std.specs.List.{list_any}
use Rattle.std.specs.Str.{chars, str_to_ascii_lowercase}
use Rattle.ordered_multimap.specs.Changes.{appended}
use Rattle.ordered_multimap.specs.Keys.{stored_key}
use Rattle.ordered_multimap.specs.Lists.{Lists}
use Rattle.ordered_multimap.specs.OneValue.{only_written, pairs_with_only}
use Rattle.ordered_multimap.specs.Pairs.{has_items, is_present, pairs_except, values_where}
use Rattle.config_reader.specs.declared.config.Lines.{Lines}
use Rattle.config_reader.specs.declared.name.Name.{Name}
use Rattle.config_reader.specs.Blocks.{AreRead, AreSetting, HaveKeys, IsConfig, IsReadAt, Place, SetsAt, start}
use Rattle.config_reader.specs.Changed.{Replaces}
use Rattle.config_reader.specs.Lines.{first_line}
use Rattle.config_reader.specs.Names.{has_no_key, is_key, is_outside_key, same_name}
use Rattle.config_reader.specs.Said.{indent_of, is_deeper}
use Rattle.config_reader.proofs.Alone.{same_stored}
use Rattle.config_reader.proofs.ReadBack.{same_name_laws}
use Rattle.config_reader.proofs.Removed.{IsReadFrom, gone_has_key, left_read, same_looser}
use Rattle.config_reader.proofs.Settings.{same_key, same_no_key, some_key}

-- a name with such a key has one
pub has_key : (name : Name) → is_key name.key.0.now ≡ true → has_no_key name ≡ false
has_key name allowed =
    some_key name.key.0.now (and_parts (has_items name.key.0.now) (not (list_any is_outside_key (chars name.key.0.now))) allowed).0

-- the key that is stored for such a name is one that a setting can have
pub stored_is_key : (name : Name) (names : List Name) → is_key name.key.0.now ≡ true → HaveKeys names
    → is_key (stored_key same_name names name).key.0.now ≡ true
stored_is_key name [] allowed all = allowed
stored_is_key name (other ∷ names) allowed all =
    elim (same_name name other) as (λ b. same_name name other ≡ b
    → is_key (unwrap_or (cond b (Some other) (find (same_name name) names)) name).key.0.now ≡ true) [
      | true ↦ λ e. all.0 (sym (same_no_key name other e) ∙ has_key name allowed)
      | false ↦ λ e. stored_is_key name names allowed all.1
    ] refl

module _ (name : Name) (setting : Lines) (key : List ℕ) (indent : ℕ) (keyed : has_no_key name ≡ false)
    (key_is : str_to_ascii_lowercase name.key.0.now ≡ str_to_ascii_lowercase key)
    (reads : AreSetting (cow_str_bytes setting.text) key (cow_str_bytes setting.value) indent) where
  -- the first line of the setting is indented as the one that it replaces
  replaced_at : (old : Place) (pair : Name × Lines) (new : Place) → same_name name pair.0 ≡ true → setting.rank ≡ pair.1.rank
      → indent ≡ indent_of (first_line (cow_str_bytes pair.1.text)) → IsReadAt old pair new → IsReadAt old (pair.0, setting) new
  replaced_at old pair new same rank indented (inl silent) =
      absurd (true≢false (sym silent.no_key ∙ sym (same_no_key name pair.0 same) ∙ keyed))
  replaced_at old pair new same rank indented (inr (inl opens)) =
      absurd (true≢false (sym opens.no_key ∙ sym (same_no_key name pair.0 same) ∙ keyed))
  replaced_at old pair new same rank indented (inr (inr sets)) =
      let indent_is : indent ≡ sets.indent = indented ∙ sym sets.text.indented in
      let v : List ℕ = cow_str_bytes setting.value in
      let section = ap (λ s. s.0) sets.setting in
      let lower : str_to_ascii_lowercase pair.0.key.0.now ≡ str_to_ascii_lowercase key = sym (same_key name pair.0 same) ∙ key_is in
      let is : SetsAt old (pair.0, setting) new = record {
        key = key;
        indent = indent;
        text = reads;
        has_key = sets.has_key;
        fits = ap (λ i. is_deeper i old.above) indent_is ∙ sets.fits;
        setting = ap (λ x. (x, (str_to_ascii_lowercase pair.0.key.0.now, v))) section
            ∙ ap (λ k. ((str_to_ascii_lowercase old.section.0, old.section.1), (k, v))) lower;
        of_rank = rank ∙ sets.of_rank;
        inside = sets.inside;
        same = sets.same ∙ ap (λ (i : ℕ). record { section = old.section; above = Some i; rank = old.rank }) (sym indent_is);
      } in
      inr (inr is)

  replaced_read : (pairs : List (Name × Lines)) (first : Lines) (old new : Place)
      → Some first ≡ slice_get (values_where (same_name name) pairs) 0 → setting.rank ≡ first.rank
      → indent ≡ indent_of (first_line (cow_str_bytes first.text)) → AreRead old pairs new
      → IsReadFrom old (pairs_with_only (same_name name) pairs setting)
  replaced_read [] first old new found rank indented read = (old, refl)
  replaced_read (pair ∷ pairs) first old new found rank indented read =
      by (same_name name pair.0) refl found (λ found. replaced_read pairs first read.0 new found rank indented read.2)
    where
      rest : List (Name × Lines)
      rest = filter (λ p. not (same_name name p.0)) pairs

      by : (is : Bool) → same_name name pair.0 ≡ is
          → Some first ≡ slice_get (map (λ (p : Name × Lines). p.1) (cond is (pair ∷ filter (λ p. same_name name p.0) pairs) (filter (λ p. same_name name p.0) pairs))) 0
          → (Some first ≡ slice_get (values_where (same_name name) pairs) 0 → IsReadFrom read.0 (pairs_with_only (same_name name) pairs setting))
          → IsReadFrom old (cond is ((pair.0, setting) ∷ pairs_except (same_name name) pairs) (pair ∷ pairs_with_only (same_name name) pairs setting))
      by true same found later =
          let here : first ≡ pair.1 = cc in
          let left = left_read (λ p. not (same_name name p.0)) pairs read.0 new read.0 refl refl (same_looser read.0.above) (gone_has_key name keyed) read.2 in
          (left.0, (read.0, replaced_at old pair read.0 same (rank ∙ ap (λ l. l.rank) here) (indented ∙ ap (λ l. indent_of (first_line (cow_str_bytes l.text))) here) read.1, left.1))
      by false same found later =
          let after = later found in
          (after.0, (read.0, read.1, after.1))

  -- what `set` leaves of a present name is read as what it stands for
  pub set_read : (m : Lists Name Lines) (first : Lines) → Some first ≡ slice_get (values_where (same_name name) m.pairs) 0
      → setting.rank ≡ first.rank → indent ≡ indent_of (first_line (cow_str_bytes first.text)) → IsConfig m → IsConfig (only_written (same_name name) m setting)
  set_read m first found rank indented config =
      let all = replaced_read m.pairs first start config.end found rank indented config.read in
      record { end = all.0; read = all.1; keys = config.keys }

pub replaces_read : (name : Name) (value : List ℕ) (old new : Lists Name Lines) → Replaces name value old new
    → is_key name.key.0.now ≡ true → is_present same_name old.pairs name ≡ true → IsConfig old → IsConfig new
replaces_read name value old new is allowed present config =
    let stored : Name = stored_key same_name old.keys name in
    let lines : Lines = is.setting in
    let reads : AreSetting (cow_str_bytes lines.text) stored.key.0.now (cow_str_bytes lines.value) (length is.indent) =
    subst (λ v. AreSetting (cow_str_bytes lines.text) stored.key.0.now v (length is.indent)) (sym is.is_setting.holds)
    (is.reads (stored_is_key name old.keys allowed config.keys)) in
    subst IsConfig
    (sym (is.lists ∙ ap (λ b. elim b [ true ↦ only_written (same_name name) old lines | false ↦ appended same_name old name lines ]) present))
    (set_read name lines stored.key.0.now (length is.indent) (has_key name allowed)
    (same_key name stored (same_stored same_name_laws name old.keys)) reads old is.first is.is_first is.rank is.indented config)
