-- What a reader keeps of a text.
use Rattle.std.proofs.Common.{◌≡◌, ◌⊎◌, ℕ, ◌+◌, ◌^◌, ◌<◌, ◌≤◌, Bool, true, false, cond, not, List, [], ◌∷◌, ◌++◌}
use Rattle.std.proofs.Common.{append_assoc, refl, sym, ap, subst, ◌∙◌, arith, length, length-append, Some, None, inl, inr, ⊎_elim}
use Rattle.std.specs.Cow.{cow_str_bytes}
use Rattle.std.proofs.lemmas.Bool.{and_parts, true≢false}
use Rattle.std.specs.List.{list_any}
use Rattle.std.specs.Str.{chars, str_eq_ignore_ascii_case}
use Rattle.ordered_multimap.specs.Changes.{appended}
use Rattle.ordered_multimap.specs.Keys.{is_listed, keys_with, stored_key}
use Rattle.ordered_multimap.specs.Lists.{Lists, empty_lists}
use Rattle.ordered_multimap.specs.Pairs.{has_items}
use Rattle.config_reader.specs.declared.config.Lines.{Lines}
use Rattle.config_reader.specs.declared.name.Name.{Name}
use Rattle.config_reader.specs.declared.reader.Reader.{Reader}
use Rattle.config_reader.specs.declared.section.Section.{Section}
use Rattle.config_reader.specs.Blocks.{AreRead, AreSetting, AreSilent, HaveKeys, IsKept, IsReadAt, IsSectionLine, IsSettingLine}
use Rattle.config_reader.specs.Blocks.{IsOfSettings, IsSilentAt, OpensAt, OpensSection, SetsAt, place_of, settings_rank, start}
use Rattle.config_reader.specs.Items.{AddsItem}
use Rattle.config_reader.specs.Lines.{behind_line, first_line, is_lined, lined, says_nothing}
use Rattle.config_reader.specs.Names.{Lacks, has_no_key, is_key, is_outside_key, same_name}
use Rattle.config_reader.specs.Said.{indent_of, is_deeper, item_at, lowered, setting_at}
use Rattle.config_reader.specs.Sections.{opened, spelled}
use Rattle.config_reader.proofs.Blocks.{lacks_before, line_cut, opening_line, part_of, setting_cut, setting_line, silent_line}
use Rattle.config_reader.proofs.Chain.{both_silent, line_silent, none_silent, read_behind}
use Rattle.config_reader.proofs.Levels.{closing_rank, next_rank}
use Rattle.config_reader.proofs.ReadBack.{same_name_laws}
use Rattle.config_reader.proofs.Alone.{same_stored}
use Rattle.config_reader.proofs.Settings.{empty_key, same_no_key, same_setting, same_spelled, some_key}
use Rattle.config_reader.proofs.WholeLines.{both_lined, lined_append}

-- the keys once one more has come
keys_come : (name : Name) (names : List Name) → (has_no_key name ≡ false → is_key name.key.0.now ≡ true)
    → HaveKeys names → HaveKeys (names ++ name ∷ [])
keys_come name [] has all = (has, tt)
keys_come name (other ∷ names) has all = (all.0, keys_come name names has all.1)

pub keys_with_one : (name : Name) (names : List Name) → (has_no_key name ≡ false → is_key name.key.0.now ≡ true)
    → HaveKeys names → HaveKeys (keys_with same_name names name)
keys_with_one name names has all = by (is_listed same_name names name)
  where
    by : (listed : Bool) → HaveKeys (cond listed names (names ++ name ∷ []))
    by true = all
    by false = keys_come name names has all

-- one more item is kept
keep_pair : (mid new : Reader) (most : ℕ) (old now : Lists Name Lines) (name : Name) (lines : Lines)
    → (kept : IsKept mid most old) → now ≡ appended same_name old name lines
    → (has_no_key name ≡ false → is_key name.key.0.now ≡ true)
    → IsReadAt (place_of mid kept.rank) (stored_key same_name old.keys name, lines) (place_of new lines.rank)
    → new.rank ≤ lines.rank → IsOfSettings new.rank → new.rank ≤ 2 ^ 63 + 1
    → new.between.now ≡ new.rest.now → IsKept new lines.rank now
keep_pair mid new most old now name lines kept added has is least inside few between = record {
  rank = lines.rank;
  least = least;
  highest = omega arith;
  inside = inside;
  few = few;
  read = subst (λ m. AreRead start m.pairs (place_of new lines.rank)) (sym added)
      (read_behind start old.pairs (place_of mid kept.rank) (stored_key same_name old.keys name, lines) (place_of new lines.rank) kept.read is);
  keys = subst (λ m. HaveKeys m.keys) (sym added) (keys_with_one name old.keys has kept.keys);
  lines = [];
  between = between;
  silent = none_silent;
  lined_are = inl refl;
}

stored_no_key : (name : Name) (old : Lists Name Lines) → has_no_key (stored_key same_name old.keys name) ≡ has_no_key name
stored_no_key name old =
    sym (same_no_key name (stored_key same_name old.keys name) (same_stored same_name_laws name old.keys))

same_place : (old new : Reader) (rank : ℕ) → new.section ≡ old.section → new.indent ≡ old.indent → place_of old rank ≡ place_of new rank
same_place old new rank section indent = rw (section, indent) refl

-- a line that says nothing is read
pub silence_kept : (old new : Reader) (most : ℕ) (m : Lists Name Lines) → IsKept old most m → 0 < length old.rest.now
    → says_nothing (first_line old.rest.now) ≡ true → new.rest.now ≡ behind_line old.rest.now
    → new.between.now ≡ old.between.now → new.section ≡ old.section → new.indent ≡ old.indent → new.rank ≡ old.rank → IsKept new most m
silence_kept old new most m kept some says rest between section indent level =
    let text = old.rest.now in
    let line = first_line text in
    let part = part_of text line (behind_line text) some (line_cut text) in
    record {
      rank = kept.rank;
      least = omega (arith, kept.least, level);
      highest = kept.highest;
      inside = subst IsOfSettings (sym level) kept.inside;
      few = subst (λ r. r ≤ 2 ^ 63 + 1) (sym level) kept.few;
      read = subst (AreRead start m.pairs) (same_place old new kept.rank section indent) kept.read;
      keys = kept.keys;
      lines = kept.lines ++ part.part;
      between = between ∙ kept.between ∙ ap (λ t. kept.lines ++ t) part.is ∙ sym (append_assoc kept.lines part.part (behind_line text))
          ∙ ap (λ t. (kept.lines ++ part.part) ++ t) (sym rest);
      silent = subst AreSilent (lined_append kept.lines part.part (inl (are_lined kept.lined_are)))
          (both_silent (lined kept.lines) (lined part.part) kept.silent (subst AreSilent (sym part.lined_is) (silent_part line refl)));
      lined_are = both_are part.part part.ends;
    }
  where
    are_lined : (is_lined kept.lines ≡ true) ⊎ (old.rest.now ≡ []) → is_lined kept.lines ≡ true
    are_lined (inl is) = is
    are_lined (inr none) = absurd (omega (arith, some, ap length none))

    both_are : (part : List ℕ) → (is_lined part ≡ true) ⊎ (behind_line old.rest.now ≡ [])
        → (is_lined (kept.lines ++ part) ≡ true) ⊎ (new.rest.now ≡ [])
    both_are part (inl is) = inl (both_lined kept.lines part (are_lined kept.lined_are) is)
    both_are part (inr none) = inr (rest ∙ none)

    silent_part : (line : List ℕ) → line ≡ first_line old.rest.now → AreSilent (line ++ 10 ∷ [])
    silent_part line is =
        line_silent (line ++ 10 ∷ []) (omega (arith, length-append line (10 ∷ [])))
        (λ section above after. ap (item_at section above) (append_assoc line (10 ∷ []) after)
        ∙ silent_line section above line after (subst (Lacks 10) (sym is) (lacks_before 10 old.rest.now)) (ap says_nothing is ∙ says))

-- the lines in front of an item are kept
pub between_kept : (old new : Reader) (before now : Lists Name Lines) (name : Name) (lines : Lines) (text : List ℕ)
    → IsKept old old.rank before → ((part : List ℕ) → old.between.now ≡ part ++ old.rest.now → text ≡ part)
    → cow_str_bytes lines.text ≡ lined text → name.section ≡ old.section → has_no_key name ≡ true
    → (lines.rank ≡ old.rank) ⊎ (lines.rank ≡ old.rank + 1) → now ≡ appended same_name before name lines
    → new.section ≡ old.section → new.indent ≡ old.indent → new.rank ≡ old.rank → new.between.now ≡ new.rest.now
    → IsKept new lines.rank now
between_kept old new before now name lines text kept text_is lines_are of_section no_key level added section indent rank between =
    let is_rank : kept.rank ≡ old.rank = omega (arith, kept.least, kept.highest) in
    let least : old.rank ≤ lines.rank = ⊎_elim (λ same. omega (arith, same)) (λ more. omega (arith, more)) level in
    let inside : settings_rank lines.rank ≡ old.rank =
    ⊎_elim (λ same. ap settings_rank same ∙ kept.inside) (λ more. ap settings_rank more ∙ closing_rank old.rank kept.inside) level in
    let silent : IsSilentAt (place_of old kept.rank) (stored_key same_name before.keys name, lines) (place_of new lines.rank) = record {
      text = subst AreSilent (ap lined (sym (text_is kept.lines kept.between)) ∙ sym lines_are) kept.silent;
      no_key = stored_no_key name before ∙ no_key;
      named = sym (same_spelled name (stored_key same_name before.keys name) (same_stored same_name_laws name before.keys))
          ∙ ap (λ s. lowered (spelled s)) of_section;
      section = ap spelled section;
      above = indent;
      of_rank = refl;
      later = omega (arith, is_rank, least);
      inside = inside ∙ sym (ap settings_rank is_rank ∙ kept.inside);
    } in
    keep_pair old new old.rank before now name lines kept added (λ keyed. absurd (true≢false (sym no_key ∙ keyed))) (inl silent)
    (omega (arith, least, rank)) (subst IsOfSettings (sym rank) kept.inside) (subst (λ r. r ≤ 2 ^ 63 + 1) (sym rank) kept.few) between

-- or there are none
pub none_between : (old new : Reader) (most : ℕ) (m : Lists Name Lines) → IsKept old old.rank m → old.rank ≤ most
    → new.section ≡ old.section → new.indent ≡ old.indent → new.rank ≡ old.rank → new.between.now ≡ new.rest.now → IsKept new most m
none_between old new most m kept less section indent rank between = record {
  rank = kept.rank;
  least = omega (arith, kept.least, rank);
  highest = omega (arith, kept.highest, less);
  inside = subst IsOfSettings (sym rank) kept.inside;
  few = subst (λ r. r ≤ 2 ^ 63 + 1) (sym rank) kept.few;
  read = subst (AreRead start m.pairs) (same_place old new kept.rank section indent) kept.read;
  keys = kept.keys;
  lines = [];
  between = between;
  silent = none_silent;
  lined_are = inl refl;
}

-- the line of a section is kept
pub section_kept : (mid new : Reader) (before now : Lists Name Lines) (section : Section) (value inside behind : List ℕ) (rank : ℕ)
    → IsKept mid (mid.rank + 1) before → IsSectionLine mid.rest.now inside behind → opened inside ≡ Some (spelled new.section)
    → AddsItem section [] value mid.rest.now behind rank before now → section ≡ new.section → new.rank ≡ rank
    → new.indent ≡ None → mid.rank + 1 ≤ 2 ^ 63 → rank ≡ mid.rank + 2 → new.between.now ≡ new.rest.now → IsKept new new.rank now
section_kept mid new before now section value inside behind rank kept is opens adds same same_rank indent few rank_is between =
    let text = mid.rest.now in
    let line = first_line text in
    let part = part_of text line (behind_line text) is.some (line_cut text) in
    let lines_are : cow_str_bytes adds.lines.text ≡ line ++ 10 ∷ [] =
    adds.of_text part.part (part.is ∙ ap (λ t. part.part ++ t) (sym is.behind_is)) ∙ part.lined_is in
    let rank_now : new.rank ≡ mid.rank + 2 = same_rank ∙ rank_is in
    let lines_rank : adds.lines.rank ≡ new.rank = adds.of_rank ∙ sym same_rank in
    let begins : IsOfSettings new.rank = subst IsOfSettings (sym rank_now) (next_rank mid.rank kept.inside) in
    let opening : OpensAt (place_of mid kept.rank) (stored_key same_name before.keys adds.name, adds.lines) (place_of new adds.lines.rank) = record {
      text = subst (λ t. OpensSection t (spelled new.section)) (sym lines_are) (record {
        some = omega (arith, length-append line (10 ∷ []));
        same = λ inner above rest. ap (item_at inner above) (append_assoc line (10 ∷ []) rest)
            ∙ opening_line inner above line rest (lacks_before 10 text) inside (spelled new.section) is.says is.begins opens;
      });
      no_key = stored_no_key adds.name before ∙ empty_key adds.name adds.of_key;
      named = sym (same_spelled adds.name (stored_key same_name before.keys adds.name) (same_stored same_name_laws adds.name before.keys))
          ∙ ap (λ s. lowered (spelled s)) (adds.of_section ∙ same);
      above = indent;
      of_rank = refl;
      later = omega (arith, kept.highest, lines_rank, rank_now);
      begins = subst IsOfSettings (sym lines_rank) begins;
    } in
    subst (λ r. IsKept new r now) lines_rank
    (keep_pair mid new (mid.rank + 1) before now adds.name adds.lines kept adds.lists
    (λ keyed. absurd (true≢false (sym (empty_key adds.name adds.of_key) ∙ keyed))) (inr (inl opening))
    (omega (arith, lines_rank)) begins (omega (arith, few, rank_now)) between)

-- and so is a setting
pub setting_kept : (mid new : Reader) (before now : Lists Name Lines) (key value line behind : List ℕ)
    → IsKept mid mid.rank before → IsSettingLine mid.rest.now line → setting_at mid.rest.now ≡ Some (key, value, behind)
    → is_deeper (indent_of line) mid.indent ≡ false → is_key key ≡ true
    → AddsItem mid.section key value mid.rest.now behind mid.rank before now
    → new.section ≡ mid.section → new.indent ≡ Some (indent_of line) → new.rank ≡ mid.rank → new.between.now ≡ new.rest.now
    → IsKept new new.rank now
setting_kept mid new before now key value line behind kept is read fits allowed adds section indent rank between =
    let text = mid.rest.now in
    let cut = setting_cut text key value behind read in
    let part = part_of text cut.cut behind is.some cut.is_cut in
    let lines_are : cow_str_bytes adds.lines.text ≡ cut.cut ++ 10 ∷ [] = adds.of_text part.part part.is ∙ part.lined_is in
    let indent_is : indent_of line ≡ indent_of (first_line text) = ap indent_of is.line_is in
    let setting : AreSetting (cut.cut ++ 10 ∷ []) key value (indent_of (first_line text)) = record {
      some = omega (arith, length-append cut.cut (10 ∷ []));
      indented = ap indent_of (sym (cut.line []));
      same = λ inner above rest fits. ap (item_at inner above) (append_assoc cut.cut (10 ∷ []) rest)
          ∙ setting_line inner above text cut.cut rest key value is.says is.other (cut.line rest) (cut.same rest) fits;
    } in
    let stored = stored_key same_name before.keys adds.name in
    let same = same_stored same_name_laws adds.name before.keys in
    let is_rank : kept.rank ≡ mid.rank = omega (arith, kept.least, kept.highest) in
    let sets : SetsAt (place_of mid kept.rank) (stored, adds.lines) (place_of new adds.lines.rank) = record {
      key = key;
      indent = indent_of (first_line text);
      text = subst (λ v. AreSetting (cow_str_bytes adds.lines.text) key v (indent_of (first_line text))) (sym adds.of_value)
          (subst (λ t. AreSetting t key value (indent_of (first_line text))) (sym lines_are) setting);
      has_key = stored_no_key adds.name before ∙ ap (λ k. str_eq_ignore_ascii_case k []) adds.of_key ∙ some_key key (and_parts (has_items key) (not (list_any is_outside_key (chars key))) allowed).0;
      fits = ap (λ i. is_deeper i mid.indent) (sym indent_is) ∙ fits;
      setting = sym (same_setting adds.name stored same (cow_str_bytes adds.lines.value))
          ∙ rw (adds.of_section, adds.of_key) refl;
      of_rank = adds.of_rank ∙ sym is_rank;
      inside = subst IsOfSettings (sym is_rank) kept.inside;
      same = rw (section, indent, indent_is, adds.of_rank, is_rank) refl;
    } in
    subst (λ r. IsKept new r now) (adds.of_rank ∙ sym rank)
    (keep_pair mid new mid.rank before now adds.name adds.lines kept adds.lists (λ keyed. ap is_key adds.of_key ∙ allowed) (inr (inr sets))
    (omega (arith, adds.of_rank, rank)) (subst IsOfSettings (sym rank) kept.inside) (subst (λ r. r ≤ 2 ^ 63 + 1) (sym rank) kept.few) between)

-- nothing is kept at the start
pub start_kept : (reader : Reader) (m : Lists Name Lines) → m ≡ empty_lists → place_of reader 0 ≡ start → reader.rank ≡ 0
    → reader.between.now ≡ reader.rest.now → IsKept reader reader.rank m
start_kept reader m none place rank between = record {
  rank = 0;
  least = omega (arith, rank);
  highest = omega arith;
  inside = subst IsOfSettings (sym rank) refl;
  few = omega (arith, rank);
  read = subst (λ m. AreRead start m.pairs (place_of reader 0)) (sym none) place;
  keys = subst (λ m. HaveKeys m.keys) (sym none) tt;
  lines = [];
  between = between;
  silent = none_silent;
  lined_are = inl refl;
}
