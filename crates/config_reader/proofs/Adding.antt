-- What `add` leaves is read as what it stands for.
use Rattle.std.proofs.Common.{◌≡◌, ℕ, suc, zero, ◌+◌, ◌-◌, ◌<◌, Bool, true, false, cond, List, [], ◌∷◌, ◌++◌, filter, map}
use Rattle.std.proofs.Common.{refl, sym, ap, subst, ◌∙◌, arith, length, Option, Some, None, inl, inr, slice_get, unwrap_or}
use Rattle.std.proofs.lemmas.Bool.{true≢false}
use Rattle.std.proofs.lemmas.Bool.Decides.{nat_tests}
use Rattle.std.specs.Cow.{cow_str_bytes}
use Rattle.std.specs.Prelude.{option_map}
use Rattle.ordered_multimap.specs.End.TheVariants.{Back}
use Rattle.ordered_multimap.specs.Keys.{stored_key}
use Rattle.ordered_multimap.specs.Lists.{Lists}
use Rattle.ordered_multimap.specs.Pairs.{is_present, values_where}
use Rattle.ordered_multimap.specs.Walk.{end_item}
use Rattle.config_reader.specs.declared.config.Lines.{Lines}
use Rattle.config_reader.specs.declared.name.Name.{Name}
use Rattle.config_reader.specs.declared.reader.Reader.{Reader}
use Rattle.config_reader.specs.declared.section.Section.{Section}
use Rattle.config_reader.specs.Blocks.{AreRead, AreSetting, HaveKeys, IsConfig, IsKept, IsOfSettings, IsReadAt, IsWritten, OpensAt, OpensSection, Place, place_of, settings_rank, start}
use Rattle.config_reader.specs.Changed.{Adds, AddsSection, HasRoom, IsOfSetting, Opens, Sets, last_indent, last_rank}
use Rattle.config_reader.specs.Names.{has_no_key, is_no_section, same_name}
use Rattle.config_reader.specs.Said.{is_deeper, lowered}
use Rattle.config_reader.specs.Sections.{spelled}
use Rattle.config_reader.specs.Written.{section_line}
use Rattle.config_reader.proofs.Added.{IsHere, IsReached, inserted_read, rank_of, read_rises, reached, rises_at}
use Rattle.config_reader.proofs.Alone.{same_stored}
use Rattle.config_reader.proofs.Kept.{keys_with_one}
use Rattle.config_reader.proofs.Levels.{next_rank, rank_again, rank_most}
use Rattle.config_reader.proofs.Ranked.{inserted, sorted_inserted}
use Rattle.config_reader.proofs.ReadBack.{same_name_laws}
use Rattle.config_reader.proofs.Replaced.{has_key, replaces_read}
use Rattle.config_reader.proofs.Settings.{empty_key, no_section, same_key, same_no_key, same_spelled}

-- the rank of the last line is that of the place behind it
last_read : (old : Place) (pairs : List (Name × Lines)) (new : Place) → AreRead old pairs new
    → unwrap_or (option_map rank_of (slice_get pairs (length pairs - 1))) old.rank ≡ new.rank
last_read old [] new read = ap (λ place. place.rank) (sym read)
last_read old (pair ∷ []) new read = (rises_at old pair read.0 read.1).1 ∙ ap (λ place. place.rank) (sym read.2)
last_read old (pair ∷ next ∷ pairs) new read =
    ap (λ k. unwrap_or (option_map rank_of (slice_get (pair ∷ next ∷ pairs) k)) old.rank) (one (suc (length pairs)))
    ∙ later (ap (λ k. unwrap_or (option_map rank_of (slice_get (next ∷ pairs) k)) read.0.rank) (sym (one (length pairs))) ∙ last_read read.0 (next ∷ pairs) new read.2)
  where
    one : (n : ℕ) → suc n - 1 ≡ n
    one n = omega arith

    some : (xs : List (Name × Lines)) (k low other : ℕ) → k < length xs → unwrap_or (option_map rank_of (slice_get xs k)) low ≡ unwrap_or (option_map rank_of (slice_get xs k)) other
    some [] k low other inside = absurd (omega (arith, inside))
    some (x ∷ xs) zero low other inside = refl
    some (x ∷ xs) (suc k) low other inside = some xs k low other (omega (arith, inside))

    later : unwrap_or (option_map rank_of (slice_get (next ∷ pairs) (length pairs))) read.0.rank ≡ new.rank
        → unwrap_or (option_map rank_of (slice_get (next ∷ pairs) (length pairs))) old.rank ≡ new.rank
    later is = some (next ∷ pairs) (length pairs) old.rank read.0.rank (omega arith) ∙ is

-- what a reader keeps has room for one more section
pub kept_room : (reader : Reader) (m : Lists Name Lines) → IsKept reader (reader.rank + 1) m → HasRoom m
kept_room reader m kept =
    omega (arith, last_read start m.pairs (place_of reader kept.rank) kept.read, kept.highest, kept.few)

-- a line of the section is read, and so the section is open somewhere
module _ (name : Name) (r : ℕ) (level : IsOfSettings r) (no_key : has_no_key name ≡ true) where
  open_there : (old : Place) (pair : Name × Lines) (new : Place) → IsReadAt old pair new → same_name name pair.0 ≡ true → settings_rank (rank_of pair) ≡ r
      → IsHere (spelled name.section) r level new
  open_there old pair new (inl silent) same rank =
      (ap settings_rank (sym silent.of_rank) ∙ rank, ap lowered silent.section ∙ sym silent.named ∙ sym (same_spelled name pair.0 same))
  open_there old pair new (inr (inl opens)) same rank =
      (ap settings_rank (sym opens.of_rank) ∙ rank, sym opens.named ∙ sym (same_spelled name pair.0 same))
  open_there old pair new (inr (inr sets)) same rank = absurd (true≢false (sym no_key ∙ same_no_key name pair.0 same ∙ sets.has_key))

  named_reached : (old : Place) (pairs : List (Name × Lines)) (new : Place) (read : AreRead old pairs new) (k : ℕ)
      → option_map (λ line. settings_rank line.rank) (slice_get (values_where (same_name name) pairs) k) ≡ Some r
      → IsReached (spelled name.section) r level old pairs new read
  named_reached old [] new read k found = absurd (cc)
  named_reached old (pair ∷ pairs) new read k found = by (same_name name pair.0) refl k found (named_reached read.0 pairs new read.2)
    where
      others : List (Name × Lines)
      others = filter (λ p. same_name name p.0) pairs

      by : (is : Bool) → same_name name pair.0 ≡ is → (k : ℕ)
          → option_map (λ (line : Lines). settings_rank line.rank) (slice_get (map (λ (p : Name × Lines). p.1) (cond is (pair ∷ others) others)) k) ≡ Some r
          → ((k : ℕ) → option_map (λ (line : Lines). settings_rank line.rank) (slice_get (map (λ (p : Name × Lines). p.1) others) k) ≡ Some r
          → IsReached (spelled name.section) r level read.0 pairs new read.2)
          → IsReached (spelled name.section) r level old (pair ∷ pairs) new read
      by true same zero found later =
          let rank : settings_rank (rank_of pair) ≡ r = cc in
          inr (reached (spelled name.section) r level read.0 pairs new read.2 (open_there old pair read.0 read.1 same rank))
      by true same (suc k) found later = inr (later k found)
      by false same k found later = inr (later k found)

-- one more line is read, and the section that it opens
behind_reached : (section : List ℕ × List ℕ) (r : ℕ) (level : IsOfSettings r) (old : Place) (pairs : List (Name × Lines)) (mid : Place) (pair : Name × Lines) (new : Place)
    → AreRead old pairs mid → IsReadAt mid pair new → IsHere section r level new
    → (read : AreRead old (pairs ++ pair ∷ []) new) × IsReached section r level old (pairs ++ pair ∷ []) new read
behind_reached section r level old [] mid pair new read is here = ((new, subst (λ place. IsReadAt place pair new) read is, refl), inr here)
behind_reached section r level old (p ∷ pairs) mid pair new read is here =
    let later = behind_reached section r level read.0 pairs mid pair new read.2 is here in
    ((read.0, read.1, later.0), inr later.1)

-- where a section is opened
pub record IsOpened (section : Section) (rank : ℕ) (m : Lists Name Lines) : Type 0 where
  pub level : IsOfSettings rank
  pub end : Place
  pub read : AreRead start m.pairs end
  pub is_reached : IsReached (spelled section) rank level start m.pairs end read
  pub keys : HaveKeys m.keys

module _ (section : Section) (old new : Lists Name Lines) (rank : ℕ) (opens : Opens section old new rank) (config : IsConfig old) where
  start_opened : is_no_section section ≡ true → (new ≡ old) × (rank ≡ 0) → IsOpened section rank new
  start_opened none is =
      let level : IsOfSettings rank = subst IsOfSettings (sym is.1) refl in
      let here : IsHere (spelled section) rank level start = (sym is.1, sym (no_section section none)) in
      subst (IsOpened section rank) (sym is.0) (record {
        level = level;
        end = config.end;
        read = config.read;
        is_reached = reached (spelled section) rank level start old.pairs config.end config.read here;
        keys = config.keys;
      })

  there_opened : (new ≡ old) × (option_map (λ line. settings_rank line.rank) (end_item Back (values_where (same_name opens.name) old.pairs)) ≡ Some rank)
      → IsOpened section rank new
  there_opened is =
      let values : List Lines = values_where (same_name opens.name) old.pairs in
      let level : IsOfSettings rank = of_found (slice_get values (length values - 1)) is.1 in
      subst (IsOpened section rank) (sym is.0) (record {
        level = level;
        end = config.end;
        read = config.read;
        is_reached = subst (λ (s : Section). IsReached (spelled s) rank level start old.pairs config.end config.read) opens.of_section
            (named_reached opens.name rank level (empty_key opens.name opens.no_key) start old.pairs config.end config.read (length values - 1) is.1);
        keys = config.keys;
      })
    where
      of_found : (found : Option Lines) → option_map (λ (line : Lines). settings_rank line.rank) found ≡ Some rank → IsOfSettings rank
      of_found None is = absurd (cc)
      of_found (Some line) is =
          let same : settings_rank line.rank ≡ rank = cc in
          subst IsOfSettings same (rank_again line.rank)

  absent_opened : OpensSection (section_line section) (spelled section) → HasRoom old → AddsSection opens.name old new rank → IsOpened section rank new
  absent_opened written room adds =
      let last : last_rank old.pairs ≡ config.end.rank = last_read start old.pairs config.end config.read in
      let rank_is : rank ≡ settings_rank (last_rank old.pairs) + 2 = omega (arith, adds.above, room) in
      let level : IsOfSettings rank = subst IsOfSettings (sym rank_is) (next_rank (settings_rank (last_rank old.pairs)) (rank_again (last_rank old.pairs))) in
      let stored : Name = stored_key same_name old.keys opens.name in
      let same : same_name opens.name stored ≡ true = same_stored same_name_laws opens.name old.keys in
      let place : Place = record { section = spelled section; above = None; rank = adds.line.rank } in
      let is : OpensAt config.end (stored, adds.line) place = record {
        text = subst (λ t. OpensSection t (spelled section)) (sym (adds.text ∙ ap section_line opens.of_section)) written;
        no_key = sym (same_no_key opens.name stored same) ∙ empty_key opens.name opens.no_key;
        named = sym (same_spelled opens.name stored same) ∙ ap (λ s. lowered (spelled s)) opens.of_section;
        above = refl;
        of_rank = refl;
        later = omega (arith, adds.of_rank, rank_is, last, rank_most (last_rank old.pairs));
        begins = subst IsOfSettings (sym adds.of_rank) level;
      } in
      let here : IsHere (spelled section) rank level place = (ap settings_rank adds.of_rank ∙ level, refl) in
      let all = behind_reached (spelled section) rank level start old.pairs config.end (stored, adds.line) place config.read (inr (inl is)) here in
      subst (IsOpened section rank) (sym adds.lists) (record {
        level = level;
        end = place;
        read = all.0;
        is_reached = all.1;
        keys = keys_with_one opens.name old.keys (λ keyed. absurd (true≢false (sym (empty_key opens.name opens.no_key) ∙ keyed))) config.keys;
      })

  pub opened_read : IsWritten section → HasRoom old → IsOpened section rank new
  opened_read written room =
      elim (is_no_section section) as (λ b. is_no_section section ≡ b → IsOpened section rank new) [
        | true ↦ λ none. start_opened none (opens.none none)
        | false ↦ λ some. elim (is_present same_name old.pairs opens.name)
            as (λ b. is_present same_name old.pairs opens.name ≡ b → IsOpened section rank new) [
              | true ↦ λ there. there_opened (opens.there some there)
              | false ↦ λ absent. absent_opened (written some) room (opens.absent some absent)
            ] refl
      ] refl

module _ (name : Name) (value : List ℕ) (old new : Lists Name Lines) (adds : Adds name value old new) where
  pub adds_read : IsOfSetting name → HasRoom old → IsConfig old → IsConfig new
  adds_read is room config =
      let opened = opened_read name.section old adds.opened adds.setting.rank adds.opens config is.1 room in
      let stored : Name = stored_key same_name adds.opened.keys name in
      let same : same_name name stored ≡ true = same_stored same_name_laws name adds.opened.keys in
      let pairs_are : new.pairs ≡ inserted rank_of (stored, adds.setting) adds.opened.pairs =
      sorted_inserted rank_of (stored, adds.setting) adds.opened.pairs new.pairs (read_rises start adds.opened.pairs opened.end opened.read)
      adds.adds.sorted adds.adds.stable in
      let reads : AreSetting (cow_str_bytes adds.setting.text) name.key.0.now (cow_str_bytes adds.setting.value) (length adds.indent) =
      subst (λ v. AreSetting (cow_str_bytes adds.setting.text) name.key.0.now v (length adds.indent)) (sym adds.is_setting.holds) (adds.reads is.0) in
      let all = inserted_read (spelled name.section) adds.setting.rank opened.level stored adds.setting name.key.0.now (length adds.indent) refl
      (sym (same_no_key name stored same) ∙ has_key name is.0) (sym (same_spelled name stored same)) (sym (same_key name stored same)) reads
      start adds.opened.pairs opened.end None opened.read opened.is_reached (omega arith) (λ at. refl) (λ low. refl)
      (fits (last_indent adds.setting.rank adds.opened.pairs None) adds.indented) in
      record {
        end = all.0;
        read = subst (λ pairs. AreRead start pairs all.0) (sym pairs_are) all.1;
        keys = subst HaveKeys (sym adds.adds.keys) (keys_with_one name adds.opened.keys (λ keyed. is.0) opened.keys);
      }
    where
      fits : (last : Option ℕ) → ((n : ℕ) → last ≡ Some n → length adds.indent ≡ n) → is_deeper (length adds.indent) last ≡ false
      fits None same = refl
      fits (Some n) same = let is : length adds.indent ≡ n = same n refl in grind (arith, nat_tests)

-- and so is what `set` leaves
pub sets_read : (name : Name) (value : List ℕ) (old new : Lists Name Lines) → Sets name value old new → IsOfSetting name → HasRoom old → IsConfig old → IsConfig new
sets_read name value old new sets is room config =
    elim (is_present same_name old.pairs name) as (λ b. is_present same_name old.pairs name ≡ b → IsConfig new) [
      | true ↦ λ there. replaces_read name value old new (sets.present there) is.0 there config
      | false ↦ λ absent. adds_read name value old new (sets.absent absent) is room config
    ] refl
