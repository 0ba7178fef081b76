-- What was set is what is read.
use Rattle.std.proofs.Common.{◌≡◌, ℕ, Bool, true, false, ◌&&◌, List, [], ◌∷◌, filter, map}
use Rattle.std.proofs.Common.{refl, sym, ap, ◌∙◌, subst}
use Rattle.std.proofs.lemmas.Bool.{true≢false}
use Rattle.std.specs.Cmp.{IsEquivalence, and_equiv, on_equiv}
use Rattle.std.specs.Cmp.Lexicographic.{nat_list_eq_equiv}
use Rattle.std.specs.Cow.{cow_str_bytes}
use Rattle.std.specs.Str.{str_eq_ignore_ascii_case, str_to_ascii_lowercase}
use Rattle.ordered_multimap.specs.Changes.{appended, removed}
use Rattle.ordered_multimap.specs.Lists.{Lists}
use Rattle.ordered_multimap.specs.OneValue.{only_written}
use Rattle.ordered_multimap.specs.Pairs.{has_items, is_present, values_of}
use Rattle.config_reader.specs.Changed.{Opens, Sets}
use Rattle.config_reader.specs.Names.{has_no_key, is_no_section, same_name}
use Rattle.config_reader.specs.declared.config.Lines.{Lines}
use Rattle.config_reader.specs.declared.name.Name.{Name}
use Rattle.config_reader.specs.declared.section.Section.{Section}
use Rattle.config_reader.proofs.Alone.{absent_appended, alone_appended, alone_permuted}
use Rattle.config_reader.proofs.Alone.{none_left, only_one}

pub same_name_laws : IsEquivalence same_name
same_name_laws =
    and_equiv
    (and_equiv
    (on_equiv (λ (name : Name). str_to_ascii_lowercase name.section.word.0.now) nat_list_eq_equiv)
    (on_equiv (λ (name : Name). name.section.sub.now) nat_list_eq_equiv))
    (on_equiv (λ (name : Name). str_to_ascii_lowercase name.key.0.now) nat_list_eq_equiv)

false_behind : (b c : Bool) → c ≡ false → (b && c) ≡ false
false_behind true c is = is
false_behind false c is = refl

-- a name with a key is not that of a section
apart : (name other : Name) → has_no_key name ≡ false → other.key.0.now ≡ []
    → same_name name other ≡ false
apart name other keyed empty =
    let P : List ℕ → Type 0 = λ key. str_eq_ignore_ascii_case name.key.0.now key ≡ false in
    false_behind _ _ (subst P (sym empty) keyed)

no_items : {K V : Type 0} (pairs : List (K × V)) → has_items (map (λ p. p.1) pairs) ≡ false
    → pairs ≡ []
no_items [] none = refl
no_items (p ∷ pairs) none = absurd (true≢false none)

-- a section that is opened gives a name with a key no setting
module _ (name : Name) (section : Section) (old new : Lists Name Lines) (rank : ℕ) where
  absent_opened : Opens section old new rank → has_no_key name ≡ false
      → filter (λ p. same_name name p.0) old.pairs ≡ []
      → filter (λ p. same_name name p.0) new.pairs ≡ []
  absent_opened opens keyed none =
      let Absent : Lists Name Lines → Type 0 = λ m.
      filter (λ p. same_name name p.0) m.pairs ≡ [] in
      elim (is_no_section section) as (λ b. is_no_section section ≡ b → Absent new) [
        | true ↦ λ e. subst Absent (sym (opens.none e).0) none
        | false ↦ λ e. elim (is_present same_name old.pairs opens.name)
            as (λ b. is_present same_name old.pairs opens.name ≡ b → Absent new) [
              | true ↦ λ f. subst Absent (sym (opens.there e f).0) none
              | false ↦ λ f. let adds = opens.absent e f in
                  subst Absent (sym adds.lists)
                  (absent_appended same_name_laws old name none opens.name adds.line
                  (apart name opens.name keyed opens.no_key))
            ] refl
      ] refl

module _ (name : Name) (value : List ℕ) (old new : Lists Name Lines) where
  pub set_alone : Sets name value old new → has_no_key name ≡ false
      → map (λ setting. cow_str_bytes setting.value) (values_of same_name new.pairs name)
      ≡ value ∷ []
  set_alone sets keyed =
      let bytes : Lines → List ℕ = λ setting. cow_str_bytes setting.value in
      let shown : Lists Name Lines → List (List ℕ) = λ m. map bytes (values_of same_name m.pairs name) in
      elim (is_present same_name old.pairs name)
      as (λ b. is_present same_name old.pairs name ≡ b → shown new ≡ value ∷ []) [
        | true ↦ λ e. let replaces = sets.present e in
            ap shown (replaces.lists
            ∙ ap (λ b. elim b as (λ _. Lists Name Lines) [
              | true ↦ only_written (same_name name) old replaces.setting
              | false ↦ appended same_name old name replaces.setting
            ]) e)
            ∙ ap (map bytes) (only_one (same_name name) old.pairs replaces.setting e)
            ∙ ap (λ text. text ∷ []) replaces.is_setting.holds
        | false ↦ λ e. let adds = sets.absent e in
            let none = no_items (filter (λ p. same_name name p.0) old.pairs) e in
            let opened = absent_opened name name.section old adds.opened adds.setting.rank adds.opens
            keyed none in
            let alone = alone_permuted (λ p. same_name name p.0) _ _ _ adds.adds.pairs
            (alone_appended same_name_laws adds.opened name opened adds.setting) in
            ap (λ pairs. map bytes (map (λ p. p.1) pairs)) alone
            ∙ ap (λ text. text ∷ []) adds.is_setting.holds
      ] refl

pub absent_removed : (name : Name) (old : Lists Name Lines)
    → is_present same_name (removed same_name old name).pairs name ≡ false
absent_removed name old = ap has_items (none_left (same_name name) old.pairs)
