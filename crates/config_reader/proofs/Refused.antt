-- Where an item is refused, the whole text is.
use Rattle.std.proofs.Common.{◌≡◌, ℕ, suc, zero, ◌+◌, ◌-◌, ◌<◌, ◌≤◌, ◌==◌, Bool, true, false, List, [], ◌∷◌, ◌++◌}
use Rattle.std.proofs.Common.{append_assoc, refl, sym, ap, ◌∙◌, arith, length, length-append, Option, Some, None, inl, inr}
use Rattle.std.specs.IoError.{error_kind}
use Rattle.std.specs.List.{after_first, before_first, list_any}
use Rattle.std.specs.Prelude.{if◌then◌else◌, option_and_then, option_map}
use Rattle.std.specs.Str.{trim, trim_start}
use Rattle.std.specs.declared.io.Error.{Error}
use Rattle.std.specs.declared.io.ErrorKind.TheVariants.{InvalidData}
use Rattle.ordered_multimap.specs.Lists.{Lists}
use Rattle.program_parts.specs.Statuses.{status_of_error, status_of_kind}
use Rattle.config_reader.specs.declared.config.Lines.{Lines}
use Rattle.config_reader.specs.declared.name.Name.{Name}
use Rattle.config_reader.specs.declared.reader.Reader.{Reader}
use Rattle.config_reader.specs.Blocks.{IsKept, IsSettingLine, KeepsAll, item_of_rest, place_of, start}
use Rattle.config_reader.specs.Faults.{IsBadOrRefused}
use Rattle.config_reader.specs.Lines.{behind_line, first_line, is_lined, lined, says_nothing}
use Rattle.config_reader.specs.Names.{is_key}
use Rattle.config_reader.specs.Said.{Item, indent_of, is_deeper, item_at, item_of, said, setting_at, setting_item, setting_of}
use Rattle.config_reader.specs.Said.{settings_of, text_says}
use Rattle.config_reader.specs.Sections.{opened}
use Rattle.config_reader.specs.Values.{value_read}
use Rattle.config_reader.specs.Written.{texts_of}
use Rattle.config_reader.proofs.Blocks.{around, lacks_before, sign_in}
use Rattle.config_reader.proofs.Chain.{all_read}
use Rattle.config_reader.proofs.Items.{other_item}
use Rattle.config_reader.proofs.OpenValues.{none_is, read_refused}
use Rattle.config_reader.proofs.Stable.{after_cut, same_before}
use Rattle.config_reader.proofs.WholeLines.{lined_append, lined_behind}

abbrev with_key : List ℕ → List ℕ × List ℕ → List ℕ × List ℕ × List ℕ
with_key key read = (key, read.0, read.1)

abbrev as_item : List ℕ × List ℕ → ℕ → List ℕ × List ℕ × List ℕ → Item
as_item section indent read = (setting_of section read.0 read.1 ∷ [], section, Some indent, read.2)

no_item : (section : List ℕ × List ℕ) (deeper : Bool) (indent : ℕ) (setting : Option (List ℕ × List ℕ × List ℕ)) → setting ≡ None
    → (if deeper then None else option_map (as_item section indent) setting) ≡ None
no_item section true indent setting none = refl
no_item section false indent None none = refl
no_item section false indent (Some setting) none = none_is none

abbrev sign : ℕ → Bool
sign b = b == 61

-- so is a setting
module _ (text : List ℕ) (bare : is_lined text ≡ false) where
  abbrev longer : List ℕ
  longer = text ++ 10 ∷ []

  same_line : first_line longer ≡ first_line text
  same_line = same_before 10 text []

  value_behind : list_any sign text ≡ true → value_read (after_first sign text) ≡ None → value_read (after_first sign longer) ≡ None
  value_behind some none =
      let front = before_first sign text in
      let value = after_first sign text in
      let at : text ≡ front ++ 61 ∷ value = around 61 text some in
      let behind : after_first sign longer ≡ value ++ 10 ∷ [] =
      ap (λ t. after_first sign (t ++ 10 ∷ [])) at
      ∙ ap (after_first sign) (append_assoc front (61 ∷ value) (10 ∷ []))
      ∙ after_cut 61 front (value ++ 10 ∷ []) (lacks_before 61 text) in
      ap value_read behind ∙ read_refused value (sym (ap is_lined at ∙ lined_behind front 61 value) ∙ bare) none

  sign_there : list_any sign (first_line text) ≡ true → list_any sign text ≡ true
  sign_there = sign_in text

  setting_refused : setting_at text ≡ None → setting_at longer ≡ None
  setting_refused none = by (list_any sign (first_line text)) refl none
    where
      line : List ℕ
      line = first_line text

      key : List ℕ
      key = trim (before_first sign line)

      by_value : (allowed : Bool) (value : Option (List ℕ × List ℕ)) → value ≡ value_read (after_first sign text)
          → list_any sign text ≡ true
          → (if allowed then option_map (with_key key) value else None) ≡ None
          → (if allowed then option_map (with_key key) (value_read (after_first sign longer)) else None) ≡ None
      by_value false value is some none = refl
      by_value true (Some r) is some none = none_is none
      by_value true None is some none = ap (option_map (with_key key)) (value_behind some (sym is))

      by_key : (allowed : Bool) (setting other : List ℕ × List ℕ × List ℕ) → (if allowed then Some setting else None) ≡ None
          → (if allowed then Some other else None) ≡ None
      by_key true setting other none = none_is none
      by_key false setting other none = refl

      by : (some : Bool) → list_any sign line ≡ some
          → (if some then (if is_key key then option_map (with_key key) (value_read (after_first sign text)) else None)
          else (if is_key (trim line) then Some (trim line, [], behind_line text) else None)) ≡ None
          → setting_at longer ≡ None
      by true is none = rw (same_line, is) (by_value (is_key key) (value_read (after_first sign text)) refl (sign_there is) none)
      by false is none = rw (same_line, is) (by_key (is_key (trim line)) (trim line, [], behind_line text)
          (trim line, [], behind_line longer) none)

  module _ (section : List ℕ × List ℕ) (above : Option ℕ) where
    setting_item_refused : setting_item section above text ≡ None → setting_item section above longer ≡ None
    setting_item_refused none = by (is_deeper (indent_of (first_line text)) above) refl (setting_at text) refl none
      where
        by : (deeper : Bool) → is_deeper (indent_of (first_line text)) above ≡ deeper
            → (setting : Option (List ℕ × List ℕ × List ℕ)) → setting_at text ≡ setting
            → (if deeper then None else option_map (as_item section (indent_of (first_line text))) setting) ≡ None
            → setting_item section above longer ≡ None
        by true deeper setting is none = rw (same_line, deeper) refl
        by false deeper (Some setting) is none = none_is none
        by false deeper None is none =
            no_item section (is_deeper (indent_of (first_line longer)) above) (indent_of (first_line longer)) (setting_at longer)
            (setting_refused is)

    item_of_refused : (line : List ℕ) → item_of line section above text ≡ None → item_of line section above longer ≡ None
    item_of_refused [] none = setting_item_refused none
    item_of_refused (b ∷ inside) none = by (b == 91) (opened inside) none
      where
        by : (bracket : Bool) (inner : Option (List ℕ × List ℕ))
            → (if bracket then option_map (λ inner. ([], inner, None, behind_line text)) inner else setting_item section above text) ≡ None
            → (if bracket then option_map (λ inner. ([], inner, None, behind_line longer)) inner else setting_item section above
            longer) ≡ None
        by true None none = refl
        by true (Some inner) none = none_is none
        by false inner none = setting_item_refused none

    longer_refused : item_at section above text ≡ None → item_at section above longer ≡ None
    longer_refused none = by (says_nothing (first_line text)) refl none
      where
        by : (silent : Bool) → says_nothing (first_line text) ≡ silent
            → (if silent then Some ([], section, above, behind_line text)
            else item_of (trim_start (first_line text)) section above text) ≡ None
            → item_at section above longer ≡ None
        by true silent none = none_is none
        by false silent none = rw (same_line, silent) (item_of_refused (trim_start (first_line text)) none)

-- and so is any item
item_refused : (section : List ℕ × List ℕ) (above : Option ℕ) (text : List ℕ) → item_at section above text ≡ None
    → item_at section above (lined text) ≡ None
item_refused section above text none = by (is_lined text) refl
  where
    by : (ends : Bool) → is_lined text ≡ ends → item_at section above (if ends then text else text ++ 10 ∷ []) ≡ None
    by true ends = none
    by false ends = longer_refused text ends section above none

said_refused : (items : ℕ) (section : List ℕ × List ℕ) (above : Option ℕ) (text : List ℕ) → 0 < length text
    → item_at section above text ≡ None → said items section above text ≡ None
unfolding said
said_refused items section above [] some none = absurd (omega (arith, some))
said_refused zero section above (b ∷ text) some none = refl
said_refused (suc items) section above (b ∷ text) some none =
    ap (option_and_then (λ r. option_map (λ later. r.0 ++ later) (said items r.1 r.2 r.3))) none

-- a line of a setting is, where it is indented too far, or where no setting is read
module _ (section : List ℕ × List ℕ) (above : Option ℕ) (text line : List ℕ) (is : IsSettingLine text line) where
  pub deeper_refused : is_deeper (indent_of line) above ≡ true → item_at section above text ≡ None
  deeper_refused deeper =
      let here : is_deeper (indent_of (first_line text)) above ≡ true = ap (λ l. is_deeper (indent_of l) above) (sym is.line_is) ∙ deeper in
      other_item section above text is.says is.other ∙ rw here refl

  pub unread_refused : setting_at text ≡ None → item_at section above text ≡ None
  unread_refused none =
      other_item section above text is.says is.other
      ∙ no_item section (is_deeper (indent_of (first_line text)) above) (indent_of (first_line text)) (setting_at text) none

-- the fault of a line is of bad input
pub line_bad : (error : Error) → IsBadOrRefused error → status_of_error error ≡ 2 → error_kind error ≡ InvalidData
line_bad error (inl bad) status = bad
line_bad error (inr refused) status = absurd (omega (arith, sym (ap status_of_kind refused) ∙ status))

-- the text of what a reader keeps and of what it still has to read says nothing if the next item is refused
pub text_refused : (reader : Reader) (most : ℕ) (m : Lists Name Lines) (all : List ℕ) → IsKept reader most m → KeepsAll reader m all
    → 0 < length reader.rest.now → item_of_rest reader ≡ None → text_says all ≡ None
text_refused reader most m all kept has some none =
    let place = place_of reader kept.rank in
    let texts = texts_of m.pairs in
    let lines = lined kept.lines in
    let rest = lined reader.rest.now in
    let told = all_read start m.pairs place kept.read in
    let items = told.items + kept.silent.items in
    let whole : texts ++ (lines ++ rest) ≡ all =
    ap (λ t. texts ++ t) (lined_append kept.lines reader.rest.now kept.lined_are ∙ ap lined (sym kept.between)) ∙ has.is_all in
    let less : items ≤ length all =
    omega (arith, told.few, kept.silent.few, ap length whole, length-append texts (lines ++ rest), length-append lines rest) in
    let count : length all ≡ told.items + (kept.silent.items + (length all - items)) = omega (arith, less) in
    ap (λ n. said n ([], []) None all) count
    ∙ ap (said (told.items + (kept.silent.items + (length all - items))) ([], []) None) (sym whole)
    ∙ told.same (kept.silent.items + (length all - items)) (lines ++ rest)
    ∙ ap (option_map (λ later. settings_of m.pairs ++ later))
    (kept.silent.same place.section place.above (length all - items) rest
    ∙ said_refused (length all - items) place.section place.above rest (longer_some reader.rest.now some)
    (item_refused place.section place.above reader.rest.now none))
  where
    longer_some : (text : List ℕ) → 0 < length text → 0 < length (lined text)
    longer_some text some = by (is_lined text)
      where
        by : (ends : Bool) → 0 < length (if ends then text else text ++ 10 ∷ [])
        by true = some
        by false = omega (arith, some, length-append text (10 ∷ []))
