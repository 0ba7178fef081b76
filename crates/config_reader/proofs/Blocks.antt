-- The lines of an item are that item, whatever stands behind them.
use Rattle.std.proofs.Common.{◌≡◌, ◌≢◌, ◌⊎◌, ℕ, ◌+◌, ◌<◌, ◌==◌, Bool, true, false, ◌||◌, not, cond, List, [], ◌∷◌, ◌++◌}
use Rattle.std.proofs.Common.{append_assoc, append-nil, refl, sym, ap, subst, ◌∙◌, arith, length, drop, take, Option, Some, None, inl, inr}
use Rattle.std.proofs.lemmas.Bool.{eqb-true, true≢false}
use Rattle.std.proofs.lemmas.List.Folds.{list_any-append}
use Rattle.std.specs.List.{after_first, before_first, list_any, position_or_len}
use Rattle.std.specs.Prelude.{if◌then◌else◌, option_map}
use Rattle.std.specs.Str.{trim, trim_start}
use Rattle.config_reader.specs.declared.value.Mode.TheVariants.{Gap}
use Rattle.config_reader.specs.Lines.{behind_line, first_line, is_lined, lined, says_nothing}
use Rattle.config_reader.specs.Names.{Lacks, is_key}
use Rattle.config_reader.specs.Said.{indent_of, is_deeper, item_at, setting_at, setting_of}
use Rattle.config_reader.specs.Sections.{opened}
use Rattle.config_reader.specs.Values.{value_read}
use Rattle.config_reader.proofs.Items.{nothing_item, other_item, read_setting_item, section_item}
use Rattle.config_reader.proofs.Stable.{IsCut, after_cut, before_cut, longer_cut, one_more, same_before, two_more, value_stable}
use Rattle.config_reader.proofs.WholeLines.{feed_lined, lined_behind}

module _ (b : ℕ) where
  abbrev is_it : ℕ → Bool
  is_it c = c == b

  -- no such byte stands in front of the first one
  pub lacks_before : (text : List ℕ) → Lacks b (before_first is_it text)
  lacks_before [] = refl
  lacks_before (c ∷ text) = by (c == b) refl (lacks_before text)
    where
      by : (is : Bool) → (c == b) ≡ is → Lacks b (before_first is_it text)
          → Lacks b (take (cond (not is) (1 + position_or_len is_it text) 0) (c ∷ text))
      by true is later = refl
      by false is later =
          ap (λ i. list_any is_it (take i (c ∷ text))) (one_more (position_or_len is_it text)) ∙ rw is later

  -- the text around it
  pub around : (text : List ℕ) → list_any is_it text ≡ true → text ≡ before_first is_it text ++ b ∷ after_first is_it text
  around [] some = absurd (true≢false (sym some))
  around (c ∷ text) some = by (c == b) refl some (around text)
    where
      by : (is : Bool) → (c == b) ≡ is → (is || list_any is_it text) ≡ true
          → (list_any is_it text ≡ true → text ≡ before_first is_it text ++ b ∷ after_first is_it text)
          → c ∷ text ≡ take (cond (not is) (1 + position_or_len is_it text) 0) (c ∷ text)
          ++ b ∷ drop (cond (not is) (1 + position_or_len is_it text) 0 + 1) (c ∷ text)
      by true is some later = ap (λ d. d ∷ text) (eqb-true c b is)
      by false is some later =
          ap (λ t. c ∷ t) (later some)
          ∙ ap (λ i. take i (c ∷ text) ++ b ∷ drop (position_or_len is_it text + 1) text) (sym (one_more (position_or_len is_it text)))
          ∙ ap (λ i. take (1 + position_or_len is_it text) (c ∷ text) ++ b ∷ drop i (c ∷ text)) (sym (two_more (position_or_len is_it text)))
          ∙ ap (λ i. take (1 + position_or_len is_it text) (c ∷ text) ++ b ∷ drop (i + 1) (c ∷ text)) (sym (one_more (position_or_len is_it text)))

-- the first line of a text, with a line feed behind it or with nothing
pub line_cut : (text : List ℕ) → IsCut text (first_line text) (behind_line text)
line_cut [] = record { is = inr (refl, refl, inl refl) }
line_cut (c ∷ text) = by (c == 10) refl (line_cut text)
  where
    by : (is : Bool) → (c == 10) ≡ is → IsCut text (first_line text) (behind_line text)
        → IsCut (c ∷ text) (take (cond (not is) (1 + position_or_len (λ d. d == 10) text) 0) (c ∷ text))
        (drop (cond (not is) (1 + position_or_len (λ d. d == 10) text) 0 + 1) (c ∷ text))
    by true is later = record { is = inl (ap (λ d. d ∷ text) (eqb-true c 10 is)) }
    by false is later =
        subst (λ i. IsCut (c ∷ text) (take i (c ∷ text)) (drop (i + 1) (c ∷ text))) (sym (one_more (position_or_len (λ d. d == 10) text)))
        (subst (λ i. IsCut (c ∷ text) (c ∷ first_line text) (drop i (c ∷ text))) (sym (two_more (position_or_len (λ d. d == 10) text)))
        (longer_cut c text (first_line text) (behind_line text) later (λ none end. is)))

-- a part of a text, and the same with a line feed behind its last line
pub record IsPart (text cut rest : List ℕ) : Type 0 where
  pub part : List ℕ
  pub is : text ≡ part ++ rest
  pub lined_is : lined part ≡ cut ++ 10 ∷ []
  pub ends : (is_lined part ≡ true) ⊎ (rest ≡ [])

pub part_of : (text cut rest : List ℕ) → 0 < length text → IsCut text cut rest → IsPart text cut rest
part_of text cut rest some c = by c.is
  where
    by : (text ≡ cut ++ 10 ∷ rest) ⊎ ((text ≡ cut) × (rest ≡ []) × ((cut ≡ []) ⊎ (is_lined cut ≡ false))) → IsPart text cut rest
    by (inl is) = record {
      part = cut ++ 10 ∷ [];
      is = is ∙ sym (append_assoc cut (10 ∷ []) rest);
      lined_is = rw (feed_lined cut) refl;
      ends = inl (feed_lined cut);
    }
    by (inr is) = record {
      part = cut;
      is = is.0 ∙ sym (append-nil cut) ∙ ap (λ t. cut ++ t) (sym is.1);
      lined_is = by_end is.2;
      ends = inr is.1;
    }
      where
        by_end : ((cut ≡ []) ⊎ (is_lined cut ≡ false)) → lined cut ≡ cut ++ 10 ∷ []
        by_end (inl none) = absurd (omega (arith, some, ap length (is.0 ∙ none)))
        by_end (inr ends) = rw ends refl

module _ (section : List ℕ × List ℕ) (above : Option ℕ) (line rest : List ℕ) (lacks : Lacks 10 line) where
  here : first_line (line ++ 10 ∷ rest) ≡ line
  here = before_cut 10 line rest lacks

  -- a line that says nothing, and one that opens a section
  pub silent_line : says_nothing line ≡ true → item_at section above (line ++ 10 ∷ rest) ≡ Some ([], section, above, rest)
  silent_line says =
      nothing_item section above (line ++ 10 ∷ rest) (ap says_nothing here ∙ says)
      ∙ ap (λ behind. Some ([], section, above, behind)) (after_cut 10 line rest lacks)

  pub opening_line : (inside : List ℕ) (inner : List ℕ × List ℕ) → says_nothing line ≡ false
      → trim_start line ≡ 91 ∷ inside → opened inside ≡ Some inner
      → item_at section above (line ++ 10 ∷ rest) ≡ Some ([], inner, None, rest)
  opening_line inside inner says begins opens =
      section_item section above (line ++ 10 ∷ rest) inside inner (ap says_nothing here ∙ says) (ap trim_start here ∙ begins) opens
      ∙ ap (λ behind. Some ([], inner, None, behind)) (after_cut 10 line rest lacks)

-- the lines of a setting, whatever stands behind them
pub record IsSettingCut (text key value behind : List ℕ) : Type 0 where
  pub cut : List ℕ
  pub is_cut : IsCut text cut behind
  pub line : (rest : List ℕ) → first_line (cut ++ 10 ∷ rest) ≡ first_line text
  pub same : (rest : List ℕ) → setting_at (cut ++ 10 ∷ rest) ≡ Some (key, value, rest)

if_true : {X : Type 0} (b : Bool) (x : X) (y : Option X) → (if b then y else None) ≡ Some x → (b ≡ true) × (y ≡ Some x)
if_true true x y is = (refl, is)
if_true false x y is = absurd cc

the_same : {X : Type 0} {x y : X} → Some x ≡ Some y → x ≡ y
the_same is = cc

mapped : {X Y : Type 0} (f : X → Y) (x : Option X) (y : Y) → option_map f x ≡ Some y → (z : X) × (x ≡ Some z) × (f z ≡ y)
mapped f None y is = absurd cc
mapped f (Some z) y is = (z, refl, the_same is)

-- the sign that a line has is in the text
pub sign_in : (text : List ℕ) → list_any (λ b. b == 61) (first_line text) ≡ true → list_any (λ b. b == 61) text ≡ true
sign_in text some = by (line_cut text).is
  where
    longer : (rest : List ℕ) → list_any (λ b. b == 61) (first_line text ++ rest) ≡ true
    longer rest = list_any-append (λ b. b == 61) (first_line text) rest ∙ rw some refl

    by : (text ≡ first_line text ++ 10 ∷ behind_line text)
        ⊎ ((text ≡ first_line text) × (behind_line text ≡ []) × ((first_line text ≡ []) ⊎ (is_lined (first_line text) ≡ false)))
        → list_any (λ b. b == 61) text ≡ true
    by (inl is) = ap (list_any (λ b. b == 61)) is ∙ longer (10 ∷ behind_line text)
    by (inr is) = ap (list_any (λ b. b == 61)) is.0 ∙ some

-- a value that stands behind a key and its sign
cut_behind : (text key value cut rest : List ℕ) → text ≡ key ++ 61 ∷ value → IsCut value cut rest
    → IsCut text (key ++ 61 ∷ cut) rest
cut_behind text key value cut rest is c = record { is = by c.is }
  where
    by_end : (cut : List ℕ) → (cut ≡ []) ⊎ (is_lined cut ≡ false) → is_lined (key ++ 61 ∷ cut) ≡ false
    by_end [] either = lined_behind key 61 []
    by_end (d ∷ cut) (inl none) = absurd (omega (arith, ap length none))
    by_end (d ∷ cut) (inr ends) = lined_behind key 61 (d ∷ cut) ∙ ends

    by : (value ≡ cut ++ 10 ∷ rest) ⊎ ((value ≡ cut) × (rest ≡ []) × ((cut ≡ []) ⊎ (is_lined cut ≡ false)))
        → (text ≡ (key ++ 61 ∷ cut) ++ 10 ∷ rest)
        ⊎ ((text ≡ key ++ 61 ∷ cut) × (rest ≡ []) × ((key ++ 61 ∷ cut ≡ []) ⊎ (is_lined (key ++ 61 ∷ cut) ≡ false)))
    by (inl found) = inl (is ∙ ap (λ v. key ++ 61 ∷ v) found ∙ sym (append_assoc key (61 ∷ cut) (10 ∷ rest)))
    by (inr found) = inr (is ∙ ap (λ v. key ++ 61 ∷ v) found.0, found.1, inr (by_end cut found.2))

-- the first line of a text, whatever stands behind a part of it
line_of_cut : (text cut behind rest : List ℕ) → IsCut text cut behind → first_line (cut ++ 10 ∷ rest) ≡ first_line text
line_of_cut text cut behind rest c = same_before 10 cut rest ∙ sym (by c.is)
  where
    by : (text ≡ cut ++ 10 ∷ behind) ⊎ ((text ≡ cut) × (behind ≡ []) × ((cut ≡ []) ⊎ (is_lined cut ≡ false)))
        → first_line text ≡ first_line cut
    by (inl is) = ap first_line is ∙ same_before 10 cut behind
    by (inr is) = ap first_line is.0

abbrev sign : ℕ → Bool
sign b = b == 61

pub valued : (all line v value rest : List ℕ) → first_line all ≡ line → list_any sign line ≡ true
    → is_key (trim (before_first sign line)) ≡ true → after_first sign all ≡ v → value_read v ≡ Some (value, rest)
    → setting_at all ≡ Some (trim (before_first sign line), value, rest)
valued all line v value rest here some allowed behind read = rw (here, some, allowed, behind, read) refl

pub setting_cut : (text key value behind : List ℕ) → setting_at text ≡ Some (key, value, behind) → IsSettingCut text key value behind
setting_cut text key value behind is = by (list_any (λ b. b == 61) line) refl is
  where
    line : List ℕ
    line = first_line text

    with_value : Option (List ℕ × List ℕ × List ℕ)
    with_value =
        if is_key (trim (before_first sign line))
        then option_map (λ r. (trim (before_first sign line), r.0, r.1)) (value_read (after_first sign text)) else None

    alone : Option (List ℕ × List ℕ × List ℕ)
    alone = if is_key (trim line) then Some (trim line, [], behind_line text) else None

    by : (has : Bool) → list_any sign line ≡ has → (if has then with_value else alone) ≡ Some (key, value, behind)
        → IsSettingCut text key value behind
    by false none same =
        let found = if_true (is_key (trim line)) (key, value, behind) (Some (trim line, [], behind_line text)) same in
        let parts = the_same found.1 in
        record {
          cut = line;
          is_cut = subst (λ b. IsCut text line b) (ap (λ p. p.2) parts) (line_cut text);
          line = λ rest. before_cut 10 line rest (lacks_before 10 text);
          same = λ rest.
              rw (before_cut 10 line rest (lacks_before 10 text), none, found.0, after_cut 10 line rest (lacks_before 10 text))
              (ap (λ p. Some (p.0, p.1, rest)) parts);
        }
    by true some same =
        let front = before_first sign text in
        let v = after_first sign text in
        let found = if_true (is_key (trim (before_first sign line))) (key, value, behind)
        (option_map (λ r. (trim (before_first sign line), r.0, r.1)) (value_read v)) same in
        let read = mapped (λ (r : List ℕ × List ℕ). (trim (before_first sign line), r.0, r.1)) (value_read v) (key, value, behind) found.1 in
        let stable = value_stable Gap [] [] v read.0 read.1 in
        let at = around 61 text (sign_in text some) in
        let cut = cut_behind text front v stable.cut read.0.1 at stable.is_cut in
        let ends = subst (λ b. IsCut text (front ++ 61 ∷ stable.cut) b) (ap (λ p. p.2) read.2) cut in
        record {
          cut = front ++ 61 ∷ stable.cut;
          is_cut = ends;
          line = λ rest. line_of_cut text (front ++ 61 ∷ stable.cut) behind rest ends;
          same = λ rest.
              let behind_sign : after_first sign ((front ++ 61 ∷ stable.cut) ++ 10 ∷ rest) ≡ stable.cut ++ 10 ∷ rest =
              ap (after_first sign) (append_assoc front (61 ∷ stable.cut) (10 ∷ rest))
              ∙ after_cut 61 front (stable.cut ++ 10 ∷ rest) (lacks_before 61 text) in
              valued ((front ++ 61 ∷ stable.cut) ++ 10 ∷ rest) line (stable.cut ++ 10 ∷ rest) read.0.0 rest
              (line_of_cut text (front ++ 61 ∷ stable.cut) behind rest ends) some found.0 behind_sign (stable.same rest)
              ∙ ap (λ p. Some (p.0, p.1, rest)) read.2;
        }

-- a setting, by the item that it is
pub setting_line : (section : List ℕ × List ℕ) (above : Option ℕ) (text cut rest key value : List ℕ)
    → says_nothing (first_line text) ≡ false → ((inside : List ℕ) → trim_start (first_line text) ≢ 91 ∷ inside)
    → first_line (cut ++ 10 ∷ rest) ≡ first_line text → setting_at (cut ++ 10 ∷ rest) ≡ Some (key, value, rest)
    → is_deeper (indent_of (first_line text)) above ≡ false
    → item_at section above (cut ++ 10 ∷ rest) ≡ Some (setting_of section key value ∷ [], section, Some (indent_of (first_line text)), rest)
setting_line section above text cut rest key value says other line is fits =
    other_item section above (cut ++ 10 ∷ rest) (ap says_nothing line ∙ says)
    (λ inside begins. other inside (ap trim_start (sym line) ∙ begins))
    ∙ read_setting_item section above (cut ++ 10 ∷ rest) key value rest (ap (λ l. is_deeper (indent_of l) above) line ∙ fits) is
    ∙ ap (λ l. Some (setting_of section key value ∷ [], section, Some (indent_of l), rest)) line
