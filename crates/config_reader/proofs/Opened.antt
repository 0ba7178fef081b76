-- The line of a section that is written opens that section.
use Rattle.std.proofs.Common.{◌≡◌, ◌⊎◌, ℕ, ◌==◌, ◌&&◌, ◌<◌, ◌≤◌, Bool, true, false, not, cond, List, [], ◌∷◌, ◌++◌}
use Rattle.std.proofs.Common.{append_assoc, append-nil, refl, sym, ap, subst, ◌∙◌, arith, length, drop, take, Some, inl, inr}
use Rattle.std.proofs.lemmas.Bool.{and_parts, not-true, true≢false}
use Rattle.std.proofs.lemmas.Str.{IsUtf8-append, chars-append, chars-encodes, chars_from_encodes, encode_ascii, encodes-chars}
use Rattle.std.proofs.lemmas.Str.{scalars-chars}
use Rattle.std.proofs.Math.Utf8.{scalar, scalars}
use Rattle.std.specs.Char.{encode_utf8, is_whitespace}
use Rattle.std.specs.List.{list_any}
use Rattle.std.specs.Prelude.{IsUtf8, codes}
use Rattle.std.specs.Str.{chars, drop_trailing_whitespace, encode_utf8_all, skip_leading_whitespace, trim, trim_end, trim_start}
use Rattle.ordered_multimap.specs.Pairs.{has_items}
use Rattle.config_reader.specs.Blocks.{OpensSection}
use Rattle.config_reader.specs.Lines.{begins_nothing, says_nothing}
use Rattle.config_reader.specs.Names.{Lacks}
use Rattle.config_reader.specs.Said.{item_at}
use Rattle.config_reader.specs.Sections.{IsTrimmed, is_outside_sub, is_outside_unquoted, is_outside_word, is_sub, is_word}
use Rattle.config_reader.specs.Sections.{opened}
use Rattle.config_reader.specs.Written.{in_quotes}
use Rattle.config_reader.proofs.Blocks.{opening_line}
use Rattle.config_reader.proofs.Called.{has_it}
use Rattle.config_reader.proofs.Cuts.{no_place, none_after}
use Rattle.config_reader.proofs.Sections.{sub_parts, unquoted_parts, word_front, word_parts}
use Rattle.config_reader.proofs.Spelled.{first_stays, lacks_both}
use Rattle.config_reader.proofs.Stable.{after_cut, before_cut}
use Rattle.config_reader.proofs.Texts.{utf8_before}
use Rattle.config_reader.proofs.Values.{or_false}
use Rattle.config_reader.proofs.WholeLines.{cut_at}

dropped_again : (cs : List ℕ) → drop_trailing_whitespace (drop_trailing_whitespace cs) ≡ drop_trailing_whitespace cs
dropped_again [] = refl
dropped_again (c ∷ cs) = by (is_whitespace c && length (drop_trailing_whitespace cs) == 0) refl (dropped_again cs)
  where
    by : (goes : Bool) → (is_whitespace c && length (drop_trailing_whitespace cs) == 0) ≡ goes
        → drop_trailing_whitespace (drop_trailing_whitespace cs) ≡ drop_trailing_whitespace cs
        → drop_trailing_whitespace (cond goes [] (c ∷ drop_trailing_whitespace cs)) ≡ cond goes [] (c ∷ drop_trailing_whitespace cs)
    by true is again = refl
    by false is again = rw (again, is) refl

skipped_again : (cs : List ℕ) → skip_leading_whitespace (drop_trailing_whitespace (skip_leading_whitespace cs)) ≡ drop_trailing_whitespace
    (skip_leading_whitespace cs)
skipped_again [] = refl
skipped_again (c ∷ cs) = by (is_whitespace c) refl (skipped_again cs)
  where
    by : (white : Bool) → is_whitespace c ≡ white
        → skip_leading_whitespace (drop_trailing_whitespace (skip_leading_whitespace cs)) ≡ drop_trailing_whitespace
        (skip_leading_whitespace cs)
        → skip_leading_whitespace (drop_trailing_whitespace (cond white (skip_leading_whitespace cs) (c ∷ cs)))
        ≡ drop_trailing_whitespace (cond white (skip_leading_whitespace cs) (c ∷ cs))
    by true is again = again
    by false is again = rw (first_stays c cs is) (rw is refl)

pub trimmed : (cs : List ℕ) → IsTrimmed (drop_trailing_whitespace (skip_leading_whitespace cs))
trimmed cs = (skipped_again cs, dropped_again (skip_leading_whitespace cs))

-- a text that is trimmed
skipped_scalars : (cs : List ℕ) → scalars cs ≡ true → scalars (skip_leading_whitespace cs) ≡ true
skipped_scalars [] valid = refl
skipped_scalars (c ∷ cs) valid = by (is_whitespace c) (skipped_scalars cs (and_parts (scalar c) (scalars cs) valid).1)
  where
    by : (white : Bool) → scalars (skip_leading_whitespace cs) ≡ true → scalars (cond white (skip_leading_whitespace cs) (c ∷ cs)) ≡ true
    by true later = later
    by false later = valid

dropped_scalars : (cs : List ℕ) → scalars cs ≡ true → scalars (drop_trailing_whitespace cs) ≡ true
dropped_scalars [] valid = refl
dropped_scalars (c ∷ cs) valid =
    by (is_whitespace c && length (drop_trailing_whitespace cs) == 0) (dropped_scalars cs (and_parts (scalar c) (scalars cs) valid).1)
  where
    by : (goes : Bool) → scalars (drop_trailing_whitespace cs) ≡ true → scalars (cond goes [] (c ∷ drop_trailing_whitespace cs)) ≡ true
    by true later = refl
    by false later = rw ((and_parts (scalar c) (scalars cs) valid).0, later) refl

pub trim_trimmed : (text : List ℕ) → IsUtf8 text → IsTrimmed (chars (trim text))
unfolding trim_end trim_start
trim_trimmed text utf8 =
    let skipped : List ℕ = skip_leading_whitespace (chars text) in
    let valid : scalars skipped ≡ true = skipped_scalars (chars text) (scalars-chars text utf8) in
    let same : chars (trim text) ≡ drop_trailing_whitespace skipped =
    ap (λ cs. chars (encode_utf8_all (drop_trailing_whitespace cs))) (chars-encodes skipped valid)
    ∙ chars-encodes (drop_trailing_whitespace skipped) (dropped_scalars skipped valid) in
    subst IsTrimmed (sym same) (trimmed (chars text))

-- what stands in front of an ASCII byte, without blanks
pub front_trimmed : (text word : List ℕ) (i j b : ℕ) → b < 128 → drop i text ≡ encode_utf8 b ++ drop j text → IsUtf8 text
    → word ≡ trim (take i text) → IsTrimmed (chars word)
front_trimmed text word i j b small split utf8 is =
    let at = split ∙ ap (λ first. first ++ drop j text) (encode_ascii b small) in
    let front = utf8_before (take i text) b (drop j text) (subst IsUtf8 (cut_at text i j b at) utf8) small in
    subst (λ t. IsTrimmed (chars t)) (sym is) (trim_trimmed (take i text) front)

-- a blank behind them
dropped_blank : (cs : List ℕ) → drop_trailing_whitespace (cs ++ 32 ∷ []) ≡ drop_trailing_whitespace cs
dropped_blank [] = refl
dropped_blank (c ∷ cs) = ap (λ ds. cond (is_whitespace c && length ds == 0) [] (c ∷ ds)) (dropped_blank cs)

skipped_short : (cs : List ℕ) → length (skip_leading_whitespace cs) ≤ length cs
skipped_short [] = omega arith
skipped_short (c ∷ cs) = by (is_whitespace c) (skipped_short cs)
  where
    by : (white : Bool) → length (skip_leading_whitespace cs) ≤ length cs
        → length (cond white (skip_leading_whitespace cs) (c ∷ cs)) ≤ length (c ∷ cs)
    by true short = omega (arith, short)
    by false short = omega arith

first_other : (c : ℕ) (cs : List ℕ) → skip_leading_whitespace (c ∷ cs) ≡ c ∷ cs → is_whitespace c ≡ false
first_other c cs same = by (is_whitespace c) same
  where
    by : (white : Bool) → cond white (skip_leading_whitespace cs) (c ∷ cs) ≡ c ∷ cs → white ≡ false
    by true is = absurd (omega (arith, ap length is, skipped_short cs))
    by false is = refl

skipped_blank : (cs more : List ℕ) → 0 < length cs → skip_leading_whitespace cs ≡ cs → skip_leading_whitespace (cs ++ more) ≡ cs ++ more
skipped_blank [] more some same = absurd (omega (arith, some))
skipped_blank (c ∷ cs) more some same = rw (first_other c cs same) refl

-- a word without white space at its ends, and a blank behind it
module _ (word : List ℕ) (utf8 : IsUtf8 word) (is : IsTrimmed (chars word)) where
  pub word_trimmed : trim word ≡ word
  unfolding trim_end trim_start
  word_trimmed =
      ap (λ cs. trim_end (encode_utf8_all cs)) is.0 ∙ ap trim_end (encodes-chars word utf8)
      ∙ ap encode_utf8_all is.1 ∙ encodes-chars word utf8

  blank_trimmed : has_items word ≡ true → trim (word ++ 32 ∷ []) ≡ word
  unfolding trim_end trim_start encode_utf8
  blank_trimmed some =
      let space : IsUtf8 (32 ∷ []) = (32 ∷ [], (refl, refl)) in
      let spaced : chars (word ++ 32 ∷ []) ≡ chars word ++ 32 ∷ [] =
      chars-append word (32 ∷ []) utf8 ∙ ap (λ cs. chars word ++ cs) (sym (chars_from_encodes (32 ∷ []) (32 ∷ []) space refl)) in
      ap (λ cs. trim_end (encode_utf8_all (skip_leading_whitespace cs))) spaced
      ∙ ap (λ cs. trim_end (encode_utf8_all cs)) (skipped_blank (chars word) (32 ∷ []) (some_chars (chars word) refl) is.0 ∙ sym spaced)
      ∙ ap trim_end (encodes-chars (word ++ 32 ∷ []) (IsUtf8-append word (32 ∷ []) utf8 space))
      ∙ ap (λ cs. encode_utf8_all (drop_trailing_whitespace cs)) spaced
      ∙ ap encode_utf8_all (dropped_blank (chars word) ∙ is.1) ∙ encodes-chars word utf8
    where
      some_chars : (cs : List ℕ) → chars word ≡ cs → 0 < length cs
      some_chars [] none = absurd (true≢false (sym some ∙ ap has_items (sym (encodes-chars word utf8) ∙ ap encode_utf8_all none)))
      some_chars (c ∷ cs) same = omega arith

-- a text lacks what no such text has
any_less : (p q : ℕ → Bool) (text : List ℕ) → ((b : ℕ) → q b ≡ false → p b ≡ false) → list_any q text ≡ false → list_any p text ≡ false
any_less p q [] less none = refl
any_less p q (b ∷ text) less none =
    let both = or_false (q b) (list_any q text) none in
    rw (less b both.0) (any_less p q text less both.1)

-- a text that isn't empty, and has nothing that is outside
module _ (outside : ℕ → Bool) (text : List ℕ) (allowed : (has_items text && not (list_any outside text)) ≡ true) where
  parts : (has_items text ≡ true) × (list_any outside text ≡ false)
  parts =
      let both = and_parts (has_items text) (not (list_any outside text)) allowed in
      (both.0, not-true (list_any outside text) both.1)

  lacks_outside : (b : ℕ) → ((c : ℕ) → outside c ≡ false → (c == b) ≡ false) → Lacks b text
  lacks_outside b less = any_less (λ c. c == b) outside text less parts.1

module _ (word : List ℕ) (utf8 : IsUtf8 word) (is : IsTrimmed (chars word)) (allowed : is_word word ≡ true) where
  word_lacks : (b : ℕ) → ((c : ℕ) → is_outside_word c ≡ false → (c == b) ≡ false) → Lacks b word
  word_lacks = lacks_outside is_outside_word word allowed

  no_quote : Lacks 34 word
  no_quote = word_lacks 34 (λ c none. (sub_parts c (word_parts c none).0).0)

  no_feed : Lacks 10 word
  no_feed = word_lacks 10 (λ c none. (sub_parts c (word_parts c none).0).2)

  no_bracket : Lacks 93 word
  no_bracket = word_lacks 93 (λ c none. (word_parts c none).1)

  -- what stands behind the bracket of a line, up to its end
  nothing : says_nothing [] ≡ true
  unfolding trim_end trim_start chars
  nothing = refl

  alone_opens : Lacks 46 word → opened (word ++ 93 ∷ []) ≡ Some (word, [])
  alone_opens no_dot =
      let same : trim word ≡ word = word_trimmed word utf8 is in
      rw (
        lacks_both 34 word (93 ∷ []) no_quote refl,
        has_it 93 word [],
        after_cut 93 word [] no_bracket,
        before_cut 93 word [] no_bracket,
        nothing,
        any_less is_outside_unquoted is_outside_word word unquoted_parts (parts is_outside_word word allowed).1,
        none_after 46 word (no_place 46 word no_dot),
        no_dot,
        same,
        allowed,
      ) refl

  module _ (sub : List ℕ) (sub_is : is_sub sub ≡ true) where
    sub_lacks : (b : ℕ) → ((c : ℕ) → is_outside_sub c ≡ false → (c == b) ≡ false) → Lacks b sub
    sub_lacks = lacks_outside is_outside_sub sub sub_is

    quoted_opens : opened ((word ++ 32 ∷ []) ++ 34 ∷ (sub ++ 34 ∷ 93 ∷ [])) ≡ Some (word, sub)
    quoted_opens =
        let front : List ℕ = word ++ 32 ∷ [] in
        let quoted : List ℕ = sub ++ 34 ∷ 93 ∷ [] in
        let front_lacks : Lacks 34 front = lacks_both 34 word (32 ∷ []) no_quote refl in
        let sub_quote : Lacks 34 sub = sub_lacks 34 (λ c none. (sub_parts c none).0) in
        rw (
          has_it 34 front quoted,
          before_cut 34 front quoted front_lacks,
          after_cut 34 front quoted front_lacks,
          lacks_both 93 word (32 ∷ []) no_bracket refl,
          after_cut 34 sub (93 ∷ []) sub_quote,
          before_cut 34 sub (93 ∷ []) sub_quote,
          nothing,
          word_front word (parts is_outside_word word allowed).0 (parts is_outside_word word allowed).1,
          blank_trimmed word utf8 is (parts is_outside_word word allowed).0,
          allowed,
          sub_is,
        ) refl

-- a line that begins with a bracket
module _ (inside : List ℕ) (utf8 : IsUtf8 inside) where
  bracket_chars : chars (91 ∷ inside) ≡ 91 ∷ chars inside
  unfolding encode_utf8
  bracket_chars =
      let bracket : IsUtf8 (91 ∷ []) = (91 ∷ [], (refl, refl)) in
      chars-append (91 ∷ []) inside bracket ∙ ap (λ cs. cs ++ chars inside) (sym (chars_from_encodes (91 ∷ []) (91 ∷ []) bracket refl))

  bracket_utf8 : IsUtf8 (91 ∷ inside)
  unfolding encode_utf8
  bracket_utf8 = IsUtf8-append (91 ∷ []) inside (91 ∷ [], (refl, refl)) utf8

  pub bracket_first : trim_start (91 ∷ inside) ≡ 91 ∷ inside
  unfolding trim_start
  bracket_first =
      ap (λ cs. encode_utf8_all (skip_leading_whitespace cs)) bracket_chars
      ∙ ap encode_utf8_all (sym bracket_chars) ∙ encodes-chars (91 ∷ inside) bracket_utf8

  pub bracket_says : says_nothing (91 ∷ inside) ≡ false
  unfolding trim_end encode_utf8
  bracket_says =
      ap (λ t. begins_nothing (trim_end t)) bracket_first
      ∙ ap (λ cs. begins_nothing (encode_utf8_all (drop_trailing_whitespace cs))) bracket_chars
      ∙ ap (λ cs. begins_nothing (encode_utf8_all cs)) (first_stays 91 (chars inside) refl)

-- such a line that opens a section
line_opens : (inside : List ℕ) (inner : List ℕ × List ℕ) → IsUtf8 inside → Lacks 10 inside → opened inside ≡ Some inner
    → OpensSection (91 ∷ (inside ++ 10 ∷ [])) inner
line_opens inside inner utf8 lacks opens = record {
  some = omega arith;
  same = λ section above rest.
      ap (item_at section above) (append_assoc (91 ∷ inside) (10 ∷ []) rest)
      ∙ opening_line section above (91 ∷ inside) rest lacks inside inner (bracket_says inside utf8) (bracket_first inside utf8) opens;
}

-- the line that is written for a section
module _ (word sub : List ℕ) (utf8 : IsUtf8 word) (sub_utf8 : IsUtf8 sub) (is : IsTrimmed (chars word))
    (allowed : is_word word ≡ true) where
  word_line : Lacks 46 word → OpensSection (codes "[" ++ word ++ [] ++ codes "]\n") (word, [])
  unfolding encode_utf8
  word_line no_dot =
      subst (λ t. OpensSection (91 ∷ t) (word, []))
      (append_assoc word (93 ∷ []) (10 ∷ []) ∙ ap (λ w. w ++ 93 ∷ 10 ∷ []) (sym (append-nil word)))
      (line_opens (word ++ 93 ∷ []) (word, []) (IsUtf8-append word (93 ∷ []) utf8 (93 ∷ [], (refl, refl)))
      (lacks_both 10 word (93 ∷ []) (no_feed word utf8 is allowed) refl) (alone_opens word utf8 is allowed no_dot))

  quoted_line : (sub : List ℕ) → IsUtf8 sub → is_sub sub ≡ true
      → OpensSection (codes "[" ++ word ++ (codes " \"" ++ sub ++ codes "\"") ++ codes "]\n") (word, sub)
  unfolding encode_utf8
  quoted_line sub sub_utf8 sub_is =
      let quoted : List ℕ = 34 ∷ (sub ++ 34 ∷ 93 ∷ []) in
      let joined : word ++ 32 ∷ quoted ≡ (word ++ 32 ∷ []) ++ quoted = sym (append_assoc word (32 ∷ []) quoted) in
      let all : ((word ++ 32 ∷ []) ++ quoted) ++ 10 ∷ [] ≡ (word ++ 32 ∷ 34 ∷ (sub ++ 34 ∷ [])) ++ 93 ∷ 10 ∷ [] =
      append_assoc (word ++ 32 ∷ []) quoted (10 ∷ [])
      ∙ append_assoc word (32 ∷ []) (quoted ++ 10 ∷ [])
      ∙ ap (λ t. word ++ 32 ∷ 34 ∷ t) (append_assoc sub (34 ∷ 93 ∷ []) (10 ∷ []) ∙ sym (append_assoc sub (34 ∷ []) (93 ∷ 10 ∷ [])))
      ∙ sym (append_assoc word (32 ∷ 34 ∷ (sub ++ 34 ∷ [])) (93 ∷ 10 ∷ [])) in
      let quoted_utf8 : IsUtf8 quoted =
      IsUtf8-append (34 ∷ []) (sub ++ 34 ∷ 93 ∷ []) (34 ∷ [], (refl, refl))
      (IsUtf8-append sub (34 ∷ 93 ∷ []) sub_utf8 (34 ∷ 93 ∷ [], (refl, refl))) in
      let sub_feed : Lacks 10 sub = sub_lacks word utf8 is allowed sub sub_is 10 (λ c none. (sub_parts c none).2) in
      subst (λ t. OpensSection (91 ∷ t) (word, sub)) all
      (line_opens ((word ++ 32 ∷ []) ++ quoted) (word, sub)
      (IsUtf8-append (word ++ 32 ∷ []) quoted (IsUtf8-append word (32 ∷ []) utf8 (32 ∷ [], (refl, refl))) quoted_utf8)
      (lacks_both 10 (word ++ 32 ∷ []) quoted (lacks_both 10 word (32 ∷ []) (no_feed word utf8 is allowed) refl)
      (lacks_both 10 sub (34 ∷ 93 ∷ []) sub_feed refl))
      (quoted_opens word utf8 is allowed sub sub_is))

  pub section_opens : ((sub ≡ []) × Lacks 46 word) ⊎ (is_sub sub ≡ true)
      → OpensSection (codes "[" ++ word ++ in_quotes sub ++ codes "]\n") (word, sub)
  section_opens (inl none) = subst (λ s. OpensSection (codes "[" ++ word ++ in_quotes s ++ codes "]\n") (word, s)) (sym none.0)
      (word_line none.1)
  section_opens (inr some) = by sub sub_utf8 some
    where
      by : (s : List ℕ) → IsUtf8 s → is_sub s ≡ true → OpensSection (codes "[" ++ word ++ in_quotes s ++ codes "]\n") (word, s)
      by [] s_utf8 some = absurd (true≢false (sym some))
      by (b ∷ s) s_utf8 some = quoted_line (b ∷ s) s_utf8 some
