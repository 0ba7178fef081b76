-- The line of a setting that is written is read as that setting.
use Rattle.std.proofs.Common.{◌≡◌, ◌≢◌, ℕ, ◌<◌, ◌==◌, ◌&&◌, Bool, true, false, ◌||◌, not, List, [], ◌∷◌, ◌++◌}
use Rattle.std.proofs.Common.{append_assoc, append-nil, refl, sym, ap, subst, ◌∙◌, arith, length, length-append, Some}
use Rattle.std.proofs.lemmas.Bool.{and_parts, not-true, true≢false}
use Rattle.std.proofs.lemmas.List.Folds.{list_any-append}
use Rattle.std.proofs.lemmas.Str.{NoCharPasses-byte, chars-append, chars_from_encodes, encodes-chars}
use Rattle.std.proofs.lemmas.Str.{IsUtf8-append}
use Rattle.std.specs.Char.{encode_utf8, is_not_whitespace, is_whitespace}
use Rattle.std.specs.List.{after_first, before_first, flat_map, list_any}
use Rattle.std.specs.Prelude.{codes, if◌then◌else◌, IsUtf8}
use Rattle.std.specs.Str.{NoCharPasses, NonePass, chars, drop_trailing_whitespace, encode_utf8_all, skip_leading_whitespace, trim, trim_end, trim_start}
use Rattle.ordered_multimap.specs.Pairs.{has_items}
use Rattle.config_reader.specs.Blocks.{AreSetting, IsBlank}
use Rattle.config_reader.specs.Lines.{begins_nothing, first_line, says_nothing}
use Rattle.config_reader.specs.Names.{Lacks, is_key, is_outside_key}
use Rattle.config_reader.specs.Said.{indent_of, is_deeper, item_at, setting_at, setting_of}
use Rattle.config_reader.specs.Values.{begins_blank, ends_blank, is_plain, is_special, quoted_byte, written}
use Rattle.config_reader.specs.Written.{line_of}
use Rattle.config_reader.proofs.Blocks.{setting_line, valued}
use Rattle.config_reader.proofs.Called.{has_it, lacks_bytes}
use Rattle.config_reader.proofs.Stable.{after_cut, before_cut}
use Rattle.config_reader.proofs.Texts.{encoded_some, utf8_before, utf8_from}
use Rattle.config_reader.proofs.Values.{not_feed, or_false, written_behind_blank}

-- a text of which no character passes lacks a byte that does
free_of : (p : ℕ → Bool) (b : ℕ) (text : List ℕ) → NoCharPasses p text → b < 128 → p b ≡ true → Lacks b text
free_of p b text none small passes =
    lacks_bytes b text (λ i below is. true≢false (sym passes ∙ ap p (sym is)
    ∙ NoCharPasses-byte p text i none below (omega (arith, is, small))))

none_pass : (p : ℕ → Bool) (cs : List ℕ) → list_any p cs ≡ false → NonePass p cs
none_pass p [] none = tt
none_pass p (c ∷ cs) none = let both = or_false (p c) (list_any p cs) none in (both.0, none_pass p cs both.1)

pub lacks_both : (b : ℕ) (front behind : List ℕ) → Lacks b front → Lacks b behind → Lacks b (front ++ behind)
lacks_both b front behind one two = list_any-append (λ c. c == b) front behind ∙ rw (one, two) refl

-- white space at the start of characters, and at their end
is_white : (c : ℕ) → is_not_whitespace c ≡ false → is_whitespace c ≡ true
is_white c is = by (is_whitespace c) is
  where
    by : (w : Bool) → not w ≡ false → w ≡ true
    by true is = refl
    by false is = absurd (true≢false is)

skipped : (blank cs : List ℕ) (c : ℕ) → NonePass is_not_whitespace blank → is_whitespace c ≡ false
    → skip_leading_whitespace (blank ++ c ∷ cs) ≡ c ∷ cs
skipped [] cs c white other = rw other refl
skipped (b ∷ blank) cs c white other = rw (is_white b white.0) (skipped blank cs c white.1 other)

dropped : (cs : List ℕ) → list_any is_whitespace cs ≡ false → drop_trailing_whitespace (cs ++ 32 ∷ []) ≡ cs
dropped [] none = refl
dropped (c ∷ cs) none =
    let both = or_false (is_whitespace c) (list_any is_whitespace cs) none in
    rw both.0 (ap (λ later. c ∷ later) (dropped cs both.1))

-- the first character that isn't dropped
pub first_stays : (c : ℕ) (cs : List ℕ) → is_whitespace c ≡ false → drop_trailing_whitespace (c ∷ cs) ≡ c ∷ drop_trailing_whitespace cs
first_stays c cs other = rw other refl

no_white : (cs : List ℕ) → list_any is_outside_key cs ≡ false → list_any is_whitespace cs ≡ false
no_white [] none = refl
no_white (c ∷ cs) none =
    let both = or_false (is_outside_key c) (list_any is_outside_key cs) none in
    rw (first (is_whitespace c) both.0) (no_white cs both.1)
  where
    first : (w : Bool) → (w || c == 46 || c == 58 || c == 61 || c == 34 || c == 92 || c == 91 || c == 93 || c == 35 || c == 59) ≡ false → w ≡ false
    first true is = absurd (true≢false is)
    first false is = refl

-- a value that is written has no line feed
quoted_lacks : (b : ℕ) → Lacks 10 (quoted_byte b)
unfolding quoted_byte
quoted_lacks b = by (b == 34) (b == 92) (b == 10) refl (b == 9)
  where
    by : (quote backslash feed : Bool) → (b == 10) ≡ feed → (tab : Bool)
        → Lacks 10 (if quote then 92 ∷ 34 ∷ [] else if backslash then 92 ∷ 92 ∷ [] else if feed then 92 ∷ 110 ∷ [] else if tab then 92 ∷ 116 ∷ [] else b ∷ [])
    by true backslash feed is tab = refl
    by false true feed is tab = refl
    by false false true is tab = refl
    by false false false is true = refl
    by false false false is false = rw is refl

all_quoted_lack : (value : List ℕ) → Lacks 10 (flat_map quoted_byte value)
all_quoted_lack [] = refl
all_quoted_lack (b ∷ value) = lacks_both 10 (quoted_byte b) (flat_map quoted_byte value) (quoted_lacks b) (all_quoted_lack value)

plain_lacks : (value : List ℕ) → list_any is_special value ≡ false → Lacks 10 value
plain_lacks [] none = refl
plain_lacks (b ∷ value) none =
    let both = or_false (is_special b) (list_any is_special value) none in
    rw (not_feed b both.0) (plain_lacks value both.1)

written_lacks : (value : List ℕ) → Lacks 10 (written value)
written_lacks value = by (is_plain value) refl
  where
    by : (plain : Bool) → is_plain value ≡ plain → Lacks 10 (if plain then value else 34 ∷ (flat_map quoted_byte value ++ 34 ∷ []))
    by true is =
        let parts = and_parts (not (begins_blank value) && not (ends_blank value)) (not (list_any is_special value)) is in
        plain_lacks value (not-true (list_any is_special value) parts.1)
    by false is = lacks_both 10 (34 ∷ flat_map quoted_byte value) (34 ∷ []) (all_quoted_lack value) refl

module _ (indent key behind : List ℕ) (blank : IsBlank indent) (indent_utf8 : IsUtf8 indent) (key_utf8 : IsUtf8 key)
    (behind_utf8 : IsUtf8 behind) (allowed : is_key key ≡ true) where
  key_parts : (has_items key ≡ true) × (list_any is_outside_key (chars key) ≡ false)
  key_parts =
      let parts = and_parts (has_items key) (not (list_any is_outside_key (chars key))) allowed in
      (parts.0, not-true (list_any is_outside_key (chars key)) parts.1)

  white : NonePass is_not_whitespace (chars indent)
  white = subst (NonePass is_not_whitespace) (chars_from_encodes blank.0 indent indent_utf8 blank.1) blank.2

  key_free : NoCharPasses is_outside_key key
  key_free = (chars key, encodes-chars key key_utf8, none_pass is_outside_key (chars key) key_parts.1)

  pub key_lacks : (b : ℕ) → b < 128 → is_outside_key b ≡ true → Lacks b key
  key_lacks b small outside = free_of is_outside_key b key key_free small outside

  pub indent_lacks : (b : ℕ) → b < 128 → is_not_whitespace b ≡ true → Lacks b indent
  indent_lacks b small other = free_of is_not_whitespace b indent blank small other

  -- the first character of the key
  some_char : (c : ℕ) × (cs : List ℕ) × (chars key ≡ c ∷ cs)
  some_char = by (chars key) refl
    where
      by : (cs : List ℕ) → chars key ≡ cs → (c : ℕ) × (rest : List ℕ) × (cs ≡ c ∷ rest)
      by [] none = absurd (no_key key key_parts.0 (sym (encodes-chars key key_utf8) ∙ ap encode_utf8_all none))
        where
          no_key : (k : List ℕ) → has_items k ≡ true → k ≢ []
          no_key [] some is = true≢false (sym some)
          no_key (b ∷ k) some is = absurd cc
      by (c ∷ cs) is = (c, cs, refl)

  first_other : is_whitespace some_char.0 ≡ false
  first_other = (or_false (is_whitespace some_char.0) (list_any is_whitespace some_char.1) (ap (list_any is_whitespace) (sym some_char.2) ∙ no_white (chars key) key_parts.1)).0

  behind_chars : chars (key ++ behind) ≡ some_char.0 ∷ (some_char.1 ++ chars behind)
  behind_chars = chars-append key behind key_utf8 ∙ ap (λ cs. cs ++ chars behind) some_char.2

  -- the line without the blanks in front
  pub start_trimmed : trim_start (indent ++ (key ++ behind)) ≡ key ++ behind
  unfolding trim_start
  start_trimmed =
      ap (λ cs. encode_utf8_all (skip_leading_whitespace cs)) (chars-append indent (key ++ behind) indent_utf8 ∙ ap (λ cs. chars indent ++ cs) behind_chars)
      ∙ ap encode_utf8_all (skipped (chars indent) (some_char.1 ++ chars behind) some_char.0 white first_other ∙ sym behind_chars)
      ∙ encodes-chars (key ++ behind) (IsUtf8-append key behind key_utf8 behind_utf8)

  -- it says something
  pub says_something : says_nothing (indent ++ (key ++ behind)) ≡ false
  unfolding trim_end
  says_something =
      ap (λ t. begins_nothing (trim_end t)) start_trimmed
      ∙ ap (λ cs. begins_nothing (encode_utf8_all (drop_trailing_whitespace cs))) behind_chars
      ∙ ap (λ cs. begins_nothing (encode_utf8_all cs)) (first_stays some_char.0 (some_char.1 ++ chars behind) first_other)
      ∙ same_begin
    where
      later : List ℕ
      later = encode_utf8_all (drop_trailing_whitespace (some_char.1 ++ chars behind))

      first_of : (front rest other : List ℕ) → has_items (front ++ rest) ≡ true → Lacks 35 (front ++ rest) → Lacks 59 (front ++ rest) → front ≢ []
          → begins_nothing (front ++ other) ≡ false
      first_of [] rest other some mark other_mark empty = absurd (empty refl)
      first_of (b ∷ front) rest other some mark other_mark empty =
          let one = or_false (b == 35) (list_any (λ c. c == 35) (front ++ rest)) mark in
          let two = or_false (b == 59) (list_any (λ c. c == 59) (front ++ rest)) other_mark in
          rw (one.0, two.0) refl

      key_is : encode_utf8 some_char.0 ++ encode_utf8_all some_char.1 ≡ key
      key_is = sym (ap encode_utf8_all some_char.2) ∙ encodes-chars key key_utf8

      same_begin : begins_nothing (encode_utf8 some_char.0 ++ later) ≡ false
      same_begin =
          first_of (encode_utf8 some_char.0) (encode_utf8_all some_char.1) later (ap has_items key_is ∙ key_parts.0)
          (subst (Lacks 35) (sym key_is) (key_lacks 35 (omega arith) refl))
          (subst (Lacks 59) (sym key_is) (key_lacks 59 (omega arith) refl))
          (encoded_some some_char.0)

  -- it opens no section
  pub opens_none : (inside : List ℕ) → trim_start (indent ++ (key ++ behind)) ≢ 91 ∷ inside
  opens_none inside is = by key key_parts.0 (key_lacks 91 (omega arith) refl) (sym start_trimmed ∙ is)
    where
      by : (k : List ℕ) → has_items k ≡ true → Lacks 91 k → k ++ behind ≢ 91 ∷ inside
      by [] some none is = true≢false (sym some)
      by (b ∷ k) some none is =
          let first : b ≡ 91 = cc in
          true≢false (sym (ap (λ c. c == 91) first) ∙ (or_false (b == 91) (list_any (λ c. c == 91) k) none).0)

  -- how far it is indented
  pub indent_is : indent_of (indent ++ (key ++ behind)) ≡ length indent
  indent_is = omega (arith, ap length start_trimmed, length-append indent (key ++ behind))

-- the key is what stands between blanks
key_trimmed : (indent key : List ℕ) → IsBlank indent → IsUtf8 indent → IsUtf8 key → is_key key ≡ true
    → trim (indent ++ (key ++ 32 ∷ [])) ≡ key
unfolding trim_end encode_utf8
key_trimmed indent key blank indent_utf8 key_utf8 allowed =
    let space : IsUtf8 (32 ∷ []) = (32 ∷ [], (refl, refl)) in
    let spaced : chars (key ++ 32 ∷ []) ≡ chars key ++ 32 ∷ [] =
    chars-append key (32 ∷ []) key_utf8 ∙ ap (λ cs. chars key ++ cs) (sym (chars_from_encodes (32 ∷ []) (32 ∷ []) space refl)) in
    let outside = (key_parts indent key (32 ∷ []) blank indent_utf8 key_utf8 space allowed).1 in
    ap trim_end (start_trimmed indent key (32 ∷ []) blank indent_utf8 key_utf8 space allowed)
    ∙ ap (λ cs. encode_utf8_all (drop_trailing_whitespace cs)) spaced
    ∙ ap encode_utf8_all (dropped (chars key) (no_white (chars key) outside))
    ∙ encodes-chars key key_utf8

-- a setting that is written
module _ (indent key value : List ℕ) (blank : IsBlank indent) (one_line : Lacks 10 indent) (indent_utf8 : IsUtf8 indent) (key_utf8 : IsUtf8 key)
    (line_utf8 : IsUtf8 (line_of (indent ++ key ++ codes " = " ++ written value))) (allowed : is_key key ≡ true) where
  abbrev w : List ℕ
  w = written value

  abbrev behind : List ℕ
  behind = 32 ∷ 61 ∷ 32 ∷ w

  abbrev line : List ℕ
  line = indent ++ (key ++ behind)

  abbrev front : List ℕ
  front = indent ++ (key ++ 32 ∷ [])

  line_is : indent ++ key ++ codes " = " ++ written value ≡ line
  line_is = append_assoc (indent ++ key) (32 ∷ 61 ∷ 32 ∷ []) w ∙ append_assoc indent key behind

  behind_utf8 : IsUtf8 behind
  behind_utf8 =
      utf8_from (indent ++ key) 32 (61 ∷ 32 ∷ w)
      (subst IsUtf8 (sym (append_assoc indent key behind))
      (utf8_before line 10 [] (subst (λ t. IsUtf8 (line_of t)) line_is line_utf8) (omega arith))) (omega arith)

  abbrev key_free_of : (b : ℕ) → b < 128 → is_outside_key b ≡ true → Lacks b key
  key_free_of = key_lacks indent key behind blank indent_utf8 key_utf8 behind_utf8 allowed

  line_lacks : Lacks 10 line
  line_lacks = lacks_both 10 indent (key ++ behind) one_line (lacks_both 10 key behind (key_free_of 10 (omega arith) refl) (written_lacks value))

  front_lacks : Lacks 61 front
  front_lacks =
      lacks_both 61 indent (key ++ 32 ∷ []) (indent_lacks indent key behind blank indent_utf8 key_utf8 behind_utf8 allowed 61 (omega arith) refl)
      (lacks_both 61 key (32 ∷ []) (key_free_of 61 (omega arith) refl) refl)

  signed : (rest : List ℕ) → line ++ rest ≡ front ++ 61 ∷ 32 ∷ (w ++ rest)
  signed rest =
      append_assoc indent (key ++ behind) rest
      ∙ ap (λ t. indent ++ t) (append_assoc key behind rest ∙ sym (append_assoc key (32 ∷ []) (61 ∷ 32 ∷ (w ++ rest))))
      ∙ sym (append_assoc indent (key ++ 32 ∷ []) (61 ∷ 32 ∷ (w ++ rest)))

  line_signed : line ≡ front ++ 61 ∷ 32 ∷ w
  line_signed = sym (append-nil line) ∙ signed [] ∙ ap (λ t. front ++ 61 ∷ 32 ∷ t) (append-nil w)

  key_is : trim (before_first (λ b. b == 61) line) ≡ key
  key_is =
      ap (λ t. trim (before_first (λ b. b == 61) t)) line_signed
      ∙ ap trim (before_cut 61 front (32 ∷ w) front_lacks)
      ∙ key_trimmed indent key blank indent_utf8 key_utf8 allowed

  setting_here : (rest : List ℕ) → setting_at (line ++ 10 ∷ rest) ≡ Some (key, value, rest)
  setting_here rest =
      valued (line ++ 10 ∷ rest) line (32 ∷ (w ++ 10 ∷ rest)) value rest (before_cut 10 line rest line_lacks)
      (ap (list_any (λ b. b == 61)) line_signed ∙ has_it 61 front (32 ∷ w)) (ap is_key key_is ∙ allowed)
      (ap (after_first (λ b. b == 61)) (signed (10 ∷ rest)) ∙ after_cut 61 front (32 ∷ (w ++ 10 ∷ rest)) front_lacks)
      (written_behind_blank value rest)
      ∙ ap (λ k. Some (k, value, rest)) key_is

  -- is read as that setting
  pub written_setting : AreSetting (line_of (indent ++ key ++ codes " = " ++ written value)) key value (length indent)
  written_setting =
      subst (λ t. AreSetting (line_of t) key value (length indent)) (sym line_is)
      (let whole : List ℕ = line ++ 10 ∷ [] in
      let here : first_line whole ≡ line = before_cut 10 line [] line_lacks in
      let indented : indent_of (first_line whole) ≡ length indent =
      ap indent_of here ∙ indent_is indent key behind blank indent_utf8 key_utf8 behind_utf8 allowed in
      record {
        some = omega (arith, length-append line (10 ∷ []));
        indented = sym indented;
        same = λ section above rest fits.
            ap (item_at section above) (append_assoc line (10 ∷ []) rest)
            ∙ setting_line section above whole line rest key value
            (ap says_nothing here ∙ says_something indent key behind blank indent_utf8 key_utf8 behind_utf8 allowed)
            (λ inside begins. opens_none indent key behind blank indent_utf8 key_utf8 behind_utf8 allowed inside (ap trim_start (sym here) ∙ begins))
            (before_cut 10 line rest line_lacks ∙ sym here) (setting_here rest)
            (ap (λ i. is_deeper i above) indented ∙ fits)
            ∙ ap (λ i. Some (setting_of section key value ∷ [], section, Some i, rest)) indented;
      })
