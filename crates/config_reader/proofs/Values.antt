-- How a value is read byte by byte, and that what is written is read again.
use Rattle.std.proofs.Common.{◌≡◌, ◌≢◌, ℕ, suc, ◌<◌, ◌≤◌, ◌-◌, Bool, true, false, ◌==◌, ◌&&◌, ◌||◌, not, List, [], ◌∷◌, ◌++◌}
use Rattle.std.proofs.Common.{append_assoc, append-nil, refl, sym, ap, subst, ◌∙◌, arith, ne_eqb, Some, None, length, get_or, inl, inr}
use Rattle.std.specs.Prelude.{slice_index, option_and_then, if◌then◌else◌, ◌⊎◌, Option}
use Rattle.std.proofs.lemmas.Str.{encode_ascii, inside_one}
use Rattle.std.specs.Char.{encode_utf8}
use Rattle.std.proofs.lemmas.Bool.{and_parts, cases_lt, eqb-true, not-true, true≢false}
use Rattle.std.proofs.lemmas.Bool.Decides.{nat_tests}
use Rattle.std.specs.List.{flat_map, list_any}
use Rattle.config_reader.specs.declared.value.Effect.{Effect}
use Rattle.config_reader.specs.declared.value.Effect.TheVariants.{Add, Blank, Keep, Skip}
use Rattle.config_reader.specs.declared.value.Mode.{Mode}
use Rattle.config_reader.specs.declared.value.Mode.TheVariants.{Gap, Quotes, QuotesEscape, Word}
use Rattle.config_reader.specs.Values.{affected, begins_blank, ended, ends_blank, ends_value, step_in_plain, is_mark}
use Rattle.config_reader.specs.Values.{is_plain, is_special, may_end, quoted_byte, read_on, stepped, value_read, written}

module _ (mode : Mode) (value gap : List ℕ) where
  -- nothing is left, or a line feed that ends the value
  pub none_left : (rest : List ℕ) → length rest ≡ 0 → read_on mode value gap rest ≡ ended mode value rest
  unfolding read_on
  none_left [] none = refl
  none_left (b ∷ rest) none = absurd (omega arith)

  pub end_read : (rest : List ℕ) → ends_value mode ≡ true → read_on mode value gap (10 ∷ rest) ≡ ended mode value (10 ∷ rest)
  unfolding read_on
  end_read rest ends = rw ends refl

  -- a byte that ends no value
  pub step_read : (b : ℕ) (rest : List ℕ) (step : Mode × Effect) → (b == 10 && ends_value mode) ≡ false
      → stepped mode b ≡ Some step
      → read_on mode value gap (b ∷ rest)
      ≡ read_on step.0 (affected step.1 b value gap).0 (affected step.1 b value gap).1 rest
  unfolding read_on
  step_read b rest step goes is = rw (goes, is) refl

  pub bad_read : (b : ℕ) (rest : List ℕ) → (b == 10 && ends_value mode) ≡ false → stepped mode b ≡ None
      → read_on mode value gap (b ∷ rest) ≡ None
  unfolding read_on
  bad_read b rest goes is = rw (goes, is) refl

-- what stands behind a value stands behind a line feed, or is nothing
pub read_behind : (mode : Mode) (value gap text : List ℕ) (r : List ℕ × List ℕ) → read_on mode value gap text ≡ Some r
    → ((before : List ℕ) × (text ≡ before ++ 10 ∷ r.1)) ⊎ (r.1 ≡ [])
unfolding read_on
read_behind mode value gap [] r is = by_whole (may_end mode []) is
  where
    by_whole : (whole : Bool) → (if whole then Some (value, []) else None) ≡ Some r
        → ((before : List ℕ) × ([] ≡ before ++ 10 ∷ r.1)) ⊎ (r.1 ≡ [])
    by_whole true same = let parts : (value, []) ≡ r = cc in inr (sym (ap (λ p. p.1) parts))
    by_whole false same = absurd cc
read_behind mode value gap (b ∷ text) r is =
    by_end (b == 10 && ends_value mode) refl is (λ step. read_behind step.0 (affected step.1 b value gap).0 (affected step.1 b value gap).1 text r)
  where
    by_whole : (whole : Bool) → b ≡ 10 → (if whole then Some (value, text) else None) ≡ Some r
        → ((before : List ℕ) × (b ∷ text ≡ before ++ 10 ∷ r.1)) ⊎ (r.1 ≡ [])
    by_whole true feed same =
        let parts : (value, text) ≡ r = cc in
        inl ([], ap (λ first. first ∷ text) feed ∙ ap (λ p. 10 ∷ p.1) parts)
    by_whole false feed same = absurd cc

    longer : (((before : List ℕ) × (text ≡ before ++ 10 ∷ r.1)) ⊎ (r.1 ≡ []))
        → ((before : List ℕ) × (b ∷ text ≡ before ++ 10 ∷ r.1)) ⊎ (r.1 ≡ [])
    longer (inl found) = inl (b ∷ found.0, ap (λ t. b ∷ t) found.1)
    longer (inr none) = inr none

    by_step : (step : Option (Mode × Effect))
        → option_and_then (λ step. read_on step.0 (affected step.1 b value gap).0 (affected step.1 b value gap).1 text) step ≡ Some r
        → ((step : Mode × Effect) → read_on step.0 (affected step.1 b value gap).0 (affected step.1 b value gap).1 text ≡ Some r
        → ((before : List ℕ) × (text ≡ before ++ 10 ∷ r.1)) ⊎ (r.1 ≡ []))
        → ((before : List ℕ) × (b ∷ text ≡ before ++ 10 ∷ r.1)) ⊎ (r.1 ≡ [])
    by_step None same later = absurd cc
    by_step (Some step) same later = longer (later step same)

    by_end : (ends : Bool) → (b == 10 && ends_value mode) ≡ ends
        → (if ends then ended mode value (b ∷ text) else
        option_and_then (λ step. read_on step.0 (affected step.1 b value gap).0 (affected step.1 b value gap).1 text) (stepped mode b)) ≡ Some r
        → ((step : Mode × Effect) → read_on step.0 (affected step.1 b value gap).0 (affected step.1 b value gap).1 text ≡ Some r
        → ((before : List ℕ) × (text ≡ before ++ 10 ∷ r.1)) ⊎ (r.1 ≡ []))
        → ((before : List ℕ) × (b ∷ text ≡ before ++ 10 ∷ r.1)) ⊎ (r.1 ≡ [])
    by_end true ends same later = by_whole (may_end mode (b ∷ text)) (eqb-true b 10 (and_parts (b == 10) (ends_value mode) ends).0) same
    by_end false ends same later = by_step (stepped mode b) same later

-- an escape is read as the byte that it stands for
escape_read : (e c : ℕ) (value rest : List ℕ) → (e == 10 && false) ≡ false → stepped QuotesEscape e ≡ Some (Quotes, Add c)
    → read_on Quotes value [] (92 ∷ e ∷ rest) ≡ read_on Quotes (value ++ c ∷ []) [] rest
escape_read e c value rest goes is =
    step_read Quotes value [] 92 (e ∷ rest) (QuotesEscape, Skip) refl refl
    ∙ step_read QuotesEscape value [] e rest (Quotes, Add c) goes is
    ∙ ap (λ v. read_on Quotes (v ++ c ∷ []) [] rest) (append-nil value)

-- the bytes that are written as escapes
record AreEscaped : Type 0 where
  quote : quoted_byte 34 ≡ 92 ∷ 34 ∷ []
  backslash : quoted_byte 92 ≡ 92 ∷ 92 ∷ []
  feed : quoted_byte 10 ≡ 92 ∷ 110 ∷ []
  tab : quoted_byte 9 ≡ 92 ∷ 116 ∷ []

escaped : AreEscaped
unfolding quoted_byte
escaped = record { quote = refl; backslash = refl; feed = refl; tab = refl }

pub other_written : (b : ℕ) → (b == 34) ≡ false → (b == 92) ≡ false → (b == 10) ≡ false → (b == 9) ≡ false → quoted_byte b ≡ b ∷ []
unfolding quoted_byte
other_written b quote backslash feed tab = rw (quote, backslash, feed, tab) refl

-- a byte between quotes is read again
byte_read : (b : ℕ) (value rest : List ℕ)
    → read_on Quotes value [] (quoted_byte b ++ rest) ≡ read_on Quotes (value ++ b ∷ []) [] rest
byte_read b value rest = by_kind (b == 34) (b == 92) (b == 10) (b == 9) refl refl refl refl
  where
    by_kind : (quote backslash feed tab : Bool) → (b == 34) ≡ quote → (b == 92) ≡ backslash → (b == 10) ≡ feed → (b == 9) ≡ tab
        → read_on Quotes value [] (quoted_byte b ++ rest) ≡ read_on Quotes (value ++ b ∷ []) [] rest
    by_kind true backslash feed tab q k f t = rw (eqb-true b 34 q, escaped.quote) (escape_read 34 34 value rest refl refl)
    by_kind false true feed tab q k f t = rw (eqb-true b 92 k, escaped.backslash) (escape_read 92 92 value rest refl refl)
    by_kind false false true tab q k f t = rw (eqb-true b 10 f, escaped.feed) (escape_read 110 10 value rest refl refl)
    by_kind false false false true q k f t = rw (eqb-true b 9 t, escaped.tab) (escape_read 116 9 value rest refl refl)
    by_kind false false false false q k f t =
        rw (other_written b q k f t)
        (step_read Quotes value [] b rest (Quotes, Add b) (rw f refl) (rw (q, k) refl)
        ∙ ap (λ v. read_on Quotes (v ++ b ∷ []) [] rest) (append-nil value))

bytes_read : (bytes value rest : List ℕ)
    → read_on Quotes value [] (flat_map quoted_byte bytes ++ 34 ∷ 10 ∷ rest) ≡ Some (value ++ bytes, rest)
unfolding read_on
bytes_read [] value rest = ap (λ v. Some (v, rest)) (sym (append-nil value))
bytes_read (b ∷ bytes) value rest =
    ap (read_on Quotes value []) (append_assoc (quoted_byte b) (flat_map quoted_byte bytes) (34 ∷ 10 ∷ rest))
    ∙ byte_read b value (flat_map quoted_byte bytes ++ 34 ∷ 10 ∷ rest)
    ∙ bytes_read bytes (value ++ b ∷ []) rest
    ∙ ap (λ v. Some (v, rest)) (append_assoc value (b ∷ []) bytes)

-- outside of quotes, behind a blank and within a word
abbrev plain_mode : Bool → Mode
plain_mode true = Gap
plain_mode false = Word

plain_ends : (m : Bool) → ends_value (plain_mode m) ≡ true
plain_ends true = refl
plain_ends false = refl

plain_ended : (m : Bool) (value rest : List ℕ) → ended (plain_mode m) value (10 ∷ rest) ≡ Some (value, rest)
plain_ended true value rest = refl
plain_ended false value rest = refl

plain_step : (m : Bool) (b : ℕ) → is_mark b ≡ false → stepped (plain_mode m) b ≡ Some (step_in_plain b)
plain_step true b other = rw other refl
plain_step false b other = rw other refl

not_mark : (b : ℕ) → is_special b ≡ false → is_mark b ≡ false
not_mark b plain = grind (arith, nat_tests)

pub not_feed : (b : ℕ) → is_special b ≡ false → (b == 10) ≡ false
not_feed b plain = grind (arith, nat_tests)

in_word : (b : ℕ) → is_special b ≡ false → (b == 32) ≡ false → step_in_plain b ≡ (Word, Add b)
in_word b plain space = grind (arith, nat_tests)

pub or_false : (x y : Bool) → (x || y) ≡ false → (x ≡ false) × (y ≡ false)
or_false false false neither = (refl, refl)
or_false false true neither = absurd (true≢false neither)
or_false true y neither = absurd (true≢false neither)

ends_behind : (b : ℕ) (bytes : List ℕ) → ends_blank (b ∷ bytes) ≡ false → ends_blank bytes ≡ false
ends_behind b [] ends = refl
ends_behind b (c ∷ bytes) ends = ends

regroup : (a b c d : List ℕ) → (a ++ (b ++ c)) ++ d ≡ (a ++ b) ++ (c ++ d)
regroup a b c d = append_assoc a (b ++ c) d ∙ ap (λ t. a ++ t) (append_assoc b c d) ∙ sym (append_assoc a b (c ++ d))

-- the bytes of a value behind its first one
plain_read : (m : Bool) (bytes : List ℕ) (first : ℕ) (value gap rest : List ℕ) → list_any is_special bytes ≡ false
    → ends_blank bytes ≡ false → (bytes ≡ [] → gap ≡ [])
    → read_on (plain_mode m) (first ∷ value) gap (bytes ++ 10 ∷ rest) ≡ Some (((first ∷ value) ++ gap) ++ bytes, rest)
plain_read m [] first value gap rest plain ends closed =
    end_read (plain_mode m) (first ∷ value) gap rest (plain_ends m)
    ∙ plain_ended m (first ∷ value) rest
    ∙ ap (λ v. Some (v, rest)) (sym (append-nil ((first ∷ value) ++ gap) ∙ ap (λ g. (first ∷ value) ++ g) (closed refl) ∙ append-nil (first ∷ value)))
plain_read m (b ∷ bytes) first value gap rest plain ends closed =
    by_space (b == 32) refl (λ m' v g. plain_read m' bytes first v g rest parts.1 (ends_behind b bytes ends))
  where
    parts : (is_special b ≡ false) × (list_any is_special bytes ≡ false)
    parts = or_false (is_special b) (list_any is_special bytes) plain

    by_space : (space : Bool) → (b == 32) ≡ space
        → ((m' : Bool) (v g : List ℕ) → (bytes ≡ [] → g ≡ [])
        → read_on (plain_mode m') (first ∷ v) g (bytes ++ 10 ∷ rest) ≡ Some (((first ∷ v) ++ g) ++ bytes, rest))
        → read_on (plain_mode m) (first ∷ value) gap (b ∷ (bytes ++ 10 ∷ rest)) ≡ Some (((first ∷ value) ++ gap) ++ b ∷ bytes, rest)
    by_space true is others =
        rw (eqb-true b 32 is)
        (step_read (plain_mode m) (first ∷ value) gap 32 (bytes ++ 10 ∷ rest) (Gap, Blank) refl (plain_step m 32 refl)
        ∙ others true value (gap ++ 32 ∷ []) (last_is_no_space is)
        ∙ ap (λ v. Some (v, rest)) (regroup (first ∷ value) gap (32 ∷ []) bytes))
      where
        last_is_no_space : (b == 32) ≡ true → bytes ≡ [] → gap ++ 32 ∷ [] ≡ []
        last_is_no_space is none = absurd (true≢false (sym is ∙ subst (λ others. ends_blank (b ∷ others) ≡ false) none ends))
    by_space false is others =
        step_read (plain_mode m) (first ∷ value) gap b (bytes ++ 10 ∷ rest) (Word, Add b) (rw (not_feed b parts.0) refl)
        (plain_step m b (not_mark b parts.0) ∙ ap Some (in_word b parts.0 is))
        ∙ others false ((value ++ gap) ++ b ∷ []) [] (λ none. refl)
        ∙ ap (λ v. Some (v, rest))
        (ap (λ t. t ++ bytes) (append-nil (first ∷ ((value ++ gap) ++ b ∷ []))) ∙ append_assoc ((first ∷ value) ++ gap) (b ∷ []) bytes)

-- what is written is read again
written_read : (value rest : List ℕ) → value_read (written value ++ 10 ∷ rest) ≡ Some (value, rest)
written_read value rest = by_form (is_plain value) refl
  where
    quoted : List ℕ
    quoted = flat_map quoted_byte value

    plainly : (bytes : List ℕ) → is_plain bytes ≡ true → value_read (bytes ++ 10 ∷ rest) ≡ Some (bytes, rest)
    plainly [] is = end_read Gap [] [] rest refl
    plainly (b ∷ bytes) is =
        let all = and_parts (not (b == 32) && not (ends_blank (b ∷ bytes))) (not (list_any is_special (b ∷ bytes))) is in
        let blanks = and_parts (not (b == 32)) (not (ends_blank (b ∷ bytes))) all.0 in
        let begins : (b == 32) ≡ false = not-true (b == 32) blanks.0 in
        let ends : ends_blank (b ∷ bytes) ≡ false = not-true (ends_blank (b ∷ bytes)) blanks.1 in
        let plain : list_any is_special (b ∷ bytes) ≡ false = not-true (list_any is_special (b ∷ bytes)) all.1 in
        let parts = or_false (is_special b) (list_any is_special bytes) plain in
        step_read Gap [] [] b (bytes ++ 10 ∷ rest) (Word, Add b) (rw (not_feed b parts.0) refl)
        (plain_step true b (not_mark b parts.0) ∙ ap Some (in_word b parts.0 begins))
        ∙ plain_read false bytes b [] [] rest parts.1 (ends_behind b bytes ends) (λ none. refl)

    by_form : (plain : Bool) → is_plain value ≡ plain → value_read (written value ++ 10 ∷ rest) ≡ Some (value, rest)
    by_form true is = rw is (plainly value is)
    by_form false is =
        rw is
        (step_read Gap [] [] 34 ((quoted ++ 34 ∷ []) ++ 10 ∷ rest) (Quotes, Keep) refl refl
        ∙ ap (read_on Quotes [] []) (append_assoc quoted (34 ∷ []) (10 ∷ rest))
        ∙ bytes_read value [] rest)

-- and so it is behind a blank
pub written_behind_blank : (value rest : List ℕ) → value_read (32 ∷ (written value ++ 10 ∷ rest)) ≡ Some (value, rest)
written_behind_blank value rest =
    step_read Gap [] [] 32 (written value ++ 10 ∷ rest) (Gap, Blank) refl refl ∙ written_read value rest

-- a character between quotes
pub character_written : (c : ℕ) → c < 128 → flat_map quoted_byte (encode_utf8 c) ≡ quoted_byte c
character_written c small = rw (encode_ascii c small) (append-nil (quoted_byte c))

bytes_written : (bytes : List ℕ) → ((i : ℕ) → i < length bytes → 128 ≤ get_or bytes i 0) → flat_map quoted_byte bytes ≡ bytes
bytes_written [] high = refl
bytes_written (b ∷ bytes) high =
    let above : 128 ≤ b = high 0 (omega arith) in
    rw (other_written b (ne_eqb b 34 (λ is. omega arith)) (ne_eqb b 92 (λ is. omega arith)) (ne_eqb b 10 (λ is. omega arith)) (ne_eqb b 9 (λ is. omega arith)))
    (ap (λ others. b ∷ others) (bytes_written bytes (λ i below. high (suc i) (omega arith))))

pub other_character_written : (c : ℕ) → c ≢ 34 → c ≢ 92 → c ≢ 10 → c ≢ 9 → flat_map quoted_byte (encode_utf8 c) ≡ encode_utf8 c
other_character_written c quote backslash feed tab = elim (cases_lt c 128) [
  | inl small ↦
      character_written c small
      ∙ other_written c (ne_eqb c 34 quote) (ne_eqb c 92 backslash) (ne_eqb c 10 feed) (ne_eqb c 9 tab)
      ∙ sym (encode_ascii c small)
  | inr large ↦ bytes_written (encode_utf8 c) (λ i below. elim (cases_lt (get_or (encode_utf8 c) i 0) 128) [
    | inl low ↦ absurd (omega (arith, inside_one c [] (encode_utf8 c) i (sym (append-nil (encode_utf8 c))) below low))
    | inr high ↦ high
  ])
]

pub quote_character : flat_map quoted_byte (encode_utf8 34) ≡ 92 ∷ 34 ∷ []
quote_character = character_written 34 (omega arith) ∙ escaped.quote

pub backslash_character : flat_map quoted_byte (encode_utf8 92) ≡ 92 ∷ 92 ∷ []
backslash_character = character_written 92 (omega arith) ∙ escaped.backslash

pub feed_character : flat_map quoted_byte (encode_utf8 10) ≡ 92 ∷ 110 ∷ []
feed_character = character_written 10 (omega arith) ∙ escaped.feed

pub tab_character : flat_map quoted_byte (encode_utf8 9) ≡ 92 ∷ 116 ∷ []
tab_character = character_written 9 (omega arith) ∙ escaped.tab

-- the ends of a value, by their places
pub first_byte : (bytes : List ℕ) → begins_blank bytes ≡ (slice_index bytes 0 == 32)
first_byte [] = refl
first_byte (b ∷ bytes) = refl

last_at : (b : ℕ) (bytes : List ℕ) → ends_blank (b ∷ bytes) ≡ (slice_index (b ∷ bytes) (length bytes) == 32)
last_at b [] = refl
last_at b (c ∷ bytes) = last_at c bytes

pub last_byte : (bytes : List ℕ) → ends_blank bytes ≡ (slice_index bytes (length bytes - 1) == 32)
last_byte [] = refl
last_byte (b ∷ bytes) = last_at b bytes ∙ ap (λ i. slice_index (b ∷ bytes) i == 32) (omega arith)
