-- The sections that lines open.
use Rattle.std.proofs.Common.{◌≡◌, ◌≢◌, ◌⊎◌, ℕ, ◌<◌, ◌==◌, ◌&&◌, ◌||◌, Bool, true, false, not, inl, inr, List, [], ◌∷◌, ◌++◌, None, Some}
use Rattle.std.proofs.Common.{refl, sym, ap, ◌∙◌, arith, length, drop}
use Rattle.std.proofs.lemmas.Bool.{eqb-true, true≢false}
use Rattle.std.proofs.lemmas.Str.{encode_ascii}
use Rattle.std.specs.Prelude.{if◌then◌else◌}
use Rattle.std.specs.List.{after_first, before_first, list_any, position_or_len}
use Rattle.std.specs.Str.{trim}
use Rattle.std.specs.Str.Pattern.{FindsCharPrefix, StripsPrefix}
use Rattle.config_reader.specs.declared.section.Section.{Section}
use Rattle.config_reader.specs.Lines.{begins_nothing, says_nothing}
use Rattle.config_reader.specs.Sections.{ends_in_blank, is_closed, is_front, is_outside_sub, is_outside_unquoted, is_outside_word, is_space}
use Rattle.config_reader.specs.Sections.{is_sub, is_word, needs_quotes, of_dotted, of_parts, of_unquoted}
use Rattle.config_reader.specs.Values.{is_blank}
use Rattle.config_reader.specs.Sections.{opened, opened_in_quotes, opened_without_quotes, spelled}
use Rattle.ordered_multimap.specs.Pairs.{has_items}
use Rattle.config_reader.proofs.Cuts.{no_byte, some_byte}
use Rattle.config_reader.proofs.Values.{or_false}

pub nothing_begins : (word : List ℕ) → length word ≡ 0 → begins_nothing word ≡ true
nothing_begins [] none = refl
nothing_begins (b ∷ word) none = absurd (omega (arith, none))

-- what stands behind the byte with which a text begins
pub stripped : (b : ℕ) (text rest : List ℕ) → b < 128 → StripsPrefix (FindsCharPrefix b) text rest → text ≡ b ∷ rest
stripped b text rest small is =
    is.1.split ∙ ap (λ first. first ++ drop is.0 text) (encode_ascii b small) ∙ ap (λ behind. b ∷ behind) (sym is.2)

module _ (section : Section) where
  pub spelled_parts : (word sub : List ℕ) → section.word.0.now ≡ word → section.sub.now ≡ sub
      → is_word word ≡ true → is_sub sub ≡ true → of_parts word sub ≡ Some (spelled section)
  spelled_parts word sub word_is sub_is allowed sub_allowed = rw (allowed, sub_allowed, word_is, sub_is) refl

  -- the section `word.sub`, and the section `word`
  pub dotted_at : (text : List ℕ) → position_or_len (λ b. b == 46) text < length text
      → section.word.0.now ≡ trim (before_first (λ b. b == 46) text) → section.sub.now ≡ after_first (λ b. b == 46) text
      → is_word section.word.0.now ≡ true → is_sub section.sub.now ≡ true
      → of_dotted text ≡ Some (spelled section)
  dotted_at text less word_is sub_is allowed sub_allowed =
      rw (some_byte 46 text less)
      (spelled_parts (trim (before_first (λ b. b == 46) text)) (after_first (λ b. b == 46) text) word_is sub_is
      (ap is_word (sym word_is) ∙ allowed) (ap is_sub (sym sub_is) ∙ sub_allowed))

  pub undotted : (text : List ℕ) → position_or_len (λ b. b == 46) text ≡ length text
      → section.word.0.now ≡ trim text → section.sub.now ≡ [] → is_word section.word.0.now ≡ true
      → of_dotted text ≡ Some (spelled section)
  undotted text none word_is sub_is allowed =
      rw (no_byte 46 text none, ap is_word (sym word_is) ∙ allowed, word_is, sub_is) refl

-- the section that a line opens
pub opened_with : (inside word quoted : List ℕ) → position_or_len (λ b. b == 34) inside < length inside
    → word ≡ before_first (λ b. b == 34) inside → quoted ≡ after_first (λ b. b == 34) inside
    → list_any (λ b. b == 93) word ≡ false → opened inside ≡ opened_in_quotes word quoted
opened_with inside word quoted less word_is quoted_is none = rw (some_byte 34 inside less, sym word_is, none, sym quoted_is) refl

pub some_bracket : (inside word : List ℕ) → word ≡ before_first (λ b. b == 34) inside → list_any (λ b. b == 93) word ≡ true
    → list_any (λ b. b == 93) (before_first (λ b. b == 34) inside) ≡ true
some_bracket inside word word_is some = ap (list_any (λ b. b == 93)) (sym word_is) ∙ some

pub opened_without : (inside : List ℕ)
    → (list_any (λ b. b == 34) inside ≡ false) ⊎ (list_any (λ b. b == 93) (before_first (λ b. b == 34) inside) ≡ true)
    → opened inside ≡ opened_without_quotes inside
opened_without inside (inl none) = rw none refl
opened_without inside (inr some) = by (list_any (λ b. b == 34) inside)
  where
    by : (quote : Bool) → (if quote && not (list_any (λ b. b == 93) (before_first (λ b. b == 34) inside))
        then opened_in_quotes (before_first (λ b. b == 34) inside) (after_first (λ b. b == 34) inside)
        else opened_without_quotes inside) ≡ opened_without_quotes inside
    by true = rw some refl
    by false = refl

-- a line that no bracket closes, up to a comment
pub not_closed : (text : List ℕ) → ((rest : List ℕ) → text ≢ 93 ∷ rest)
    ⊎ ((rest : List ℕ) × (text ≡ 93 ∷ rest) × (says_nothing rest ≡ false))
    → is_closed text ≡ false
not_closed text (inr found) = ap is_closed found.1 ∙ rw found.2 refl
not_closed [] (inl other) = refl
not_closed (b ∷ rest) (inl other) = by (b == 93) refl
  where
    by : (bracket : Bool) → (b == 93) ≡ bracket → (bracket && says_nothing rest) ≡ false
    by true is = absurd (other rest (ap (λ c. c ∷ rest) (eqb-true b 93 is)))
    by false is = refl

-- it opens no section
pub quotes_refused : (word quoted : List ℕ) → is_closed (after_first (λ b. b == 34) quoted) ≡ false → opened_in_quotes word quoted ≡ None
quotes_refused word quoted none = rw none refl

-- the byte at the end
pub last_blank : (text : List ℕ) (b : ℕ) → ends_in_blank (text ++ b ∷ []) ≡ is_blank b
last_blank [] b = refl
last_blank (c ∷ []) b = refl
last_blank (c ∷ d ∷ text) b = last_blank (d ∷ text) b

pub word_refused : (inside : List ℕ)
    → (list_any (λ b. b == 93) inside ≡ false) ⊎ (says_nothing (after_first (λ b. b == 93) inside) ≡ false)
    → opened_without_quotes inside ≡ None
word_refused inside (inl none) = rw none refl
word_refused inside (inr words) = by (list_any (λ b. b == 93) inside)
  where
    by : (bracket : Bool) → (if bracket && says_nothing (after_first (λ b. b == 93) inside)
        then of_unquoted (before_first (λ b. b == 93) inside) else None) ≡ None
    by true = rw words refl
    by false = refl

-- the parts of a test that none passes
module _ (b : ℕ) where
  pub sub_parts : is_outside_sub b ≡ false → ((b == 34) ≡ false) × ((b == 92) ≡ false) × ((b == 10) ≡ false)
  sub_parts none =
      let first = or_false (b == 34 || b == 92) (b == 10) none in
      let second = or_false (b == 34) (b == 92) first.0 in
      (second.0, second.1, first.1)

  pub word_parts : is_outside_word b ≡ false → (is_outside_sub b ≡ false) × ((b == 93) ≡ false)
  word_parts none =
      let both = or_false (is_outside_sub b) (needs_quotes b) none in
      (both.0, (or_false (b == 46 || b == 91) (b == 93) (or_false (b == 46 || b == 91 || b == 93) (is_space b) both.1).0).1)

  pub space_parts : is_outside_word b ≡ false → is_space b ≡ false
  space_parts none =
      let both = or_false (is_outside_sub b) (needs_quotes b) none in
      (or_false (b == 46 || b == 91 || b == 93) (is_space b) both.1).1

  pub unquoted_parts : is_outside_word b ≡ false → is_outside_unquoted b ≡ false
  unquoted_parts none =
      let both = or_false (is_outside_sub b) (needs_quotes b) none in
      let quoted = or_false (b == 46 || b == 91 || b == 93) (is_space b) both.1 in
      let bracket = or_false (b == 46) (b == 91) (or_false (b == 46 || b == 91) (b == 93) quoted.0).0 in
      rw (quoted.1, bracket.1) refl

-- a word with a space behind it
pub word_front : (word : List ℕ) → has_items word ≡ true → list_any is_outside_word word ≡ false → is_front (word ++ 32 ∷ []) ≡ true
word_front [] some none = absurd (true≢false (sym some))
word_front (b ∷ word) some none =
    rw (space_parts b (or_false (is_outside_word b) (list_any is_outside_word word) none).0, last_blank (b ∷ word) 32) refl
