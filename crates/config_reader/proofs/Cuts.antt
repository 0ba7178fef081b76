-- A text around its first such byte.
use Rattle.std.proofs.Common.{◌≡◌, ◌⊎◌, ℕ, suc, ◌+◌, ◌-◌, ◌<◌, ◌==◌, Bool, true, false, ◌||◌, not, cond, List, [], ◌∷◌, ◌++◌}
use Rattle.std.proofs.Common.{append_assoc, append-nil, refl, sym, ap, ◌∙◌, arith, length, drop, take, Some, None, inl, inr}
use Rattle.std.proofs.lemmas.Bool.{true≢false}
use Rattle.std.proofs.lemmas.List.{drop_all, take_all}
use Rattle.std.proofs.lemmas.Str.{encode_ascii}
use Rattle.std.specs.List.{after_first, before_first, list_any, position_or_len}
use Rattle.std.specs.Prelude.{MatchBool}
use Rattle.std.specs.Str.Pattern.{FindsChar, HasMatch}
use Rattle.std.specs.Str.{trim}
use Rattle.config_reader.specs.declared.value.Mode.TheVariants.{Gap}
use Rattle.config_reader.specs.Lines.{behind_line, first_line}
use Rattle.config_reader.specs.Names.{is_key}
use Rattle.config_reader.specs.Said.{setting_at}
use Rattle.config_reader.specs.Values.{value_read}
use Rattle.config_reader.proofs.Called.{has_it, lacks}
use Rattle.config_reader.proofs.Values.{read_behind}
use Rattle.config_reader.proofs.WholeLines.{cut_at, rest_of}

module _ (b : ℕ) where
  abbrev is_it : ℕ → Bool
  is_it c = c == b

  -- the byte is there
  pub some_byte : (text : List ℕ) → position_or_len is_it text < length text → list_any is_it text ≡ true
  some_byte [] less = absurd (omega (arith, less))
  some_byte (c ∷ text) less = by (c == b) less (some_byte text)
    where
      by : (is : Bool) → cond (not is) (1 + position_or_len is_it text) 0 < suc (length text)
          → (position_or_len is_it text < length text → list_any is_it text ≡ true)
          → (is || list_any is_it text) ≡ true
      by true less later = refl
      by false less later = later (omega (arith, less))

  -- the byte isn't there
  pub no_byte : (text : List ℕ) → position_or_len is_it text ≡ length text → list_any is_it text ≡ false
  no_byte [] same = refl
  no_byte (c ∷ text) same = by (c == b) same (no_byte text)
    where
      by : (is : Bool) → cond (not is) (1 + position_or_len is_it text) 0 ≡ suc (length text)
          → (position_or_len is_it text ≡ length text → list_any is_it text ≡ false)
          → (is || list_any is_it text) ≡ false
      by true same later = absurd (omega (arith, same))
      by false same later = later (omega (arith, same))

  pub no_place : (text : List ℕ) → list_any is_it text ≡ false → position_or_len is_it text ≡ length text
  no_place [] none = refl
  no_place (c ∷ text) none = by (c == b) none (no_place text)
    where
      by : (is : Bool) → (is || list_any is_it text) ≡ false
          → (list_any is_it text ≡ false → position_or_len is_it text ≡ length text)
          → cond (not is) (1 + position_or_len is_it text) 0 ≡ suc (length text)
      by true some later = absurd (true≢false some)
      by false none later = omega (arith, later none)

  pub all_before : (text : List ℕ) → position_or_len is_it text ≡ length text → before_first is_it text ≡ text
  all_before text same = take_all (position_or_len is_it text) text (omega (arith, same))

  pub none_after : (text : List ℕ) → position_or_len is_it text ≡ length text → after_first is_it text ≡ []
  none_after text same = drop_all (position_or_len is_it text + 1) text (omega (arith, same))

  -- what a search for it found
  pub found_byte : (text : List ℕ) (found : Bool) → b < 128
      → MatchBool found (HasMatch (FindsChar b) text) (FindsChar b text None)
      → found ≡ list_any is_it text
  found_byte text true small is =
      let at = is.2.1.split ∙ ap (λ first. first ++ drop is.1 text) (encode_ascii b small) in
      sym (ap (list_any is_it) (cut_at text is.0 is.1 b at) ∙ has_it b (take is.0 text) (drop is.1 text))
  found_byte text false small is = sym (lacks b text small is)

-- what stands behind the last line of a value
pub rest_read : (text behind rest value : List ℕ) → value_read text ≡ Some (value, behind)
    → rest ≡ drop (length text - length behind) text → value_read text ≡ Some (value, rest)
rest_read text behind rest value read is =
    read ∙ ap (λ b. Some (value, b)) (sym (is ∙ by (read_behind Gap [] [] text (value, behind) read)))
  where
    by : ((before : List ℕ) × (text ≡ before ++ 10 ∷ behind)) ⊎ (behind ≡ []) → drop (length text - length behind) text ≡ behind
    by (inl found) = rest_of text (found.0 ++ 10 ∷ []) behind (found.1 ∙ sym (append_assoc found.0 (10 ∷ []) behind))
    by (inr none) = rest_of text text behind (sym (append-nil text) ∙ ap (λ b. text ++ b) (sym none))

-- a key alone, and a key with its value
pub alone_at : (text line key behind : List ℕ) → line ≡ first_line text
    → position_or_len (λ b. b == 61) line ≡ length line → key ≡ trim line → is_key key ≡ true
    → behind ≡ behind_line text → setting_at text ≡ Some (key, [], behind)
alone_at text line key behind line_is none key_is allowed behind_is =
    rw (sym line_is, no_byte 61 line none, ap is_key (sym key_is) ∙ allowed, sym key_is, sym behind_is) refl

pub alone_refused : (text line : List ℕ) → line ≡ first_line text → position_or_len (λ b. b == 61) line ≡ length line
    → is_key (trim line) ≡ false → setting_at text ≡ None
alone_refused text line line_is none bad = rw (sym line_is, no_byte 61 line none, bad) refl

pub with_value_at : (text line key value behind : List ℕ) → line ≡ first_line text
    → position_or_len (λ b. b == 61) line < length line → key ≡ trim (before_first (λ b. b == 61) line)
    → is_key key ≡ true → value_read (after_first (λ b. b == 61) text) ≡ Some (value, behind)
    → setting_at text ≡ Some (key, value, behind)
with_value_at text line key value behind line_is some key_is allowed read =
    rw (sym line_is, some_byte 61 line some, ap is_key (sym key_is) ∙ allowed, sym key_is, read) refl
