-- A query that is written is no whole URL, since no `:` is written.
use Rattle.std.proofs.Common.{◌≡◌, ℕ, zero, suc, ◌/◌, ◌%◌, ◌<◌, Bool, true, false, not, ◌==◌, nat_eq, List, [], ◌∷◌, drop}
use Rattle.std.proofs.Common.{refl, arith}
use Rattle.std.proofs.lemmas.Bool.{and_right}
use Rattle.std.proofs.lemmas.Bool.Decides.{nat_tests}
use Rattle.std.specs.Char.{is_ascii_alphabetic}
use Rattle.std.specs.Fmt.{digit_glyph}
use Rattle.std.specs.List.{position_or_len, starts_with}
use Rattle.query_fields.specs.Escape.{is_plain, written_byte, written}
use Rattle.query_fields.specs.Queries.{AreBytes, AreTexts, without_question, written_field, written_fields, written_query}
use Rattle.query_fields.specs.Urls.{behind_scheme, is_scheme_byte, is_url, query_in}
use Rattle.query_fields.proofs.Reading.{form_holds}
use Rattle.query_fields.proofs.WrittenAgain.{Lacks, Lacks-append}

-- a byte that stands in no query that is written
pub record IsUnwritten (m : ℕ) : Type 0 where
  glyph : (d : ℕ) → d < 16 → (digit_glyph true d == m) ≡ false
  plain : (b : ℕ) → is_plain b ≡ true → (b == m) ≡ false
  escape : (37 == m) ≡ false
  space : (43 == m) ≡ false
  equals : (61 == m) ≡ false
  between : (38 == m) ≡ false

colon_unwritten : IsUnwritten 58
colon_unwritten = record {
  glyph = λ d h. grind (arith, nat_tests);
  plain = λ b is. grind (arith, nat_tests);
  escape = refl;
  space = refl;
  equals = refl;
  between = refl;
}

pub mark_unwritten : IsUnwritten 35
mark_unwritten = record {
  glyph = λ d h. grind (arith, nat_tests);
  plain = λ b is. grind (arith, nat_tests);
  escape = refl;
  space = refl;
  equals = refl;
  between = refl;
}

module _ (m : ℕ) (unwritten : IsUnwritten m) where
  byte_lacks : (b : ℕ) → b < 256 → Lacks m (written_byte b)
  byte_lacks b h =
      let high = unwritten.glyph (b / 16) (omega arith) in
      let low = unwritten.glyph (b % 16) (omega arith) in
      form_holds (λ c form. Lacks m form) b (λ is. (unwritten.plain b is, tt)) (unwritten.space, tt)
      (unwritten.escape, (high, (low, tt)))

  text_lacks : (text : List ℕ) → AreBytes text → Lacks m (written text)
  text_lacks [] bytes = tt
  text_lacks (b ∷ text) bytes =
      Lacks-append m (written_byte b) (written text) (byte_lacks b bytes.0) (text_lacks text bytes.1)

  one_lacks : (p : List ℕ × List ℕ) → AreBytes p.0 → AreBytes p.1 → Lacks m (written_field p)
  one_lacks p is_name is_value =
      Lacks-append m (written p.0) (61 ∷ written p.1) (text_lacks p.0 is_name) (unwritten.equals, text_lacks p.1 is_value)

  pub query_lacks : (are_first : Bool) (pairs : List (List ℕ × List ℕ)) → AreTexts pairs → Lacks m (written_fields are_first pairs)
  query_lacks are_first [] texts = tt
  query_lacks true (p ∷ pairs) texts =
      Lacks-append m (written_field p) (written_fields false pairs) (one_lacks p texts.0.0.1 texts.0.1.1) (query_lacks false pairs texts.1)
  query_lacks false (p ∷ pairs) texts = (
    unwritten.between,
    Lacks-append m (written_field p) (written_fields false pairs)
        (one_lacks p texts.0.0.1 texts.0.1.1) (query_lacks false pairs texts.1),
  )

-- a text without `:` is no URL
drop_no_colon : (n : ℕ) (text : List ℕ) → Lacks 58 text → Lacks 58 (drop n text)
drop_no_colon zero text lacks = lacks
drop_no_colon (suc n) [] lacks = tt
drop_no_colon (suc n) (b ∷ text) lacks = drop_no_colon n text lacks.1

other_first : (b : ℕ) → (b == 58) ≡ false → nat_eq 58 b ≡ false
other_first b other = grind (arith, nat_tests)

no_authority : (text : List ℕ) → Lacks 58 text → starts_with nat_eq text (58 ∷ 47 ∷ 47 ∷ []) ≡ false
no_authority [] lacks = refl
no_authority (b ∷ text) lacks = rw (other_first b lacks.0)

no_url : (text : List ℕ) → Lacks 58 text → is_url text ≡ false
no_url [] lacks = refl
no_url (b ∷ text) lacks =
    and_right (is_ascii_alphabetic b) (starts_with nat_eq (behind_scheme (b ∷ text)) (58 ∷ 47 ∷ 47 ∷ []))
    (no_authority (behind_scheme (b ∷ text)) (drop_no_colon (position_or_len (λ c. not (is_scheme_byte c)) (b ∷ text)) (b ∷ text) lacks))

-- so it is read as a query alone
pub query_no_url : (pairs : List (List ℕ × List ℕ)) → AreTexts pairs → is_url (written_query pairs) ≡ false
query_no_url pairs texts = no_url (written_query pairs) (query_lacks 58 colon_unwritten true pairs texts)

pub query_alone : (pairs : List (List ℕ × List ℕ)) → AreTexts pairs
    → query_in (written_query pairs) ≡ without_question (written_query pairs)
query_alone pairs texts = rw (query_no_url pairs texts)
