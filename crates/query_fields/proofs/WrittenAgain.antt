-- What is written is read again.
use Rattle.std.proofs.Common.{◌≡◌, ℕ, suc, ◌+◌, ◌/◌, ◌%◌, ◌<◌, true, false, ◌==◌, List, [], ◌∷◌, ◌++◌}
use Rattle.std.proofs.Common.{refl, ap, ◌∙◌, arith, filter, map, append-nil}
use Rattle.std.proofs.lemmas.Bool.Decides.{nat_tests}
use Rattle.std.proofs.lemmas.Str.{utf8_lossy-IsUtf8}
use Rattle.std.specs.Fmt.{digit_glyph}
use Rattle.std.specs.List.{after_first, before_first, onto_first, position_or_len, slice_split}
use Rattle.std.specs.Prelude.{IsUtf8}
use Rattle.std.specs.Str.Lossy.{utf8_lossy}
use Rattle.ordered_multimap.specs.Pairs.{has_items}
use Rattle.query_fields.specs.Escape.{is_plain, escape_of, written_byte, written, read_any}
use Rattle.query_fields.specs.Queries.{AreBytes, AreTexts, field_read, fields_in, query_read, text_read, written_field, written_fields}
use Rattle.query_fields.specs.Queries.{written_query}
use Rattle.query_fields.proofs.Reading.{digits_hold, form_holds, kept}
use Rattle.query_fields.proofs.ReadingAny.{space_any, other_any, escape_any, nothing_any}

-- an escape is read as its byte
escape_of_any : (b : ℕ) (rest : List ℕ) → b < 256 → read_any (escape_of b ++ rest) ≡ b ∷ read_any rest
escape_of_any b rest h =
    digits_hold (λ high low v. read_any (37 ∷ high ∷ low ∷ rest) ≡ v ∷ read_any rest) b h (λ high low x y. escape_any high low rest x y)

-- a byte that is written is read again
written_byte_any : (b : ℕ) (rest : List ℕ) → b < 256 → read_any (written_byte b ++ rest) ≡ b ∷ read_any rest
written_byte_any b rest h =
    form_holds (λ c form. read_any (form ++ rest) ≡ c ∷ read_any rest) b
    (λ plain. other_any b rest (kept b plain).0 (kept b plain).1) (space_any rest) (escape_of_any b rest h)

-- and so is a text
written_any : (text : List ℕ) → AreBytes text → read_any (written text) ≡ text
written_any [] bytes = nothing_any [] refl
written_any (b ∷ text) bytes = written_byte_any b (written text) bytes.0 ∙ ap (λ bs. b ∷ bs) (written_any text bytes.1)

-- a byte that no list of these has
abbrev pub Lacks : ℕ → List ℕ → Type 0
Lacks m [] = Unit {0}
Lacks m (b ∷ bs) = ((b == m) ≡ false) × Lacks m bs

pub Lacks-append : (m : ℕ) (xs ys : List ℕ) → Lacks m xs → Lacks m ys → Lacks m (xs ++ ys)
Lacks-append m [] ys h k = k
Lacks-append m (x ∷ xs) ys h k = (h.0, Lacks-append m xs ys h.1 k)

-- no `&` and no `=` is written
glyph_lacks : (d : ℕ) → d < 16 → ((digit_glyph true d == 38) ≡ false) × ((digit_glyph true d == 61) ≡ false)
glyph_lacks d h = (grind (arith, nat_tests), grind (arith, nat_tests))

plain_lacks : (b : ℕ) → is_plain b ≡ true → ((b == 38) ≡ false) × ((b == 61) ≡ false)
plain_lacks b plain = (grind (arith, nat_tests), grind (arith, nat_tests))

written_byte_lacks : (b : ℕ) → b < 256 → Lacks 38 (written_byte b) × Lacks 61 (written_byte b)
written_byte_lacks b h =
    let high = glyph_lacks (b / 16) (omega arith) in
    let low = glyph_lacks (b % 16) (omega arith) in
    form_holds (λ c form. Lacks 38 form × Lacks 61 form) b
    (λ plain. let no = plain_lacks b plain in ((no.0, tt), (no.1, tt))) ((refl, tt), (refl, tt))
    ((refl, (high.0, (low.0, tt))), (refl, (high.1, (low.1, tt))))

pub written_lacks : (text : List ℕ) → AreBytes text → Lacks 38 (written text) × Lacks 61 (written text)
written_lacks [] bytes = (tt, tt)
written_lacks (b ∷ text) bytes =
    let first = written_byte_lacks b bytes.0 in let rest = written_lacks text bytes.1 in
    (Lacks-append 38 (written_byte b) (written text) first.0 rest.0, Lacks-append 61 (written_byte b) (written text) first.1 rest.1)

-- a list is cut at the first byte that it lacks before
split_at : (xs ys : List ℕ) → Lacks 38 xs → slice_split (λ b. b == 38) (xs ++ (38 ∷ ys)) ≡ xs ∷ slice_split (λ b. b == 38) ys
split_at [] ys lacks = refl
split_at (x ∷ xs) ys lacks = rw lacks.0 (ap (onto_first x) (split_at xs ys lacks.1))

split_last : (xs : List ℕ) → Lacks 38 xs → slice_split (λ b. b == 38) xs ≡ xs ∷ []
split_last [] lacks = refl
split_last (x ∷ xs) lacks = rw lacks.0 (ap (onto_first x) (split_last xs lacks.1))

pub before_at : (xs ys : List ℕ) → Lacks 61 xs → before_first (λ b. b == 61) (xs ++ (61 ∷ ys)) ≡ xs
before_at [] ys lacks = refl
before_at (x ∷ xs) ys lacks =
    let one : 1 + position_or_len (λ b. b == 61) (xs ++ (61 ∷ ys)) ≡ suc (position_or_len (λ b. b == 61) (xs ++ (61 ∷ ys))) = omega arith in
    rw lacks.0 (rw one (ap (λ bs. x ∷ bs) (before_at xs ys lacks.1)))

pub after_at : (xs ys : List ℕ) → Lacks 61 xs → after_first (λ b. b == 61) (xs ++ (61 ∷ ys)) ≡ ys
after_at [] ys lacks = refl
after_at (x ∷ xs) ys lacks =
    let one : (1 + position_or_len (λ b. b == 61) (xs ++ (61 ∷ ys))) + 1
    ≡ suc (position_or_len (λ b. b == 61) (xs ++ (61 ∷ ys)) + 1) = omega arith in
    rw lacks.0 (rw one (after_at xs ys lacks.1))

-- a field
module _ (name value : List ℕ) (name_bytes : AreBytes name) (value_bytes : AreBytes value) where
  field_lacks : Lacks 38 (written_field (name, value))
  field_lacks =
      Lacks-append 38 (written name) (61 ∷ written value) (written_lacks name name_bytes).0 (refl, (written_lacks value value_bytes).0)

  field_has_items : has_items (written_field (name, value)) ≡ true
  field_has_items = has_equals (written name)
    where
      has_equals : (bs : List ℕ) → has_items (bs ++ (61 ∷ written value)) ≡ true
      has_equals [] = refl
      has_equals (b ∷ bs) = refl

  field_again : IsUtf8 name → IsUtf8 value → field_read (written_field (name, value)) ≡ (name, value)
  field_again is_name is_value =
      let before : text_read (before_first (λ b. b == 61) (written_field (name, value))) ≡ name =
      ap text_read (before_at (written name) (written value) (written_lacks name name_bytes).1)
      ∙ ap utf8_lossy (written_any name name_bytes) ∙ utf8_lossy-IsUtf8 name is_name in
      let after : text_read (after_first (λ b. b == 61) (written_field (name, value))) ≡ value =
      ap text_read (after_at (written name) (written value) (written_lacks name name_bytes).1)
      ∙ ap utf8_lossy (written_any value value_bytes) ∙ utf8_lossy-IsUtf8 value is_value in
      λ i. (before i, after i)

-- the pieces between `&` are the fields
split_fields : (p : List ℕ × List ℕ) (pairs : List (List ℕ × List ℕ)) → AreTexts (p ∷ pairs)
    → slice_split (λ b. b == 38) (written_field p ++ written_fields false pairs) ≡ map written_field (p ∷ pairs)
split_fields p [] texts =
    ap (slice_split (λ b. b == 38)) (append-nil (written_field p))
    ∙ split_last (written_field p) (field_lacks p.0 p.1 texts.0.0.1 texts.0.1.1)
split_fields p (q ∷ pairs) texts =
    split_at (written_field p) (written_field q ++ written_fields false pairs) (field_lacks p.0 p.1 texts.0.0.1 texts.0.1.1)
    ∙ ap (λ fields. written_field p ∷ fields) (split_fields q pairs texts.1)

-- none of them is empty
kept_fields : (pairs : List (List ℕ × List ℕ)) → AreTexts pairs → filter has_items (map written_field pairs) ≡ map written_field pairs
kept_fields [] texts = refl
kept_fields (p ∷ pairs) texts =
    rw (field_has_items p.0 p.1 texts.0.0.1 texts.0.1.1) (ap (λ fields. written_field p ∷ fields) (kept_fields pairs texts.1))

-- and each is read again
read_fields : (pairs : List (List ℕ × List ℕ)) → AreTexts pairs → map field_read (map written_field pairs) ≡ pairs
read_fields [] texts = refl
read_fields (p ∷ pairs) texts = λ i.
    field_again p.0 p.1 texts.0.0.1 texts.0.1.1 texts.0.0.0 texts.0.1.0 i ∷ read_fields pairs texts.1 i

-- the fields of a query are those that were written
pub fields_again : (pairs : List (List ℕ × List ℕ)) → AreTexts pairs → fields_in (written_query pairs) ≡ map written_field pairs
fields_again [] texts = refl
fields_again (p ∷ pairs) texts = ap (filter has_items) (split_fields p pairs texts) ∙ kept_fields (p ∷ pairs) texts

-- and it is read as the pairs
pub query_again : (pairs : List (List ℕ × List ℕ)) → AreTexts pairs → query_read (written_query pairs) ≡ pairs
query_again pairs texts = ap (map field_read) (fields_again pairs texts) ∙ read_fields pairs texts
