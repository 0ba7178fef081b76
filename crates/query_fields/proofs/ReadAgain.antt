-- What is written is read again, strictly too, and no `?` is cut from it.
use Rattle.std.proofs.Common.{◌≡◌, ℕ, ◌/◌, ◌%◌, ◌<◌, true, false, ◌==◌, List, [], ◌∷◌, ◌++◌, map, take, All, Some}
use Rattle.std.proofs.Common.{IsAscii, refl, ap, ◌∙◌, arith, append_assoc}
use Rattle.std.proofs.lemmas.Bool.Decides.{nat_tests}
use Rattle.std.proofs.lemmas.List.Elements.{All-cons, All-nil}
use Rattle.std.proofs.lemmas.Str.{IsUtf8-from_ascii, IsAscii-append}
use Rattle.std.proofs.lemmas.Str.Ascii.{IsAscii-cons, IsAscii-nil}
use Rattle.std.specs.Fmt.{digit_glyph}
use Rattle.std.specs.List.{after_first, before_first}
use Rattle.std.specs.Str.{bytes_eq}
use Rattle.query_fields.specs.Escape.{is_plain, written_byte, written}
use Rattle.query_fields.specs.Queries.{AreBytes, AreTexts, IsText, all_read_strictly, field_read_strictly, pair_before, pair_of}
use Rattle.query_fields.specs.Queries.{query_read_by}
use Rattle.query_fields.specs.Queries.{text_read_strictly, without_question, written_field, written_fields, written_query}
use Rattle.query_fields.specs.Urls.{query_in}
use Rattle.query_fields.specs.declared.fields.Reading.{Reading}
use Rattle.query_fields.specs.declared.fields.Reading.TheVariants.{Lenient, Strict}
use Rattle.query_fields.proofs.NoUrl.{query_alone}
use Rattle.query_fields.proofs.ReadBy.{strictly_text}
use Rattle.query_fields.proofs.Reading.{form_holds, kept_is_ascii, written_read}
use Rattle.query_fields.proofs.WrittenAgain.{after_at, before_at, fields_again, query_again, written_lacks}

-- each byte that is written is ASCII
glyph_ascii : (d : ℕ) → d < 16 → digit_glyph true d < 128
glyph_ascii d h = grind (arith, nat_tests)

written_byte_ascii : (b : ℕ) → b < 256 → IsAscii (written_byte b)
written_byte_ascii b h =
    let high = glyph_ascii (b / 16) (omega arith) in
    let low = glyph_ascii (b % 16) (omega arith) in
    form_holds (λ c form. IsAscii form) b
    (λ plain. IsAscii-cons b [] (kept_is_ascii b plain) IsAscii-nil)
    (IsAscii-cons 43 [] (omega arith) IsAscii-nil)
    (IsAscii-cons 37 (digit_glyph true (b / 16) ∷ digit_glyph true (b % 16) ∷ []) (omega arith)
    (IsAscii-cons (digit_glyph true (b / 16)) (digit_glyph true (b % 16) ∷ []) high
    (IsAscii-cons (digit_glyph true (b % 16)) [] low IsAscii-nil)))

written_ascii : (text : List ℕ) → AreBytes text → IsAscii (written text)
written_ascii [] bytes = IsAscii-nil
written_ascii (b ∷ text) bytes =
    IsAscii-append (written_byte b) (written text) (written_byte_ascii b bytes.0) (written_ascii text bytes.1)

all_bytes : (text : List ℕ) → AreBytes text → All (λ b. b < 256) text
all_bytes [] bytes = All-nil (λ b. b < 256)
all_bytes (b ∷ text) bytes = All-cons (λ b. b < 256) b text bytes.0 (all_bytes text bytes.1)

-- so a text is read again strictly
text_strictly_again : (text : List ℕ) → IsText text → text_read_strictly (written text) ≡ Some text
text_strictly_again text is =
    strictly_text (written text) text (IsUtf8-from_ascii (written text) (written_ascii text is.1))
    (written_read text (all_bytes text is.1)) is.0

-- and a field
field_strictly_again : (name value : List ℕ) → IsText name → IsText value
    → field_read_strictly (written_field (name, value)) ≡ Some (name, value)
field_strictly_again name value is_name is_value =
    let lacks = (written_lacks name is_name.1).1 in
    let before : text_read_strictly (before_first (λ b. b == 61) (written_field (name, value))) ≡ Some name =
    ap text_read_strictly (before_at (written name) (written value) lacks) ∙ text_strictly_again name is_name in
    let after : text_read_strictly (after_first (λ b. b == 61) (written_field (name, value))) ≡ Some value =
    ap text_read_strictly (after_at (written name) (written value) lacks) ∙ text_strictly_again value is_value in
    λ i. pair_of (before i) (after i)

-- and all fields
all_strictly_again : (pairs : List (List ℕ × List ℕ)) → AreTexts pairs → all_read_strictly (map written_field pairs) ≡ Some pairs
all_strictly_again [] texts = refl
all_strictly_again (p ∷ pairs) texts = λ i.
    pair_before (field_strictly_again p.0 p.1 texts.0.0 texts.0.1 i) (all_strictly_again pairs texts.1 i)

-- no `?` is written
plain_is_no_question : (b : ℕ) → is_plain b ≡ true → (b == 63) ≡ false
plain_is_no_question b plain = grind (arith, nat_tests)

byte_no_question : (b : ℕ) (rest : List ℕ) → bytes_eq (take 1 (written_byte b ++ rest)) (63 ∷ []) ≡ false
byte_no_question b rest =
    form_holds (λ c form. bytes_eq (take 1 (form ++ rest)) (63 ∷ []) ≡ false) b
    (λ plain. rw (plain_is_no_question b plain)) refl refl

name_no_question : (name rest : List ℕ) → bytes_eq (take 1 (written name ++ (61 ∷ rest))) (63 ∷ []) ≡ false
name_no_question [] rest = refl
name_no_question (b ∷ name) rest =
    rw (append_assoc (written_byte b) (written name) (61 ∷ rest)) (byte_no_question b (written name ++ (61 ∷ rest)))

-- so none is cut
query_kept : (pairs : List (List ℕ × List ℕ)) → without_question (written_query pairs) ≡ written_query pairs
query_kept [] = refl
query_kept (p ∷ pairs) =
    let none : bytes_eq (take 1 (written_query (p ∷ pairs))) (63 ∷ []) ≡ false =
    rw (append_assoc (written p.0) (61 ∷ written p.1) (written_fields false pairs))
    (name_no_question p.0 (written p.1 ++ written_fields false pairs)) in
    rw none

-- the query that is written is read as the same pairs
pub written_read_by : (reading : Reading) (pairs : List (List ℕ × List ℕ)) → AreTexts pairs
    → query_read_by reading (written_query pairs) ≡ Some pairs
written_read_by Lenient pairs texts = ap Some (query_again pairs texts)
written_read_by Strict pairs texts = ap all_read_strictly (fields_again pairs texts) ∙ all_strictly_again pairs texts

pub query_read_again : (reading : Reading) (pairs : List (List ℕ × List ℕ)) → AreTexts pairs
    → query_read_by reading (query_in (written_query pairs)) ≡ Some pairs
query_read_again reading pairs texts =
    ap (query_read_by reading) (query_alone pairs texts ∙ query_kept pairs) ∙ written_read_by reading pairs texts
