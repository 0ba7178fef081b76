-- The query of fields, and the fields of a query.
use Rattle.std.specs.Cow.{cow_str_bytes}
use Rattle.std.specs.List.{after_first, before_first, flat_map, slice_split}
use Rattle.std.specs.Option.{option_and_then}
use Rattle.std.specs.Str.{bytes_eq, is_utf8}
use Rattle.std.specs.Prelude.{ℕ, ◌<◌, Bool, true, false, cond, ◌==◌, if◌then◌else◌}
use Rattle.std.specs.Prelude.{List, [], ◌∷◌, ◌++◌, drop, filter, map, take, IsUtf8}
use Rattle.std.specs.Prelude.{Option, Some, None, option_map}
use Rattle.std.specs.Str.Lossy.{utf8_lossy}
use Rattle.std.specs.declared.borrow.CowStr.{CowStr}
use Rattle.ordered_multimap.specs.Pairs.{has_items, values_where}
use Rattle.query_fields.specs.Escape.{read, read_any, written}
use Rattle.query_fields.specs.declared.fields.Reading.{Reading}
use Rattle.query_fields.specs.declared.fields.Reading.TheVariants.{Lenient, Strict}

-- names and values of pairs, as the bytes of their texts
abbrev pub texts_of : {A : Type 0} → List (CowStr A × CowStr A) → List (List ℕ × List ℕ)
texts_of pairs = map (λ p. (cow_str_bytes p.0, cow_str_bytes p.1)) pairs

-- each of them fits eight bits
abbrev pub AreBytes : List ℕ → Type 0
AreBytes [] = Unit {0}
AreBytes (b ∷ bs) = (b < 256) × AreBytes bs

-- a text, as the bytes of each `str` are one
abbrev pub IsText : List ℕ → Type 0
IsText bytes = IsUtf8 bytes × AreBytes bytes

-- each name and each value is a text
abbrev pub AreTexts : List (List ℕ × List ℕ) → Type 0
AreTexts [] = Unit {0}
AreTexts (p ∷ pairs) = (IsText p.0 × IsText p.1) × AreTexts pairs

-- a name and a value with `=` between them
abbrev pub written_field : List ℕ × List ℕ → List ℕ
written_field field = written field.0 ++ (61 ∷ written field.1)

-- the fields, with `&` between them and, unless they are the first ones, before them
abbrev pub written_fields : Bool → List (List ℕ × List ℕ) → List ℕ
written_fields are_first [] = []
written_fields are_first (p ∷ pairs) =
    cond are_first [] (38 ∷ []) ++ (written_field p ++ written_fields false pairs)

-- the query of all fields
abbrev pub written_query : List (List ℕ × List ℕ) → List ℕ
written_query pairs = written_fields true pairs

-- the text that a name or a value stands for
abbrev pub text_read : List ℕ → List ℕ
text_read encoded = utf8_lossy (read_any encoded)

-- what stands before the first `=` of a field, and what stands behind it
abbrev pub field_read : List ℕ → List ℕ × List ℕ
field_read field = (
  text_read (before_first (λ b. b == 61) field),
  text_read (after_first (λ b. b == 61) field),
)

-- what stands between `&`, but for what is empty
abbrev pub fields_in : List ℕ → List (List ℕ)
fields_in query = filter has_items (slice_split (λ b. b == 38) query)

-- the fields of a query
abbrev pub query_read : List ℕ → List (List ℕ × List ℕ)
query_read query = map field_read (fields_in query)

-- the bytes, if they are UTF-8
abbrev pub if_utf8 : List ℕ → Option (List ℕ)
if_utf8 bytes = if is_utf8 bytes then Some bytes else None

-- the text that a name or a value stands for, if no escape is bad, and both are UTF-8
abbrev pub text_read_strictly : List ℕ → Option (List ℕ)
text_read_strictly encoded = option_and_then if_utf8 (option_and_then read (if_utf8 encoded))

-- the pair of a name and a value, if there are both
abbrev pub pair_of : Option (List ℕ) → Option (List ℕ) → Option (List ℕ × List ℕ)
pair_of None value = None
pair_of (Some name) None = None
pair_of (Some name) (Some value) = Some (name, value)

-- the name and the value of a field, if both stand for a text
abbrev pub field_read_strictly : List ℕ → Option (List ℕ × List ℕ)
field_read_strictly field = pair_of (text_read_strictly (before_first (λ b. b == 61) field))
    (text_read_strictly (after_first (λ b. b == 61) field))

-- a pair, and the pairs behind it, if there are both
abbrev pub pair_before : Option (List ℕ × List ℕ) → Option (List (List ℕ × List ℕ))
    → Option (List (List ℕ × List ℕ))
pair_before None pairs = None
pair_before (Some pair) pairs = option_map (λ behind. pair ∷ behind) pairs

-- the pair of each field, if all of them stand for texts
abbrev pub all_read_strictly : List (List ℕ) → Option (List (List ℕ × List ℕ))
all_read_strictly [] = Some []
all_read_strictly (field ∷ fields) =
    pair_before (field_read_strictly field) (all_read_strictly fields)

-- the fields of a query, if all of them stand for texts
abbrev pub query_read_strictly : List ℕ → Option (List (List ℕ × List ℕ))
query_read_strictly query = all_read_strictly (fields_in query)

-- the fields of a query that is read so, if it has a meaning then
abbrev pub query_read_by : Reading → List ℕ → Option (List (List ℕ × List ℕ))
query_read_by Lenient query = Some (query_read query)
query_read_by Strict query = query_read_strictly query

-- the query without one leading `?`
abbrev pub without_question : List ℕ → List ℕ
without_question query = if bytes_eq (take 1 query) (63 ∷ []) then drop 1 query else query

-- a name or a value, and a field, that is read so
abbrev pub text_read_by : Reading → List ℕ → Option (List ℕ)
text_read_by Lenient encoded = Some (text_read encoded)
text_read_by Strict encoded = text_read_strictly encoded

abbrev pub field_read_by : Reading → List ℕ → Option (List ℕ × List ℕ)
field_read_by reading field = pair_of (text_read_by reading (before_first (λ b. b == 61) field))
    (text_read_by reading (after_first (λ b. b == 61) field))

-- the pairs, and behind them those that are read, if any are
abbrev pub pairs_and : List (List ℕ × List ℕ) → Option (List (List ℕ × List ℕ))
    → Option (List (List ℕ × List ℕ))
pairs_and pairs read = option_map (λ more. pairs ++ more) read

-- what stands between two `&`, read so: no field, or one
abbrev pub piece_read_by : Reading → List ℕ → Option (List (List ℕ × List ℕ))
piece_read_by reading piece =
    if has_items piece then pair_before (field_read_by reading piece) (Some []) else Some []

-- the texts of the values of a name, in order
abbrev pub values_named : {A : Type 0} → List ℕ → List (CowStr A × CowStr A) → List (List ℕ)
values_named name pairs =
    map cow_str_bytes (values_where (λ stored. bytes_eq name (cow_str_bytes stored)) pairs)

-- each text, and a line feed behind it
abbrev pub lines_of : List (List ℕ) → List ℕ
lines_of texts = flat_map (λ text. text ++ (10 ∷ [])) texts

-- the first text, if there is one
abbrev pub only_first : List (List ℕ) → List (List ℕ)
only_first [] = []
only_first (text ∷ texts) = text ∷ []

-- two names are the same text
abbrev pub same_name : {A : Type 0} → CowStr A → CowStr A → Bool
same_name x y = bytes_eq (cow_str_bytes x) (cow_str_bytes y)
