-- What is read of a query, piece by piece, leniently and strictly.
use Rattle.std.proofs.Common.{◌≡◌, ℕ, ◌+◌, ◌==◌, ◌++◌, length, Bool, true, false, List, [], ◌∷◌, filter, map, Option, Some, None}
use Rattle.std.proofs.Common.{option_and_then}
use Rattle.std.proofs.Common.{IfErr, IfOk, IfSome, IsUtf8, Result, Ok, Err, refl, sym, ap, subst, ◌∙◌, arith, append-nil, append_assoc}
use Rattle.std.proofs.Common.{take_all, inl, inr}
use Rattle.std.proofs.lemmas.Bool.{cases_lt}
use Rattle.std.proofs.lemmas.List.{drop_all, map-append}
use Rattle.std.proofs.lemmas.List.Splits.{slice_split_first, slice_split_none}
use Rattle.std.proofs.lemmas.List.Sums.{fails_before_first}
use Rattle.std.proofs.lemmas.Option.{none-some, same_Some}
use Rattle.std.proofs.lemmas.Slice.Eq.{bytes_eq-Decides}
use Rattle.std.proofs.lemmas.Str.{IsUtf8-from_is_utf8, is_utf8-from_IsUtf8}
use Rattle.std.specs.Cow.{cow_str_bytes}
use Rattle.std.specs.List.{All, after_first, before_first, position_or_len, slice_split}
use Rattle.std.specs.Str.{bytes_eq, is_utf8}
use Rattle.std.specs.declared.borrow.CowStr.{CowStr}
use Rattle.ordered_multimap.specs.Changes.{appended}
use Rattle.ordered_multimap.specs.Keys.{stored_key}
use Rattle.ordered_multimap.specs.Lists.{Lists}
use Rattle.ordered_multimap.specs.Pairs.{has_items}
use Rattle.query_fields.specs.Escape.{read}
use Rattle.query_fields.specs.Queries.{all_read_strictly, field_read, fields_in, field_read_strictly, if_utf8, pair_before, pairs_and}
use Rattle.query_fields.specs.Queries.{piece_read_by, query_read_by, same_name, text_read_by, text_read_strictly, texts_of}
use Rattle.query_fields.specs.declared.fields.Reading.{Reading}
use Rattle.query_fields.specs.declared.fields.Reading.TheVariants.{Lenient, Strict}

module _ {A : Type 0} where
  -- the name under which a pair is stored is the same text
  stored_text : (keys : List (CowStr A)) (name : CowStr A) → cow_str_bytes (stored_key same_name keys name) ≡ cow_str_bytes name
  stored_text [] name = refl
  stored_text (key ∷ keys) name = by_case (bytes_eq (cow_str_bytes name) (cow_str_bytes key)) refl (stored_text keys name)
    where
      by_case : (same : Bool) → bytes_eq (cow_str_bytes name) (cow_str_bytes key) ≡ same
          → cow_str_bytes (stored_key same_name keys name) ≡ cow_str_bytes name
          → cow_str_bytes (stored_key same_name (key ∷ keys) name) ≡ cow_str_bytes name
      by_case true is later = rw is (sym ((bytes_eq-Decides (cow_str_bytes name) (cow_str_bytes key)).0 is))
      by_case false is later = rw is later

  -- so the texts of an appended pair are those of the name and the value
  pub appended_texts : (lists : Lists (CowStr A) (CowStr A)) (name value : CowStr A)
      → texts_of (appended same_name lists name value).pairs ≡ texts_of lists.pairs ++ (cow_str_bytes name, cow_str_bytes value) ∷ []
  appended_texts lists name value =
      map-append (λ p. (cow_str_bytes p.0, cow_str_bytes p.1)) lists.pairs ((stored_key same_name lists.keys name, value) ∷ [])
      ∙ ap (λ text. texts_of lists.pairs ++ (text, cow_str_bytes value) ∷ []) (stored_text lists.keys name)

-- what is no UTF-8 is no text
if_utf8_none : (bytes : List ℕ) → ¬ (IsUtf8 bytes) → if_utf8 bytes ≡ None
if_utf8_none bytes other = by_case (is_utf8 bytes) refl
  where
    by_case : (is : Bool) → is_utf8 bytes ≡ is → if_utf8 bytes ≡ None
    by_case true is = absurd (other (IsUtf8-from_is_utf8 bytes is))
    by_case false is = rw is

if_utf8_some : (bytes : List ℕ) → IsUtf8 bytes → if_utf8 bytes ≡ Some bytes
if_utf8_some bytes text = let is = is_utf8-from_IsUtf8 bytes text in rw is

-- what a text in UTF-8 stands for, if it is one
pub strictly_text : (encoded bytes : List ℕ) → IsUtf8 encoded → read encoded ≡ Some bytes → IsUtf8 bytes
    → text_read_strictly encoded ≡ Some bytes
strictly_text encoded bytes text is is_text =
    rw (if_utf8_some encoded text, is) (if_utf8_some bytes is_text)

pub strictly_no_text : (encoded : List ℕ) → ¬ (IsUtf8 encoded) → text_read_strictly encoded ≡ None
strictly_no_text encoded other = rw (if_utf8_none encoded other)

pub strictly_none : (encoded : List ℕ) → IsUtf8 encoded → IfSome (read encoded) (λ bytes. ¬ (IsUtf8 bytes))
    → text_read_strictly encoded ≡ None
strictly_none encoded text bad = rw (if_utf8_some encoded text) (by_case (read encoded) refl bad)
  where
    by_case : (bytes : Option (List ℕ)) → read encoded ≡ bytes → IfSome bytes (λ bytes. ¬ (IsUtf8 bytes))
        → option_and_then if_utf8 (read encoded) ≡ None
    by_case None is other = rw is
    by_case (Some bytes) is other = rw is (if_utf8_none bytes other)

module _ {A E : Type 0} (result : Result (CowStr A) E) (reading : Reading) (encoded same : List ℕ)
    (is_strict : reading ≡ Strict) (is_same : same ≡ encoded) (is_text : IsUtf8 encoded) where
  -- what is decoded strictly is what is read so
  pub strictly_read : IfOk result (λ text. read same ≡ Some (cow_str_bytes text)) → IfOk result (λ text. IsUtf8 (cow_str_bytes text))
      → IfOk result (λ text. text_read_by reading encoded ≡ Some (cow_str_bytes text))
  strictly_read = by_case result
    where
      by_case : (r : Result (CowStr A) E) → IfOk r (λ text. read same ≡ Some (cow_str_bytes text))
          → IfOk r (λ text. IsUtf8 (cow_str_bytes text))
          → IfOk r (λ text. text_read_by reading encoded ≡ Some (cow_str_bytes text))
      by_case (Ok text) is utf8 = rw is_strict (strictly_text encoded (cow_str_bytes text) is_text (ap read (sym is_same) ∙ is) utf8)
      by_case (Err error) is utf8 = tt

  pub strictly_bad : (IsBad : E → Type 0) → IfErr result (λ error. IsBad error → IfSome (read same) (λ bytes. ¬ (IsUtf8 bytes)))
      → IfErr result (λ error. IsBad error → text_read_by reading encoded ≡ None)
  strictly_bad IsBad = by_case result
    where
      by_case : (r : Result (CowStr A) E) → IfErr r (λ error. IsBad error → IfSome (read same) (λ bytes. ¬ (IsUtf8 bytes)))
          → IfErr r (λ error. IsBad error → text_read_by reading encoded ≡ None)
      by_case (Ok text) none = tt
      by_case (Err error) none = λ bad. rw is_strict
          (strictly_none encoded is_text (subst (λ text. IfSome (read text) (λ bytes. ¬ (IsUtf8 bytes))) is_same (none bad)))

-- the byte that stands between fields
abbrev is_mark : ℕ → Bool
is_mark b = b == 38

-- what stands before the first one is the first piece
first_piece : (query : List ℕ)
    → fields_in query ≡ filter has_items (before_first is_mark query ∷ slice_split is_mark (after_first is_mark query))
first_piece query =
    let place = position_or_len is_mark query in
    elim (cases_lt place (length query)) [
      | inl within ↦ ap (filter has_items) (slice_split_first is_mark query 0 within)
      | inr past ↦
          let all : All (λ b. is_mark b ≡ false) query = λ k d h. fails_before_first is_mark query k d (omega (arith, past)) in
          let whole : before_first is_mark query ≡ query = take_all place query past in
          let nothing : after_first is_mark query ≡ [] = drop_all (place + 1) query (omega (arith, past)) in
          ap (filter has_items) (slice_split_none is_mark query all)
          ∙ (λ i. filter has_items (sym whole i ∷ slice_split is_mark (sym nothing i)))
    ]

-- the pairs of a piece, and those of what stands behind it
abbrev joined : Option (List (List ℕ × List ℕ)) → Option (List (List ℕ × List ℕ)) → Option (List (List ℕ × List ℕ))
joined None more = None
joined (Some pairs) more = pairs_and pairs more

pair_joined : (pair : Option (List ℕ × List ℕ)) (more : Option (List (List ℕ × List ℕ)))
    → pair_before pair more ≡ joined (pair_before pair (Some [])) more
pair_joined None more = refl
pair_joined (Some pair) None = refl
pair_joined (Some pair) (Some more) = refl

nothing_joined : (more : Option (List (List ℕ × List ℕ))) → pairs_and [] more ≡ more
nothing_joined None = refl
nothing_joined (Some more) = refl

module _ (query : List ℕ) where
  abbrev first : List ℕ
  first = before_first is_mark query

  abbrev behind : List ℕ
  behind = after_first is_mark query

  -- a query is its first piece, and what stands behind that
  pub piece_by_piece : (reading : Reading) → query_read_by reading query ≡ joined (piece_read_by reading first)
      (query_read_by reading behind)
  piece_by_piece Lenient = ap (λ fields. Some (map field_read fields)) (first_piece query) ∙ by_case (has_items first) refl
    where
      by_case : (is : Bool) → has_items first ≡ is
          → Some (map field_read (filter has_items (first ∷ slice_split is_mark behind)))
          ≡ joined (piece_read_by Lenient first) (query_read_by Lenient behind)
      by_case true is = rw is
      by_case false is = rw is
  piece_by_piece Strict = ap all_read_strictly (first_piece query) ∙ by_case (has_items first) refl
    where
      by_case : (is : Bool) → has_items first ≡ is
          → all_read_strictly (filter has_items (first ∷ slice_split is_mark behind))
          ≡ joined (piece_read_by Strict first) (query_read_by Strict behind)
      by_case true is = rw is (pair_joined (field_read_strictly first) (query_read_by Strict behind))
      by_case false is = rw is (sym (nothing_joined (query_read_by Strict behind)))

-- pairs that are there, with those of a piece, and then with those of what stands behind it
joined_pairs : (old new : List (List ℕ × List ℕ)) (piece more : Option (List (List ℕ × List ℕ)))
    → pairs_and old piece ≡ Some new → pairs_and old (joined piece more) ≡ pairs_and new more
joined_pairs old new None more is = absurd (none-some new is)
joined_pairs old new (Some pairs) None is = refl
joined_pairs old new (Some pairs) (Some more) is =
    ap Some (sym (append_assoc old pairs more) ∙ ap (λ all. all ++ more) (same_Some (old ++ pairs) new is))

none_and : (old : List (List ℕ × List ℕ)) (read : Option (List (List ℕ × List ℕ))) → pairs_and old read ≡ None → read ≡ None
none_and old None is = refl
none_and old (Some pairs) is = absurd (none-some (old ++ pairs) (sym is))

module _ (reading : Reading) (old new : List (List ℕ × List ℕ)) (query rest : List ℕ) where
  -- what a loop has read of a query, and what is left
  abbrev pub IsReadTo : Type 0
  IsReadTo = pairs_and old (query_read_by reading query) ≡ pairs_and new (query_read_by reading rest)

  module _ (piece : List ℕ) (is_first : piece ≡ first rest) where
    -- once its next piece is read, what stands behind that is left
    pub next_read : (newer : List (List ℕ × List ℕ)) (left : List ℕ) → IsReadTo → left ≡ behind rest
        → pairs_and new (piece_read_by reading piece) ≡ Some newer
        → pairs_and old (query_read_by reading query) ≡ pairs_and newer (query_read_by reading left)
    next_read newer left so_far is_behind is =
        so_far ∙ ap (pairs_and new) (piece_by_piece rest reading)
        ∙ joined_pairs new newer (piece_read_by reading (first rest)) (query_read_by reading (behind rest))
        (ap (λ it. pairs_and new (piece_read_by reading it)) (sym is_first) ∙ is)
        ∙ ap (λ it. pairs_and newer (query_read_by reading it)) (sym is_behind)

    -- where it has no meaning, the query has none
    pub next_bad : IsReadTo → piece_read_by reading piece ≡ None → query_read_by reading query ≡ None
    next_bad so_far none =
        none_and old (query_read_by reading query)
        (so_far ∙ ap (pairs_and new) (piece_by_piece rest reading
        ∙ ap (λ it. joined (piece_read_by reading it) (query_read_by reading (behind rest))) (sym is_first)
        ∙ ap (λ it. joined it (query_read_by reading (behind rest))) none))

-- nothing is left
pub end_read : (reading : Reading) (new : List (List ℕ × List ℕ)) (rest : List ℕ) → length rest ≡ 0
    → pairs_and new (query_read_by reading rest) ≡ Some new
end_read Lenient new [] none = ap Some (append-nil new)
end_read Strict new [] none = ap Some (append-nil new)
end_read Lenient new (b ∷ rest) none = absurd (omega arith)
end_read Strict new (b ∷ rest) none = absurd (omega arith)
