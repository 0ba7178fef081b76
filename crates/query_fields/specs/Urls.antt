-- The query in a whole URL, and what stands around it.
use Rattle.std.specs.Char.{is_ascii_alphabetic, is_ascii_alphanumeric}
use Rattle.std.specs.List.{after_first, before_first, position_or_len, starts_with}
use Rattle.std.specs.Prelude.{◌≡◌, ℕ, Bool, false, not, nat_eq, ◌==◌, ◌&&◌, ◌||◌, if◌then◌else◌}
use Rattle.std.specs.Prelude.{List, [], ◌∷◌, ◌++◌, drop, Some}
use Rattle.query_fields.specs.Queries.{query_read_by, without_question, written_query}
use Rattle.query_fields.specs.declared.fields.Reading.{Reading}
use Rattle.query_fields.specs.declared.url.Url.{Url}

-- a byte that a scheme may have: a letter, a digit or one of `+-.`
abbrev pub is_scheme_byte : ℕ → Bool
is_scheme_byte b = is_ascii_alphanumeric b || b == 43 || b == 45 || b == 46

-- what stands from the first byte on that no scheme has
abbrev pub behind_scheme : List ℕ → List ℕ
behind_scheme text = drop (position_or_len (λ b. not (is_scheme_byte b)) text) text

-- the text is a whole URL: it begins with a scheme, whose first byte is a letter, and `://`
abbrev pub is_url : List ℕ → Bool
is_url [] = false
is_url (b ∷ bs) =
    is_ascii_alphabetic b && starts_with nat_eq (behind_scheme (b ∷ bs)) (58 ∷ 47 ∷ 47 ∷ [])

-- what stands before the first `#` of a URL
abbrev pub before_fragment : List ℕ → List ℕ
before_fragment url = before_first (λ b. b == 35) url

-- the fragment of a URL, with its `#`, or nothing
abbrev pub fragment_of : List ℕ → List ℕ
fragment_of url = drop (position_or_len (λ b. b == 35) url) url

-- what stands before the query: of a URL all before its first `?`
abbrev pub before_query : List ℕ → List ℕ
before_query text = if is_url text then before_first (λ b. b == 63) (before_fragment text) else []

-- the query: of a URL what stands behind its first `?`, if that stands before its first `#`
abbrev pub query_in : List ℕ → List ℕ
query_in text = if is_url text then after_first (λ b. b == 63) (before_fragment text)
    else without_question text

-- what stands behind the query
abbrev pub behind_query : List ℕ → List ℕ
behind_query text = if is_url text then fragment_of text else []

-- the query of these fields with `?` before it, or nothing where there are none
abbrev pub marked_query : List (List ℕ × List ℕ) → List ℕ
marked_query [] = []
marked_query (p ∷ pairs) = 63 ∷ written_query (p ∷ pairs)

-- the whole URL, or the query alone, once these are its fields
abbrev pub written_url : Url → List (List ℕ × List ℕ) → List ℕ
written_url url pairs = if url.is_whole
    then url.before.now ++ (marked_query pairs ++ url.behind.now) else written_query pairs

-- the URL has what stands around the query of the text
pub record IsAround (text : List ℕ) (url : Url) : Type 0 where
  pub whole : url.is_whole ≡ is_url text
  pub before : url.before.now ≡ before_query text
  pub behind : url.behind.now ≡ behind_query text

-- the same stands around the query of the new text as around that of the old one, and it is read as
-- these pairs
pub record IsReadWith (reading : Reading) (pairs : List (List ℕ × List ℕ))
    (old new : List ℕ) : Type 0 where
  pub before : before_query new ≡ before_query old
  pub behind : behind_query new ≡ behind_query old
  pub query : query_read_by reading (query_in new) ≡ Some pairs
