-- A URL that is written has the same parts around its query again.
use Rattle.std.proofs.Common.{◌≡◌, ℕ, suc, ◌+◌, ◌==◌, Bool, true, false, not, nat_eq, List, [], ◌∷◌, ◌++◌, drop, take}
use Rattle.std.proofs.Common.{refl, sym, ap, ◌∙◌, arith, append_assoc, append-nil, subst, true≢false, zero}
use Rattle.std.proofs.lemmas.Bool.{and_parts, and_from}
use Rattle.std.proofs.lemmas.Bool.Decides.{nat_tests}
use Rattle.std.proofs.lemmas.Bool.Decides.{Decides-eqb}
use Rattle.std.proofs.lemmas.Slice.Eq.{starts_is}
use Rattle.std.specs.Char.{is_ascii_alphabetic}
use Rattle.std.specs.List.{after_first, before_first, position_or_len, starts_with}
use Rattle.query_fields.specs.Queries.{AreTexts, query_read_by, written_query}
use Rattle.query_fields.specs.Urls.{IsAround, IsReadWith, written_url}
use Rattle.query_fields.specs.declared.url.Url.{Url}
use Rattle.query_fields.proofs.NoUrl.{mark_unwritten, query_lacks, query_no_url}
use Rattle.query_fields.proofs.ReadAgain.{query_read_again, written_read_by}
use Rattle.query_fields.specs.Urls.{before_fragment, behind_scheme, fragment_of, is_scheme_byte, is_url}
use Rattle.query_fields.specs.Urls.{marked_query}
use Rattle.query_fields.specs.declared.fields.Reading.{Reading}
use Rattle.query_fields.proofs.WrittenAgain.{Lacks, Lacks-append}

-- the list is empty, or begins with this byte
abbrev BeginsWith : ℕ → List ℕ → Type 0
BeginsWith m [] = Unit {0}
BeginsWith m (b ∷ bs) = (b == m) ≡ true

module _ (m : ℕ) where
  abbrev is_m : ℕ → Bool
  is_m b = b == m

  before_other : (b : ℕ) (bs : List ℕ) → (b == m) ≡ false → before_first is_m (b ∷ bs) ≡ b ∷ before_first is_m bs
  before_other b bs other =
      let one : 1 + position_or_len is_m bs ≡ suc (position_or_len is_m bs) = omega arith in
      rw other (rw one refl)

  from_other : (b : ℕ) (bs : List ℕ) → (b == m) ≡ false
      → drop (position_or_len is_m (b ∷ bs)) (b ∷ bs) ≡ drop (position_or_len is_m bs) bs
  from_other b bs other =
      let one : 1 + position_or_len is_m bs ≡ suc (position_or_len is_m bs) = omega arith in
      rw other (rw one refl)

  after_other : (b : ℕ) (bs : List ℕ) → (b == m) ≡ false → after_first is_m (b ∷ bs) ≡ after_first is_m bs
  after_other b bs other =
      let one : (1 + position_or_len is_m bs) + 1 ≡ suc (position_or_len is_m bs + 1) = omega arith in
      rw other (rw one refl)

  -- what stands before the first such byte, from it on, and behind it
  before_end : (xs ys : List ℕ) → Lacks m xs → BeginsWith m ys → before_first is_m (xs ++ ys) ≡ xs
  before_end [] [] lacks begins = refl
  before_end [] (y ∷ ys) lacks begins = rw begins
  before_end (x ∷ xs) ys lacks begins = before_other x (xs ++ ys) lacks.0 ∙ ap (λ bs. x ∷ bs) (before_end xs ys lacks.1 begins)

  from_end : (xs ys : List ℕ) → Lacks m xs → BeginsWith m ys → drop (position_or_len is_m (xs ++ ys)) (xs ++ ys) ≡ ys
  from_end [] [] lacks begins = refl
  from_end [] (y ∷ ys) lacks begins = rw begins
  from_end (x ∷ xs) ys lacks begins = from_other x (xs ++ ys) lacks.0 ∙ from_end xs ys lacks.1 begins

  after_end : (xs : List ℕ) → Lacks m xs → after_first is_m xs ≡ []
  after_end [] lacks = refl
  after_end (x ∷ xs) lacks = after_other x xs lacks.0 ∙ after_end xs lacks.1

  after_mark : (xs ys : List ℕ) (b : ℕ) → Lacks m xs → (b == m) ≡ true → after_first is_m (xs ++ b ∷ ys) ≡ ys
  after_mark [] ys b lacks is = rw is
  after_mark (x ∷ xs) ys b lacks is = after_other x (xs ++ b ∷ ys) lacks.0 ∙ after_mark xs ys b lacks.1 is

  -- no such byte stands before the first one, which the rest begins with
  before_lacks : (bs : List ℕ) → Lacks m (before_first is_m bs)
  before_lacks [] = tt
  before_lacks (b ∷ bs) = by_case (b == m) refl (before_lacks bs)
    where
      by_case : (is : Bool) → (b == m) ≡ is → Lacks m (before_first is_m bs) → Lacks m (before_first is_m (b ∷ bs))
      by_case true is later = rw is tt
      by_case false is later = subst (Lacks m) (sym (before_other b bs is)) (is, later)

  rest_begins : (bs : List ℕ) → BeginsWith m (drop (position_or_len is_m bs) bs)
  rest_begins [] = tt
  rest_begins (b ∷ bs) = by_case (b == m) refl (rest_begins bs)
    where
      by_case : (is : Bool) → (b == m) ≡ is → BeginsWith m (drop (position_or_len is_m bs) bs)
          → BeginsWith m (drop (position_or_len is_m (b ∷ bs)) (b ∷ bs))
      by_case true is later = rw is is
      by_case false is later = subst (BeginsWith m) (sym (from_other b bs is)) later

-- what is taken of a list lacks what the list lacks
take_lacks : (m n : ℕ) (bs : List ℕ) → Lacks m bs → Lacks m (take n bs)
take_lacks m zero bs lacks = tt
take_lacks m (suc n) [] lacks = tt
take_lacks m (suc n) (b ∷ bs) lacks = (lacks.0, take_lacks m n bs lacks.1)

-- a URL before its query
abbrev front : List ℕ → List ℕ
front url = before_first (λ b. b == 63) (before_fragment url)

front_other : (b : ℕ) (bs : List ℕ) → (b == 35) ≡ false → (b == 63) ≡ false → front (b ∷ bs) ≡ b ∷ front bs
front_other b bs no_mark no_question =
    ap (before_first (λ c. c == 63)) (before_other 35 b bs no_mark) ∙ before_other 63 b (before_fragment bs) no_question

-- a scheme and `://` stand there still
abbrev begins_url : List ℕ → Bool
begins_url url = starts_with nat_eq (behind_scheme url) (58 ∷ 47 ∷ 47 ∷ [])

scheme_other : (b : ℕ) (bs : List ℕ) → is_scheme_byte b ≡ true → behind_scheme (b ∷ bs) ≡ behind_scheme bs
scheme_other b bs is =
    let place = position_or_len (λ c. not (is_scheme_byte c)) bs in
    let one : 1 + place ≡ suc place = omega arith in
    rw is (rw one refl)

scheme_end : (b : ℕ) (bs : List ℕ) → is_scheme_byte b ≡ false → behind_scheme (b ∷ bs) ≡ b ∷ bs
scheme_end b bs is = rw is

scheme_differs : (b : ℕ) → is_scheme_byte b ≡ true → ((b == 35) ≡ false) × ((b == 63) ≡ false)
scheme_differs b is = (grind (arith, nat_tests), grind (arith, nat_tests))

letter_differs : (b : ℕ) → is_ascii_alphabetic b ≡ true → ((b == 35) ≡ false) × ((b == 63) ≡ false)
letter_differs b is = (grind (arith, nat_tests), grind (arith, nat_tests))

-- where `://` stands, all of it stands before the query
authority_kept : (bs tail : List ℕ) → begins_url (front (58 ∷ 47 ∷ 47 ∷ bs) ++ tail) ≡ true
authority_kept bs tail =
    let first = front_other 58 (47 ∷ 47 ∷ bs) refl refl in
    let second = front_other 47 (47 ∷ bs) refl refl in
    let third = front_other 47 bs refl refl in
    ap (λ url. begins_url (url ++ tail)) (first ∙ ap (λ url. 58 ∷ url) (second ∙ ap (λ url. 47 ∷ url) third))

scheme_kept : (url tail : List ℕ) → begins_url url ≡ true → begins_url (front url ++ tail) ≡ true
scheme_kept [] tail is = absurd (true≢false (sym is))
scheme_kept (b ∷ bs) tail is = by_case (is_scheme_byte b) refl (scheme_kept bs tail)
  where
    by_case : (scheme : Bool) → is_scheme_byte b ≡ scheme → (begins_url bs ≡ true → begins_url (front bs ++ tail) ≡ true)
        → begins_url (front (b ∷ bs) ++ tail) ≡ true
    by_case true scheme later =
        let differs = scheme_differs b scheme in
        let here : begins_url bs ≡ true = ap (λ url. starts_with nat_eq url (58 ∷ 47 ∷ 47 ∷ [])) (sym (scheme_other b bs scheme)) ∙ is in
        ap (λ url. begins_url (url ++ tail)) (front_other b bs differs.0 differs.1)
        ∙ ap (λ url. starts_with nat_eq url (58 ∷ 47 ∷ 47 ∷ [])) (scheme_other b (front bs ++ tail) scheme) ∙ later here
    by_case false scheme later =
        let here : starts_with nat_eq (b ∷ bs) (58 ∷ 47 ∷ 47 ∷ []) ≡ true =
        ap (λ url. starts_with nat_eq url (58 ∷ 47 ∷ 47 ∷ [])) (sym (scheme_end b bs scheme)) ∙ is in
        let whole : b ∷ bs ≡ 58 ∷ 47 ∷ 47 ∷ drop 3 (b ∷ bs) =
        (starts_is Decides-eqb (b ∷ bs) (58 ∷ 47 ∷ 47 ∷ []) (starts_with nat_eq (b ∷ bs) (58 ∷ 47 ∷ 47 ∷ [])) refl).0 here in
        ap (λ url. begins_url (front url ++ tail)) whole ∙ authority_kept (drop 3 (b ∷ bs)) tail

url_kept : (url tail : List ℕ) → is_url url ≡ true → is_url (front url ++ tail) ≡ true
url_kept [] tail is = absurd (true≢false (sym is))
url_kept (b ∷ bs) tail is =
    let parts = and_parts (is_ascii_alphabetic b) (begins_url (b ∷ bs)) is in
    let differs = letter_differs b parts.0 in
    let begins : begins_url (b ∷ (front bs ++ tail)) ≡ true =
    ap (λ url. begins_url (url ++ tail)) (sym (front_other b bs differs.0 differs.1)) ∙ scheme_kept (b ∷ bs) tail parts.1 in
    ap (λ url. is_url (url ++ tail)) (front_other b bs differs.0 differs.1)
    ∙ and_from (is_ascii_alphabetic b) (begins_url (b ∷ (front bs ++ tail))) parts.0 begins

marked_lacks : (pairs : List (List ℕ × List ℕ)) → AreTexts pairs → Lacks 35 (marked_query pairs)
marked_lacks [] texts = tt
marked_lacks (p ∷ pairs) texts = (refl, query_lacks 35 mark_unwritten true (p ∷ pairs) texts)

marked_begins : (pairs : List (List ℕ × List ℕ)) → BeginsWith 63 (marked_query pairs)
marked_begins [] = tt
marked_begins (p ∷ pairs) = refl

-- what stands behind the `?` of the query that is written is the query
marked_after : (before : List ℕ) (pairs : List (List ℕ × List ℕ)) → Lacks 63 before
    → after_first (λ b. b == 63) (before ++ marked_query pairs) ≡ written_query pairs
marked_after before [] lacks = ap (after_first (λ b. b == 63)) (append-nil before) ∙ after_end 63 before lacks
marked_after before (p ∷ pairs) lacks = after_mark 63 before (written_query (p ∷ pairs)) 63 lacks refl

module _ (reading : Reading) (text : List ℕ) (pairs : List (List ℕ × List ℕ)) (texts : AreTexts pairs) where
  abbrev again : List ℕ
  again = front text ++ (marked_query pairs ++ fragment_of text)

  -- a whole URL that is written
  again_parts : (before_fragment again ≡ front text ++ marked_query pairs) × (fragment_of again ≡ fragment_of text)
  again_parts =
      let same : again ≡ (front text ++ marked_query pairs) ++ fragment_of text =
      sym (append_assoc (front text) (marked_query pairs) (fragment_of text)) in
      let lacks = Lacks-append 35 (front text) (marked_query pairs)
      (take_lacks 35 (position_or_len (λ b. b == 63) (before_fragment text)) (before_fragment text) (before_lacks 35 text))
      (marked_lacks pairs texts) in
      let begins = rest_begins 35 text in (
        ap before_fragment same ∙ before_end 35 (front text ++ marked_query pairs) (fragment_of text) lacks begins,
        ap fragment_of same ∙ from_end 35 (front text ++ marked_query pairs) (fragment_of text) lacks begins,
      )

  whole_again : is_url text ≡ true → IsReadWith reading pairs text again
  whole_again is =
      let is_again = url_kept text (marked_query pairs ++ fragment_of text) is in
      let lacks = before_lacks 63 (before_fragment text) in
      record {
        before = rw (is_again, is) (ap (before_first (λ b. b == 63)) again_parts.0
            ∙ before_end 63 (front text) (marked_query pairs) lacks (marked_begins pairs));
        behind = rw (is_again, is) again_parts.1;
        query = rw is_again (ap (query_read_by reading)
            (ap (after_first (λ b. b == 63)) again_parts.0 ∙ marked_after (front text) pairs lacks)
            ∙ written_read_by reading pairs texts);
      }

  -- a query alone
  alone_again : is_url text ≡ false → IsReadWith reading pairs text (written_query pairs)
  alone_again is =
      record {
        before = rw (query_no_url pairs texts, is) refl;
        behind = rw (query_no_url pairs texts, is) refl;
        query = query_read_again reading pairs texts;
      }

  -- what is written has the same parts again
  pub url_again : (url : Url) → IsAround text url → IsReadWith reading pairs text (written_url url pairs)
  url_again url around = by_case (is_url text) refl
    where
      by_case : (is : Bool) → is_url text ≡ is → IsReadWith reading pairs text (written_url url pairs)
      by_case true is =
          let whole : url.is_whole ≡ true = around.whole ∙ is in
          let before : url.before.now ≡ front text = around.before ∙ rw is refl in
          let behind : url.behind.now ≡ fragment_of text = around.behind ∙ rw is refl in
          subst (IsReadWith reading pairs text) (sym (rw whole (λ i. before i ++ (marked_query pairs ++ behind i)))) (whole_again is)
      by_case false is =
          let alone : url.is_whole ≡ false = around.whole ∙ is in
          subst (IsReadWith reading pairs text) (sym (rw alone refl)) (alone_again is)
