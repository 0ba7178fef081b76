-- Lines of a text, one behind the other.
use Rattle.std.proofs.Common.{◌≡◌, ◌⊎◌, ℕ, ◌-◌, ◌==◌, ◌<◌, Bool, true, false, List, [], ◌∷◌, ◌++◌}
use Rattle.std.proofs.Common.{append_assoc, append-nil, refl, sym, ap, subst, ◌∙◌, arith, length, length-append, drop, take, inl, inr}
use Rattle.std.specs.Prelude.{if◌then◌else◌, slice_index}
use Rattle.std.proofs.Math.Seq.{drop-append_seam, take-append_seam}
use Rattle.std.proofs.lemmas.List.{take-append-drop}
use Rattle.std.specs.Cow.{cow_str_bytes}
use Rattle.config_reader.specs.declared.config.Lines.{Lines}
use Rattle.config_reader.specs.declared.name.Name.{Name}
use Rattle.config_reader.specs.Lines.{IsBehindLines, IsReadTo, is_lined, lined}
use Rattle.config_reader.specs.Written.{texts_of}

-- the lines of both texts
pub lined_behind : (text : List ℕ) (b : ℕ) (rest : List ℕ) → is_lined (text ++ b ∷ rest) ≡ is_lined (b ∷ rest)
lined_behind [] b rest = refl
lined_behind (c ∷ []) b rest = refl
lined_behind (c ∷ d ∷ text) b rest = lined_behind (d ∷ text) b rest

pub both_lined : (text rest : List ℕ) → is_lined text ≡ true → is_lined rest ≡ true → is_lined (text ++ rest) ≡ true
both_lined text [] is rest_is = rw (append-nil text) is
both_lined text (b ∷ rest) is rest_is = lined_behind text b rest ∙ rest_is

pub feed_lined : (text : List ℕ) → is_lined (text ++ 10 ∷ []) ≡ true
feed_lined text = lined_behind text 10 []

pub lined_append : (lines rest : List ℕ) → (is_lined lines ≡ true) ⊎ (rest ≡ []) → lined lines ++ lined rest ≡ lined (lines ++ rest)
lined_append lines [] either = append-nil (lined lines) ∙ ap lined (sym (append-nil lines))
lined_append lines (b ∷ rest) (inl is) = rw (is, lined_behind lines b rest) (by_end (is_lined (b ∷ rest)) refl)
  where
    by_end : (ends : Bool) → is_lined (b ∷ rest) ≡ ends
        → lines ++ lined (b ∷ rest) ≡ (if is_lined (b ∷ rest) then lines ++ b ∷ rest else (lines ++ b ∷ rest) ++ 10 ∷ [])
    by_end true ends = rw ends refl
    by_end false ends = rw ends (sym (append_assoc lines (b ∷ rest) (10 ∷ [])))
lined_append lines (b ∷ rest) (inr none) = absurd (omega (arith, ap length none))

pub nothing_between : (text : List ℕ) → IsBehindLines text text
nothing_between text = ([], refl, inl refl)

-- lines that are kept
pub keep : (kept between behind all kept_now : List ℕ) → kept ++ lined between ≡ all → (b : IsBehindLines between behind)
    → kept_now ≡ kept ++ lined b.0 → IsReadTo kept_now behind behind all
keep kept between behind all kept_now is_all b now = record {
  is_all =
      ap (λ k. k ++ lined behind) now
      ∙ append_assoc kept (lined b.0) (lined behind)
      ∙ ap (λ t. kept ++ t) (lined_append b.0 behind b.2 ∙ ap lined (sym b.1))
      ∙ is_all;
  lines = nothing_between behind;
}

-- lines that are read behind others
pub read_on : (kept between rest behind all : List ℕ) → IsReadTo kept between rest all → IsBehindLines rest behind
    → IsReadTo kept between behind all
read_on kept between rest behind all is b = record {
  is_all = is.is_all;
  lines = (is.lines.0 ++ b.0, is.lines.1 ∙ ap (λ t. is.lines.0 ++ t) b.1 ∙ sym (append_assoc is.lines.0 b.0 behind), both is.lines.2 b.2);
}
  where
    both : (is_lined is.lines.0 ≡ true) ⊎ (rest ≡ []) → (is_lined b.0 ≡ true) ⊎ (behind ≡ [])
        → (is_lined (is.lines.0 ++ b.0) ≡ true) ⊎ (behind ≡ [])
    both first (inr none) = inr none
    both (inl first) (inl second) = inl (both_lined is.lines.0 b.0 first second)
    both (inr none) (inl second) = inr (nothing_behind b.0 behind (sym b.1 ∙ none))
      where
        nothing_behind : (lines behind : List ℕ) → lines ++ behind ≡ [] → behind ≡ []
        nothing_behind [] behind is = is
        nothing_behind (c ∷ lines) behind is = absurd (omega (arith, ap length is))

-- the texts of lines behind others
pub texts_behind : (pairs : List (Name × Lines)) (name : Name) (lines : Lines)
    → texts_of (pairs ++ (name, lines) ∷ []) ≡ texts_of pairs ++ cow_str_bytes lines.text
texts_behind [] name lines = append-nil (cow_str_bytes lines.text)
texts_behind (pair ∷ pairs) name lines =
    ap (λ t. cow_str_bytes pair.1.text ++ t) (texts_behind pairs name lines)
    ∙ sym (append_assoc (cow_str_bytes pair.1.text) (texts_of pairs) (cow_str_bytes lines.text))

-- what stands behind a line feed, and behind nothing
pub behind_feed : (text before behind : List ℕ) → text ≡ before ++ 10 ∷ behind → IsBehindLines text behind
behind_feed text before behind is = (before ++ 10 ∷ [], is ∙ sym (append_assoc before (10 ∷ []) behind), inl (feed_lined before))

pub behind_all : (text : List ℕ) → IsBehindLines text []
behind_all text = (text, sym (append-nil text), inr refl)

-- the two parts of a text that is cut
pub cut_at : (text : List ℕ) (i j b : ℕ) → drop i text ≡ b ∷ drop j text → text ≡ take i text ++ b ∷ drop j text
cut_at text i j b is = sym (take-append-drop i text) ∙ ap (λ t. take i text ++ t) is

pub front_of : (text lines behind : List ℕ) → text ≡ lines ++ behind → take (length text - length behind) text ≡ lines
front_of text lines behind is =
    let len : length text - length behind ≡ length lines = omega (arith, ap length is, length-append lines behind) in
    rw (len, is) (take-append_seam lines behind)

pub rest_of : (text lines behind : List ℕ) → text ≡ lines ++ behind → drop (length text - length behind) text ≡ behind
rest_of text lines behind is =
    let len : length text - length behind ≡ length lines = omega (arith, ap length is, length-append lines behind) in
    rw (len, is) (drop-append_seam lines behind)

-- the end of a text, by its place
last_at : (b : ℕ) (text : List ℕ) → is_lined (b ∷ text) ≡ (slice_index (b ∷ text) (length text) == 10)
last_at b [] = refl
last_at b (c ∷ text) = last_at c text

pub last_byte : (text : List ℕ) → 0 < length text → is_lined text ≡ (slice_index text (length text - 1) == 10)
last_byte [] some = absurd (omega arith)
last_byte (b ∷ text) some = last_at b text ∙ ap (λ i. slice_index (b ∷ text) i == 10) (omega arith)

-- what stands behind a part that ends with a line feed, or with the text
pub behind_part : (all front text behind rest : List ℕ) (b : ℕ) → all ≡ front ++ b ∷ text
    → ((before : List ℕ) × (text ≡ before ++ 10 ∷ behind)) ⊎ (behind ≡ [])
    → rest ≡ drop (length text - length behind) text → IsBehindLines all rest
behind_part all front text behind rest b is (inl found) rest_is =
    let before = found.0 in
    let same : rest ≡ behind = rest_is ∙ rest_of text (before ++ 10 ∷ []) behind (found.1 ∙ sym (append_assoc before (10 ∷ []) behind)) in
    subst (IsBehindLines all) (sym same)
    (behind_feed all (front ++ b ∷ before) behind
    (is ∙ ap (λ t. front ++ b ∷ t) found.1 ∙ sym (append_assoc front (b ∷ before) (10 ∷ behind))))
behind_part all front text behind rest b is (inr none) rest_is =
    let same : rest ≡ [] = rest_is ∙ ap (λ t. drop (length text - length t) text) none ∙ rest_of text text [] (sym (append-nil text)) in
    subst (IsBehindLines all) (sym same) (behind_all all)

-- no lines are kept
pub keep_none : (kept between behind all : List ℕ) → IsReadTo kept between behind all → ((lines : List ℕ) → between ≡ lines ++ behind → length lines ≡ 0)
    → IsReadTo kept behind behind all
keep_none kept between behind all is none =
    keep kept between behind all kept is.is_all is.lines (sym (append-nil kept) ∙ ap (λ l. kept ++ lined l) (sym (nothing is.lines.0 (none is.lines.0 is.lines.1))))
  where
    nothing : (lines : List ℕ) → length lines ≡ 0 → lines ≡ []
    nothing [] is = refl
    nothing (b ∷ lines) is = absurd (omega arith)

-- an item is kept behind the lines in front of it, which were kept
pub keep_item : (kept rest between behind all kept_now between_now rest_now : List ℕ) → kept ++ lined between ≡ all
    → between ≡ rest → IsBehindLines rest behind
    → ((lines : List ℕ) → rest ≡ lines ++ behind → kept_now ≡ kept ++ lined lines)
    → between_now ≡ behind → rest_now ≡ behind → IsReadTo kept_now between_now rest_now all
keep_item kept rest between behind all kept_now between_now rest_now is_all same b item between_is rest_is =
    rw (between_is, rest_is)
    (keep kept rest behind all kept_now (ap (λ t. kept ++ lined t) (sym same) ∙ is_all) b (item b.0 b.1))

-- a whole text is read
pub nothing_read : (kept text : List ℕ) → IsReadTo kept text text (kept ++ lined text)
nothing_read kept text = record { is_all = refl; lines = nothing_between text }

pub all_read : (kept rest all : List ℕ) → kept ++ lined rest ≡ all → rest ≡ [] → kept ≡ all
all_read kept rest all is none = sym (ap (λ t. kept ++ lined t) none ∙ append-nil kept) ∙ is
