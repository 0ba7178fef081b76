-- Parts of a text that are texts, and characters, which have bytes.
use Rattle.std.proofs.Common.{◌≡◌, ◌≢◌, ℕ, suc, zero, ◌<◌, List, [], ◌∷◌, ◌++◌, ap, append-nil, subst, arith, get_or, length, length-append}
use Rattle.std.proofs.Math.Seq.{drop-append_seam, get_or-append_seam, take-append_seam}
use Rattle.std.proofs.lemmas.Str.{IsCharBoundary-after_ascii, IsCharBoundary-before_ascii, IsUtf8-append, IsUtf8-drop, IsUtf8-from_ascii}
use Rattle.std.proofs.lemmas.Str.{IsUtf8-take, len_utf8_bounds, length-encode}
use Rattle.std.specs.Char.{encode_utf8}
use Rattle.std.specs.Prelude.{slice_index, IsUtf8}

-- the parts of a text around an ASCII byte are texts
pub utf8_before : (front : List ℕ) (b : ℕ) (rest : List ℕ) → IsUtf8 (front ++ b ∷ rest) → b < 128 → IsUtf8 front
utf8_before front b rest utf8 small =
    let at : get_or (front ++ b ∷ rest) (length front) 0 ≡ b = get_or-append_seam front b rest 0 in
    subst IsUtf8 (take-append_seam front (b ∷ rest))
    (IsUtf8-take (front ++ b ∷ rest) (length front) utf8
    (IsCharBoundary-before_ascii (front ++ b ∷ rest) (length front) (omega (arith, length-append front (b ∷ rest)))
    (omega (arith, at, small))))

pub utf8_from : (front : List ℕ) (b : ℕ) (rest : List ℕ) → IsUtf8 (front ++ b ∷ rest) → b < 128 → IsUtf8 (b ∷ rest)
utf8_from front b rest utf8 small =
    let at : get_or (front ++ b ∷ rest) (length front) 0 ≡ b = get_or-append_seam front b rest 0 in
    subst IsUtf8 (drop-append_seam front (b ∷ rest))
    (IsUtf8-drop (front ++ b ∷ rest) (length front) utf8
    (IsCharBoundary-before_ascii (front ++ b ∷ rest) (length front) (omega (arith, length-append front (b ∷ rest)))
    (omega (arith, at, small))))

-- the text behind an ASCII byte, and the text without that byte
pub utf8_behind : (front : List ℕ) (b : ℕ) (rest : List ℕ) → IsUtf8 (front ++ b ∷ rest) → b < 128 → IsUtf8 rest
utf8_behind front b rest utf8 small =
    let from : IsUtf8 (b ∷ rest) = utf8_from front b rest utf8 small in
    IsUtf8-drop (b ∷ rest) 1 from (IsCharBoundary-after_ascii (b ∷ rest) 0 from (omega arith) small)

pub without : (front : List ℕ) (b : ℕ) (rest : List ℕ) → IsUtf8 (front ++ b ∷ rest) → b < 128 → IsUtf8 (front ++ rest)
without front b rest utf8 small = IsUtf8-append front rest (utf8_before front b rest utf8 small) (utf8_behind front b rest utf8 small)

pub one_byte : (b : ℕ) → b < 128 → IsUtf8 (b ∷ [])
one_byte b small = IsUtf8-from_ascii (b ∷ []) below
  where
    below : (i : ℕ) → slice_index (b ∷ []) i < 128
    below zero = small
    below (suc i) = omega arith

-- it begins with an ASCII byte, if with any
abbrev pub BeginsSmall : List ℕ → Type 0
BeginsSmall [] = Unit {0}
BeginsSmall (b ∷ rest) = b < 128

pub front_text : (front rest : List ℕ) → IsUtf8 (front ++ rest) → BeginsSmall rest → IsUtf8 front
front_text front [] utf8 small = subst IsUtf8 (append-nil front) utf8
front_text front (b ∷ rest) utf8 small = utf8_before front b rest utf8 small

-- a character has a byte
pub encoded_some : (c : ℕ) → encode_utf8 c ≢ []
encoded_some c is = absurd (omega (arith, ap length is, length-encode c, (len_utf8_bounds c).0))
