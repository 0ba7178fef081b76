-- A text as lines, and what is read of it.
use Rattle.std.specs.List.{after_first, before_first}
use Rattle.std.specs.Str.{trim}
use Rattle.config_reader.specs.Values.{is_mark}
use Rattle.std.specs.Prelude.{◌≡◌, ◌⊎◌, ℕ, Bool, true, ◌==◌, if◌then◌else◌, List, [], ◌∷◌, ◌++◌}

-- the first line of a text without its line feed, and what stands behind that
abbrev pub first_line : List ℕ → List ℕ
first_line text = before_first (λ b. b == 10) text

abbrev pub behind_line : List ℕ → List ℕ
behind_line text = after_first (λ b. b == 10) text

-- whether a line is empty or a comment
abbrev pub begins_nothing : List ℕ → Bool
begins_nothing [] = true
begins_nothing (b ∷ word) = is_mark b

abbrev pub says_nothing : List ℕ → Bool
says_nothing line = begins_nothing (trim line)

-- whether the text is empty or ends with a line feed
abbrev pub is_lined : List ℕ → Bool
is_lined [] = true
is_lined (b ∷ []) = b == 10
is_lined (b ∷ c ∷ text) = is_lined (c ∷ text)

-- the text, with a line feed behind its last line
abbrev pub lined : List ℕ → List ℕ
lined text = if is_lined text then text else text ++ 10 ∷ []

-- the text is whole lines and then the rest; only the last line may lack a line feed
abbrev pub IsBehindLines : List ℕ → List ℕ → Type 0
IsBehindLines text rest =
    (lines : List ℕ) × (text ≡ lines ++ rest) × ((is_lined lines ≡ true) ⊎ (rest ≡ []))

-- all of a text: the lines that are kept, those that are read but not kept yet, and the rest
pub record IsReadTo (kept between rest all : List ℕ) : Type 0 where
  pub is_all : kept ++ lined between ≡ all
  pub lines : IsBehindLines between rest
