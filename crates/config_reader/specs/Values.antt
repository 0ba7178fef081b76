-- How a value stands behind `=`, byte by byte.
use Rattle.std.specs.Prelude.{ℕ, Bool, true, false, ◌&&◌, ◌||◌, ◌==◌, not, if◌then◌else◌}
use Rattle.std.specs.Prelude.{List, [], ◌∷◌, ◌++◌, Option, Some, None, option_and_then}
use Rattle.std.specs.Prelude.{drop}
use Rattle.std.specs.List.{flat_map, list_any}
use Rattle.config_reader.specs.declared.value.Effect.{Effect}
use Rattle.config_reader.specs.declared.value.Effect.TheVariants.{Add, Blank, Keep, Skip}
use Rattle.config_reader.specs.declared.value.Mode.{Mode}
use Rattle.config_reader.specs.declared.value.Mode.TheVariants.{Comment, Gap, Word, WordEscape}
use Rattle.config_reader.specs.declared.value.Mode.TheVariants.{WordJoin, Quotes, QuotesEscape}
use Rattle.config_reader.specs.declared.value.Mode.TheVariants.{Joined, QuotesJoin}

-- a space, a tab, a line feed or a carriage return
abbrev pub is_blank : ℕ → Bool
is_blank b = b == 32 || b == 9 || b == 10 || b == 13

-- a `#` or a `;`
abbrev pub is_mark : ℕ → Bool
is_mark b = b == 35 || b == 59

-- what a byte does outside of quotes that is no mark, and what the next one belongs to
abbrev pub step_in_plain : ℕ → Mode × Effect
step_in_plain b =
    if b == 34 then (Quotes, Keep) else
    if b == 92 then (WordEscape, Keep) else
    if is_blank b then (Gap, Blank) else (Word, Add b)

-- the same in quotes
abbrev pub step_in_quotes : ℕ → Mode × Effect
step_in_quotes b =
    if b == 34 then (Word, Skip) else
    if b == 92 then (QuotesEscape, Skip) else (Quotes, Add b)

-- the same behind a backslash, and behind that byte again what stood in front of the backslash; or
-- none where the byte is at fault
abbrev pub step_in_escape : Mode → ℕ → Option (Mode × Effect)
step_in_escape within b =
    if b == 34 || b == 92 then Some (within, Add b) else
    if b == 110 then Some (within, Add 10) else
    if b == 116 then Some (within, Add 9) else
    if b == 98 then Some (within, Add 8) else None

-- what a byte does, and what the next one belongs to, or none where the byte is at fault
abbrev pub stepped : Mode → ℕ → Option (Mode × Effect)
stepped Comment b = Some (Comment, Skip)
stepped Gap b = if is_mark b then Some (Comment, Skip) else Some (step_in_plain b)
stepped Word b = if is_mark b then None else Some (step_in_plain b)
stepped Joined b = if is_mark b then None else Some (step_in_plain b)
stepped Quotes b = Some (step_in_quotes b)
stepped WordEscape b =
    if b == 13 then Some (WordJoin, Skip) else
    if b == 10 then Some (Joined, Skip) else step_in_escape Word b
stepped WordJoin b = if b == 10 then Some (Joined, Skip) else None
stepped QuotesEscape b =
    if b == 13 then Some (QuotesJoin, Skip) else
    if b == 10 then Some (Quotes, Skip) else step_in_escape Quotes b
stepped QuotesJoin b = if b == 10 then Some (Quotes, Skip) else None

-- whether a line feed there ends the value
abbrev pub ends_value : Mode → Bool
ends_value WordEscape = false
ends_value WordJoin = false
ends_value QuotesEscape = false
ends_value QuotesJoin = false
ends_value mode = true

-- whether a value may end in front of this rest; the line that a backslash joins has to be there
abbrev pub may_end : Mode → List ℕ → Bool
may_end Gap rest = true
may_end Word rest = true
may_end Comment rest = true
may_end Joined [] = false
may_end Joined (b ∷ rest) = true
may_end mode rest = false

-- the value, and the blanks behind it, once a byte had this effect
abbrev pub affected : Effect → ℕ → List ℕ → List ℕ → List ℕ × List ℕ
affected Skip b value gap = (value, gap)
affected Blank b [] gap = ([], gap)
affected Blank b (first ∷ value) gap = (first ∷ value, gap ++ b ∷ [])
affected Keep b value gap = (value ++ gap, [])
affected (Add c) b value gap = ((value ++ gap) ++ c ∷ [], [])

-- the value, where it may end, and what stands behind the line feed that ends it
abbrev pub ended : Mode → List ℕ → List ℕ → Option (List ℕ × List ℕ)
ended mode value rest = if may_end mode rest then Some (value, drop 1 rest) else None

-- the value of which a part is read, and what stands behind the line feed that ends it
unfoldable pub read_on : Mode → List ℕ → List ℕ → List ℕ → Option (List ℕ × List ℕ)
read_on mode value gap [] = ended mode value []
read_on mode value gap (b ∷ rest) =
    if b == 10 && ends_value mode then ended mode value (b ∷ rest) else
    option_and_then (λ step.
    read_on step.0 (affected step.1 b value gap).0 (affected step.1 b value gap).1 rest)
    (stepped mode b)

-- the value that a text begins with, and what stands behind it; none where a byte is at fault
abbrev pub value_read : List ℕ → Option (List ℕ × List ℕ)
value_read text = read_on Gap [] [] text

-- whether a byte has a meaning of its own outside of quotes, or is a blank other than a space; to
-- some readers a form feed is a blank
abbrev pub is_special : ℕ → Bool
is_special b = b == 34 || b == 92 || is_mark b || b == 12 || is_blank b && not (b == 32)

-- whether the first byte is a space, and whether the last one is
abbrev pub begins_blank : List ℕ → Bool
begins_blank [] = false
begins_blank (b ∷ bytes) = b == 32

abbrev pub ends_blank : List ℕ → Bool
ends_blank [] = false
ends_blank (b ∷ []) = b == 32
ends_blank (b ∷ c ∷ bytes) = ends_blank (c ∷ bytes)

-- whether a value can stand without quotes
abbrev pub is_plain : List ℕ → Bool
is_plain value =
    not (begins_blank value) && not (ends_blank value) && not (list_any is_special value)

-- a byte as it is written between quotes
unfoldable pub quoted_byte : ℕ → List ℕ
quoted_byte b =
    if b == 34 then 92 ∷ 34 ∷ [] else
    if b == 92 then 92 ∷ 92 ∷ [] else
    if b == 10 then 92 ∷ 110 ∷ [] else
    if b == 9 then 92 ∷ 116 ∷ [] else b ∷ []

-- a value as it is written
abbrev pub written : List ℕ → List ℕ
written value =
    if is_plain value then value else 34 ∷ (flat_map quoted_byte value ++ 34 ∷ [])
