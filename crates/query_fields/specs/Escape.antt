-- How a text stands in a query, byte by byte.
use Rattle.std.specs.Prelude.{ℕ, ◌+◌, ◌*◌, ◌/◌, ◌%◌, Bool, true, ◌&&◌, ◌||◌, ◌==◌, if◌then◌else◌}
use Rattle.std.specs.Prelude.{List, [], ◌∷◌, ◌++◌, Option, Some, None, option_map}
use Rattle.std.specs.Int.{is_in_range}
use Rattle.std.specs.List.{flat_map}
use Rattle.std.specs.Char.{digit_value, is_digit}
use Rattle.std.specs.Fmt.{digit_glyph}

-- a byte that is written as it is: a letter, a digit or one of `*-._`
abbrev pub is_plain : ℕ → Bool
is_plain b = is_in_range 65 90 b || is_in_range 97 122 b || is_in_range 48 57 b || b == 42
    || b == 45 || b == 46 || b == 95

-- `%` and the two upper-case hexadecimal digits of a byte
abbrev pub escape_of : ℕ → List ℕ
escape_of b = 37 ∷ digit_glyph true (b / 16) ∷ digit_glyph true (b % 16) ∷ []

-- a byte as it is written; a space is a `+`
unfoldable pub written_byte : ℕ → List ℕ
written_byte b = if is_plain b then b ∷ [] else (if b == 32 then 43 ∷ [] else escape_of b)

-- a text as it is written
abbrev pub written : List ℕ → List ℕ
written text = flat_map written_byte text

-- a byte that isn't `%`, as it is read
abbrev pub read_byte : ℕ → ℕ
read_byte b = if b == 43 then 32 else b

-- a byte, and then what is read behind it
abbrev pub before : ℕ → Option (List ℕ) → Option (List ℕ)
before b others = option_map (λ bytes. b ∷ bytes) others

-- what is read after the bytes that were read before
abbrev pub behind : List ℕ → Option (List ℕ) → Option (List ℕ)
behind bytes others = option_map (λ more. bytes ++ more) others

-- the bytes that an encoded text stands for, or none where an escape is bad
unfoldable pub read : List ℕ → Option (List ℕ)
read [] = Some []
read (b ∷ []) = if b == 37 then None else Some (read_byte b ∷ [])
read (b ∷ c ∷ []) = if b == 37 then None else before (read_byte b) (read (c ∷ []))
read (b ∷ high ∷ low ∷ rest) =
    if b == 37
    then (if is_digit high 16 && is_digit low 16
    then before (16 * digit_value high + digit_value low) (read rest) else None)
    else before (read_byte b) (read (high ∷ low ∷ rest))

-- the bytes that any bytes stand for, where a `%` without two digits stands for itself
unfoldable pub read_any : List ℕ → List ℕ
read_any [] = []
read_any (b ∷ []) = read_byte b ∷ []
read_any (b ∷ c ∷ []) = read_byte b ∷ read_any (c ∷ [])
read_any (b ∷ high ∷ low ∷ rest) =
    if b == 37 && (is_digit high 16 && is_digit low 16)
    then (16 * digit_value high + digit_value low) ∷ read_any rest
    else read_byte b ∷ read_any (high ∷ low ∷ rest)
