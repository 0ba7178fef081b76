-- What is cut from an input and from its lines.
use Rattle.std.specs.Prelude.{ℕ, ◌-◌, List, [], ◌∷◌, drop, if◌then◌else◌, length, take}
use Rattle.std.specs.Str.{bytes_eq}

-- the input without a byte order mark at its start
abbrev pub without_mark : List ℕ → List ℕ
without_mark input =
    if bytes_eq (take 3 input) (239 ∷ 187 ∷ 191 ∷ []) then drop 3 input else input

-- the byte order mark at the input's start, or nothing
abbrev pub mark_of : List ℕ → List ℕ
mark_of input =
    if bytes_eq (take 3 input) (239 ∷ 187 ∷ 191 ∷ []) then 239 ∷ 187 ∷ 191 ∷ [] else []

-- the line without one carriage return at its end
abbrev pub without_return : List ℕ → List ℕ
without_return line =
    if bytes_eq (drop (length line - 1) line) (13 ∷ []) then take (length line - 1) line else line
