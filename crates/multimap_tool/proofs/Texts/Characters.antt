-- Different characters have different texts.
use Rattle.std.proofs.Common.{◌≡◌, ℕ, ◌+◌, ◌/◌, Bool, true, false, cond, List, [], ◌∷◌, arith}
use Rattle.serde_json.specs.Data.{string}
use lib.Utf8.{encode, next}

-- the bytes of a character, where the tests of its size are answered so
of_size : Bool → Bool → Bool → ℕ → List ℕ
of_size one two three c =
    cond one (c ∷ []) (cond two ((192 + c / 64) ∷ next c ∷ [])
    (cond three ((224 + c / 4096) ∷ next (c / 64) ∷ next c ∷ []) ((240 + c / 262144) ∷ next (c / 4096) ∷ next (c / 64) ∷ next c ∷ [])))

same_of_size : (a b f x y z : Bool) (c d : ℕ) → of_size a b f c ≡ of_size x y z d → c ≡ d
unfolding of_size
same_of_size true b f true y z c d e = grind arith
same_of_size false true f false true z c d e = grind arith
same_of_size false false true false false true c d e = grind arith
same_of_size false false false false false false c d e = grind arith
same_of_size one two three x y z c d e = absurd (grind arith)

same_bytes : (c d : ℕ) → encode c ≡ encode d → c ≡ d
unfolding encode of_size
same_bytes c d e = same_of_size _ _ _ _ _ _ c d e

pub same_character : (c d : ℕ) → string (encode c) ≡ string (encode d) → c ≡ d
same_character c d e = same_bytes c d (grind arith)
