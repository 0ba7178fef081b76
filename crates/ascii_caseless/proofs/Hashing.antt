-- What a hasher is fed of a text in lower case.
use Rattle.std.proofs.Common.{◌≡◌, ℕ, List, [], ◌∷◌, refl, map}
use Rattle.std.specs.Char.{to_ascii_lowercase}
use Rattle.std.specs.Hash as fed
use Rattle.std.specs.List.{flat_map, fold}

-- a hasher that is fed the bytes one by one
abbrev pub after_lowercase : {S : Type 0} → (S → List ℕ → S) → S → List ℕ → S
after_lowercase write state bytes = fold (λ s byte. write s (to_ascii_lowercase byte ∷ [])) state bytes

pub fed_lowercase : {S : Type 0} (write : S → List ℕ → S) (state : S) (bytes : List ℕ)
    → after_lowercase write state bytes ≡ fold write state (flat_map fed.u8 (map to_ascii_lowercase bytes))
fed_lowercase write state [] = refl
fed_lowercase write state (byte ∷ bytes) = fed_lowercase write (write state (to_ascii_lowercase byte ∷ [])) bytes
