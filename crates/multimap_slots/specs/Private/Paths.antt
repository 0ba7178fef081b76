-- Places that follow each other. `None` stands for the list's own end, on either side.
-- No public clause cites this module.
use Rattle.std.specs.Prelude.{◌≡◌, ◌≢◌, ℕ, zero, suc, List, [], ◌∷◌, Option, Some, None, get_or}

-- the place after this one, or the first; the same backwards
abbrev pub after : Option ℕ → List (Option ℕ) → Option ℕ → Option ℕ
after first nexts None = first
after first nexts (Some p) = get_or nexts p None

-- one function is the other with a new value at one argument
pub record IsMoved (old new : Option ℕ → Option ℕ) (from to : Option ℕ) : Type 0 where
  pub moved : new from ≡ to
  pub kept : (x : Option ℕ) → x ≢ from → new x ≡ old x

-- forth leads from a through the places to the end, and back leads back
abbrev pub IsPath : (Option ℕ → Option ℕ) → (Option ℕ → Option ℕ) → Option ℕ → List ℕ → Type 0
IsPath forth back a [] = (forth a ≡ None) × (back None ≡ a)
IsPath forth back a (p ∷ ps) =
    (forth a ≡ Some p) × (back (Some p) ≡ a) × IsPath forth back (Some p) ps

-- the places that forth leads to from a, at most so many
abbrev pub walk : (Option ℕ → Option ℕ) → Option ℕ → ℕ → List ℕ
walk forth a zero = []
walk forth a (suc n) = elim (forth a) [ None ↦ [] | Some p ↦ p ∷ walk forth (Some p) n ]
