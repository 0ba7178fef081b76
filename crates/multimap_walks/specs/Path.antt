-- Places in a row, each of which names its neighbours.
use Rattle.std.specs.Prelude.{◌≡◌, ℕ, zero, suc, List, [], ◌∷◌, length, reverse, Option, Some}
use Rattle.std.specs.Prelude.{IfSome, unwrap_or}
use Rattle.multimap_slots.specs.Lists.{IsIn, first_of, last_of}

-- n places from p on, each the one that the place before it names
abbrev pub path : (ℕ → Option ℕ) → ℕ → ℕ → List ℕ
path names p zero = []
path names p (suc n) = p ∷ path names (unwrap_or (names p) p) n

-- each place but the last names the one behind it
abbrev pub Leads : (ℕ → Option ℕ) → List ℕ → Type 0
Leads names [] = Unit {0}
Leads names (p ∷ places) = IfSome (first_of places) (λ q. names p ≡ Some q) × Leads names places

-- n places from the front to the back, each of which names the next one and the one before it, and
-- at each of which stands what is wanted
pub record IsPath (stands : ℕ → Type 0) (next previous : ℕ → Option ℕ)
    (front back n : ℕ) : Type 0 where
  pub places : List ℕ
  pub onward : Leads next places
  pub backward : Leads previous (reverse places)
  pub first : IfSome (first_of places) (λ p. p ≡ front)
  pub last : IfSome (last_of places) (λ p. p ≡ back)
  pub count : length places ≡ n
  pub there : (p : ℕ) → IsIn p places → stands p
