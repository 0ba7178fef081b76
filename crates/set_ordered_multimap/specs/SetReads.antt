-- What a look-up tells of a set.
use Rattle.std.specs.Prelude.{◌≡◌, ◌≤◌, ◌↔◌, ℕ, [], Bool, IsTrue, length}
use Rattle.ordered_multimap.specs.Lists.{Lists, IsWellFormed}

module _ {K V : Type 0} (eq : K → K → Bool) (m : Lists K V) where
  -- so many keys are listed, and the lists are well formed
  pub record TellsKeys (count : ℕ) : Type 0 where
    pub len : count ≡ length m.keys
    pub well_formed : IsWellFormed eq m

  -- whether no pair is listed, and the lists are well formed
  pub record TellsEmpty (is_empty : Bool) : Type 0 where
    pub empty : IsTrue is_empty ↔ (m.pairs ≡ [])
    pub well_formed : IsWellFormed eq m

-- so many fit in this room, which has those that are there
pub record TellsRoom (room count told : ℕ) : Type 0 where
  pub capacity : told ≡ room
  pub fits : count ≤ room
