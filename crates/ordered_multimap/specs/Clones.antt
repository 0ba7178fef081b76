-- How the lists of a clone relate to the lists of the original.
use Rattle.std.specs.Prelude.{◌≡◌, Bool, true}
use Rattle.std.specs.List.{AllZip}
use Rattle.ordered_multimap.specs.Lists.{Lists}

module _ {K : Type 0} (eq : K → K → Bool) (key_clone : K → K → Type 0) where
  -- a clone of the key that is equal to it
  abbrev pub IsKeyClone : K → K → Type 0
  IsKeyClone k c = key_clone k c × (eq k c ≡ true)

  module _ {V : Type 0} (value_clone : V → V → Type 0) where
    -- a pair of a clone of the key that is equal to it, and a clone of the value
    abbrev pub IsPairClone : K × V → K × V → Type 0
    IsPairClone p c = IsKeyClone p.0 c.0 × value_clone p.1 c.1

    -- both lists are as long, with a clone of the key or pair at each position
    pub record AreClones (m n : Lists K V) : Type 0 where
      pub keys : AllZip IsKeyClone m.keys n.keys
      pub pairs : AllZip IsPairClone m.pairs n.pairs
