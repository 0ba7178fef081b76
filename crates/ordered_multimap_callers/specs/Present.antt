-- What a call leaves that changes the lists where its key is present.
use Rattle.std.specs.Prelude.{◌≡◌, Bool, true, false}
use Rattle.ordered_multimap.specs.Lists.{Lists}
use Rattle.ordered_multimap.specs.Pairs.{is_present}

-- the lists are these where the key is present, and as they were where it is absent
pub record ChangesPresent {K V : Type 0} (eq : K → K → Bool) (old new : Lists K V) (key : K)
    (changed : Lists K V) : Type 0 where
  pub present : is_present eq old.pairs key ≡ true → new ≡ changed
  pub absent : is_present eq old.pairs key ≡ false → new ≡ old
