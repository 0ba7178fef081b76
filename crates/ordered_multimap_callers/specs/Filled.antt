-- What of the lists stays where values alone are written.
use Rattle.std.specs.Prelude.{◌≡◌, length}
use Rattle.std.specs.Map.{keys_of}
use Rattle.ordered_multimap.specs.Lists.{Lists}

-- the keys stay in their order, and so do the keys of the pairs
pub record KeepsKeys {K V : Type 0} (old new : Lists K V) : Type 0 where
  pub keys : new.keys ≡ old.keys
  pub pairs : length new.pairs ≡ length old.pairs
  pub pair_keys : keys_of new.pairs ≡ keys_of old.pairs
