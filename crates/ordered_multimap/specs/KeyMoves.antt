-- What a call makes of the two lists that moves a key to an end. The key is told by a test, which
-- accepts it and those that are equal to it.
use Rattle.std.specs.Prelude.{◌≡◌, Bool, not, false, List, ◌++◌, filter}
use Rattle.ordered_multimap.specs.Lists.{Lists, lists}
use Rattle.ordered_multimap.specs.Multimap.{Multimap}
use Rattle.ordered_multimap.specs.Pairs.{is_present_where}
use Rattle.ordered_multimap.specs.Rooms.{SameNumbers}

module _ {K V : Type 0} (accepts : K → Bool) (m : Lists K V) where
  -- the accepted keys, in their order
  abbrev pub accepted_keys : List K
  accepted_keys = filter accepts m.keys

  -- the others, in their order
  abbrev pub other_keys : List K
  other_keys = filter (λ k. not (accepts k)) m.keys

  -- an accepted key goes behind the other keys, and the pairs stay
  abbrev pub moved_to_back_where : Lists K V
  moved_to_back_where = lists (other_keys ++ accepted_keys) m.pairs

  -- an accepted key goes before the other keys, and the pairs stay
  abbrev pub moved_to_front_where : Lists K V
  moved_to_front_where = lists (accepted_keys ++ other_keys) m.pairs

-- the keys were put in another order, if an accepted one is there, and nothing else has changed
pub record MovesKey {K V S : Type 0} (accepts : K → Bool) (after : Lists K V)
    (old new : Multimap K V S) : Type 0 where
  pub lists : new.lists ≡ after
  pub numbers : SameNumbers old new
  pub absent : is_present_where accepts old.lists.pairs ≡ false → new ≡ old
