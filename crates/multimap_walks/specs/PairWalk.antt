-- What a walk over all pairs has left. Words of the walks for writing use `pairs_left`; no public
-- clause stands on the rest.
use Rattle.std.specs.Prelude.{List}
use Rattle.multimap_slots.specs.Slots.{Slots}
use Rattle.multimap_walks.specs.declared.links.ChainEnds.{ChainEnds}
use Rattle.multimap_walks.specs.declared.links.KeyLink.{KeyLink}
use Rattle.multimap_walks.specs.declared.links.ValueLink.{ValueLink}
use Rattle.multimap_walks.specs.Chained.{AreOwned, pair_at}
use Rattle.multimap_walks.specs.Along.{items_left, IsAlong}

module _ {K V : Type 0} (keys : Slots K KeyLink) (values : Slots V ValueLink) where
  -- the pairs of the values that are left
  abbrev pub pairs_left : ChainEnds → List (K × V)
  pairs_left = items_left values.order (pair_at keys values)

  -- a walk along a list of values, whose keys are listed
  pub record IsWalk (left : ChainEnds) : Type 0 where
    pub owned : AreOwned keys values
    pub along : IsAlong values.order (pair_at keys values) left
