-- What a walk that reads what one for writing has not lent yet has left.
use Rattle.std.specs.Prelude.{List, false}
use Rattle.multimap_slots.specs.Slots.{Slots, IsSound, item_at}
use Rattle.multimap_slots.specs.SlotCells.{lent_slots}
use Rattle.multimap_slots.specs.declared.cells_of.SlotCells.{SlotCells}
use Rattle.multimap_walks.specs.declared.links.ChainEnds.{ChainEnds}
use Rattle.multimap_walks.specs.declared.links.KeyLink.{KeyLink}
use Rattle.multimap_walks.specs.declared.links.ValueLink.{ValueLink}
use Rattle.multimap_walks.specs.Along.{items_left}
use Rattle.multimap_walks.specs.Chained.{AreOwned, IsChain, places_along, values_at}
use Rattle.multimap_walks.specs.Lending.{AreUntaken, CanLend}
use Rattle.multimap_walks.specs.PairWalk.{pairs_left}

module _ {V A F : Type 0} (cells : SlotCells V ValueLink A F) (left : ChainEnds) where
  -- the values left, as they were when lent
  abbrev pub values_rest : List V
  values_rest = items_left (lent_slots cells).order (item_at (lent_slots cells)) left

  -- the pairs of the values left, as they were when lent
  abbrev pub pairs_rest : {K : Type 0} → Slots K KeyLink → List (K × V)
  pairs_rest keys = pairs_left keys (lent_slots cells) left

  -- the pairs may be read: their values weren't taken, and each value's key is listed
  pub record CanReadPairs {K : Type 0} (keys : Slots K KeyLink) : Type 0 where
    pub sound : IsSound keys
    pub owned : AreOwned keys (lent_slots cells)
    pub lends : CanLend cells left

  -- the values left of a key, along their links
  abbrev pub entry_rest : List V
  entry_rest = values_at (lent_slots cells) (places_along (lent_slots cells) left.first left.length)

  -- they may be read: they are a chain, and weren't taken
  pub record CanReadChain : Type 0 where
    pub chain : IsChain (lent_slots cells) false left.first left.last left.length
    pub untaken : AreUntaken cells (places_along (lent_slots cells) left.first left.length)
