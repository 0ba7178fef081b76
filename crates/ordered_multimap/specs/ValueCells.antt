-- The right to write a map's values, and the iterator that has it over one key's, as contracts see
-- them: the map's tape keeps the link of a value in three words.
use Rattle.multimap_slots.specs.declared.cells_of.SlotCells.{SlotCells}
use Rattle.multimap_walks.specs.declared.links.ValueLink.{ValueLink}
use Rattle.multimap_walks.specs.declared.packed.PackedLink.{PackedLink}
use Rattle.multimap_walks.specs.declared.writing.chain.EntryValuesMut.{EntryValuesMut}
use Rattle.multimap_walks.specs.contracts.packed.PackedLinkLinkFormValueLink.TheImpl.{ghosts}

-- the right to write the values
abbrev pub ValueCells : Type 0 → Type 0 → Type 0
ValueCells V A = SlotCells V ValueLink A PackedLink

-- the iterator over one key's values
abbrev pub EntryWalk : Type 0 → Type 0 → Type 0 → Type 0
EntryWalk K V A = EntryValuesMut K V A PackedLink ghosts
