use Rattle.std.proofs.Common.{rules}
use Rattle.multimap_slots.proofs.cells.Cells.read.Goals as goal

pub slot-requires : goal.slot-requires
slot-requires g c = search rules

pub unreachable-requires : goal.unreachable-requires
unreachable-requires g c = search rules

pub returns : goal.returns
returns g c = search rules
