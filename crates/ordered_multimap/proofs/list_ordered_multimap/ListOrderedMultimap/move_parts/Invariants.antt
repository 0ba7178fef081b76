use Rattle.std.proofs.Common.{length}
use Rattle.ordered_multimap.proofs.Append.OtherMap.{IsMoving}
use Rattle.ordered_multimap.proofs.list_ordered_multimap.ListOrderedMultimap.move_parts.Given as goal

-- the pairs that were taken out of the other map were put last
abbrev pub invariant-loop-place : goal.invariant-loop-place
invariant-loop-place g l = IsMoving g.K.PartialEq.eq l.replaces l.fn.self l.self l.fn.keys l.keys l.fn.values l.values

abbrev pub decreases-loop-place : goal.decreases-loop-place
decreases-loop-place g l = length l.values.list.order
