use Rattle.std.proofs.Common.{◌≡◌, ◌+◌, length}
use Rattle.ordered_multimap.specs.OneValue.{index_of}
use Rattle.ordered_multimap.proofs.list_ordered_multimap.remove.value.index_of.Given as goal

-- the first equal value is so far behind those that were passed as it is among those that are left
abbrev pub invariant-loop-stored : goal.invariant-loop-stored
invariant-loop-stored g l = record {
  found : index_of (g.V.PartialEq.eq l.value) l.fn.values.left
      ≡ l.index + index_of (g.V.PartialEq.eq l.value) l.stored-iterator.left;
  passed : l.index + length l.stored-iterator.left ≡ length l.fn.values.left;
}
