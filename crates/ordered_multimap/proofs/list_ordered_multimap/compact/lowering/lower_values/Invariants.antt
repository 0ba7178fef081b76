use Rattle.std.proofs.Common.{◌≡◌, ◌+◌}
use Rattle.multimap_slots.specs.Tapes.{KeepsCapacity}
use Rattle.ordered_multimap.specs.Private.Lowered.{LowersFirst}
use Rattle.ordered_multimap.proofs.list_ordered_multimap.compact.lowering.lower_values.Given as goal

abbrev pub invariant-loop-to : goal.invariant-loop-to
invariant-loop-to g l = record {
  lowers : LowersFirst l.by l.fn.values.list l.values.list l.to;
  moved : l.values.moved ≡ l.fn.values.moved + l.to;
  freed : l.values.freed ≡ l.fn.values.freed;
  holes : l.values.holes ≡ l.fn.values.holes;
  capacity : KeepsCapacity l.fn.values l.values;
}
