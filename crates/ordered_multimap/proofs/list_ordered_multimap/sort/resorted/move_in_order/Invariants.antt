use Rattle.ordered_multimap.specs.Private.Append.{KeepsTapeRoom}
use Rattle.ordered_multimap.proofs.PairSorts.Resorting.{AreResorting}
use Rattle.ordered_multimap.proofs.list_ordered_multimap.sort.resorted.move_in_order.Given as goal

abbrev pub invariant-loop-index : goal.invariant-loop-index
invariant-loop-index g l = record {
  resorting : AreResorting l.places l.index l.fn.keys l.keys l.fn.values.list l.values.list l.sorted.list;
  room : KeepsTapeRoom l.fn.sorted l.sorted;
}
