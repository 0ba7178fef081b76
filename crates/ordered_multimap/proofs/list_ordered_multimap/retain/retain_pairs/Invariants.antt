use Rattle.std.specs.Map.Calls.{CalledAtPair, TakesPair}
use Rattle.ordered_multimap.specs.Private.Remove.{KeepsRoom}
use Rattle.ordered_multimap.proofs.Callers.Places.{places_from}
use Rattle.ordered_multimap.proofs.Remove.Retaining.{IsRetaining}
use Rattle.ordered_multimap.proofs.Remove.RetainingStep.{CountsLeft}
use Rattle.ordered_multimap.proofs.list_ordered_multimap.retain.retain_pairs.Given as goal

abbrev pub invariant-loop-following : goal.invariant-loop-following
invariant-loop-following g l = record {
  retaining : IsRetaining (CalledAtPair g.F.FnMut) g.K.PartialEq.eq (TakesPair g.F.FnMut)
      l.fn.keys l.keys l.fn.table.rows l.table.rows l.fn.values.list l.values.list l.fn.f l.f l.following;
  counts : CountsLeft l.fn.values l.values;
  room : KeepsRoom l.fn.keys l.keys l.fn.table l.table l.fn.values l.values;
}

abbrev pub decreases-loop-following : goal.decreases-loop-following
decreases-loop-following g l = places_from l.values.list.order l.following
