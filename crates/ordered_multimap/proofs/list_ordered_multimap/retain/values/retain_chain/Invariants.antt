use Rattle.ordered_multimap.specs.Agrees.{HasKey}
use Rattle.ordered_multimap.specs.Private.Remove.{KeepsRoom}
use Rattle.ordered_multimap.proofs.Callers.Places.{places_from}
use Rattle.ordered_multimap.proofs.Remove.RetainingKey.{IsRetainingKey}
use Rattle.ordered_multimap.proofs.Remove.RetainingStep.{CountsLeft}
use Rattle.ordered_multimap.proofs.list_ordered_multimap.retain.values.retain_chain.Given as goal

abbrev pub invariant-loop-following : goal.invariant-loop-following
invariant-loop-following g l = record {
  retaining : (k : g.row.K.Denot) → HasKey g.K.PartialEq.eq l.fn.keys k l.key_place
      → IsRetainingKey g.F.FnMut g.K.PartialEq.eq k l.fn.keys l.fn.table.rows l.fn.values.list l.fn.f
      l.keys l.table.rows l.values.list l.f l.following;
  counts : CountsLeft l.fn.values l.values;
  room : KeepsRoom l.fn.keys l.keys l.fn.table l.table l.fn.values l.values;
}

abbrev pub decreases-loop-following : goal.decreases-loop-following
decreases-loop-following g l = places_from l.values.list.order l.following
