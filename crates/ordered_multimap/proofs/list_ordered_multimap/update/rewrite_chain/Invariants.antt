use Rattle.multimap_walks.specs.Chained.{chain_of}
use Rattle.ordered_multimap.proofs.Update.Rewriting.{IsRewriting}
use Rattle.ordered_multimap.specs.Private.Append.{KeepsTapeRoom}
use Rattle.ordered_multimap.proofs.Callers.Places.{places_from}
use Rattle.ordered_multimap.proofs.list_ordered_multimap.update.rewrite_chain.Given as goal

abbrev pub invariant-loop-following : goal.invariant-loop-following
invariant-loop-following g l = record {
  rewriting : IsRewriting g.F.FnMut l.keys l.fn.values.list l.key_place g.K.PartialEq.eq l.table.rows l.values.list l.fn.f l.f l.following;
  room : KeepsTapeRoom l.fn.values l.values;
}

abbrev pub decreases-loop-following : goal.decreases-loop-following
decreases-loop-following g l = places_from (chain_of l.fn.values.list l.key_place) l.following
