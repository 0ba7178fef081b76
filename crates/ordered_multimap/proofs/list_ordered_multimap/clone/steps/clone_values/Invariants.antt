use Rattle.ordered_multimap.specs.Private.Append.{KeepsTapeRoom}
use Rattle.ordered_multimap.specs.Private.Copies.{IsValueCopy}
use Rattle.ordered_multimap.specs.Private.KeyRelocations.{new_place_in}
use Rattle.ordered_multimap.proofs.Callers.Places.{places_from}
use Rattle.ordered_multimap.proofs.Clone.Copying.{AreCopying}
use Rattle.ordered_multimap.proofs.list_ordered_multimap.clone.steps.clone_values.Given as goal

abbrev pub invariant-loop-following : goal.invariant-loop-following
invariant-loop-following g l = record {
  copying : AreCopying (IsValueCopy g.V.Clone.is_clone (new_place_in l.new_places.items) (g.R.Ranks.rank l.ranks) l.values.list)
      (g.R.Ranks.rank l.ranks) l.values.list.order l.following l.copies.list;
  room : KeepsTapeRoom l.fn.copies l.copies;
}

abbrev pub decreases-loop-following : goal.decreases-loop-following
decreases-loop-following g l = places_from l.values.list.order l.following
