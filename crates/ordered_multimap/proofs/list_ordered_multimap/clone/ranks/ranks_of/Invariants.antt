use Rattle.ordered_multimap.proofs.Clone.Ranks.{AreNoted}
use Rattle.ordered_multimap.proofs.list_ordered_multimap.clone.ranks.ranks_of.Given as goal

abbrev pub invariant-loop-place : goal.invariant-loop-place
invariant-loop-place g l = record {
  noted : AreNoted l.values.list.order l.ranks.items l.rank l.place;
}
