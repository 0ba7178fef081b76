use Rattle.ordered_multimap.proofs.Callers.Places.{places_from}
use Rattle.ordered_multimap.proofs.Compact.LoweredKeys.{AreLowering}
use Rattle.ordered_multimap.proofs.list_ordered_multimap.compact.lowering.lower_keys.Given as goal

abbrev pub invariant-loop-following : goal.invariant-loop-following
invariant-loop-following g l = AreLowering l.by l.fn.keys l.keys l.following

abbrev pub decreases-loop-following : goal.decreases-loop-following
decreases-loop-following g l = places_from l.fn.keys.order l.following
