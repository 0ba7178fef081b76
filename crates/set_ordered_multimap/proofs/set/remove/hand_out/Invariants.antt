use Rattle.std.proofs.Common.{length}
use Rattle.std.specs.List.{FoldsTo}
use Rattle.ordered_multimap.specs.Drains.{drain_left, KeepsMap}
use Rattle.set_ordered_multimap.proofs.set.remove.hand_out.Given as goal

-- the map is as it was, and whatever calls on the values that are left end in is what calls on all values end in
abbrev pub invariant-loop-value : goal.invariant-loop-value
invariant-loop-value g l =
    goal.F-IsAlwaysCallable g l.f × KeepsMap l.initial.drain l.drain
    × ((last : _) → FoldsTo (λ p v q. goal.F-step g p v tt q) l.f (drain_left l.drain) last
    → FoldsTo (λ p v q. goal.F-step g p v tt q) l.fn.f (drain_left l.initial.drain) last)

abbrev pub decreases-loop-value : goal.decreases-loop-value
decreases-loop-value g l = length (drain_left l.drain)
