use Rattle.std.proofs.Common.{ℕ, ◌<◌}
use Rattle.multimap_table.specs.Private.Layout.{distance, group_count, IsFull}
use Rattle.multimap_table.proofs.probe.lane_with_room.Given as goal

abbrev pub invariant-loop-steps : goal.invariant-loop-steps
invariant-loop-steps l = (group : ℕ) → group < group_count l.tags → distance (group_count l.tags) l.start group < l.steps
    → IsFull l.tags group
