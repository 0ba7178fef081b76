use Rattle.std.proofs.Common.{ℕ, ◌*◌, ◌≤◌, ◌<◌, get_or}
use Rattle.multimap_table.specs.Private.Layout.{Passes}
use Rattle.multimap_table.proofs.remove.row_that_passes.Given as goal

abbrev pub invariant-loop-lane : goal.invariant-loop-lane
invariant-loop-lane l = (lane : ℕ) → 16 * l.group ≤ lane → lane < l.lane → 0 < get_or l.tags lane 0 → Passes l.tags l.rows lane l.earlier
    → ⊥
