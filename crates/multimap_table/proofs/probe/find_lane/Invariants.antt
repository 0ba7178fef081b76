use Rattle.std.proofs.Common.{ℕ, ◌/◌, ◌<◌, false}
use Rattle.multimap_table.specs.Private.Layout.{distance, group_count, HoldsHash}
use Rattle.multimap_table.specs.Private.Entries.{row_at}
use Rattle.multimap_table.proofs.probe.find_lane.Given as goal

abbrev pub invariant-loop-step : goal.invariant-loop-step
invariant-loop-step g l =
    (lane : ℕ) → HoldsHash l.tags l.rows l.hash lane → distance (group_count l.tags) l.start (lane / 16) < l.step
    → goal.F-post g l.test (row_at l.rows lane).place false
