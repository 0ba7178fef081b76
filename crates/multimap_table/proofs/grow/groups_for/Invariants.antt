use Rattle.std.proofs.Common.{◌-◌, ◌*◌, ◌≤◌, ◌^◌}
use Rattle.multimap_table.specs.Private.Layout.{IsGroupCount}
use Rattle.multimap_table.proofs.grow.groups_for.Given as goal

abbrev pub invariant-loop-count : goal.invariant-loop-count
invariant-loop-count l = record { power : IsGroupCount l.count; fits : l.count ≤ 2 ^ 56; some : 1 ≤ l.count }

abbrev pub decreases-loop-count : goal.decreases-loop-count
decreases-loop-count l = l.capacity - 12 * l.count
