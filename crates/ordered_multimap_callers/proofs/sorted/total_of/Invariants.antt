use Rattle.std.proofs.Common.{◌≡◌, ◌-◌, ◌^◌, ◌≤◌}
use Rattle.ordered_multimap_callers.specs.Totals.{total}
use Rattle.ordered_multimap_callers.proofs.TotalLemmas.{total_behind}
use Rattle.ordered_multimap_callers.proofs.sorted.total_of.Given as goal

-- the total is that of those that are left, behind the sum of the others, which is a `u64`
abbrev pub invariant-loop-value : goal.invariant-loop-value
invariant-loop-value g l =
    (l.sum ≤ 2 ^ 64 - 1) × (total_behind l.sum l.value-iterator.left ≡ total l.fn.values.left)
