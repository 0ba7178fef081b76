use Rattle.std.proofs.Common.{arith}
use Rattle.multimap_table.proofs.CycleLemmas.{group_count_double}
use Rattle.multimap_table.proofs.grow.groups_for.Goals as goal

pub loop-count-preserved : goal.loop-count-preserved
loop-count-preserved c =
    let doubled = group_count_double c.loop-count.count c.loop-count.invariant.power (omega arith) in
    record { power = doubled.0; fits = doubled.1; some = omega arith }
