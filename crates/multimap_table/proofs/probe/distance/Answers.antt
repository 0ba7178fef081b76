use Rattle.std.proofs.Common.{arith}
use Rattle.multimap_table.proofs.CycleLemmas.{distance_cases}
use Rattle.multimap_table.proofs.probe.distance.Goals as goal

pub returns-then-from-to : goal.returns-then-from-to
returns-then-from-to c = omega (arith, distance_cases c.args.count c.args.from c.args.to c.requires.from)

pub returns-else-from-to : goal.returns-else-from-to
returns-else-from-to c = omega (arith, distance_cases c.args.count c.args.from c.args.to c.requires.from)
