use Rattle.std.proofs.Common.{sym}
use Rattle.multimap_layer_tests.proofs.CellsLemmas.{last_in}
use Rattle.multimap_layer_tests.proofs.tests.cell_uses.read_ends.Goals as goal

pub read-requires-2 : goal.read-requires-2
read-requires-2 c =
    record { left = c.requires.left c.in_ok-back.back (last_in c.args.cells.now.order.order c.in_ok-back.back (sym c.in_ok-back.ensures)) }
