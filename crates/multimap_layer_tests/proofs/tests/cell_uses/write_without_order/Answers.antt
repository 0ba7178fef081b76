use Rattle.std.proofs.Common.{sym}
use Rattle.multimap_layer_tests.proofs.CellsLemmas.{can_take, last_in}
use Rattle.multimap_layer_tests.proofs.tests.cell_uses.write_without_order.Goals as goal

pub take-at_back-requires : goal.take-at_back-requires
take-at_back-requires c =
    let back = c.in-Some.back in
    let listed = last_in c.args.cells.order.order back (sym c.in-Some.ensures) in
    rw c.into_cells-rest.ensures (can_take c.args.cells back (c.requires.left back listed))
