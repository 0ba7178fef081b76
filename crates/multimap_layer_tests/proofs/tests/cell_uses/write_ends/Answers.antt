use Rattle.std.proofs.Common.{sym}
use Rattle.multimap_slots.proofs.Callers.TakenItems.{IsLeft-other}
use Rattle.multimap_layer_tests.proofs.CellsLemmas.{last_in}
use Rattle.multimap_layer_tests.proofs.tests.cell_uses.write_ends.Goals as goal

pub take-at_back-requires : goal.take-at_back-requires
take-at_back-requires c =
    record {
      left = let listed = last_in c.args.cells.now.order.order c.in_ok-back.back (sym c.in_ok-back.ensures) in
          IsLeft-other c.take-at_front.ensures c.in_ok-back.back (λ e. c.if-front-back.false (sym e))
          (c.requires.left c.in_ok-back.back listed);
    }

pub read-requires : goal.read-requires
read-requires c =
    record {
      left = let listed = last_in c.args.cells.now.order.order c.in_ok-back.back (sym c.in_ok-back.ensures) in
          IsLeft-other c.take-at_front.ensures c.in_ok-back.back (λ e. c.if-front-back.false (sym e))
          (c.requires.left c.in_ok-back.back listed);
    }
