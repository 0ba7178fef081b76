use Rattle.std.proofs.Common.{sym}
use Rattle.multimap_layer_tests.proofs.CellsLemmas.{first_in, next_in, next_left, previous_left}
use Rattle.multimap_layer_tests.proofs.tests.cell_uses.second_of.Goals as goal

pub next_place-requires-clause-left : goal.next_place-requires-clause-left
next_place-requires-clause-left c = c.requires.left c.in_ok-first.first
    (first_in c.args.cells.now.order.order c.in_ok-first.first (sym c.in_ok-first.ensures))

pub next_place-requires-clause-neighbour : goal.next_place-requires-clause-neighbour
next_place-requires-clause-neighbour c = next_left c.args.cells.now c.requires.left c.in_ok-first.first

pub link-link-requires : goal.link-link-requires
link-link-requires c = record {
  left = c.requires.left c.in_ok-second.second
      (next_in c.args.cells.now.order.order c.in_ok-first.first c.in_ok-second.second (sym c.in_ok-second.ensures));
}

pub previous_place-before-requires-clause-left : goal.previous_place-before-requires-clause-left
previous_place-before-requires-clause-left c = c.requires.left c.in_ok-second.second
    (next_in c.args.cells.now.order.order c.in_ok-first.first c.in_ok-second.second (sym c.in_ok-second.ensures))

pub previous_place-before-requires-clause-neighbour : goal.previous_place-before-requires-clause-neighbour
previous_place-before-requires-clause-neighbour c = previous_left c.args.cells.now c.requires.left c.in_ok-second.second

pub next_place-behind-requires-clause-left : goal.next_place-behind-requires-clause-left
next_place-behind-requires-clause-left c = c.requires.left c.in_ok-second.second
    (next_in c.args.cells.now.order.order c.in_ok-first.first c.in_ok-second.second (sym c.in_ok-second.ensures))

pub next_place-behind-requires-clause-neighbour : goal.next_place-behind-requires-clause-neighbour
next_place-behind-requires-clause-neighbour c = next_left c.args.cells.now c.requires.left c.in_ok-second.second

pub preceding_place-requires-clause-neighbour : goal.preceding_place-requires-clause-neighbour
preceding_place-requires-clause-neighbour c = previous_left c.args.cells.now c.requires.left c.in_ok-second.second
