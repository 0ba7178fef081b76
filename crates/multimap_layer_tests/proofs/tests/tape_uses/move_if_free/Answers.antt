use Rattle.multimap_layer_tests.proofs.tests.tape_uses.move_if_free.Goals as goal

pub move_down-requires-clause-holes : goal.move_down-requires-clause-holes
move_down-requires-clause-holes c = c.can_move_down-is_free.ensures.holes c.if-is_free.true
