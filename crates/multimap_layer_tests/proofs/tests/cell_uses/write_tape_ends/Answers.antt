use Rattle.multimap_slots.proofs.Callers.TakenItems.{IsDetached-refilled}
use Rattle.multimap_layer_tests.proofs.tests.cell_uses.write_tape_ends.Goals as goal

pub returns-clause-detached : goal.returns-clause-detached
returns-clause-detached c = λ p d. IsDetached-refilled c.args.tape.now.list _ p d
