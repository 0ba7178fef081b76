use Rattle.multimap_slots.proofs.Callers.SlotChanges.{IsDetached-push}
use Rattle.multimap_layer_tests.proofs.tests.uses.push_beside.Goals as goal

pub returns-clause-kept : goal.returns-clause-kept
returns-clause-kept c =
    IsDetached-push c.args.list.now c.push_back.new.self c.in-Ok.place c.args.detached c.args.item 4 c.in-Ok.ensures.pushed c.requires
