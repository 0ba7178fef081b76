use Rattle.multimap_slots.proofs.Callers.SlotChanges.{IsDetached-detach}
use Rattle.multimap_layer_tests.proofs.tests.uses.detach_listed.Goals as goal

pub returns : goal.returns
returns g c = λ _.
    IsDetached-detach c.args.list.now c.detach.new.self c.args.place c.len-sound.ensures.sound c.in-Some.ensures.found.listed
    c.detach.ensures.detached
