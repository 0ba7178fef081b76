use Rattle.multimap_layer_tests.proofs.TapedLemmas.{IsDetached-detach}
use Rattle.multimap_layer_tests.proofs.tests.tape_uses.detach_listed.Goals as goal

pub returns-then-is_there-clause-detached : goal.returns-then-is_there-clause-detached
returns-then-is_there-clause-detached g c listed =
    IsDetached-detach c.args.tape.now.list c.detach.new.self.list c.args.place c.detach.ensures.detached
    (c.len-len.ensures.sound.filled c.args.place (c.is_listed-is_there.ensures listed))
