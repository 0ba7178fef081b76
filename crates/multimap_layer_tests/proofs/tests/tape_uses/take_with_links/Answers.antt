use Rattle.std.proofs.Common.{IsTrue, rules}
use Rattle.multimap_layer_tests.proofs.TapedLemmas.{IsDetached-detach}
use Rattle.multimap_layer_tests.proofs.tests.tape_uses.take_with_links.Goals as goal

pub take_detached_linked-item-requires : goal.take_detached_linked-item-requires
take_detached_linked-item-requires c =
    let listed : IsTrue c.is_listed.result = search rules in
    IsDetached-detach c.args.tape.now.list c.detach_linked-link.new.self.list c.args.place c.detach_linked-link.ensures.detached
    (c.len-len.ensures.sound.filled c.args.place (c.is_listed.ensures listed))
