use Rattle.std.proofs.Common.{sym}
use Rattle.multimap_slots.specs.Slots.{item_at}
use Rattle.ordered_multimap.proofs.KeySorts.Reordered.{item_or-listed, item_or-absent}
use Rattle.ordered_multimap.proofs.list_ordered_multimap.sort.key_or.Goals as goal

pub returns-in-Some : goal.returns-in-Some
returns-in-Some g c =
    let found = c.in-Some.ensures.found in
    sym (item_or-listed (item_at c.args.keys.now) c.args.keys.now.order c.args.other.now c.args.place c.in-Some.key.now found.listed found.item_is)

pub returns : goal.returns
returns g c = sym (item_or-absent (item_at c.args.keys.now) c.args.keys.now.order c.args.other.now c.args.place c.in-None.ensures.absent)
