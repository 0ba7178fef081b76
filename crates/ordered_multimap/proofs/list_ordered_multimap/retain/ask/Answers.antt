use Rattle.std.proofs.Common.{refl}
use Rattle.std.specs.Map.Calls.{CalledAtPair}
use Rattle.ordered_multimap.proofs.Chains.Parts.{key_link_at}
use Rattle.ordered_multimap.proofs.Remove.RetainingStep.{asks_by_link}
use Rattle.ordered_multimap.proofs.list_ordered_multimap.retain.ask.Goals as goal

pub returns-clause-asked : goal.returns-clause-asked
returns-clause-asked g c =
    asks_by_link (CalledAtPair g.F.FnMut) c.value_at.ensures.slot.link_is c.slot_at.ensures.item_is c.get_listed_mut.ensures.value.item_is
    (record { key = _; value = _; shows = (refl, refl); left = _; called = c.f.ensures; leaves = refl }) refl

pub returns-clause-key_link : goal.returns-clause-key_link
returns-clause-key_link g c = key_link_at c.args.keys.now c.args.values.now.list c.args.place c.value_at.ensures.slot.link_is c.slot_at.ensures.link_is
