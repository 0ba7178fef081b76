use Rattle.std.proofs.Common.{◌≡◌, Some, refl, sym, ap, ◌∙◌}
use Rattle.multimap_walks.specs.declared.links.ValueLink.{ValueLink}
use Rattle.ordered_multimap.specs.Private.Retain.{AsksAny}
use Rattle.ordered_multimap.proofs.Chains.Parts.{key_link_at}
use Rattle.ordered_multimap.proofs.Remove.RetainingStep.{asks_by_link}
use Rattle.ordered_multimap.proofs.list_ordered_multimap.retain.values.ask_value.Goals as goal

pub returns-clause-asked : goal.returns-clause-asked
returns-clause-asked g c =
    asks_by_link (AsksAny g.F.FnMut) c.value_at.ensures.slot.link_is c.slot_at.ensures.item_is c.get_listed_mut.ensures.value.item_is
    (record { shown = _; shows = refl; left = _; called = c.f.ensures; leaves = refl }) refl

pub returns-clause-next : goal.returns-clause-next
returns-clause-next g c = λ l is.
    let both : Some c.value_at.result.1 ≡ Some l = sym c.value_at.ensures.slot.link_is ∙ is in
    let same : c.value_at.result.1 ≡ l = cc in
    ap (λ (v : ValueLink). v.next) same

pub returns-clause-key_link : goal.returns-clause-key_link
returns-clause-key_link g c = key_link_at c.args.keys.now c.args.values.now.list c.args.place c.value_at.ensures.slot.link_is c.slot_at.ensures.link_is
