use Rattle.std.proofs.Common.{None, arith, sym, ◌∙◌}
use Rattle.std.proofs.lemmas.List.{get_or_default}
use Rattle.multimap_slots.proofs.Changes.Filled.{some_within, some_not_free}
use Rattle.multimap_slots.proofs.list.SlotList.get_detached.Goals as goal

pub index-requires : goal.index-requires
index-requires g c =
    let apart = rw (← c.self.view_is) at c.requires in
    omega (arith, c.self.inside.items.ok, some_within c.self.invariant c.args.place apart.has_item)

pub detached_link-requires : goal.detached_link-requires
detached_link-requires g c =
    let apart = rw (← c.self.view_is) at c.requires in
    record { not_listed = apart.not_listed; not_free = some_not_free c.self.invariant c.args.place apart.has_item }

pub returns : goal.returns
returns g c =
    let apart = rw (← c.self.view_is) at c.requires in
    let within = some_within c.self.invariant c.args.place apart.has_item in
    rw (← c.self.view_is) (record {
      not_listed = apart.not_listed;
      item_is = get_or_default c.self.inside.items.items c.args.place None c.index.result.now within ∙ sym c.index.ensures ∙ c.in-Some.is;
      link_is = c.detached_link.ensures;
    })
