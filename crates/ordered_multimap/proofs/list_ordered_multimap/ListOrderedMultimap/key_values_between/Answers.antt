use Rattle.std.proofs.Common.{◌≡◌, sym, subst, ◌∙◌}
use Rattle.multimap_slots.specs.Slots.{item_at}
use Rattle.multimap_walks.specs.Along.{AreLeft, items_left}
use Rattle.ordered_multimap.specs.KeyLists.{each_with_values}
use Rattle.ordered_multimap.proofs.Walks.WalkedLists.{keys_with_values-left}
use Rattle.ordered_multimap.proofs.list_ordered_multimap.ListOrderedMultimap.key_values_between.Goals as goal

pub returns : goal.returns
returns g c =
    let are_left = subst (λ m. AreLeft m.slots.keys.order c.args.ends) (sym c.self.view_is) c.requires in
    subst (λ m. c.new_between.result ≡ each_with_values g.K.PartialEq.eq m.lists.pairs
    (items_left m.slots.keys.order (item_at m.slots.keys) c.args.ends)) c.self.view_is
    (c.new_between.ensures.keys ∙ keys_with_values-left c.self.invariant.agrees g.met.K.Eq.laws c.args.ends are_left)
