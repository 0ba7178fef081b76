use Rattle.std.proofs.Common.{◌≡◌, length, sym, subst}
use Rattle.multimap_slots.specs.Slots.{item_at}
use Rattle.multimap_walks.specs.Along.{AreLeft, items_left}
use Rattle.multimap_walks.proofs.Callers.Along.{length_along}
use Rattle.ordered_multimap.proofs.list_ordered_multimap.ListOrderedMultimap.keys_between.Goals as goal

pub returns : goal.returns
returns g c =
    let keys = c.self.inside.keys in
    let are_left = subst (λ m. AreLeft m.slots.keys.order c.args.ends) (sym c.self.view_is) c.requires in
    subst (λ m. c.args.ends.length ≡ length (items_left m.slots.keys.order (item_at m.slots.keys) c.args.ends)) c.self.view_is
    (sym (length_along keys.order (item_at keys) c.args.ends
    (record { shown = c.self.invariant.agrees.keys_sound.filled; are_left = are_left })))
