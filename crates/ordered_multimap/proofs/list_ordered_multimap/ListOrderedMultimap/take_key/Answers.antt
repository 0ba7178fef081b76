use Rattle.std.proofs.Common.{◌≡◌, subst, option_and_then}
use Rattle.std.proofs.lemmas.Option.{IfSome_then}
use Rattle.multimap_slots.specs.Slots.{item_at}
use Rattle.multimap_walks.specs.Along.{items_left, places_left}
use Rattle.multimap_walks.specs.Walk.{end_item, end_rest}
use Rattle.ordered_multimap.proofs.Chains.StepsOver.{over_end}
use Rattle.ordered_multimap.proofs.list_ordered_multimap.ListOrderedMultimap.take_key.Goals as goal

pub returns-clause-key : goal.returns-clause-key
returns-clause-key g c =
    let keys = c.self.inside.keys in let t = c.take in let left = c.args.left.now in
    let over = over_end (item_at keys) c.args.end (places_left keys.order left) (places_left keys.order t.new.left) t.result
    (IfSome_then t.result t.ensures.listed c.len-keys.ensures.sound.filled) t.ensures.taken in
    subst (λ m. option_and_then (item_at m.slots.keys) t.result ≡ end_item c.args.end
    (items_left m.slots.keys.order (item_at m.slots.keys) left))
    c.self.view_is over.item

pub returns-clause-rest : goal.returns-clause-rest
returns-clause-rest g c =
    let keys = c.self.inside.keys in let t = c.take in let left = c.args.left.now in
    let over = over_end (item_at keys) c.args.end (places_left keys.order left) (places_left keys.order t.new.left) t.result
    (IfSome_then t.result t.ensures.listed c.len-keys.ensures.sound.filled) t.ensures.taken in
    subst (λ m. items_left m.slots.keys.order (item_at m.slots.keys) t.new.left
    ≡ end_rest c.args.end (items_left m.slots.keys.order (item_at m.slots.keys) left)) c.self.view_is over.rest
