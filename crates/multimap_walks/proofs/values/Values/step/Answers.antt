use Rattle.std.proofs.Common.{◌∙◌, sym}
use Rattle.multimap_slots.specs.Slots.{item_at}
use Rattle.multimap_walks.proofs.Callers.Ends.{shows_end}
use Rattle.multimap_walks.proofs.values.Values.step.Goals as goal

pub returns : goal.returns
returns g c =
    let place = c.in_ok-place in
    let value = c.value_at in
    sym c.self.view_is
    ∙ shows_end
    (item_at c.self.inside.values.now.list) c.args.end _ place.place _ value.result.0.now place.ensures.taken value.ensures.slot.item_is
