use Rattle.std.proofs.Common.{◌∙◌, sym}
use Rattle.multimap_slots.specs.Slots.{item_at}
use Rattle.multimap_walks.proofs.Callers.Ends.{shows_end}
use Rattle.multimap_walks.proofs.keys.Keys.step.Goals as goal

pub returns : goal.returns
returns g c =
    let place = c.in_ok-place in
    sym c.self.view_is
    ∙ shows_end (item_at c.self.inside.keys.now) c.args.end _ place.place _ c.key_at.result.now place.ensures.taken c.key_at.ensures.item
