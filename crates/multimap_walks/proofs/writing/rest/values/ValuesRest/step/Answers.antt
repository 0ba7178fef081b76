use Rattle.std.proofs.Common.{◌∙◌, sym}
use Rattle.multimap_slots.specs.Slots.{item_at}
use Rattle.multimap_slots.specs.SlotCells.{lent_slots}
use Rattle.multimap_walks.specs.Ends.{end_place}
use Rattle.multimap_walks.proofs.Callers.Ends.{shows_end}
use Rattle.multimap_walks.proofs.writing.rest.values.ValuesRest.step.Goals as goal

pub returns : goal.returns
returns g c =
    let i = c.self.inside in
    let value = c.in_ok-value in
    sym c.self.view_is
    ∙ shows_end (item_at (lent_slots i.values.now)) c.args.end _ (end_place c.args.end i.left) _ value.value.now value.ensures.taken
    value.ensures.slot.item_is
