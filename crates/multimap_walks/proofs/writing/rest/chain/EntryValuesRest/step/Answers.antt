use Rattle.std.proofs.Common.{◌∙◌, sym}
use Rattle.multimap_slots.specs.Slots.{item_at}
use Rattle.multimap_slots.specs.SlotCells.{lent_slots}
use Rattle.multimap_walks.specs.Ends.{end_place}
use Rattle.multimap_walks.proofs.Callers.Ends.{shows_end}
use Rattle.multimap_walks.proofs.writing.rest.chain.EntryValuesRest.step.Goals as goal

pub read-requires : goal.read-requires
read-requires g c = record { left = c.in_ok-place.ensures.is_left }

pub returns : goal.returns
returns g c =
    let i = c.self.inside in
    let step = c.in_ok-place.ensures in
    sym c.self.view_is
    ∙ shows_end (item_at (lent_slots i.values.now)) c.args.end _ (end_place c.args.end i.left) _ c.read.result.now step.taken
    (rw step.place at c.read.ensures)
