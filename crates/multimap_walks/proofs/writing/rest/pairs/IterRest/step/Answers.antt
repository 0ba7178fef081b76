use Rattle.std.proofs.Common.{◌∙◌, sym}
use Rattle.multimap_slots.specs.SlotCells.{lent_slots}
use Rattle.multimap_walks.specs.Chained.{pair_at}
use Rattle.multimap_walks.specs.Ends.{end_place}
use Rattle.multimap_walks.proofs.Callers.Ends.{shows_end}
use Rattle.multimap_walks.proofs.PairLemmas.{pair_is}
use Rattle.multimap_walks.proofs.writing.rest.pairs.IterRest.step.Goals as goal

pub returns : goal.returns
returns g c =
    let i = c.self.inside in
    let values = lent_slots i.values.now in
    let place = end_place c.args.end i.left in
    let value = c.in_ok-value in
    let slot = value.ensures.slot in
    sym c.self.view_is
    ∙ shows_end (pair_at i.keys.now values) c.args.end _ place _ (c.key_at.result.now, value.value.now) value.ensures.taken
    (pair_is i.keys.now values place value.link c.key_at.result.now value.value.now slot.link_is c.key_at.ensures.item slot.item_is)
