use Rattle.std.proofs.Common.{◌∙◌, ap, sym}
use Rattle.multimap_slots.specs.Slots.{item_at}
use Rattle.multimap_slots.specs.SlotCells.{lent_slots}
use Rattle.multimap_walks.specs.Along.{items_left, places_left}
use Rattle.multimap_walks.specs.Ends.{end_place}
use Rattle.multimap_walks.specs.Walk.{with_end}
use Rattle.multimap_walks.proofs.Callers.Chains.{positions_on}
use Rattle.multimap_walks.proofs.Callers.Ends.{shows_end}
use Rattle.multimap_walks.proofs.Callers.Squashed.{read_lends}
use Rattle.multimap_walks.proofs.writing.values.ValuesMut.step.Goals as goal

pub lend-requires : goal.lend-requires
lend-requires g c = let w = c.args.self.now in read_lends w.values w.left w.readable

pub returns : goal.returns
returns g c =
    let w = c.args.self.now in
    let values = lent_slots w.values in
    let place = end_place c.args.end w.left in
    let rest = c.lend.new.left in
    let value = c.in_ok-value in
    let step = value.ensures in
    record {
      steps =
          shows_end (item_at values) c.args.end _ place _ value.value.now step.taken step.slot.0.item_is
          ∙ ap (λ s. with_end c.args.end value.value.now (items_left s.order (item_at s) rest)) (sym step.slot.0.slots);
      positions = positions_on values _ step.slot.0.slots c.args.end place _ (λ s. places_left s.order rest) step.taken;
      taken = step.slot.0;
    }
