use Rattle.std.proofs.Common.{◌∙◌, ap, arith, subst, sym}
use Rattle.multimap_slots.specs.SlotCells.{lent_slots}
use Rattle.multimap_walks.specs.Along.{places_left}
use Rattle.multimap_walks.specs.Chained.{AreOwned, pair_at}
use Rattle.multimap_walks.specs.Ends.{end_place}
use Rattle.multimap_walks.specs.PairWalk.{pairs_left}
use Rattle.multimap_walks.specs.Walk.{with_end}
use Rattle.multimap_walks.proofs.Callers.Chains.{positions_on}
use Rattle.multimap_walks.proofs.Callers.Ends.{shows_end}
use Rattle.multimap_walks.proofs.PairLemmas.{pair_is}
use Rattle.multimap_walks.proofs.Callers.Squashed.{read_pairs}
use Rattle.multimap_walks.proofs.WritingLemmas.{end_is_left, step_keeps}
use Rattle.multimap_walks.proofs.writing.pairs.IterMut.step.Goals as goal

pub lend-requires : goal.lend-requires
lend-requires g c = let w = c.args.self.now in (read_pairs w.values w.left w.keys.now w.readable).lends

pub key_at-requires : goal.key_at-requires
key_at-requires g c =
    let w = c.args.self.now in
    let can = read_pairs w.values w.left w.keys.now w.readable in
    let step = c.in_ok-value.ensures in
    let is_left = end_is_left w.values w.left (omega (arith, step.count)) can.lends c.args.end in
    can.owned (end_place c.args.end w.left) c.in_ok-value.link is_left.listed step.slot.1

pub returns : goal.returns
returns g c =
    let w = c.args.self.now in
    let values = lent_slots w.values in
    let place = end_place c.args.end w.left in
    let rest = c.lend.new.left in
    let value = c.in_ok-value in
    let step = value.ensures in
    let pair : g.row.K.Denot × g.row.V.Denot = (c.key_at.result.now, value.value.now) in
    record {
      steps =
          shows_end (pair_at w.keys.now values) c.args.end _ place _ pair step.taken
          (pair_is w.keys.now values place value.link pair.0 pair.1 step.slot.1 c.key_at.ensures.item step.slot.0.item_is)
          ∙ ap (λ s. with_end c.args.end pair (pairs_left w.keys.now s rest)) (sym step.slot.0.slots);
      positions = positions_on values _ step.slot.0.slots c.args.end place _ (λ s. places_left s.order rest) step.taken;
      taken = step.slot.0;
    }

pub invariant_of-self-2 : goal.invariant_of-self-2
invariant_of-self-2 g c =
    let w = c.args.self.now in
    let step = c.lend in
    let can = read_pairs w.values w.left w.keys.now w.readable in
    let same = step_keeps w.values (end_place c.args.end w.left) step.result step.new.cells step.ensures.slot in
    let owned = subst (AreOwned w.keys.now) (sym same) can.owned in
    record { readable = ∣ record { sound = can.sound; owned = owned; lends = step.ensures.can } ∣₁ }
