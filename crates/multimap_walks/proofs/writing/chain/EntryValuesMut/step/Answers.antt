use Rattle.std.proofs.Common.{◌∙◌, ap, sym}
use Rattle.multimap_slots.specs.Slots.{item_at}
use Rattle.multimap_slots.specs.SlotCells.{lent_slots}
use Rattle.multimap_walks.specs.Chained.{places_along, values_at}
use Rattle.multimap_walks.specs.Ends.{end_place}
use Rattle.multimap_walks.specs.Walk.{with_end}
use Rattle.multimap_walks.proofs.Callers.Chains.{positions_on}
use Rattle.multimap_walks.proofs.Callers.Ends.{shows_end}
use Rattle.multimap_walks.proofs.Callers.Squashed.{read_chain}
use Rattle.multimap_walks.proofs.WritingLemmas.{reads_on, untaken_on}
use Rattle.multimap_walks.proofs.writing.chain.EntryValuesMut.step.Goals as goal

pub pass_end_of_chain-requires : goal.pass_end_of_chain-requires
pass_end_of_chain-requires g c = let w = c.args.self.now in read_chain w.values w.left w.readable

pub take-requires : goal.take-requires
take-requires g c = record { left = c.in_ok-place.ensures.is_left }

pub returns : goal.returns
returns g c =
    let w = c.args.self.now in
    let values = lent_slots w.values in
    let rest = c.pass_end_of_chain.new.left in
    let step = c.in_ok-place.ensures in
    let takes = rw step.place at c.take.ensures in
    let value = c.take.result.now in
    record {
      steps =
          shows_end (item_at values) c.args.end _ (end_place c.args.end w.left) _ value step.taken takes.item_is
          ∙ ap (λ s. with_end c.args.end value (values_at s (places_along s rest.first rest.length))) (sym takes.slots);
      positions = positions_on values _ takes.slots c.args.end (end_place c.args.end w.left) _
          (λ s. places_along s rest.first rest.length) step.taken;
      taken = takes;
    }

pub invariant_of-self-2 : goal.invariant_of-self-2
invariant_of-self-2 g c =
    let w = c.args.self.now in
    let values = lent_slots w.values in
    let place = end_place c.args.end w.left in
    let rest = c.pass_end_of_chain.new.left in
    let step = c.in_ok-place.ensures in
    let takes = rw step.place at c.take.ensures in
    let can = read_chain w.values w.left w.readable in
    let untaken =
    untaken_on w.values c.take.new.self place c.take.result takes c.args.end (places_along values w.left.first w.left.length)
    (places_along values rest.first rest.length) can.untaken step.taken in
    record { readable = ∣ reads_on w.values c.take.new.self place c.take.result takes rest step.can.chain untaken ∣₁ }
