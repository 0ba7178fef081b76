use Rattle.std.proofs.Common.{arith}
use Rattle.multimap_slots.specs.SlotCells.{lent_slots}
use Rattle.multimap_walks.specs.Along.{places_left}
use Rattle.multimap_walks.specs.Ends.{end_place}
use Rattle.multimap_walks.proofs.WritingLemmas.{end_is_left, passed_over}
use Rattle.multimap_walks.proofs.writing.pass_end.Goals as goal

pub returns-clause-can : goal.returns-clause-can
returns-clause-can g c =
    let cells = c.args.cells.now in
    let left = c.args.left.now in
    let order = (lent_slots cells).order in
    let step = c.in_ok-rest.ensures in
    record {
      sound = c.requires.sound;
      are_left = step.are_left;
      untaken =
          passed_over cells (places_left order left) c.requires.untaken c.args.end (end_place c.args.end left)
          (places_left order c.in_ok-rest.rest)
          step.taken.places_are;
    }

pub returns-clause-is_left : goal.returns-clause-is_left
returns-clause-is_left g c =
    rw c.place_at-place.ensures (end_is_left c.args.cells.now c.args.left.now (omega (arith, c.in_ok-rest.ensures.taken.count)) c.requires c.args.end)
