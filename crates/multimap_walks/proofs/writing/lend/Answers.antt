use Rattle.multimap_slots.specs.SlotCells.{lent_slots}
use Rattle.multimap_walks.specs.Along.{places_left}
use Rattle.multimap_walks.specs.Ends.{end_place}
use Rattle.multimap_walks.proofs.WritingLemmas.{lends_on, untaken_on}
use Rattle.multimap_walks.proofs.writing.lend.Goals as goal

pub link-link-requires : goal.link-link-requires
link-link-requires g c = record { left = c.in_ok-place.ensures.is_left }

pub take-requires : goal.take-requires
take-requires g c = record { left = c.in_ok-place.ensures.is_left }

pub returns-clause-can : goal.returns-clause-can
returns-clause-can g c =
    let old = c.args.cells.now in
    let new = c.take.new.self in
    let order = (lent_slots old).order in
    let place = end_place c.args.end c.args.left.now in
    let rest = c.pass_end.new.left in
    let step = c.in_ok-place.ensures in
    let takes = rw step.place at c.take.ensures in
    let untaken =
    untaken_on old new place c.take.result takes c.args.end (places_left order c.args.left.now)
    (places_left order rest) c.requires.untaken step.taken in
    lends_on old new place c.take.result takes rest c.requires.sound step.can.are_left untaken
