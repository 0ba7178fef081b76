use Rattle.multimap_slots.specs.SlotCells.{lent_slots}
use Rattle.multimap_walks.proofs.Callers.Along.{left_all}
use Rattle.multimap_walks.proofs.WritingLemmas.{all_untaken}
use Rattle.multimap_walks.proofs.writing.all_of.Goals as goal

pub returns-clause-can : goal.returns-clause-can
returns-clause-can g c =
    rw (c.of_all.ensures, c.front_place.ensures, c.back_place.ensures, c.len.ensures)
    (all_untaken c.args.cells.now c.requires)

pub returns-clause-whole : goal.returns-clause-whole
returns-clause-whole g c =
    rw (c.of_all.ensures, c.front_place.ensures, c.len.ensures) (left_all (lent_slots c.args.cells.now).order c.requires.sound.distinct)
