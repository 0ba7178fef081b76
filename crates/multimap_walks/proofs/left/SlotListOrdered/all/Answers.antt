use Rattle.multimap_walks.proofs.Callers.Along.{all_left, left_all}
use Rattle.multimap_walks.proofs.left.SlotListOrdered.all.Goals as goal

pub returns-clause-are_left : goal.returns-clause-are_left
returns-clause-are_left g c =
    rw (c.of_all.ensures, c.front_place.ensures, c.back_place.ensures, c.len.ensures.len)
    (all_left c.args.self.now.order c.len.ensures.sound.distinct)

pub returns-clause-whole : goal.returns-clause-whole
returns-clause-whole g c =
    rw (c.of_all.ensures, c.front_place.ensures, c.len.ensures.len) (left_all c.args.self.now.order c.len.ensures.sound.distinct)
