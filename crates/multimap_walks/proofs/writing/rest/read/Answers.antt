use Rattle.multimap_walks.proofs.writing.rest.read.Goals as goal

pub read-requires : goal.read-requires
read-requires g c = record { left = c.in_ok-place.ensures.is_left }

pub link-requires : goal.link-requires
link-requires g c = record { left = c.in_ok-place.ensures.is_left }

pub returns-clause-slot : goal.returns-clause-slot
returns-clause-slot g c =
    let step = c.in_ok-place.ensures in
    record {
      listed = rw step.place at step.is_left.listed;
      item_is = rw step.place at c.read.ensures;
      link_is = rw step.place at c.link.ensures;
    }
