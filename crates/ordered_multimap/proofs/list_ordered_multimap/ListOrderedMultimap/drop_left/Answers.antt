use Rattle.std.proofs.Common.{refl, subst, rules}
use Rattle.multimap_walks.specs.declared.links.ChainEnds.{ChainEnds}
use Rattle.ordered_multimap.specs.Detaches.{KeepsListed}
use Rattle.ordered_multimap.proofs.Detach.DrainSteps.{agrees-listed}
use Rattle.ordered_multimap.proofs.Detach.KeptByDrains.{fits-listed, paid-listed, keeps_listed}
use Rattle.ordered_multimap.proofs.Append.Rooms.{map_of}
use Rattle.ordered_multimap.proofs.list_ordered_multimap.ListOrderedMultimap.drop_left.Goals as goal

pub invariant_of-self : goal.invariant_of-self
invariant_of-self g c =
    let i = c.self.inside in
    let t = c.drop_chain.ensures in
    record {
      agrees = agrees-listed c.self.invariant.agrees t.kept t.room.capacity;
      fits = fits-listed i.values c.drop_chain.new.values t.kept t.room.capacity c.self.invariant.fits;
      paid = paid-listed i.values c.drop_chain.new.values t.room.counts c.self.invariant.paid;
    }

pub returns-clause-ends : goal.returns-clause-ends
returns-clause-ends g c =
    let i = c.self.inside in
    let t = c.drop_chain.ensures in
    let left : ChainEnds = record { first = i.left.first; last = i.left.last; length = 0 } in
    record {
      drain = record {
        holds = search rules;
        kept = subst (λ m. KeepsListed m (map_of i.keys i.table.capacity c.drop_chain.new.values i.state left)) c.self.view_is
            (keeps_listed i.keys i.table.rows i.values c.self.invariant.agrees i.table.capacity i.state i.left left c.drop_chain.new.values
            t.kept t.room.counts t.room.capacity);
      };
      none = refl;
    }

pub returns-clause-dropped : goal.returns-clause-dropped
returns-clause-dropped g c = search rules
