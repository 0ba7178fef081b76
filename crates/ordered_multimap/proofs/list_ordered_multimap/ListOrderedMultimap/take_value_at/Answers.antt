use Rattle.std.proofs.Common.{◌≡◌, refl, subst}
use Rattle.ordered_multimap.specs.Agrees.{HasKey, lists_of}
use Rattle.ordered_multimap.specs.Private.KeySteps.{StaysInRoom}
use Rattle.ordered_multimap.proofs.Agreement.LookUps.{listed_inside, own_key}
use Rattle.ordered_multimap.proofs.Append.Rooms.{map_of, same_rooms}
use Rattle.ordered_multimap.specs.RemovedAt.{removed_at, removable_value_at}
use Rattle.ordered_multimap.proofs.Append.Appended.{stays_paid}
use Rattle.ordered_multimap.proofs.Remove.ByIndex.{agrees-at, capacities-at, fits-at, lists_of-at, stays-at, value_is-at}
use Rattle.ordered_multimap.proofs.list_ordered_multimap.ListOrderedMultimap.take_value_at.Goals as goal

pub invariant_of-self : goal.invariant_of-self
invariant_of-self g c =
    let t = c.take_at.ensures in
    record {
      agrees = agrees-at c.self.invariant.agrees c.args.place c.args.index c.take_at.new.keys c.take_at.new.values.list c.take_at.result
          t.taken;
      fits = fits-at c.self.inside.keys c.take_at.new.keys c.args.place c.args.index c.self.inside.values c.take_at.new.values
          c.take_at.result t.taken c.self.invariant.fits;
      paid = stays_paid t.counts c.self.invariant.paid;
    }

pub returns-clause-stays : goal.returns-clause-stays
returns-clause-stays g c =
    let n = c.take_at.new in
    let i = c.self.inside in
    let stays = stays-at i.keys n.keys c.args.place c.args.index i.values.list n.values.list c.take_at.result c.take_at.ensures.taken in
    let own = own_key g.met.K.Eq.laws c.self.invariant.agrees c.args.place (listed_inside _ c.self.view_is c.requires) in
    subst (λ m. StaysInRoom g.K.PartialEq.eq m (map_of n.keys i.table.capacity n.values i.state i.left) c.args.place) c.self.view_is
    (record {
      place_stays = record {
        listed = (stays (g.K.PartialEq.eq own.0) c.args.place own.1).listed;
        stays = λ k has. stays
            (g.K.PartialEq.eq k) c.args.place has;
      };
      rooms = same_rooms i.keys n.keys i.table.capacity i.table.capacity i.values n.values i.state i.left i.left
          (capacities-at i.keys n.keys c.args.place c.args.index i.values n.values c.take_at.result c.take_at.ensures.taken) refl;
    })

pub returns-clause-value : goal.returns-clause-value
returns-clause-value g c =
    subst (λ m. (k : g.row.K.Denot) → HasKey g.K.PartialEq.eq m.slots.keys k c.args.place
    → c.take_at.result ≡ removable_value_at g.K.PartialEq.eq m.lists.pairs k c.args.index) c.self.view_is
    (λ k has. value_is-at c.self.invariant.agrees c.args.place c.args.index c.take_at.new.keys c.take_at.new.values.list g.met.K.Eq.laws k
    has c.take_at.result c.take_at.ensures.taken)

pub returns-clause-lists : goal.returns-clause-lists
returns-clause-lists g c =
    subst (λ m. (k : g.row.K.Denot) → HasKey g.K.PartialEq.eq m.slots.keys k c.args.place
    → lists_of c.take_at.new.keys c.take_at.new.values.list ≡ removed_at g.K.PartialEq.eq m.lists k c.args.index) c.self.view_is
    (λ k has. lists_of-at c.self.invariant.agrees c.args.place c.args.index c.take_at.new.keys c.take_at.new.values.list g.met.K.Eq.laws k
    has c.take_at.result c.take_at.ensures.taken)

pub returns-clause-paid : goal.returns-clause-paid
returns-clause-paid g c = stays_paid c.take_at.ensures.counts c.self.invariant.paid
