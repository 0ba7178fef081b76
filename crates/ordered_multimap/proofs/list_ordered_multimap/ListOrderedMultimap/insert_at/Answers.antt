use Rattle.std.proofs.Common.{◌≡◌, Some, slice_get, refl, sym, subst}
use Rattle.ordered_multimap.specs.Pairs.{values_of}
use Rattle.ordered_multimap.specs.Changes.{inserted}
use Rattle.ordered_multimap.specs.TapeNumbers.{TakesOut, numbers_of}
use Rattle.ordered_multimap.specs.Agrees.{HasKey}
use Rattle.ordered_multimap.specs.Private.KeySteps.{KeepsPlaces, StaysInRoom}
use Rattle.ordered_multimap.specs.Removals.{LosesValues}
use Rattle.ordered_multimap.proofs.Remove.OnePair.{has_fitting_chain}
use Rattle.ordered_multimap.proofs.Append.Rooms.{map_of, same_rooms}
use Rattle.ordered_multimap.proofs.Agreement.LookUps.{listed_inside, own_key}
use Rattle.ordered_multimap.proofs.Agreement.StayingKeys.{inserted_stays}
use Rattle.ordered_multimap.proofs.Append.Appended.{stays_paid}
use Rattle.ordered_multimap.proofs.Append.Inserted.{agrees-inserted, lists_of-inserted, first_of-inserted}
use Rattle.ordered_multimap.proofs.Remove.WholeKeys.{entry_count}
use Rattle.ordered_multimap.proofs.list_ordered_multimap.ListOrderedMultimap.insert_at.Goals as goal

pub insert_behind-requires : goal.insert_behind-requires
insert_behind-requires g c = has_fitting_chain c.self.invariant c.args.place
    (listed_inside _ c.self.view_is c.requires)

pub invariant_of-self : goal.invariant_of-self
invariant_of-self g c =
    let i = c.insert_behind.ensures.inserted.1 in
    let own = own_key g.met.K.Eq.laws c.self.invariant.agrees c.args.place (listed_inside _ c.self.view_is c.requires) in
    record {
      agrees = agrees-inserted g.met.K.Eq.laws c.self.invariant.agrees own.0 c.args.value c.args.place own.1 i.done;
      fits = i.fits;
      paid = stays_paid i.counts c.self.invariant.paid;
    }

pub returns-clause-stays : goal.returns-clause-stays
returns-clause-stays g c =
    let e = c.insert_behind.ensures in
    let n = c.insert_behind.new in
    let i = c.self.inside in
    let own = own_key g.met.K.Eq.laws c.self.invariant.agrees c.args.place (listed_inside _ c.self.view_is c.requires) in
    subst (λ m. StaysInRoom g.K.PartialEq.eq m (map_of n.keys i.table.capacity n.values i.state i.left) c.args.place) c.self.view_is
    (record {
      place_stays = record {
        listed = (inserted_stays (g.K.PartialEq.eq own.0) c.args.place e.inserted.1.done own.1).listed;
        stays = λ k has. inserted_stays (g.K.PartialEq.eq k) c.args.place e.inserted.1.done has;
      };
      rooms = same_rooms i.keys n.keys i.table.capacity i.table.capacity i.values n.values i.state i.left i.left e.capacities refl;
    })

pub returns-clause-places : goal.returns-clause-places
returns-clause-places g c =
    let n = c.insert_behind.new in
    let i = c.self.inside in
    subst (λ m. KeepsPlaces g.K.PartialEq.eq m (map_of n.keys i.table.capacity n.values i.state i.left)) c.self.view_is
    (λ k place has. inserted_stays (g.K.PartialEq.eq k) place c.insert_behind.ensures.inserted.1.done has)

pub returns-clause-value : goal.returns-clause-value
returns-clause-value g c =
    subst (λ m. (k : g.row.K.Denot) → HasKey g.K.PartialEq.eq m.slots.keys k c.args.place
    → slice_get (values_of g.K.PartialEq.eq m.lists.pairs k) 0 ≡ Some c.insert_behind.result) c.self.view_is
    (λ k has. first_of-inserted g.met.K.Eq.laws c.self.invariant.agrees k c.args.value c.args.place has
    c.insert_behind.ensures.inserted.1.done c.insert_behind.result c.insert_behind.ensures.inserted.1.first)

pub returns-clause-inserted : goal.returns-clause-inserted
returns-clause-inserted g c =
    let i = c.insert_behind.ensures.inserted.1 in
    let n = c.insert_behind.new in
    subst (λ m. (k : g.row.K.Denot) → HasKey g.K.PartialEq.eq m.slots.keys k c.args.place
    → LosesValues g.K.PartialEq.eq m (map_of n.keys c.self.inside.table.capacity n.values c.self.inside.state c.self.inside.left) k
    (inserted g.K.PartialEq.eq m.lists k c.args.value)) c.self.view_is
    (λ k has. record {
      lists = lists_of-inserted g.met.K.Eq.laws c.self.invariant.agrees k c.args.value c.args.place has i.done;
      taken = subst (λ m. TakesOut m (numbers_of c.self.inside.values) (numbers_of n.values))
          (sym (entry_count g.met.K.Eq.laws c.self.invariant.agrees k c.args.place has)) i.counts;
    })

pub returns-clause-paid : goal.returns-clause-paid
returns-clause-paid g c = stays_paid c.insert_behind.ensures.inserted.1.counts c.self.invariant.paid
