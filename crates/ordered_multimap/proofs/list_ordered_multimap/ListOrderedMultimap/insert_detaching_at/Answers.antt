use Rattle.std.proofs.Common.{◌/◌, sym, subst, true≢false, refl}
use Rattle.ordered_multimap.specs.Changes.{inserted}
use Rattle.ordered_multimap.specs.TapeNumbers.{TakesOut, numbers_of}
use Rattle.ordered_multimap.specs.Rooms.{HasValueRoom, RaisesNoRoom}
use Rattle.ordered_multimap.specs.Agrees.{HasKey}
use Rattle.ordered_multimap.specs.Private.KeySteps.{DetachesValues, KeepsBothLists}
use Rattle.ordered_multimap.proofs.Remove.OnePair.{has_fitting_chain}
use Rattle.ordered_multimap.proofs.Agreement.Agreed.{value_room}
use Rattle.ordered_multimap.proofs.Agreement.LookUps.{listed_inside, own_key}
use Rattle.ordered_multimap.proofs.Agreement.StayingKeys.{inserted_stays, relocated_stays}
use Rattle.ordered_multimap.proofs.Append.Appended.{agrees_reserved, lists_reserved, stays_paid}
use Rattle.ordered_multimap.proofs.Append.Rooms.{map_of, fits_value, grows_there, on_err, raises_none}
use Rattle.ordered_multimap.proofs.Append.Inserted.{agrees-inserted, lists_of-inserted}
use Rattle.ordered_multimap.proofs.Remove.WholeKeys.{entry_count}
use Rattle.ordered_multimap.proofs.Detach.Answers.{left-inserted}
use Rattle.ordered_multimap.proofs.list_ordered_multimap.ListOrderedMultimap.insert_detaching_at.Goals as goal

pub insert_behind_all-requires : goal.insert_behind_all-requires
insert_behind_all-requires g c = has_fitting_chain c.self.invariant c.args.place
    (listed_inside _ c.self.view_is c.requires)

-- refused

pub invariant_of-self : goal.invariant_of-self
invariant_of-self g c =
    let u = c.in_err-left.ensures {u = tt} in
    record {
      agrees = agrees_reserved g.met.K.Eq.laws c.self.invariant.agrees u.unchanged.relocated;
      fits = u.unchanged.fits;
      paid = stays_paid u.unchanged.counts c.self.invariant.paid;
    }

pub returns-in_err-left-clause-stays : goal.returns-in_err-left-clause-stays
returns-in_err-left-clause-stays g c =
    subst (λ m. (k : g.row.K.Denot) → HasKey g.K.PartialEq.eq m.slots.keys k c.args.place
    → HasKey g.K.PartialEq.eq c.insert_behind_all.new.keys k c.args.place) c.self.view_is
    (λ k has. relocated_stays (g.K.PartialEq.eq k) c.args.place (c.in_err-left.ensures {u = tt}).unchanged.relocated has)

pub returns-in_err-left-clause-unchanged : goal.returns-in_err-left-clause-unchanged
returns-in_err-left-clause-unchanged g c =
    let u = (c.in_err-left.ensures {u = tt}).unchanged in
    let n = c.insert_behind_all.new in
    on_err c.from_residual.result
    (subst (λ m. KeepsBothLists m (map_of n.keys c.self.inside.table.capacity n.values c.self.inside.state c.self.inside.left))
    c.self.view_is
    (record { lists = lists_reserved g.met.K.Eq.laws c.self.invariant.agrees u.relocated; taken = u.counts }))

pub returns-in_err-left-clause-full : goal.returns-in_err-left-clause-full
returns-in_err-left-clause-full g c =
    let u = c.in_err-left.ensures {u = tt} in
    let after = agrees_reserved g.met.K.Eq.laws c.self.invariant.agrees u.unchanged.relocated in
    on_err c.from_residual.result (λ room. u.full (value_room after (c.insert_behind_all.new.values.list.capacity / 2) room))

pub returns-in_err-left-clause-succeeds : goal.returns-in_err-left-clause-succeeds
returns-in_err-left-clause-succeeds g c = λ room. absurd (true≢false (sym ((c.in_err-left.ensures {u = tt}).hands_back.succeeds
    (fits_value g.met.K.Eq.laws c.self.inside.keys c.self.inside.table.rows c.self.inside.values c.self.invariant.agrees
    c.self.inside.table.capacity c.self.inside.state c.self.inside.left
    (own_key g.met.K.Eq.laws c.self.invariant.agrees c.args.place
    (listed_inside _ c.self.view_is c.requires)).0
    (subst (λ m. HasValueRoom m) (sym c.self.view_is) room)))))

pub returns-in_err-left-clause-had_room : goal.returns-in_err-left-clause-had_room
returns-in_err-left-clause-had_room g c =
    let e = c.insert_behind_all.ensures.grows in
    subst (λ m. (k : g.row.K.Denot) → HasKey g.K.PartialEq.eq m.slots.keys k c.args.place
    → RaisesNoRoom g.K.PartialEq.eq k m (map_of c.insert_behind_all.new.keys c.self.inside.table.capacity c.insert_behind_all.new.values
    c.self.inside.state c.self.inside.left)) c.self.view_is
    (λ k has. raises_none (grows_there c.self.inside.keys c.self.inside.table.rows c.self.inside.values c.self.invariant.agrees
    c.self.inside.table.capacity c.self.inside.state c.self.inside.left
    c.insert_behind_all.new.keys c.self.inside.table.capacity c.insert_behind_all.new.values c.self.inside.left e.no_less e.had_room
    e.doubles e.keys_capacity refl))

-- stored

pub returns-clause-holds : goal.returns-clause-holds
returns-clause-holds g c = (c.in_ok-left.ensures.ok.drain refl).chain

pub invariant_of-self-2 : goal.invariant_of-self-2
invariant_of-self-2 g c =
    let e = c.in_ok-left.ensures in
    let own = own_key g.met.K.Eq.laws c.self.invariant.agrees c.args.place (listed_inside _ c.self.view_is c.requires) in
    record {
      agrees = agrees-inserted g.met.K.Eq.laws c.self.invariant.agrees own.0 c.args.value c.args.place own.1 e.ok.done;
      fits = e.ok.fits;
      paid = stays_paid e.ok.counts c.self.invariant.paid;
    }

pub returns-clause-stays : goal.returns-clause-stays
returns-clause-stays g c =
    subst (λ m. (k : g.row.K.Denot) → HasKey g.K.PartialEq.eq m.slots.keys k c.args.place
    → HasKey g.K.PartialEq.eq c.insert_behind_all.new.keys k c.args.place) c.self.view_is
    (λ k has. inserted_stays (g.K.PartialEq.eq k) c.args.place c.in_ok-left.ensures.ok.done has)

pub returns-clause-ok : goal.returns-clause-ok
returns-clause-ok g c =
    let o = c.in_ok-left.ensures.ok in
    let n = c.insert_behind_all.new in
    subst (λ m. (k : g.row.K.Denot) → HasKey g.K.PartialEq.eq m.slots.keys k c.args.place
    → DetachesValues g.K.PartialEq.eq m (map_of n.keys c.self.inside.table.capacity n.values c.self.inside.state c.in_ok-left.left) k
    (inserted g.K.PartialEq.eq m.lists k c.args.value)) c.self.view_is
    (λ k has. record {
      left = left-inserted g.met.K.Eq.laws c.self.invariant.agrees k c.args.value c.args.place has c.in_ok-left.left o.done
          (o.drain refl).left;
      loses = record {
        lists = lists_of-inserted g.met.K.Eq.laws c.self.invariant.agrees k c.args.value c.args.place has o.done;
        taken = subst (λ m. TakesOut m (numbers_of c.self.inside.values) (numbers_of n.values))
            (sym (entry_count g.met.K.Eq.laws c.self.invariant.agrees k c.args.place has)) o.counts;
      };
    })

pub returns-clause-had_room : goal.returns-clause-had_room
returns-clause-had_room g c =
    let e = c.insert_behind_all.ensures.grows in
    let n = c.insert_behind_all.new in
    subst (λ m. (k : g.row.K.Denot) → HasKey g.K.PartialEq.eq m.slots.keys k c.args.place
    → RaisesNoRoom g.K.PartialEq.eq k m (map_of n.keys c.self.inside.table.capacity n.values c.self.inside.state c.in_ok-left.left))
    c.self.view_is
    (λ k has. raises_none (grows_there c.self.inside.keys c.self.inside.table.rows c.self.inside.values c.self.invariant.agrees
    c.self.inside.table.capacity c.self.inside.state c.self.inside.left
    n.keys c.self.inside.table.capacity n.values c.in_ok-left.left e.no_less e.had_room e.doubles e.keys_capacity refl))
