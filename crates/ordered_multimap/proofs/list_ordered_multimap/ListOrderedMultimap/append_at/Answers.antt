use Rattle.std.proofs.Common.{◌/◌, IfErr, OnOk, IsOk, refl, ap, ◌∙◌, subst}
use Rattle.ordered_multimap.specs.Additions.{IsAppendedAt, RefusesValue}
use Rattle.ordered_multimap.specs.Private.KeySteps.{KeepsPlace}
use Rattle.ordered_multimap.specs.Multimap.{Multimap}
use Rattle.ordered_multimap.specs.Rooms.{GrowsForValue, HasValueRoom}
use Rattle.ordered_multimap.proofs.Remove.OnePair.{has_chain}
use Rattle.ordered_multimap.proofs.Agreement.LookUps.{listed_inside, own_key}
use Rattle.ordered_multimap.proofs.Append.Appended.{behind_agrees, behind_keys, behind_lists, refused_lists, stays_paid}
use Rattle.ordered_multimap.proofs.Agreement.StayingKeys.{behind_stays}
use Rattle.ordered_multimap.proofs.Agreement.Agreed.{value_room}
use Rattle.ordered_multimap.proofs.Append.Rooms.{both_on_err, fits_value, grows_there, if_err-map, map_of, on_ok-map}
use Rattle.ordered_multimap.proofs.list_ordered_multimap.ListOrderedMultimap.append_at.Given.{Over}
use Rattle.ordered_multimap.proofs.list_ordered_multimap.ListOrderedMultimap.append_at.Goals.{After-append_behind}
use Rattle.ordered_multimap.proofs.list_ordered_multimap.ListOrderedMultimap.append_at.Goals as goal

pub append_behind-requires : goal.append_behind-requires
append_behind-requires g c = record {
  chain = has_chain c.self.invariant.agrees c.args.place
      (listed_inside _ c.self.view_is c.requires);
}

pub invariant_of-self : goal.invariant_of-self
invariant_of-self g c =
    let agrees = c.self.invariant.agrees in
    let own = own_key g.met.K.Eq.laws agrees c.args.place (listed_inside _ c.self.view_is c.requires) in
    let e = c.append_behind.ensures in
    record {
      agrees = behind_agrees g.met.K.Eq.laws agrees own.0 c.args.value _ _ c.args.place own.1 c.append_behind.result e.ok e.unchanged;
      fits = e.values.fits c.self.invariant.fits;
      paid = stays_paid e.values.taken c.self.invariant.paid;
    }

-- the map as it is left
abbrev new_map : (g : Over) (c : After-append_behind g) → Multimap g.row.K.Denot g.row.V.Denot g.row.S.Denot
new_map g c = map_of c.append_behind.new.keys c.self.inside.table.capacity c.append_behind.new.values c.self.inside.state c.self.inside.left

pub returns-clause-stays : goal.returns-clause-stays
returns-clause-stays g c =
    let own = own_key g.met.K.Eq.laws c.self.invariant.agrees c.args.place (listed_inside _ c.self.view_is c.requires) in
    let e = c.append_behind.ensures in
    subst (λ m. KeepsPlace g.K.PartialEq.eq m (new_map g c) c.args.place) c.self.view_is
    (record {
      listed = (behind_stays (g.K.PartialEq.eq own.0) c.args.place _ _ _ _ c.args.value c.args.place own.1 c.append_behind.result e.ok
          e.unchanged).listed;
      stays = λ k has. behind_stays (g.K.PartialEq.eq k) c.args.place _ _ _ _ c.args.value c.args.place has c.append_behind.result e.ok
          e.unchanged;
    })

pub returns-clause-keys : goal.returns-clause-keys
returns-clause-keys g c =
    let agrees = c.self.invariant.agrees in
    let own = own_key g.met.K.Eq.laws agrees c.args.place (listed_inside _ c.self.view_is c.requires) in
    let e = c.append_behind.ensures in
    behind_keys g.met.K.Eq.laws agrees own.0 c.args.value _ _ c.args.place own.1 c.append_behind.result e.ok e.unchanged
    ∙ ap (λ m. m.lists.keys) c.self.view_is

-- it grows so whether the value was appended or refused
abbrev grows : (g : Over) (c : After-append_behind g) → GrowsForValue
    (map_of c.self.inside.keys c.self.inside.table.capacity c.self.inside.values c.self.inside.state c.self.inside.left) (new_map g c)
grows g c =
    let i = c.self.inside in
    let n = c.append_behind.new in
    let e = c.append_behind.ensures in
    grows_there i.keys i.table.rows i.values c.self.invariant.agrees i.table.capacity i.state i.left n.keys i.table.capacity n.values i.left
    e.values.no_less e.values.had_room e.values.doubles e.keys_capacity refl

pub returns-clause-ok : goal.returns-clause-ok
returns-clause-ok g c =
    let e = c.append_behind.ensures in
    subst (λ m. OnOk c.append_behind.result (IsAppendedAt g.K.PartialEq.eq c.args.place c.args.value m (new_map g c))) c.self.view_is
    (on_ok-map (λ lists. record { lists = lists; grows = grows g c; taken = e.values.taken }) c.append_behind.result
    (behind_lists g.met.K.Eq.laws c.self.invariant.agrees _ _ c.args.value c.args.place c.append_behind.result e.ok))

pub returns-clause-refused : goal.returns-clause-refused
returns-clause-refused g c =
    let e = c.append_behind.ensures in
    let agrees = c.self.invariant.agrees in
    let own = own_key g.met.K.Eq.laws agrees c.args.place (listed_inside _ c.self.view_is c.requires) in
    let after = behind_agrees g.met.K.Eq.laws agrees own.0 c.args.value _ _ c.args.place own.1 c.append_behind.result e.ok e.unchanged in
    subst (λ m. IfErr c.append_behind.result (RefusesValue c.args.value m (new_map g c))) c.self.view_is
    (if_err-map (λ r kept returned. record {
      returned = returned;
      lists = kept.0;
      grows = grows g c;
      taken = e.values.taken;
      full = λ room. kept.1 (value_room after (c.append_behind.new.values.list.capacity / 2) room);
    }) c.append_behind.result (both_on_err _ _ c.append_behind.result
    (refused_lists g.met.K.Eq.laws agrees own.0 c.args.value _ _ c.append_behind.result e.unchanged) e.full)
    e.hands_back.refused)

pub returns-clause-succeeds : goal.returns-clause-succeeds
returns-clause-succeeds g c =
    let i = c.self.inside in
    let agrees = c.self.invariant.agrees in
    let own = own_key g.met.K.Eq.laws agrees c.args.place (listed_inside _ c.self.view_is c.requires) in
    subst (λ m. HasValueRoom m → IsOk c.append_behind.result) c.self.view_is
    (λ room. c.append_behind.ensures.hands_back.succeeds
    (fits_value g.met.K.Eq.laws i.keys i.table.rows i.values agrees i.table.capacity i.state i.left own.0 room))

pub returns-clause-paid : goal.returns-clause-paid
returns-clause-paid g c = stays_paid c.append_behind.ensures.values.taken c.self.invariant.paid
