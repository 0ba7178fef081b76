use Rattle.std.proofs.Common.{ap, sym, ◌∙◌, subst}
use Rattle.ordered_multimap.specs.Additions.{Appends}
use Rattle.ordered_multimap.specs.Keys.{is_listed}
use Rattle.ordered_multimap.specs.Agrees.{hash_of}
use Rattle.ordered_multimap.proofs.Append.Appended.{first_agrees, first_lists, refused_lists, stays_paid}
use Rattle.ordered_multimap.proofs.Agreement.LookUps.{new_key}
use Rattle.ordered_multimap.proofs.Agreement.StayingKeys.{first_stays}
use Rattle.ordered_multimap.specs.Private.KeySteps.{KeepsPlaces}
use Rattle.ordered_multimap.proofs.Append.Rooms.{both_on_err, keeps_rooms, fits_pair, raises_none_absent, first_on_err, if_err-map, map_of}
use Rattle.ordered_multimap.proofs.Append.Rooms.{on_ok-map}
use Rattle.ordered_multimap.proofs.list_ordered_multimap.ListOrderedMultimap.append_new.Goals as goal

pub invariant_of-self : goal.invariant_of-self
invariant_of-self g c = record {
  agrees =
      first_agrees g.met.K.Eq.laws c.self.invariant.agrees c.args.key c.args.value _ _ _ c.args.hash
      (ap (λ m. is_listed g.K.PartialEq.eq m.lists.keys c.args.key) c.self.view_is ∙ c.requires.absent)
      (c.requires.hash ∙ ap (λ m. hash_of g.S.BuildHasher g.S.Hasher.Hasher m.hasher (g.K.Hash.hash_input c.args.key))
      (sym c.self.view_is)) c.append_first.result
      c.append_first.ensures.ok c.append_first.ensures.unchanged;
  fits = c.append_first.ensures.values.fits c.self.invariant.fits;
  paid = stays_paid c.append_first.ensures.values.taken c.self.invariant.paid;
}

pub returns-clause-found : goal.returns-clause-found
returns-clause-found g c = new_key g.met.K.Eq.laws _ c.args.key c.append_first.result c.append_first.ensures.found

pub returns-clause-places : goal.returns-clause-places
returns-clause-places g c =
    let i = c.self.inside in
    let n = c.append_first.new in
    let e = c.append_first.ensures in
    subst (λ m. KeepsPlaces g.K.PartialEq.eq m (map_of n.keys n.table.capacity n.values i.state i.left)) c.self.view_is
    (λ k place has. first_stays (g.K.PartialEq.eq k) place _ _ _ _ _ _ c.args.hash c.args.key c.args.value has c.append_first.result e.ok
    e.unchanged)

pub returns-clause-appends : goal.returns-clause-appends
returns-clause-appends g c =
    let i = c.self.inside in
    let n = c.append_first.new in
    let e = c.append_first.ensures in
    let r = c.append_first.result in
    let agrees = c.self.invariant.agrees in
    let absent = ap (λ m. is_listed g.K.PartialEq.eq m.lists.keys c.args.key) c.self.view_is ∙ c.requires.absent in
    let rooms = keeps_rooms _ _ _ _ _ _ _ _ _ _ _ _ _ e.grows.more_keys e.grows.more_rows e.values.no_less in
    let had_room = raises_none_absent g.met.K.Eq.laws i.keys i.table.rows i.values agrees i.table.capacity i.state i.left c.args.key
    n.keys n.table.capacity n.values e.values absent e.grows in
    let after =
    first_agrees g.met.K.Eq.laws agrees c.args.key c.args.value _ _ _ c.args.hash absent
    (c.requires.hash ∙ ap (λ m. hash_of g.S.BuildHasher g.S.Hasher.Hasher m.hasher (g.K.Hash.hash_input c.args.key))
    (sym c.self.view_is)) r e.ok e.unchanged in
    subst (λ m. Appends g.K.PartialEq.eq c.args.key c.args.value m (map_of n.keys n.table.capacity n.values i.state i.left) r)
    c.self.view_is (record {
      ok = on_ok-map (λ lists. record { lists = lists; rooms = rooms; had_room = had_room; taken = e.values.taken }) r
          (first_lists g.met.K.Eq.laws agrees c.args.key c.args.value _ _ _ c.args.hash absent
          (c.requires.hash ∙ ap (λ m. hash_of g.S.BuildHasher g.S.Hasher.Hasher m.hasher (g.K.Hash.hash_input c.args.key))
          (sym c.self.view_is)) r e.ok);
      refused = if_err-map (λ pair kept returned. record {
        returned = returned;
        lists = kept.0;
        rooms = rooms;
        had_room = had_room;
        taken = e.values.taken;
        full = λ room. kept.1 (fits_pair g.met.K.Eq.laws n.keys n.table.rows n.values after n.table.capacity i.state i.left c.args.key
            (ap (λ m. is_listed g.K.PartialEq.eq m.keys c.args.key) kept.0 ∙ absent) room);
      }) r (both_on_err _ _ r (refused_lists g.met.K.Eq.laws agrees c.args.key c.args.value _ _ r (first_on_err _ _ r e.unchanged)) e.full)
          e.refused;
      succeeds = λ room. e.succeeds
          (fits_pair g.met.K.Eq.laws i.keys i.table.rows i.values agrees i.table.capacity i.state i.left c.args.key absent room);
    })

pub returns-clause-paid : goal.returns-clause-paid
returns-clause-paid g c = stays_paid c.append_first.ensures.values.taken c.self.invariant.paid
