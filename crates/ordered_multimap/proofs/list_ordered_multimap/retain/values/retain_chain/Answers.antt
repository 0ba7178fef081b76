use Rattle.std.proofs.Common.{◌<◌, Some, sym, subst}
use Rattle.multimap_slots.specs.Slots.{link_at}
use Rattle.ordered_multimap.specs.Retain.{MayAskEach}
use Rattle.ordered_multimap.proofs.Agreement.LookUps.{own_key, values_of-chain}
use Rattle.ordered_multimap.proofs.Callers.Places.{held, places_from}
use Rattle.ordered_multimap.proofs.Remove.OnePair.{has_pair}
use Rattle.ordered_multimap.proofs.Remove.Retaining.{listed_place, retaining-end}
use Rattle.ordered_multimap.proofs.Remove.RetainingKey.{IsRetainingKey, retaining_key-at, retaining_key-counts, retaining_key-may, retaining_key-room}
use Rattle.ordered_multimap.proofs.Remove.RetainingKey.{retaining_key-smaller, retaining_key-start, retaining_key-step}
use Rattle.ordered_multimap.proofs.Remove.RetainingStep.{all_counted, more_left, none_left}
use Rattle.ordered_multimap.proofs.Remove.SomePairs.{room_same, room_still}
use Rattle.ordered_multimap.proofs.list_ordered_multimap.retain.values.retain_chain.Goals as goal

pub loop-following-init : goal.loop-following-init
loop-following-init g c = record {
  retaining = λ k has. retaining_key-start g.F.FnMut g.met.K.Eq.laws k c.requires.agrees.1 c.args.key_place c.listed_link-link.result has
      c.listed_link-link.ensures.link_is
      (subst (MayAskEach g.F.FnMut c.args.f) (sym (values_of-chain g.met.K.Eq.laws c.requires.agrees.1 k c.args.key_place has)) c.requires.callable);
  counts = none_left;
  room = room_same;
}

pub retain_value_at-following-requires-clause-pair : goal.retain_value_at-following-requires-clause-pair
retain_value_at-following-requires-clause-pair g c =
    let own = own_key g.met.K.Eq.laws c.requires.agrees.1 c.args.key_place c.requires.listed in
    let r = retaining_key-at g.F.FnMut g.met.K.Eq.laws own.0 c.requires.agrees.1 c.in-Some.is (c.loop-following.invariant.retaining own.0 own.1) in
    has_pair (r.pass.agrees c.requires.agrees.0 c.requires.agrees.1) c.in-Some.place (listed_place g.met.K.Eq.laws c.requires.agrees.1 r.pass)

pub retain_value_at-following-requires-clause-callable : goal.retain_value_at-following-requires-clause-callable
retain_value_at-following-requires-clause-callable g c =
    let own = own_key g.met.K.Eq.laws c.requires.agrees.1 c.args.key_place c.requires.listed in
    let r = retaining_key-at g.F.FnMut g.met.K.Eq.laws own.0 c.requires.agrees.1 c.in-Some.is (c.loop-following.invariant.retaining own.0 own.1) in
    retaining_key-may g.F.FnMut g.met.K.Eq.laws own.0 c.requires.agrees.1 r

pub loop-following-smaller : goal.loop-following-smaller
loop-following-smaller g c =
    let own = own_key g.met.K.Eq.laws c.requires.agrees.1 c.args.key_place c.requires.listed in
    let r = retaining_key-at g.F.FnMut g.met.K.Eq.laws own.0 c.requires.agrees.1 c.in-Some.is (c.loop-following.invariant.retaining own.0 own.1) in
    let agrees = r.pass.agrees c.requires.agrees.0 c.requires.agrees.1 in
    let values = c.loop-following.values.list in let place = c.in-Some.place in
    let l = held (link_at values place) (agrees.values_sound.linked place (listed_place g.met.K.Eq.laws c.requires.agrees.1 r.pass)) in
    let t = c.retain_value_at-following.ensures in
    subst (λ o. places_from c.retain_value_at-following.new.values.list.order c.retain_value_at-following.result < places_from values.order o)
    (sym c.in-Some.is)
    (subst (λ o. places_from c.retain_value_at-following.new.values.list.order o < places_from values.order (Some place))
    (sym (t.next l.value l.is))
    (retaining_key-smaller g.F.FnMut g.met.K.Eq.laws own.0 c.requires.agrees.1 r t.retains l.value l.is))

pub loop-following-preserved : goal.loop-following-preserved
loop-following-preserved g c =
    let laws = g.met.K.Eq.laws in let old = c.requires.agrees.1 in let w = c.loop-following.invariant in
    let own = own_key laws old c.args.key_place c.requires.listed in
    let r = retaining_key-at g.F.FnMut laws own.0 old c.in-Some.is (w.retaining own.0 own.1) in
    let place = c.in-Some.place in
    let l = held (link_at c.loop-following.values.list place)
    ((r.pass.agrees c.requires.agrees.0 old).values_sound.linked place (listed_place laws old r.pass)) in
    let t = c.retain_value_at-following.ensures in
    record {
      retaining = λ k has.
          let rk = retaining_key-at g.F.FnMut laws k old c.in-Some.is (w.retaining k has) in
          subst (IsRetainingKey g.F.FnMut g.K.PartialEq.eq k c.args.keys.now c.args.table.now.rows c.args.values.now.list c.args.f
          c.retain_value_at-following.new.keys c.retain_value_at-following.new.table.rows c.retain_value_at-following.new.values.list
          c.retain_value_at-following.new.f) (sym (t.next l.value l.is))
          (retaining_key-step g.F.FnMut laws k old rk t.retains l.value l.is);
      counts = more_left w.counts (retaining_key-counts g.F.FnMut laws own.0 old r t.retains l.value l.is);
      room = room_still w.room (retaining_key-room g.F.FnMut laws own.0 old r t.retains l.value l.is);
    }

pub returns-clause-loses : goal.returns-clause-loses
returns-clause-loses g c =
    let own = own_key g.met.K.Eq.laws c.requires.agrees.1 c.args.key_place c.requires.listed in
    let w = c.loop-following.invariant in
    let pass = (w.retaining own.0 own.1).pass in
    record {
      agrees = pass.agrees;
      keys_are = pass.keys_are;
      counts = all_counted w.counts;
      fewer = w.counts.fewer;
      room = w.room;
    }

pub returns-clause-retained : goal.returns-clause-retained
returns-clause-retained g c = λ k has.
    (c.loop-following.f, retaining-end c.in_default.is (c.loop-following.invariant.retaining k has).pass)
