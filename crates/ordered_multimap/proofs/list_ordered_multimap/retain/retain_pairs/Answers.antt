use Rattle.std.proofs.Common.{◌<◌, sym, subst}
use Rattle.ordered_multimap.proofs.Remove.OnePair.{has_pair, retains_room}
use Rattle.ordered_multimap.proofs.Callers.Places.{places_from}
use Rattle.ordered_multimap.proofs.Remove.Retaining.{retaining-at, retaining-start, retaining-end, listed_place, may_ask}
use Rattle.ordered_multimap.proofs.Remove.RetainingStep.{all_counted, more_left, none_left, retaining-step, retaining-smaller, retaining-counts}
use Rattle.ordered_multimap.proofs.Remove.SomePairs.{room_same, room_still}
use Rattle.ordered_multimap.proofs.list_ordered_multimap.retain.retain_pairs.Goals as goal

pub loop-following-init : goal.loop-following-init
loop-following-init g c = record {
  retaining = retaining-start g.met.K.Eq.laws c.requires.agrees.1 c.front_place-following.result c.front_place-following.ensures
      c.requires.callable;
  counts = none_left;
  room = room_same;
}

pub next_listed_place-following-requires : goal.next_listed_place-following-requires
next_listed_place-following-requires g c = listed_place g.met.K.Eq.laws c.requires.agrees.1
    (retaining-at c.in-Some.is c.loop-following.invariant.retaining)

pub retain_at-requires-clause-pair : goal.retain_at-requires-clause-pair
retain_at-requires-clause-pair g c =
    has_pair (c.loop-following.invariant.retaining.agrees c.requires.agrees.0 c.requires.agrees.1) c.in-Some.place
    (listed_place g.met.K.Eq.laws c.requires.agrees.1 (retaining-at c.in-Some.is c.loop-following.invariant.retaining))

pub retain_at-requires-clause-callable : goal.retain_at-requires-clause-callable
retain_at-requires-clause-callable g c =
    λ k v is. may_ask g.met.K.Eq.laws c.requires.agrees.1 (retaining-at c.in-Some.is c.loop-following.invariant.retaining) k v is

pub loop-following-smaller : goal.loop-following-smaller
loop-following-smaller g c =
    let s = c.retain_at.ensures in
    subst (λ o. places_from c.retain_at.new.values.list.order c.next_listed_place-following.result < places_from
    c.loop-following.values.list.order o) (sym c.in-Some.is)
    (retaining-smaller g.met.K.Eq.laws c.requires.agrees.1 (retaining-at c.in-Some.is c.loop-following.invariant.retaining) s
    c.next_listed_place-following.result c.next_listed_place-following.ensures)

pub loop-following-preserved : goal.loop-following-preserved
loop-following-preserved g c =
    let w = c.loop-following.invariant in
    let r = retaining-at c.in-Some.is w.retaining in
    let s = c.retain_at.ensures in
    record {
      retaining =
          (retaining-step g.met.K.Eq.laws c.requires.agrees.1 r s
          c.next_listed_place-following.result c.next_listed_place-following.ensures).retaining;
      counts = more_left w.counts (retaining-counts g.met.K.Eq.laws c.requires.agrees.1 r s);
      room = room_still w.room (retains_room s);
    }

pub returns-clause-loses : goal.returns-clause-loses
returns-clause-loses g c =
    let w = c.loop-following.invariant in
    record {
      agrees = w.retaining.agrees;
      keys_are = w.retaining.keys_are;
      counts = all_counted w.counts;
      fewer = w.counts.fewer;
      room = w.room;
    }

pub returns-clause-retained : goal.returns-clause-retained
returns-clause-retained g c = (c.loop-following.f, retaining-end c.in_default.is c.loop-following.invariant.retaining)
