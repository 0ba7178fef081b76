use Rattle.std.proofs.Common.{◌<◌, refl, sym, ap, ◌∙◌, subst}
use Rattle.ordered_multimap.proofs.Callers.Places.{places_from}
use Rattle.ordered_multimap.proofs.Append.Steps.{room_same, room_written}
use Rattle.ordered_multimap.proofs.Remove.Retaining.{retaining-at, retaining-start, retaining-end, listed_place, may_ask}
use Rattle.ordered_multimap.proofs.Remove.RetainingStep.{retaining-step, retaining-smaller, stays_written}
use Rattle.ordered_multimap.proofs.list_ordered_multimap.update.update_pairs.Goals as goal

pub loop-following-init : goal.loop-following-init
loop-following-init g c = record {
  retaining = retaining-start g.met.K.Eq.laws c.requires.agrees.1 c.front_place-following.result c.front_place-following.ensures
      c.requires.callable;
  order = refl;
  room = room_same;
}

pub next_listed_place-following-requires : goal.next_listed_place-following-requires
next_listed_place-following-requires g c =
    listed_place g.met.K.Eq.laws c.requires.agrees.1 (retaining-at c.in-Some.is c.loop-following.invariant.retaining)

pub update_at-requires-clause-owned : goal.update_at-requires-clause-owned
update_at-requires-clause-owned g c = let w = c.loop-following.invariant.retaining in record {
  listed = listed_place g.met.K.Eq.laws c.requires.agrees.1 (retaining-at c.in-Some.is w);
  owned = (w.agrees c.requires.agrees.0 c.requires.agrees.1).chained.owned;
}

pub update_at-requires-clause-callable : goal.update_at-requires-clause-callable
update_at-requires-clause-callable g c =
    λ k v is. may_ask g.met.K.Eq.laws c.requires.agrees.1 (retaining-at c.in-Some.is c.loop-following.invariant.retaining) k v is

pub loop-following-smaller : goal.loop-following-smaller
loop-following-smaller g c =
    subst (λ o. places_from c.update_at.new.values.list.order c.next_listed_place-following.result < places_from
    c.loop-following.values.list.order o) (sym c.in-Some.is)
    (retaining-smaller g.met.K.Eq.laws c.requires.agrees.1 (retaining-at c.in-Some.is c.loop-following.invariant.retaining)
    (stays_written {table = c.args.table.now} c.update_at.ensures)
    c.next_listed_place-following.result c.next_listed_place-following.ensures)

pub loop-following-preserved : goal.loop-following-preserved
loop-following-preserved g c =
    let w = c.loop-following.invariant in
    let asks = c.update_at.ensures in
    record {
      retaining =
          (retaining-step g.met.K.Eq.laws c.requires.agrees.1 (retaining-at c.in-Some.is w.retaining)
          (stays_written {table = c.args.table.now} asks)
          c.next_listed_place-following.result c.next_listed_place-following.ensures).retaining;
      order = ap (λ t. t.list.order) asks.written ∙ w.order;
      room = room_written _ _ w.room asks.written;
    }

pub returns-clause-kept : goal.returns-clause-kept
returns-clause-kept g c =
    let w = c.loop-following.invariant in record { agrees = w.retaining.agrees; order = w.order; room = w.room }

pub returns-clause-updated : goal.returns-clause-updated
returns-clause-updated g c =
    let w = c.loop-following.invariant in
    (c.loop-following.f, retaining-end c.in_default.is w.retaining)
