use Rattle.std.proofs.Common.{◌<◌, sym, subst}
use Rattle.multimap_walks.specs.Chained.{chain_of}
use Rattle.ordered_multimap.proofs.Update.OneKey.{may_rewrite, rewriting-at, rewriting-end, rewriting-listed, rewriting-smaller}
use Rattle.ordered_multimap.proofs.Update.OneKey.{rewriting-start, rewriting-step}
use Rattle.ordered_multimap.proofs.Callers.Places.{places_from}
use Rattle.ordered_multimap.proofs.Append.Steps.{room_same, room_written}
use Rattle.ordered_multimap.proofs.list_ordered_multimap.update.rewrite_chain.Goals as goal

pub loop-following-init : goal.loop-following-init
loop-following-init g c = record {
  rewriting = rewriting-start c.requires.agrees.1 c.listed_link-link.result c.requires.listed c.listed_link-link.ensures.link_is c.requires.callable;
  room = room_same;
}

pub rewrite_at-following-requires-clause-listed : goal.rewrite_at-following-requires-clause-listed
rewrite_at-following-requires-clause-listed g c = rewriting-listed c.requires.agrees.1
    (rewriting-at c.in-Some.is c.loop-following.invariant.rewriting)

pub rewrite_at-following-requires-clause-callable : goal.rewrite_at-following-requires-clause-callable
rewrite_at-following-requires-clause-callable g c =
    λ v is. may_rewrite c.requires.agrees.1 (rewriting-at c.in-Some.is c.loop-following.invariant.rewriting) v is

pub loop-following-smaller : goal.loop-following-smaller
loop-following-smaller g c =
    subst (λ o. places_from (chain_of c.args.values.now.list c.args.key_place) c.rewrite_at-following.result < places_from
    (chain_of c.args.values.now.list c.args.key_place) o) (sym c.in-Some.is)
    (rewriting-smaller c.requires.agrees.1 (rewriting-at c.in-Some.is c.loop-following.invariant.rewriting) c.rewrite_at-following.ensures)

pub loop-following-preserved : goal.loop-following-preserved
loop-following-preserved g c =
    let w = c.loop-following.invariant in
    let one = c.rewrite_at-following.ensures in
    record {
      rewriting = rewriting-step c.requires.agrees.1 (rewriting-at c.in-Some.is w.rewriting) one;
      room = room_written _ _ w.room one.written;
    }

pub returns-clause-kept : goal.returns-clause-kept
returns-clause-kept g c =
    let w = c.loop-following.invariant in record { agrees = w.rewriting.agrees; order = w.rewriting.order; room = w.room }

pub returns-clause-rewritten : goal.returns-clause-rewritten
returns-clause-rewritten g c = (c.loop-following.f, rewriting-end c.in_default.is c.loop-following.invariant.rewriting)
