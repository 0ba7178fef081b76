use Rattle.std.proofs.Common.{◌-◌, ◌+◌, inl, subst, arith}
use Rattle.multimap_slots.specs.Lists.{IsIn}
use Rattle.ordered_multimap.specs.Detaches.{drained_places}
use Rattle.ordered_multimap.proofs.Detach.DrainSteps.{drained-length, first_detached, first_dropped, first_rest, keeps_slots, keeps_all, keeps_more}
use Rattle.ordered_multimap.proofs.Append.Steps.{room_on, room_same}
use Rattle.ordered_multimap.proofs.list_ordered_multimap.drain.steps.drop_chain.Goals as goal

pub loop-init : goal.loop-init
loop-init g c =
    let e = c.args.ends in
    record {
      left = drained-length e.first e.last e.length (e.length - 0) (omega arith) c.requires;
      dropped = λ p member.
          inl (subst (λ n. IsIn p (drained_places c.args.values.now.list (record { first = e.first; last = e.last; length = n }))) (omega arith)
          member);
      kept = keeps_all;
      room = room_same;
    }

pub take_detached_linked-value-requires : goal.take_detached_linked-value-requires
take_detached_linked-value-requires g c =
    let e = c.args.ends in
    first_detached (record { first = c.loop.place; last = e.last; length = e.length - c.loop.counter }) ∣ c.loop.invariant.left ∣₁
    (e.length - (c.loop.counter + 1)) (omega (arith, c.loop-test.true))

pub loop-preserved : goal.loop-preserved
loop-preserved g c =
    let e = c.args.ends in
    let w = c.loop.invariant in
    let t = c.take_detached_linked-value.ensures in
    record {
      left =
          first_rest (record { first = c.loop.place; last = e.last; length = e.length - c.loop.counter }) ∣ w.left ∣₁
          (e.length - (c.loop.counter + 1)) (omega (arith, c.loop-test.true)) c.take_detached_linked-value.result.1 c.unwrap_or-place.result
          c.take_detached_linked-value.ensures.link c.unwrap_or-place.ensures t.taken;
      dropped = λ p member.
          first_dropped (record { first = c.loop.place; last = e.last; length = e.length - c.loop.counter }) ∣ w.left ∣₁
          (e.length - (c.loop.counter + 1)) (omega (arith, c.loop-test.true)) c.take_detached_linked-value.result.1 c.unwrap_or-place.result
          c.take_detached_linked-value.ensures.link c.unwrap_or-place.ensures t.taken p (w.dropped p member);
      kept = keeps_more w.kept (keeps_slots c.len-len.ensures.sound
          (first_detached (record { first = c.loop.place; last = e.last; length = e.length - c.loop.counter }) ∣ w.left ∣₁
          (e.length - (c.loop.counter + 1)) (omega (arith, c.loop-test.true))) t.taken);
      room = room_on w.room t.counts t.capacity;
    }
