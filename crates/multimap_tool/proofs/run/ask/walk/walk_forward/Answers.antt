use Rattle.std.proofs.Common.{◌<◌, length, arith}
use Rattle.ordered_multimap.specs.Walk.{answers_of_walk, forward}
use Rattle.multimap_tool.proofs.Running.Walked.{forward_on, one_less, forward_done}
use Rattle.multimap_tool.proofs.run.ask.walk.walk_forward.Goals as goal

pub loop-preserved : goal.loop-preserved
loop-preserved g c =
    let l = c.loop in
    let left = g.W.Copied.left l.rest in
    let all = g.W.Copied.left c.args.walk in
    let some : 0 < length left = omega (arith, l.invariant.left, c.loop-test.true) in
    record {
      taken = rw (c.push_reserved.ensures.items, c.take.ensures.item, c.take.ensures.rest)
          (forward_on left l.taken.items (answers_of_walk all (forward all)) some l.invariant.taken);
      left = rw c.take.ensures.rest (one_less left l.counter c.count-count.result some l.invariant.left);
      count = omega (arith, l.invariant.count, c.push_reserved.ensures.len);
      room = omega (arith, l.invariant.room, c.push_reserved.ensures.capacity);
    }

pub returns-clause-ok : goal.returns-clause-ok
returns-clause-ok g c =
    let l = c.loop in
    let all = g.W.Copied.left c.args.walk in
    forward_done (g.W.Copied.left l.rest) l.taken.items (answers_of_walk all (forward all))
    (omega (arith, l.invariant.left, c.loop-test.false)) l.invariant.taken
