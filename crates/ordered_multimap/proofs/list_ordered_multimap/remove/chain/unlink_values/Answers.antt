use Rattle.std.proofs.Common.{subst, arith, add-one}
use Rattle.ordered_multimap.specs.Private.Remove.{AreUnlinked}
use Rattle.ordered_multimap.proofs.Remove.WaysOut.{leaving-first, leaving-step}
use Rattle.ordered_multimap.proofs.Remove.ValueByValue.{taking-first, taking-listed, taking-told}
use Rattle.ordered_multimap.proofs.list_ordered_multimap.remove.chain.unlink_values.Goals as goal

pub unlink-given-requires : goal.unlink-given-requires
unlink-given-requires g c =
    let r = c.requires.row.1 in
    taking-listed r 0 c.args.first c.args.values.now.list (taking-first r)

pub loop-init : goal.loop-init
loop-init g c = λ row r. (
  c.unlink-given.result.1.next,
  leaving-first r c.unlink-given.new.values c.unlink-given.result.1 c.unlink-given.ensures.left,
  c.unwrap_or-next.ensures,
)

pub unlink-given-requires-in-loop : goal.unlink-given-requires-in-loop
unlink-given-requires-in-loop g c =
    let r = c.requires.row.1 in
    let a = c.loop.invariant c.requires.row.0 r in
    let some = taking-told a.1.taking (omega (arith, r.enough, c.loop-test.true)) a.2 in
    let u = subst (λ o. AreUnlinked g.W.Unlink.keeps c.requires.row.0 c.loop.counter c.loop.last o c.args.values.now c.loop.values) some
    a.1 in
    taking-listed r c.loop.counter c.loop.next c.loop.values.list u.taking

pub loop-preserved : goal.loop-preserved
loop-preserved g c = λ row r.
    let a = c.loop.invariant row r in
    let some = taking-told a.1.taking (omega (arith, r.enough, c.loop-test.true)) a.2 in
    let u = subst (λ o. AreUnlinked g.W.Unlink.keeps row c.loop.counter c.loop.last o c.args.values.now c.loop.values) some a.1 in (
      c.unlink-given-in-loop.result.1.next,
      rw add-one (leaving-step r c.loop.counter c.loop.next c.loop.last c.loop.values u c.unlink-given-in-loop.new.values
          c.unlink-given-in-loop.result.1 c.unlink-given-in-loop.ensures.left),
      c.unwrap_or-next-in-loop.ensures,
    )

pub returns-clause-left : goal.returns-clause-left
returns-clause-left g c = λ row r.
    let a = c.loop.invariant row r in (
      a.0,
      subst (λ n. AreUnlinked g.W.Unlink.keeps row n c.loop.last a.0 c.args.values.now c.loop.values)
          (omega (arith, c.loop-test.false, c.loop.auto.counter-end, c.requires.some)) a.1,
    )
