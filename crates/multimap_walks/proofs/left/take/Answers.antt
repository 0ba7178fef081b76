use Rattle.multimap_walks.proofs.Callers.Along.{end_listed, rest_left, takes_one}
use Rattle.multimap_walks.proofs.left.take.Goals as goal
use Rattle.std.proofs.Common.{arith}

pub returns-clause-are_left : goal.returns-clause-are_left
returns-clause-are_left g c =
    rw c.after.ensures
    (rest_left (g.O.Ordered.order c.args.list.now) c.args.left.now (omega (arith, c.in_ok-beyond.ensures.some)) c.requires c.args.end c.in_ok-beyond.beyond c.in_ok-beyond.ensures.beyond)

pub returns-clause-listed : goal.returns-clause-listed
returns-clause-listed g c =
    rw c.place_at-place.ensures (end_listed (g.O.Ordered.order c.args.list.now) c.args.left.now (omega (arith, c.in_ok-beyond.ensures.some)) c.requires c.args.end)

pub returns-clause-taken : goal.returns-clause-taken
returns-clause-taken g c =
    rw (c.after.ensures, c.place_at-place.ensures)
    (takes_one (g.O.Ordered.order c.args.list.now) c.args.left.now (omega (arith, c.in_ok-beyond.ensures.some)) c.requires c.args.end c.in_ok-beyond.beyond c.in_ok-beyond.ensures.beyond)
