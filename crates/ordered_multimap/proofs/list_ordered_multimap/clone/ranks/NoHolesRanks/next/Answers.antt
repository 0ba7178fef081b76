use Rattle.std.proofs.Common.{arith}
use Rattle.ordered_multimap.proofs.Clone.NoHoles.{below_length, next-higher, next-none}
use Rattle.ordered_multimap.proofs.list_ordered_multimap.clone.ranks.NoHolesRanks.next.Goals as goal

pub overflow_add-next : goal.overflow_add-next
overflow_add-next g c =
    let below = below_length c.args.values.now.list.order c.requires.ranks c.len-len.ensures.sound.distinct c.args.place c.requires.listed in
    omega (arith, below, c.len-len.ensures.len, c.len-len.type_inv)

pub returns-then-next-len : goal.returns-then-next-len
returns-then-next-len g c =
    next-higher c.args.values.now.list.order c.requires.ranks c.len-len.ensures.sound.distinct c.args.place c.requires.listed
    (omega (arith, c.len-len.ensures.len, c.if-next-len.true))

pub returns-else-next-len : goal.returns-else-next-len
returns-else-next-len g c =
    next-none c.args.values.now.list.order c.requires.ranks c.len-len.ensures.sound.distinct c.args.place c.requires.listed
    (omega (arith, c.len-len.ensures.len, c.if-next-len.false))
