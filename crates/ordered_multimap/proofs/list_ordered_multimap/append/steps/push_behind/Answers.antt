use Rattle.std.proofs.Common.{arith}
use Rattle.ordered_multimap.proofs.Append.Appended.{tail_listed, chain_shorter}
use Rattle.ordered_multimap.proofs.list_ordered_multimap.append.steps.push_behind.Goals as goal

pub push_value-link-requires-clause-tail : goal.push_value-link-requires-clause-tail
push_value-link-requires-clause-tail g c =
    let s = c.requires.chain in
    tail_listed s.chains.chained c.args.place c.listed_link_mut-link.result.now s.listed c.listed_link_mut-link.ensures.value.link_is

pub overflow_add-link : goal.overflow_add-link
overflow_add-link g c =
    let s = c.requires.chain in
    let shorter = chain_shorter s.chains.chained c.args.place c.listed_link_mut-link.result.now s.listed
    c.listed_link_mut-link.ensures.value.link_is
    c.push_value-link.new.values.list.order c.push_value-link.result c.push_value-link.ensures.pushed.order in
    omega (arith, shorter, c.push_value-link.ensures.last.counted)
