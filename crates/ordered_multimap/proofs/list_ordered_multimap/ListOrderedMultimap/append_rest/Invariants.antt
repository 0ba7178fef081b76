use Rattle.std.proofs.Common.{◌≤◌, ◌+◌, length}
use Rattle.ordered_multimap.specs.AppendMany.{HasValueRoomFor}
use Rattle.ordered_multimap.proofs.Append.Many.{IsBehind}
use Rattle.ordered_multimap.proofs.list_ordered_multimap.ListOrderedMultimap.append_rest.Given as goal

-- the values that the iterator has given were appended, and they are no more than it may have given
abbrev pub invariant-loop-value : goal.invariant-loop-value
invariant-loop-value g l =
    IsBehind g.K.PartialEq.eq l.place (HasValueRoomFor l.fn.self ((goal.iterator-loop-value g).remaining l.initial.value-iterator))
    l.fn.self l.self l.yielded
    × (length l.yielded + (goal.iterator-loop-value g).remaining l.value-iterator
    ≤ (goal.iterator-loop-value g).remaining l.initial.value-iterator)
