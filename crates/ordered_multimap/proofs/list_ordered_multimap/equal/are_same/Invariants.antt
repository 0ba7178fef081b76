use Rattle.std.proofs.Common.{◌≡◌}
use Rattle.ordered_multimap.specs.Pairs.{same_pairs}
use Rattle.ordered_multimap.proofs.list_ordered_multimap.equal.are_same.Given as goal

-- the walks were the same if what is left of them is
abbrev pub invariant-loop-key : goal.invariant-loop-key
invariant-loop-key g l = same_pairs g.K.PartialEq.eq g.V.PartialEq.eq l.fn.left l.fn.right ≡ same_pairs g.K.PartialEq.eq g.V.PartialEq.eq
    l.key-iterator l.right
