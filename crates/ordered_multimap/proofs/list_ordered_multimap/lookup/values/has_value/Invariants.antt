use Rattle.std.proofs.Common.{◌≡◌}
use Rattle.std.specs.List.{list_any}
use Rattle.ordered_multimap.proofs.list_ordered_multimap.lookup.values.has_value.Given as goal

-- there was an equal value if there is one among those that are left
abbrev pub invariant-loop-stored : goal.invariant-loop-stored
invariant-loop-stored g l =
    list_any (g.V.PartialEq.eq l.value) l.fn.values.left ≡ list_any (g.V.PartialEq.eq l.value) l.stored-iterator.left
