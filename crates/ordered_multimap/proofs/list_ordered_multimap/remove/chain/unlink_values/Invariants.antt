use Rattle.std.proofs.Common.{◌≡◌, ℕ, List, Option, unwrap_or}
use Rattle.ordered_multimap.specs.Private.Remove.{AreUnlinked, IsRow}
use Rattle.ordered_multimap.proofs.list_ordered_multimap.remove.chain.unlink_values.Given as goal

abbrev pub invariant-loop : goal.invariant-loop
invariant-loop g l =
    (row : List ℕ) → IsRow l.fn.values.list l.first l.count row
    → (following : Option ℕ) × AreUnlinked g.W.Unlink.keeps row l.counter l.last following l.fn.values l.values
    × (l.next ≡ unwrap_or following 0)
