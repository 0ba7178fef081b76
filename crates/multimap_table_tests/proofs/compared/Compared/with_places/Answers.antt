use Rattle.std.proofs.Common.{ℕ, sym, ap, ◌∙◌}
use Rattle.std.specs.Ordering.{nat_cmp}
use Rattle.std.specs.FinMap as map
use Rattle.multimap_table_tests.proofs.Agreement.{all_none}
use Rattle.multimap_table_tests.proofs.compared.Compared.with_places.Goals as goal

pub invariant_of-result : goal.invariant_of-result
invariant_of-result g c = λ q.
    ap (λ (m : map.FinMap nat_cmp ℕ). map.get m q) c.new-table.ensures.empty ∙ map.get-empty nat_cmp q
    ∙ sym (all_none _ _ _ _ c.new-hashes.ensures.items c.in_ok-resize.ensures.items q)
