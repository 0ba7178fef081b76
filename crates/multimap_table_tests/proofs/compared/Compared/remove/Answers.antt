use Rattle.std.proofs.Common.{ℕ, ap, ◌∙◌, arith}
use Rattle.std.specs.Ordering.{nat_cmp}
use Rattle.std.specs.FinMap as map
use Rattle.multimap_table_tests.proofs.Agreement.{agree_after_remove}
use Rattle.multimap_table_tests.proofs.compared.Compared.remove.Goals as goal

pub invariant_of-self : goal.invariant_of-self
invariant_of-self g c = λ q.
    ap (λ (m : map.FinMap nat_cmp ℕ). map.get m q) c.remove.ensures.rows
    ∙ agree_after_remove c.self.inside.table.rows c.self.inside.hashes.items c.args.place
    (omega (arith, c.self.inside.hashes.ok.0)) c.self.invariant q
