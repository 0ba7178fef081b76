use Rattle.std.proofs.Common.{ℕ, ◌<◌, length, ap, ◌∙◌, arith}
use Rattle.std.proofs.lemmas.Grind.{common_steps}
use Rattle.std.specs.Ordering.{nat_cmp}
use Rattle.std.specs.FinMap as map
use Rattle.multimap_table_tests.proofs.Agreement.{agree_after_remove}
use Rattle.multimap_table_tests.proofs.compared.Compared.take.Goals as goal

pub invariant_of-self-2 : goal.invariant_of-self-2
invariant_of-self-2 g c = λ q.
    let place : ℕ = c.in-Some.place in
    let hashes = c.self.inside.hashes.items in
    let within : place < length hashes = grind (arith, common_steps) in
    ap (λ (m : map.FinMap nat_cmp ℕ). map.get m q) (c.in-Some.ensures {u = tt}).rows
    ∙ agree_after_remove c.self.inside.table.rows hashes place within c.self.invariant q
