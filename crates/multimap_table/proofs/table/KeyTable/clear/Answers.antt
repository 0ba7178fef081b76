use Rattle.std.proofs.Common.{ap, ◌∙◌, replicate, ℕ}
use Rattle.multimap_table.proofs.TableLemmas.{table_cleared, rows_of-replicate}
use Rattle.multimap_table.proofs.table.KeyTable.clear.Goals as goal

pub invariant_of-self : goal.invariant_of-self
invariant_of-self g c =
    table_cleared c.self.inside.tags.items c.fill.new.self.items c.self.inside.rows.items c.self.inside.len c.self.invariant
    (c.fill.ensures.items (λ y e. e) ∙ ap (λ (n : ℕ). replicate n 0) c.self.inside.tags.ok.0)

pub returns-clause-empty : goal.returns-clause-empty
returns-clause-empty g c = rows_of-replicate c.fill.new.self.items c.self.inside.rows.items _ (c.fill.ensures.items (λ y e. e))
