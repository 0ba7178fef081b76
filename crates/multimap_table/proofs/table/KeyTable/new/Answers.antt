use Rattle.std.proofs.Common.{refl, ap, ◌∙◌, [], List, ℕ}
use Rattle.multimap_table.specs.Private.Entries.{rows_of}
use Rattle.multimap_table.proofs.RowLemmas.{rows_of-nil}
use Rattle.multimap_table.proofs.table.KeyTable.new.Goals as goal

pub returns-clause-empty : goal.returns-clause-empty
returns-clause-empty g c = ap (λ (tags : List ℕ). rows_of tags c.new-2.result.items) c.new.ensures.items
    ∙ rows_of-nil [] c.new-2.result.items refl
