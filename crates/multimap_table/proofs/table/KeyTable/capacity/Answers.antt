use Rattle.std.proofs.Common.{rules, ap, ◌∙◌, arith}
use Rattle.std.specs.FinMap as map
use Rattle.multimap_table.specs.Table.{Table}
use Rattle.multimap_table.proofs.TableLemmas.{len_of}
use Rattle.multimap_table.proofs.table.KeyTable.capacity.Goals as goal

pub returns-clause-fits : goal.returns-clause-fits
returns-clause-fits g c =
    let len = len_of _ _ _ c.self.invariant ∙ ap (λ (t : Table). map.len t.rows) c.self.view_is in
    let capacity = ap (λ (t : Table). t.capacity) c.self.view_is in
    omega (arith, len, capacity, c.self.invariant.load)

pub returns-clause-capacity : goal.returns-clause-capacity
returns-clause-capacity g c = search rules
