use Rattle.std.proofs.Common.{ap, ◌∙◌}
use Rattle.std.specs.FinMap as map
use Rattle.multimap_table.specs.Table.{Table}
use Rattle.multimap_table.proofs.TableLemmas.{len_of}
use Rattle.multimap_table.proofs.table.KeyTable.len.Goals as goal

pub returns : goal.returns
returns g c = len_of _ _ _ c.self.invariant ∙ ap (λ (t : Table). map.len t.rows) c.self.view_is
