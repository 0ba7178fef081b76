use Rattle.std.proofs.Common.{rules}
use Rattle.multimap_table.proofs.table.KeyTable.with_capacity.Goals as goal

pub returns-clause-room : goal.returns-clause-room
returns-clause-room g c = search rules
