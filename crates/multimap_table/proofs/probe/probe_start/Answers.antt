use Rattle.std.proofs.Common.{refl}
use Rattle.multimap_table.specs.Private.Layout.{probe_start}
use Rattle.multimap_table.proofs.probe.probe_start.Goals as goal

pub returns-clause-value : goal.returns-clause-value
unfolding probe_start
returns-clause-value c = refl
