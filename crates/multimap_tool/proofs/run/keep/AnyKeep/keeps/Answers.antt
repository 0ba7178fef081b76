use Rattle.std.proofs.Common.{refl}
use Rattle.multimap_tool.proofs.run.keep.AnyKeep.keeps.Goals as goal

pub returns : goal.returns
returns g c = record { key = _; value = _; shows = (refl, refl); left = _; called = record { met = c.self.ensures }; leaves = refl }
