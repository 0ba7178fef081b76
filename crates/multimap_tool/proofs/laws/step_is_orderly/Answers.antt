use Rattle.multimap_tool.specs.Step.{MayKeep}
use Rattle.multimap_tool.proofs.Running.Runs.{step_orderly}
use Rattle.multimap_tool.proofs.laws.step_is_orderly.Goals as goal

pub returns : goal.returns
returns g c = step_orderly g.met.K.Eq.laws (MayKeep g.F.Fn c.args._keep.now)
