use Rattle.multimap_tool.specs.Step.{MayKeep}
use Rattle.multimap_tool.proofs.Running.Runs.{run_well_formed}
use Rattle.multimap_tool.proofs.laws.run_is_well_formed.Goals as goal

pub returns : goal.returns
returns g c = run_well_formed g.met.K.Eq.laws (MayKeep g.F.Fn c.args._keep.now)
