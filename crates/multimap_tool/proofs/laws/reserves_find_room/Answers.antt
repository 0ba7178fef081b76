use Rattle.multimap_tool.specs.Step.{MayKeep}
use Rattle.multimap_tool.proofs.Running.Reserved.{reserve_finds}
use Rattle.multimap_tool.proofs.laws.reserves_find_room.Goals as goal

pub returns : goal.returns
returns g c = reserve_finds (MayKeep g.F.Fn c.args._keep.now) g.K.PartialEq.eq g.S.Clone.is_clone
