use Rattle.std.proofs.Common.{◌-◌, ◌+◌, arith}
use Rattle.multimap_slots.proofs.RunLengths.Changes.{WritesRun-set}
use Rattle.multimap_slots.proofs.tape.runs.write.set_above.Goals as goal

pub returns : goal.returns
returns c =
    WritesRun-set c.args.runs.now (c.args.to + 1) (c.args.from + c.args.behind) (c.args.from + 1 + c.args.behind)
    (c.args.from - c.args.to + c.args.behind)
    (omega arith) (omega (arith, c.requires.down)) (omega (arith, c.requires.down)) c.requires.within c.requires.holes
