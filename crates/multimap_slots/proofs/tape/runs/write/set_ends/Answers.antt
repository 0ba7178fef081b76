use Rattle.std.proofs.Common.{◌-◌, arith}
use Rattle.multimap_slots.proofs.RunLengths.Changes.{WritesRun-set}
use Rattle.multimap_slots.proofs.tape.runs.write.set_ends.Goals as goal

pub returns : goal.returns
returns c =
    WritesRun-set c.args.runs.now (c.args.start) (c.args.end - 1) c.args.end (c.args.end - c.args.start)
    (omega (arith, c.requires.rises)) (omega (arith, c.requires.rises))
    (omega (arith, c.requires.rises))
    (omega (arith, c.requires.rises, c.requires.within)) c.requires.holes
