use Rattle.multimap_tool.proofs.Texts.Reads.{Consumes-append}
use Rattle.multimap_tool.proofs.execute.read_all.Goals as goal

pub loop-preserved : goal.loop-preserved
loop-preserved g c =
    rw c.in_ok-extend_from_slice-in-Ok.ensures.items
    (Consumes-append _ _ _ c.loop.bytes.items _ c.loop.invariant c.in-Ok.ensures.bytes.0)
