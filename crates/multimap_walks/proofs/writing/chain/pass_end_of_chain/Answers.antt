use Rattle.std.proofs.Common.{arith}
use Rattle.multimap_walks.proofs.WritingLemmas.{chain_end_left}
use Rattle.multimap_walks.proofs.writing.chain.pass_end_of_chain.Goals as goal

pub returns-clause-is_left : goal.returns-clause-is_left
returns-clause-is_left g c =
    rw c.place_at-place.ensures (chain_end_left c.args.cells.now c.args.left.now (omega (arith, c.in_ok-rest.ensures.taken.count)) c.requires c.args.end)
