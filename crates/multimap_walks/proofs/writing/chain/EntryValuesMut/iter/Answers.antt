use Rattle.multimap_walks.proofs.Callers.Squashed.{read_chain}
use Rattle.multimap_walks.proofs.writing.chain.EntryValuesMut.iter.Goals as goal

pub new-requires : goal.new-requires
new-requires g c =
    let w = c.args.self.now in read_chain w.values w.left w.readable
