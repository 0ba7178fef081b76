use Rattle.multimap_walks.proofs.Callers.Squashed.{read_lends}
use Rattle.multimap_walks.proofs.writing.values.ValuesMut.iter.Goals as goal

pub new-requires : goal.new-requires
new-requires g c =
    let w = c.args.self.now in read_lends w.values w.left w.readable
