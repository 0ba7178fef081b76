use Rattle.multimap_walks.proofs.Callers.Squashed.{read_pairs}
use Rattle.multimap_walks.proofs.writing.pairs.IterMut.iter.Goals as goal

pub new-requires-clause-owned : goal.new-requires-clause-owned
new-requires-clause-owned g c =
    let w = c.args.self.now in (read_pairs w.values w.left w.keys.now w.readable).owned

pub new-requires-clause-lends : goal.new-requires-clause-lends
new-requires-clause-lends g c =
    let w = c.args.self.now in (read_pairs w.values w.left w.keys.now w.readable).lends
