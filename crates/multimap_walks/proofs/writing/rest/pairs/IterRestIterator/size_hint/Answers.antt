use Rattle.std.proofs.Common.{◌∙◌, length, ap}
use Rattle.multimap_walks.proofs.CountLemmas.{pairs_rest_counted, tells_length}
use Rattle.multimap_walks.proofs.writing.rest.pairs.IterRestIterator.size_hint.Goals as goal

pub returns : goal.returns
returns g c =
    let i = c.self.inside in
    tells_length c.args.self.now i.left.length
    (pairs_rest_counted i.values.now i.left i.keys.now c.self.invariant ∙ ap length c.self.view_is)
