use Rattle.std.proofs.Common.{◌∙◌, length, ap}
use Rattle.multimap_walks.proofs.CountLemmas.{pairs_rest_counted}
use Rattle.multimap_walks.proofs.writing.rest.pairs.IterRestExactSizeIterator.len.Goals as goal

pub returns-clause-value : goal.returns-clause-value
returns-clause-value g c =
    let i = c.self.inside in pairs_rest_counted i.values.now i.left i.keys.now c.self.invariant ∙ ap length c.self.view_is
