use Rattle.std.proofs.Common.{◌∙◌, sym}
use Rattle.std.specs.Map.Iter.{deref_pair}
use Rattle.multimap_walks.specs.Chained.{pair_at}
use Rattle.multimap_walks.proofs.Callers.Ends.{shows_end}
use Rattle.multimap_walks.proofs.pairs.Iter.step.Goals as goal

pub returns : goal.returns
returns g c =
    sym c.self.view_is
    ∙ shows_end (pair_at c.self.inside.keys.now c.self.inside.values.now.list) c.args.end _ c.in_ok-place.place _
    (deref_pair c.pair_of.result) c.in_ok-place.ensures.taken c.pair_of.ensures.pair
