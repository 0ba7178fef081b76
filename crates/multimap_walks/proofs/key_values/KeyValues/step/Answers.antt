use Rattle.std.proofs.Common.{◌∙◌, sym}
use Rattle.multimap_walks.specs.KeyWalk.{deref_key, key_values_at}
use Rattle.multimap_walks.proofs.Callers.Ends.{shows_end}
use Rattle.multimap_walks.proofs.key_values.KeyValues.step.Goals as goal

pub returns : goal.returns
returns g c =
    let i = c.self.inside in
    sym c.self.view_is
    ∙ shows_end (key_values_at i.keys.now i.values.now.list) c.args.end _ c.in_ok-place.place _ (deref_key c.key_values_of.result)
    c.in_ok-place.ensures.taken c.key_values_of.ensures
