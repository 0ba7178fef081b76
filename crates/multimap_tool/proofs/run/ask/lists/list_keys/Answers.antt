use mathlib.Core.List.{map-map}
use Rattle.std.proofs.Common.{◌∙◌, ap, inl, map, refl}
use Rattle.ordered_multimap.specs.KeyLists.{with_values}
use Rattle.multimap_tool.proofs.run.ask.lists.list_keys.Goals as goal

pub returns-in-Ok : goal.returns-in-Ok
returns-in-Ok g c =
    let m = c.args.map.now.lists in
    inl (
      c.in-Ok.ensures.ok ∙ ap (λ left. map (λ p. (p.0, p.1.left)) left) c.pairs.ensures
          ∙ map-map _ (with_values g.K.PartialEq.eq m.pairs) m.keys,
      refl,
    )
