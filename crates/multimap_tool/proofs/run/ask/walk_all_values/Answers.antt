use Rattle.std.proofs.Common.{◌∙◌, ap, inl, inr, refl, subst}
use Rattle.multimap_tool.specs.Step.{ListsItem, walked}
use Rattle.multimap_tool.proofs.run.ask.walk_all_values.Goals as goal

pub returns-in-Ok : goal.returns-in-Ok
returns-in-Ok g c = inl (c.in-Ok.ensures.ok ∙ ap (λ values. walked values c.args.ends.now) c.values.ensures, refl)

pub returns-in-Err : goal.returns-in-Err
returns-in-Err g c = inr (
  refl,
  subst (λ values. ListsItem (walked values c.args.ends.now)) c.values.ensures
      c.in-Err.ensures.lists_item,
  refl,
)
