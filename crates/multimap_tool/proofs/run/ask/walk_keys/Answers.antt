use Rattle.std.proofs.Common.{◌∙◌, ap, inl, inr, refl, subst}
use Rattle.multimap_tool.specs.Step.{ListsItem, walked}
use Rattle.multimap_tool.proofs.run.ask.walk_keys.Goals as goal

pub returns-in-Ok : goal.returns-in-Ok
returns-in-Ok g c = inl (c.in-Ok.ensures.ok ∙ ap (λ keys. walked keys c.args.ends.now) c.keys.ensures, refl)

pub returns-in-Err : goal.returns-in-Err
returns-in-Err g c = inr (refl, subst (λ keys. ListsItem (walked keys c.args.ends.now)) c.keys.ensures c.in-Err.ensures.lists_item, refl)
