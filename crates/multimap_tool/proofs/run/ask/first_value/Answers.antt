use Rattle.std.proofs.Common.{◌∙◌, inl, refl}
use Rattle.multimap_tool.proofs.run.ask.first_value.Goals as goal

pub returns : goal.returns
returns g c = inl (c.copied.ensures ∙ c.get.ensures, refl)
