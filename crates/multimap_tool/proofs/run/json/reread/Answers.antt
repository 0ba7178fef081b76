use Rattle.std.proofs.Common.{inl, subst, ◌∙◌}
use Rattle.multimap_tool.specs.JsonLists.{IsRead}
use Rattle.multimap_tool.proofs.Callers.JsonParts.{read_back}
use Rattle.multimap_tool.specs.declared.commands.Command.TheVariants.{Json}
use Rattle.multimap_tool.proofs.Running.Reread.{read_anew}
use Rattle.multimap_tool.proofs.run.json.reread.Goals as goal

pub returns-in-Ok-from_value : goal.returns-in-Ok-from_value
returns-in-Ok-from_value g c =
    let m = c.args.map.now.lists in
    let n = c.in-Ok-from_value.read.lists in
    let read = subst (λ d. IsRead g.K.JsonPart.json g.V.JsonPart.json g.K.JsonPart.is_part g.V.JsonPart.is_part g.K.PartialEq.eq d n)
    c.in-Ok.ensures.written c.in-Ok-from_value.ensures.read in
    read_anew g.K.PartialEq.eq _ c.args.map.now c.in-Ok-from_value.read Json tt (inl (
      tt,
      read_back g.K.JsonPart.json g.V.JsonPart.json c.requires.keys c.requires.values g.met.K.Eq.laws m n
          c.keys_len-keys.ensures.well_formed read,
    )) (λ same. c.in-Ok-from_value.ensures.hasher ∙ same _ _ c.in-Ok-clone.ensures.cases ∙ c.hasher.ensures)
