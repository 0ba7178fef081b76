use Rattle.std.proofs.Common.{inl, IfSome, subst, ◌∙◌}
use Rattle.multimap_tool.specs.Json.{UnlessMemory}
use Rattle.multimap_tool.specs.JsonLists.{both_arrays, AreAccepted, IsRead, IsFaultIn}
use Rattle.multimap_tool.proofs.JsonValues.BothLists.{read_lists_back, no_fault_in_lists}
use Rattle.multimap_tool.specs.declared.commands.Command.TheVariants.{Json2}
use Rattle.multimap_tool.proofs.Running.Reread.{read_anew}
use Rattle.multimap_tool.proofs.run.json.reread_lists.Goals as goal

pub returns-in-Ok-from_value : goal.returns-in-Ok-from_value
returns-in-Ok-from_value g c =
    let m = c.args.map.now.lists in
    let n = c.in-Ok-from_value.copy.lists in
    let key = g.K.JsonPart in
    let value = g.V.JsonPart in
    let read = subst (λ d. IsRead key.json value.json key.is_part value.is_part g.K.PartialEq.eq d n) c.in-Ok.ensures.written
    c.in-Ok-from_value.ensures.read in
    read_anew g.K.PartialEq.eq _ c.args.map.now c.in-Ok-from_value.copy Json2 tt (inl (
      tt,
      read_lists_back key.json value.json c.requires.keys c.requires.values key.is_part value.is_part g.met.K.Eq.laws m n
          c.keys_len-keys.ensures.well_formed read,
    )) (λ same. c.in-Ok-from_value.ensures.hasher ∙ same _ _ c.in-Ok-clone.ensures.cases ∙ c.hasher.ensures)

pub unreachable-requires : goal.unreachable-requires
unreachable-requires g c =
    let m = c.args.map.now.lists in
    let key = g.K.JsonPart in
    let value = g.V.JsonPart in
    let eq = g.K.PartialEq.eq in
    let fault = c.in-Err.fault in
    let accepted = subst (λ d. IfSome (both_arrays d) (AreAccepted key.is_part value.is_part)) c.in-Ok.ensures.written
    c.in-Ok.ensures.accepted in
    let found = subst (λ d. UnlessMemory (IsFaultIn key.json value.json key.is_part value.is_part eq d) fault) c.in-Ok.ensures.written
    c.in-Err.ensures.fault in
    no_fault_in_lists key.json value.json c.requires.keys c.requires.values key.is_part value.is_part g.met.K.Eq.laws m fault
    c.keys_len-keys.ensures.well_formed accepted c.in_default-fault.not-OutOfMemory found
