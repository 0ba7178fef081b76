use Rattle.std.proofs.Common.{◌≡◌, ◌⊎◌, ◌==◌, [], true, length, sym, ◌∙◌, ap, rules, true≢false}
use Rattle.serde_json.specs.View.{items_view}
use Rattle.multimap_tool.proofs.Callers.JsonParts.{unless_other}
use Rattle.multimap_tool.specs.JsonLists.{IsListsFault, IsPairsFault}
use Rattle.multimap_tool.specs.declared.json.faults.ReadFault.TheVariants.{UnusedKey}
use Rattle.multimap_tool.proofs.JsonValues.Faults.{nothing_read, fault_of_none}
use Rattle.multimap_tool.proofs.json.lists.read_without_value.Goals as goal
use Rattle.multimap_tool.proofs.json.lists.read_without_value.Goals.{else-is_empty-via-then-is_empty+else-is_empty-2}
use Rattle.multimap_tool.proofs.json.lists.read_without_value.Goals.{else-is_empty-via-else-is_empty}

pub returns-then-is_empty-2 : goal.returns-then-is_empty-2
returns-then-is_empty-2 g c =
    let keys : (length c.args.keys.now == 0) ≡ true = sym c.is_empty.ensures ∙ c.if-is_empty.true in
    let pairs : (length c.args.pairs.now == 0) ≡ true = sym c.is_empty-then-is_empty.ensures ∙ c.if-is_empty-2.true in
    record {
      read = nothing_read g.K.JsonPart.json g.V.JsonPart.json g.K.JsonPart.is_part g.V.JsonPart.is_part g.K.PartialEq.eq
          c.args.keys.now c.args.pairs.now c.with_hasher.result.lists keys pairs c.with_hasher.ensures.new.empty;
      fault = tt;
      hasher = search rules;
      freed = search rules;
    }

pub returns-in-Ok : goal.returns-in-Ok
returns-in-Ok g c =
    let key = g.K.JsonPart in
    let value = g.V.JsonPart in
    let eq = g.K.PartialEq.eq in
    let xs = c.args.keys.now in
    let ys = c.args.pairs.now in
    let keys = c.append_keys.new.map.lists.keys in
    let some : length xs ≡ 0 → length ys ≡ 0 → ⊥ = λ no_keys no_pairs. elim c.else-is_empty.branch [
      | else-is_empty-via-then-is_empty+else-is_empty-2 w ↦ true≢false
          (sym (w.is_empty-then-is_empty.ensures ∙ ap (λ n. n == 0) no_pairs) ∙ w.if-is_empty-2.false)
      | else-is_empty-via-else-is_empty w ↦ true≢false (sym (c.is_empty.ensures ∙ ap (λ n. n == 0) no_keys) ∙ w.if-is_empty.false)
    ] in
    record {
      read = tt;
      hasher = tt;
      freed = tt;
      fault = unless_other
          (λ f. IsPairsFault key.json key.is_part value.is_part eq 0 keys (items_view ys) f ⊎ ((ys ≡ []) × (f ≡ UnusedKey 0)))
          (IsListsFault key.json value.json key.is_part value.is_part eq (items_view xs) (items_view ys))
          (λ f is. fault_of_none key.json value.json key.is_part value.is_part eq xs ys keys f c.in-Ok.ensures.read.read some is)
          c.fault_without_value.result (c.fault_without_value.ensures value.is_part c.requires.none);
    }
