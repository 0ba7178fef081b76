use Rattle.std.proofs.Common.{◌≡◌, ◌+◌, ◌++◌, ◌≤◌, map, length, None, vec_capacity}
use Rattle.serde_json.specs.View.{view, items_view}
use Rattle.multimap_tool.specs.Json.{pair_json, first_fault}
use Rattle.multimap_tool.proofs.json.to_value.Given as goal

-- what was written, with what is left, is the JSON of all pairs, and no item of it is bad
abbrev pub invariant-loop-key : goal.invariant-loop-key
invariant-loop-key g l = let pair = pair_json g.K.ToJson.json g.V.ToJson.json in record {
  written : map view l.items.items ++ map pair l.key-iterator ≡ map pair l.map.lists.pairs;
  room : length l.items.items + length l.key-iterator ≤ vec_capacity l.items;
  accepted : first_fault g.K.ToJson.is_part g.V.ToJson.is_part 0 (items_view l.items.items) ≡ None;
}
