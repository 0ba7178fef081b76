use Rattle.std.proofs.Common.{◌≡◌, ◌+◌, ◌++◌, ◌≤◌, true, map, length, vec_capacity}
use Rattle.serde_json.specs.View.{view, items_view}
use Rattle.multimap_tool.specs.JsonLists.{each_item}
use Rattle.multimap_tool.proofs.json.written.keys_value.Given as goal

-- what was written, with what is left, is the JSON of all keys, and each item of it is accepted
abbrev pub invariant-loop-key : goal.invariant-loop-key
invariant-loop-key g l = record {
  written : map view l.items.items ++ map g.K.ToJson.json l.key-iterator ≡ map g.K.ToJson.json l.map.lists.keys;
  room : length l.items.items + length l.key-iterator ≤ vec_capacity l.items;
  accepted : each_item g.K.ToJson.is_part (items_view l.items.items) ≡ true;
}
