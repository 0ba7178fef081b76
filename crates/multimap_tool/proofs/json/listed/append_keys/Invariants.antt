use Rattle.std.proofs.Common.{◌≡◌, [], map, take, drop}
use Rattle.std.specs.List.{IsDistinct}
use Rattle.std.specs.Map.{keys_of}
use Rattle.serde_json.specs.View.{view, items_view}
use Rattle.ordered_multimap.specs.TapeNumbers.{AreUnused}
use Rattle.multimap_tool.specs.declared.json.faults.ReadFault.{ReadFault}
use Rattle.multimap_tool.specs.JsonLists.{each_item, IsKeysFault}
use Rattle.multimap_tool.proofs.json.listed.append_keys.Given as goal

-- the items so far are the JSON of the keys, which are different, and what is wrong with the others
-- behind these keys is what is wrong with all
abbrev pub invariant-loop-index : goal.invariant-loop-index
invariant-loop-index g l = record {
  json : map view (take l.index l.items) ≡ map g.K.JsonPart.json l.map.lists.keys;
  accepted : let each = each_item g.K.JsonPart.is_part in
      each (items_view l.items) ≡ each (items_view (drop l.index l.items));
  distinct : IsDistinct g.K.PartialEq.eq l.map.lists.keys;
  placeholder_pairs : keys_of l.map.lists.pairs ≡ l.map.lists.keys;
  fault : let IsFault = IsKeysFault g.K.JsonPart.json g.K.JsonPart.is_part g.K.PartialEq.eq in
      (f : ReadFault) → IsFault l.index l.map.lists.keys (items_view (drop l.index l.items)) f
      → IsFault 0 [] (items_view l.items) f;
  hasher : l.map.hasher ≡ l.fn.map.hasher;
  unused : AreUnused l.fn.map.tape → AreUnused l.map.tape;
}
