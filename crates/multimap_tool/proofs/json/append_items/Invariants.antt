use Rattle.std.proofs.Common.{◌≡◌, List, map, take, drop}
use Rattle.serde_json.specs.View.{view, items_view}
use Rattle.ordered_multimap.specs.Changes.{built_from}
use Rattle.ordered_multimap.specs.TapeNumbers.{AreUnused}
use Rattle.multimap_tool.specs.Json.{pair_json, first_fault}
use Rattle.multimap_tool.proofs.json.append_items.Given as goal

-- the items so far are the JSON of the pairs that were appended, and what is wrong with the others
-- is what is wrong with all
abbrev pub invariant-loop-index : goal.invariant-loop-index
invariant-loop-index g l = record {
  read : (pairs : List (g.row.K.Denot × g.row.V.Denot))
      × (map view (take l.index l.items) ≡ map (pair_json g.K.JsonPart.json g.V.JsonPart.json) pairs)
      × (l.map.lists ≡ built_from g.K.PartialEq.eq pairs);
  accepted : let fault = first_fault g.K.JsonPart.is_part g.V.JsonPart.is_part in
      fault 0 (items_view l.items) ≡ fault l.index (items_view (drop l.index l.items));
  hasher : l.map.hasher ≡ l.fn.map.hasher;
  unused : AreUnused l.fn.map.tape → AreUnused l.map.tape;
}
