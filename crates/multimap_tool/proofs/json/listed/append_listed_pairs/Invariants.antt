use Rattle.std.proofs.Common.{◌≡◌, ◌++◌, true, List, map, take, drop}
use Rattle.std.specs.Map.{keys_of}
use Rattle.serde_json.specs.View.{view, items_view}
use Rattle.ordered_multimap.specs.Changes.{under_listed}
use Rattle.ordered_multimap.specs.Lists.{IsIn, lists}
use Rattle.ordered_multimap.specs.Keys.{is_listed}
use Rattle.ordered_multimap.specs.TapeNumbers.{AreUnused}
use Rattle.multimap_tool.specs.declared.json.faults.ReadFault.{ReadFault}
use Rattle.multimap_tool.specs.Json.{pair_json, first_fault}
use Rattle.multimap_tool.specs.JsonLists.{IsPairsFault}
use Rattle.multimap_tool.proofs.json.listed.append_listed_pairs.Given as goal

-- the items so far are the JSON of the pairs that were appended, whose keys are listed, and what is
-- wrong with the others is what is wrong with all
abbrev pub invariant-loop-index : goal.invariant-loop-index
invariant-loop-index g l = let keys = l.fn.map.lists.keys in let eq = g.K.PartialEq.eq in record {
  read : (pairs : List (g.row.K.Denot × g.row.V.Denot))
      × (map view (take l.index l.items) ≡ map (pair_json g.K.JsonPart.json g.V.JsonPart.json) pairs)
      × (l.map.lists ≡ lists keys (l.fn.map.lists.pairs ++ under_listed eq keys pairs))
      × ((k : g.row.K.Denot) → IsIn k (keys_of pairs) → is_listed eq keys k ≡ true);
  accepted : let fault = first_fault g.K.JsonPart.is_part g.V.JsonPart.is_part in
      fault 0 (items_view l.items) ≡ fault l.index (items_view (drop l.index l.items));
  fault : let IsFault = IsPairsFault g.K.JsonPart.json g.K.JsonPart.is_part g.V.JsonPart.is_part eq in
      (f : ReadFault) → IsFault l.index keys (items_view (drop l.index l.items)) f
      → IsFault 0 keys (items_view l.items) f;
  hasher : l.map.hasher ≡ l.fn.map.hasher;
  unused : AreUnused l.fn.map.tape → AreUnused l.map.tape;
}
