use Rattle.std.proofs.Common.{◌≡◌, ◌+◌, length, drop}
use Rattle.std.specs.Map.{keys_of}
use Rattle.ordered_multimap.specs.Lists.{lists}
use Rattle.multimap_tool.specs.JsonLists.{first_unused}
use Rattle.multimap_tool.proofs.json.listed.take_placeholder_pairs.Given as goal

-- so many pairs are gone, and the first unused key is the first one of the others
abbrev pub invariant-loop-index : goal.invariant-loop-index
invariant-loop-index g l = let keys = l.fn.map.lists.keys in let pairs = l.fn.map.lists.pairs in record {
  left : l.map.lists ≡ lists keys (drop l.index pairs);
  used : let unused = first_unused g.K.PartialEq.eq in let named = keys_of (drop (length keys) pairs) in
      unused 0 keys named ≡ unused l.index (drop l.index keys) named;
  hasher : l.map.hasher ≡ l.fn.map.hasher;
  freed : l.map.tape.freed ≡ l.fn.map.tape.freed + l.index;
}
