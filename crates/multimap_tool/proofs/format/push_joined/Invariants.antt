use Rattle.std.proofs.Common.{◌≡◌, ◌++◌, ◌∷◌, drop, map}
use Rattle.std.specs.String.{string_bytes}
use Rattle.std.specs.List.{flat_map, join_with_byte}
use Rattle.multimap_tool.proofs.format.push_joined.Given as goal

-- the text so far, and the items to come, each after a separator
abbrev pub invariant-loop-item : goal.invariant-loop-item
invariant-loop-item g l = string_bytes l.text ++ flat_map (λ item. l.fn.separator ∷ g.T.Listed.item_text item) (drop l.item-index l.others)
    ≡ string_bytes l.fn.text ++ join_with_byte l.fn.separator (map g.T.Listed.item_text l.fn.items)
