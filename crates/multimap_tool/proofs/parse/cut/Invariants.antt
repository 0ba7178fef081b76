use Rattle.std.proofs.Common.{take}
use Rattle.multimap_tool.specs.Private.Parts.{IsWithout}
use Rattle.multimap_tool.proofs.parse.cut.Given as goal

-- no separator so far
abbrev pub invariant-loop-at : goal.invariant-loop-at
invariant-loop-at l = IsWithout l.separator (take l.at l.text)
