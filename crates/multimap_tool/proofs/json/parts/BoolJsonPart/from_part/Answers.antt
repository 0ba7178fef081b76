use Rattle.std.proofs.Common.{rules}
use Rattle.multimap_tool.proofs.json.parts.BoolJsonPart.from_part.Goals as goal

pub returns-clause-free : goal.returns-clause-free
returns-clause-free c = search rules
