use Rattle.std.proofs.Common.{rules}
use Rattle.multimap_tool.proofs.json.numbers.I16JsonPart.from_part.Goals as goal

pub returns-in_default-2-clause-refused : goal.returns-in_default-2-clause-refused
returns-in_default-2-clause-refused c = search rules
