use Rattle.std.proofs.Common.{rules}
use Rattle.multimap_tool.proofs.json.parts.StringJsonPart.from_part.Goals as goal

pub returns-in-Some-clause-refused : goal.returns-in-Some-clause-refused
returns-in-Some-clause-refused c = search rules
