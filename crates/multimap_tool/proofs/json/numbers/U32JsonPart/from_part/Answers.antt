use Rattle.std.proofs.Common.{rules}
use Rattle.multimap_tool.proofs.json.numbers.U32JsonPart.from_part.Goals as goal

pub returns-in-Some-clause-read : goal.returns-in-Some-clause-read
returns-in-Some-clause-read c = search rules

pub returns-in-Some-clause-accepted : goal.returns-in-Some-clause-accepted
returns-in-Some-clause-accepted c = search rules
