use Rattle.query_fields.proofs.Reading.{first_steps}
use Rattle.std.proofs.Common.{rules}
use Rattle.query_fields.proofs.escape.first_byte.Goals as goal

pub returns-in-43-clause-some : goal.returns-in-43-clause-some
returns-in-43-clause-some c = search (rules, first_steps)
