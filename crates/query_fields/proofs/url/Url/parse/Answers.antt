use Rattle.std.proofs.Common.{rules}
use Rattle.query_fields.proofs.url.Url.parse.Goals as goal

pub returns-clause-query : goal.returns-clause-query
returns-clause-query c = search rules
