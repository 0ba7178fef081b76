use Rattle.std.proofs.Common.{rules}
use Rattle.header_store.proofs.answer.values_of.Goals as goal

pub returns-clause-found : goal.returns-clause-found
returns-clause-found c = search rules

pub returns-clause-any_spelling : goal.returns-clause-any_spelling
returns-clause-any_spelling c = search rules
