use Rattle.std.proofs.Common.{rules}
use Rattle.header_store.proofs.field.field_of.Goals as goal

pub returns-in-Some-clause-trimmed : goal.returns-in-Some-clause-trimmed
returns-in-Some-clause-trimmed c = search rules

pub returns-in-None-clause-allowed : goal.returns-in-None-clause-allowed
returns-in-None-clause-allowed c =
    (search rules, λ both. c.in-None.ensures.allowed.1 (rw c.split_at_byte.ensures.behind both.1))
