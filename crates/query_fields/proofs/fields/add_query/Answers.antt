use Rattle.query_fields.proofs.ReadAgain.{query_read_again}
use Rattle.query_fields.proofs.fields.add_query.Goals as goal

pub returns-in_err-push-clause-read_again : goal.returns-in_err-push-clause-read_again
returns-in_err-push-clause-read_again c = λ reading. query_read_again reading _

pub returns-in_err-add_field-clause-read_again : goal.returns-in_err-add_field-clause-read_again
returns-in_err-add_field-clause-read_again c = λ reading. query_read_again reading _

pub returns-clause-read_again : goal.returns-clause-read_again
returns-clause-read_again c = λ reading. query_read_again reading _
