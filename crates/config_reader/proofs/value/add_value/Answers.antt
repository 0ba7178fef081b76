use Rattle.config_reader.proofs.Values.{written_behind_blank}
use Rattle.config_reader.proofs.value.add_value.Goals as goal

pub returns-then-is_plain-clause-read_again : goal.returns-then-is_plain-clause-read_again
returns-then-is_plain-clause-read_again c = written_behind_blank c.args.value.now

pub returns-clause-read_again : goal.returns-clause-read_again
returns-clause-read_again c = written_behind_blank c.args.value.now

pub returns-in_err-push-clause-read_again : goal.returns-in_err-push-clause-read_again
returns-in_err-push-clause-read_again c = written_behind_blank c.args.value.now

pub returns-in_err-add_characters-clause-read_again : goal.returns-in_err-add_characters-clause-read_again
returns-in_err-add_characters-clause-read_again c = written_behind_blank c.args.value.now
