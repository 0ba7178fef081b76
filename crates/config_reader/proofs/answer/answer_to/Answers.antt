use Rattle.std.proofs.Common.{rules}
use Rattle.config_reader.proofs.answer.answer_to.Goals as goal

pub returns-in_ok-push_str : goal.returns-in_ok-push_str
returns-in_ok-push_str c = search rules

pub returns-in_default : goal.returns-in_default
returns-in_default c = search rules
