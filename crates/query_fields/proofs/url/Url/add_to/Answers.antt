use Rattle.query_fields.proofs.UrlAgain.{url_again}
use Rattle.query_fields.proofs.url.Url.add_to.Goals as goal

pub returns-in_err-push_str-clause-read_again : goal.returns-in_err-push_str-clause-read_again
returns-in_err-push_str-clause-read_again c = λ reading text around texts. url_again reading text _ texts c.args.self.now around

pub returns-in_err-add_marked_query-clause-read_again : goal.returns-in_err-add_marked_query-clause-read_again
returns-in_err-add_marked_query-clause-read_again c = λ reading text around texts. url_again reading text _ texts c.args.self.now around

pub returns-in_err-push_str-2-clause-read_again : goal.returns-in_err-push_str-2-clause-read_again
returns-in_err-push_str-2-clause-read_again c = λ reading text around texts. url_again reading text _ texts c.args.self.now around

pub returns-then-self-clause-read_again : goal.returns-then-self-clause-read_again
returns-then-self-clause-read_again c = λ reading text around texts. url_again reading text _ texts c.args.self.now around

pub returns-in_err-add_query-clause-read_again : goal.returns-in_err-add_query-clause-read_again
returns-in_err-add_query-clause-read_again c = λ reading text around texts. url_again reading text _ texts c.args.self.now around

pub returns-clause-read_again : goal.returns-clause-read_again
returns-clause-read_again c = λ reading text around texts. url_again reading text _ texts c.args.self.now around
