use Rattle.std.proofs.Common.{arith}
use Rattle.query_fields.proofs.Reading.{bytes_fit, written_read}
use Rattle.query_fields.proofs.escape.add_encoded.Goals as goal

pub returns-in_err-add_byte-clause-read_again : goal.returns-in_err-add_byte-clause-read_again
returns-in_err-add_byte-clause-read_again c =
    written_read c.args.text.now (bytes_fit c.args.text.now (λ i. let fits = c.type_inv.text i in omega arith))

pub returns-clause-read_again : goal.returns-clause-read_again
returns-clause-read_again c =
    written_read c.args.text.now (bytes_fit c.args.text.now (λ i. let fits = c.type_inv.text i in omega arith))
