use Rattle.std.proofs.Common.{◌≡◌}
use Rattle.std.specs.IoError.{error_kind}
use Rattle.std.specs.declared.io.ErrorKind.TheVariants.{InvalidData}
use Rattle.query_fields.proofs.ReadBy.{strictly_bad, strictly_no_text, strictly_read}
use Rattle.query_fields.proofs.fields.text_of.Goals as goal

pub returns-in-Ok-clause-read : goal.returns-in-Ok-clause-read
returns-in-Ok-clause-read c =
    strictly_read c.strictly_decoded.result c.args.reading c.args.encoded.now c.in-Ok.encoded.now
    c.in-Strict.is c.in-Ok.ensures.cases.0 c.in-Ok.ensures.cases.1 c.strictly_decoded.ensures.text c.strictly_decoded.ensures.utf8

pub returns-in-Ok-clause-bad : goal.returns-in-Ok-clause-bad
returns-in-Ok-clause-bad c =
    strictly_bad c.strictly_decoded.result c.args.reading c.args.encoded.now c.in-Ok.encoded.now
    c.in-Strict.is c.in-Ok.ensures.cases.0 c.in-Ok.ensures.cases.1 (λ error. error_kind error ≡ InvalidData) c.strictly_decoded.ensures.bad

pub returns-in-Err-clause-bad : goal.returns-in-Err-clause-bad
returns-in-Err-clause-bad c = λ _. rw c.in-Strict.is (strictly_no_text c.args.encoded.now c.in-Err.ensures.cases.0)
