use Rattle.std.proofs.Common.{sym, ◌∙◌}
use Rattle.std.proofs.lemmas.Str.{IsUtf8-string_bytes}
use Rattle.query_fields.proofs.Reading.{plain_read}
use Rattle.query_fields.proofs.escape.strictly_decoded.Goals as goal

pub returns-then-not-contains-2-clause-text : goal.returns-then-not-contains-2-clause-text
returns-then-not-contains-2-clause-text c =
    let same = sym c.as_bytes-whole.ensures.value in
    plain_read c.args.encoded.now
    (rw same (sym c.contains.ensures.value ∙ c.if-not-contains.true))
    (rw same (sym c.contains-then-not-contains.ensures.value ∙ c.if-not-contains-2.true))

pub returns-in-Ok-clause-utf8 : goal.returns-in-Ok-clause-utf8
returns-in-Ok-clause-utf8 c = IsUtf8-string_bytes c.in-Ok.text
