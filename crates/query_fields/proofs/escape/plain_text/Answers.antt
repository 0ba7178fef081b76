use Rattle.std.proofs.Common.{sym, ap, ◌∙◌}
use Rattle.std.specs.Str.Lossy.{utf8_lossy}
use Rattle.std.proofs.lemmas.Str.{utf8_lossy-IsUtf8}
use Rattle.query_fields.proofs.ReadingAny.{plain_any}
use Rattle.query_fields.proofs.escape.plain_text.Goals as goal

pub returns-in-Ok : goal.returns-in-Ok
returns-in-Ok c = record {
  text =
      c.in-Ok.ensures.cases.0
      ∙ sym (utf8_lossy-IsUtf8 c.args.encoded.now c.in-Ok.ensures.cases.1)
      ∙ ap utf8_lossy (sym (plain_any c.args.encoded.now
      (sym c.contains.ensures.value ∙ c.if-contains.false)
      (sym c.contains-else-contains.ensures.value ∙ c.if-contains-2.false)));
}
