use Rattle.std.proofs.Common.{◌∙◌, rules, sym}
use Rattle.config_reader.proofs.Refused.{line_bad, text_refused}
use Rattle.config_reader.proofs.reader.Reader.read_items.Goals as goal

pub loop-part-preserved : goal.loop-part-preserved
loop-part-preserved c =
    let item = c.in_default.ensures in (
      λ all is. item.kept all (c.loop-part.invariant.0 all is),
      λ kept. item.reads (c.is_at_end.ensures.rest c.loop-part-test.true) (c.loop-part.invariant.1 kept),
    )

pub returns-clause-reads : goal.returns-clause-reads
returns-clause-reads c = search rules

pub returns-in-Err-clause-refused : goal.returns-in-Err-clause-refused
returns-in-Err-clause-refused c = λ all has kept status.
    let some = c.is_at_end.ensures.rest c.loop-part-test.true in
    let bad = line_bad c.in-Err.error c.in-Err.ensures.fault (sym c.at_line.ensures.status ∙ status) in
    text_refused c.loop-part.self c.loop-part.self.rank c.loop-part.config.lists all (c.loop-part.invariant.1 kept)
    (c.loop-part.invariant.0 all has)
    some (c.in-Err.ensures.refused some bad)
