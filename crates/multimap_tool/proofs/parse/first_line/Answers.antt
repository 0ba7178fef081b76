use Rattle.std.proofs.Common.{◌∙◌, ap, length, arith}
use Rattle.multimap_tool.specs.Spelling.{lines_of}
use Rattle.multimap_tool.proofs.Texts.Lines.{lines_of-feed, lines_of-last}
use Rattle.multimap_tool.proofs.parse.first_line.Goals as goal

pub returns-in-Some-clause-lines : goal.returns-in-Some-clause-lines
returns-in-Some-clause-lines c =
    let parts = rw c.in-Some.is at c.cut.ensures.parts in
    ap lines_of parts ∙ lines_of-feed _ c.in-Some.others.now c.cut.ensures.first

pub returns-in-None-clause-lines : goal.returns-in-None-clause-lines
returns-in-None-clause-lines c =
    let parts = rw c.in-None.is at c.cut.ensures.parts in
    ap lines_of parts ∙ lines_of-last _ (omega (arith, ap length parts, c.requires)) c.cut.ensures.first
