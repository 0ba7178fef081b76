use Rattle.std.proofs.Common.{arith}
use Rattle.multimap_tool.proofs.Texts.Lines.{read_more, read_bad}
use Rattle.multimap_tool.proofs.parse.parse_commands.Goals as goal

pub returns-in-None-clause-fault : goal.returns-in-None-clause-fault
returns-in-None-clause-fault g c =
    let l = c.loop-rest in
    let bad = rw c.in-None.is at c.in_ok-command.ensures in
    read_bad l.commands.items c.args.text.now l.rest.now c.first_line.result.0.now c.first_line.result.1.now _ l.invariant.read
    c.first_line.ensures.lines bad (omega (arith, c.len.ensures, l.commands.ok.0))

pub loop-rest-preserved : goal.loop-rest-preserved
loop-rest-preserved g c =
    let l = c.loop-rest in
    let spells = rw c.in-Some.is at c.in_ok-command.ensures in
    record {
      read = rw c.in_ok-push-in-Some.ensures.items (read_more l.commands.items c.args.text.now l.rest.now c.first_line.result.0.now
          c.first_line.result.1.now c.in-Some.command l.invariant.read c.first_line.ensures.lines spells);
      count = omega (arith, l.invariant.count, c.in_ok-push-in-Some.ensures.len, c.first_line.ensures.shorter);
    }
