use Rattle.std.proofs.Common.{arith}
use Rattle.multimap_tool.proofs.Texts.Fields.{no_word, letters_on, letters_done}
use Rattle.multimap_tool.proofs.parse.operands.letters_of.Goals as goal

pub loop-letter-preserved : goal.loop-letter-preserved
loop-letter-preserved g c =
    let l = c.loop-letter in
    record {
      read = rw c.push_reserved.ensures.items (letters_on c.args.text.now l.letter-index l.word.items c.in-Some.end c.loop-letter-test.true
          c.in-Some.ensures l.invariant.read);
      count = omega (arith, l.invariant.count, c.push_reserved.ensures.len);
      room = omega (arith, l.invariant.room, c.push_reserved.ensures.capacity);
    }

pub returns-in-None : goal.returns-in-None
returns-in-None g c =
    let here = rw c.in-None.is at c.end_of.ensures in
    no_word c.args.text.now c.loop-letter.letter-index c.loop-letter-test.true here.0 here.1

pub returns : goal.returns
returns g c =
    let l = c.loop-letter in
    letters_done c.args.text.now l.letter-index l.word.items c.requires c.loop-letter-test.false l.invariant.read
