use Rattle.std.proofs.Common.{arith}
use Rattle.std.proofs.lemmas.Result.{err_from_is_err_and}
use Rattle.ordered_multimap.specs.Walk.{answers_of_walk}
use Rattle.multimap_tool.proofs.Running.Walked.{has_items-length, ListsItem-word, word_on, word_done}
use Rattle.multimap_tool.proofs.run.ask.walk.walk_by_word.Goals as goal

pub loop-end-preserved : goal.loop-end-preserved
loop-end-preserved g c =
    let l = c.loop-end in
    record {
      taken = rw (c.push_reserved.ensures.items, c.take.ensures.item, c.take.ensures.rest)
          (word_on (g.W.Copied.left l.rest) c.args.word.now l.taken.items
          (answers_of_walk (g.W.Copied.left c.args.walk) c.args.word.now) l.end-index _ c.loop-end-test.true l.invariant.taken);
      count = omega (arith, l.invariant.count, c.push_reserved.ensures.len);
      room = omega (arith, l.invariant.room, c.push_reserved.ensures.capacity);
    }

pub returns-clause-ok : goal.returns-clause-ok
returns-clause-ok g c =
    let l = c.loop-end in
    word_done (g.W.Copied.left l.rest) c.args.word.now l.taken.items
    (answers_of_walk (g.W.Copied.left c.args.walk) c.args.word.now) l.end-index c.loop-end-test.false l.invariant.taken

pub returns-in_err-taken-clause-lists_item : goal.returns-in_err-taken-clause-lists_item
returns-in_err-taken-clause-lists_item g c =
    let p = err_from_is_err_and c.from_residual.result c.from_residual.ensures.1 in
    rw p.1 (ListsItem-word _ c.args.word.now (has_items-length _ c.in_err-taken.ensures.succeeds))
