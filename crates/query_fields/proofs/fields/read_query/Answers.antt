use Rattle.std.proofs.lemmas.Result.{err_from_is_err_and}
use Rattle.query_fields.specs.Queries.{texts_of}
use Rattle.query_fields.proofs.ReadBy.{next_bad, next_read}
use Rattle.query_fields.proofs.fields.read_query.Goals as goal

pub loop-rest-preserved : goal.loop-rest-preserved
loop-rest-preserved c =
    next_read c.args.reading (texts_of c.args.fields.now.lists.pairs) (texts_of c.loop-rest.fields.lists.pairs) c.args.query.now
    c.loop-rest.rest.now c.split_at_byte.result.0.now c.split_at_byte.ensures.before
    (texts_of c.read_piece.new.fields.lists.pairs) c.split_at_byte.result.1.now
    c.loop-rest.invariant c.split_at_byte.ensures.behind c.in_ok-read_piece.ensures.read

pub returns-in_err-read_piece-clause-bad : goal.returns-in_err-read_piece-clause-bad
returns-in_err-read_piece-clause-bad c =
    let p = err_from_is_err_and c.from_residual.result c.from_residual.ensures.1 in
    rw (p.1, p.2) (λ bad. next_bad c.args.reading (texts_of c.args.fields.now.lists.pairs)
    (texts_of c.loop-rest.fields.lists.pairs) c.args.query.now
    c.loop-rest.rest.now c.split_at_byte.result.0.now c.split_at_byte.ensures.before c.loop-rest.invariant
    (c.in_err-read_piece.ensures.bad bad))
