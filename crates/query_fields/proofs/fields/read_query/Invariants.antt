use Rattle.std.proofs.Common.{length}
use Rattle.query_fields.specs.Queries.{texts_of}
use Rattle.query_fields.proofs.ReadBy.{IsReadTo}
use Rattle.query_fields.proofs.fields.read_query.Given as goal

abbrev pub invariant-loop-rest : goal.invariant-loop-rest
invariant-loop-rest l = IsReadTo l.reading (texts_of l.fn.fields.lists.pairs) (texts_of l.fields.lists.pairs) l.query l.rest

abbrev pub decreases-loop-rest : goal.decreases-loop-rest
decreases-loop-rest l = length l.rest
