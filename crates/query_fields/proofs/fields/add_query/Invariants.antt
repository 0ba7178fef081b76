use Rattle.std.proofs.Common.{◌≡◌, ◌++◌, true}
use Rattle.std.specs.String.{string_bytes}
use Rattle.query_fields.specs.Queries.{texts_of, written_fields}
use Rattle.query_fields.proofs.fields.add_query.Given as goal

-- what is written, and what the pairs that are left come to, are the whole query
abbrev pub invariant-loop-name : goal.invariant-loop-name
invariant-loop-name l = string_bytes l.query ++ written_fields l.is_first (texts_of l.name-iterator)
    ≡ string_bytes l.initial.query ++ written_fields true (texts_of l.fn.fields.lists.pairs)
