use Rattle.std.proofs.Common.{◌≡◌, ◌++◌}
use Rattle.header_store.specs.Written.{header_lines}
use Rattle.header_store.proofs.answer.add_headers.Given as goal

-- those that were added, and then those that are left
abbrev pub invariant-loop-name : goal.invariant-loop-name
invariant-loop-name l =
    l.answers.items ++ header_lines l.line_end l.name-iterator
    ≡ l.fn.answers.items ++ header_lines l.fn.line_end l.fn.headers.lists.pairs
