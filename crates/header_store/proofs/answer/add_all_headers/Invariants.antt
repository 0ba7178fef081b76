use Rattle.std.proofs.Common.{◌≡◌, ◌++◌}
use Rattle.header_store.specs.Written.{listed}
use Rattle.header_store.proofs.answer.add_all_headers.Given as goal

-- those that were added, and then those that are left
abbrev pub invariant-loop-name : goal.invariant-loop-name
invariant-loop-name l =
    l.answers.items ++ listed l.name-iterator ≡ l.fn.answers.items ++ listed l.fn.headers.lists.pairs
