use Rattle.std.proofs.Common.{◌≡◌, ◌++◌}
use Rattle.header_store.specs.Written.{name_lines}
use Rattle.header_store.proofs.answer.add_names.Given as goal

-- those that were added, and then those that are left
abbrev pub invariant-loop-name : goal.invariant-loop-name
invariant-loop-name l =
    l.answers.items ++ name_lines l.name-iterator ≡ l.fn.answers.items ++ name_lines l.fn.headers.lists.keys
