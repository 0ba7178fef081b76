use Rattle.std.proofs.Common.{◌≡◌, ◌++◌, map}
use Rattle.header_store.specs.Changed.{label_of}
use Rattle.header_store.specs.Fields.{value_of}
use Rattle.header_store.specs.Written.{value_lines}
use Rattle.header_store.proofs.answer.add_lines.Given as goal

-- those that were added, and then those that are left
abbrev pub invariant-loop-value : goal.invariant-loop-value
invariant-loop-value l =
    l.answers.items ++ value_lines (label_of l.name) (map value_of l.value-iterator.left)
    ≡ l.fn.answers.items ++ value_lines (label_of l.fn.name) (map value_of l.fn.values.left)
