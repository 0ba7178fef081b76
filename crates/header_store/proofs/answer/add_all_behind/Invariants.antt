use Rattle.std.proofs.Common.{◌≡◌, ◌++◌, map}
use Rattle.header_store.specs.Fields.{value_of}
use Rattle.header_store.specs.Written.{all_behind}
use Rattle.header_store.proofs.answer.add_all_behind.Given as goal

-- those that were added, and then those that are left
abbrev pub invariant-loop-value : goal.invariant-loop-value
invariant-loop-value l =
    l.answers.items ++ all_behind l.separator (map value_of l.value-iterator.left)
    ≡ l.fn.answers.items ++ all_behind l.separator (map value_of l.fn.values.left)
