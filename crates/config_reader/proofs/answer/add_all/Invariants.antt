use Rattle.std.proofs.Common.{◌≡◌, ◌++◌}
use Rattle.std.specs.String.{string_bytes}
use Rattle.ordered_multimap.specs.Pairs.{values_of}
use Rattle.config_reader.specs.Names.{same_name}
use Rattle.config_reader.specs.Written.{value_lines}
use Rattle.config_reader.proofs.answer.add_all.Given as goal

-- those that were added, and then those that are left
abbrev pub invariant-loop-lines : goal.invariant-loop-lines
invariant-loop-lines l =
    string_bytes l.answers ++ value_lines l.lines-iterator.left
    ≡ string_bytes l.fn.answers
    ++ value_lines (values_of same_name l.fn.config.lists.pairs l.fn.name)
