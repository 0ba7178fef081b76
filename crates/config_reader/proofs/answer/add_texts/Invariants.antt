use Rattle.std.proofs.Common.{◌≡◌, ◌++◌}
use Rattle.std.specs.String.{string_bytes}
use Rattle.config_reader.specs.Written.{texts_of}
use Rattle.config_reader.proofs.answer.add_texts.Given as goal

-- those that were added, and then those that are left
abbrev pub invariant-loop-lines : goal.invariant-loop-lines
invariant-loop-lines l =
    string_bytes l.answers ++ texts_of l.lines-iterator
    ≡ string_bytes l.fn.answers ++ texts_of l.fn.config.lists.pairs
