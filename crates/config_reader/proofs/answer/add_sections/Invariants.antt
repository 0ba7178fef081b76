use Rattle.std.proofs.Common.{◌≡◌, ◌||◌, ◌++◌}
use Rattle.std.specs.List.{list_any}
use Rattle.std.specs.String.{string_bytes}
use Rattle.config_reader.specs.Names.{is_named_section}
use Rattle.config_reader.specs.Written.{section_lines}
use Rattle.config_reader.proofs.answer.add_sections.Given as goal

-- the names that were added or seen, and then those that are left
abbrev pub invariant-loop-name : goal.invariant-loop-name
invariant-loop-name l =
    (string_bytes l.answers ++ section_lines l.name-iterator
    ≡ string_bytes l.fn.answers ++ section_lines l.fn.config.lists.keys)
    × (l.is_there || list_any is_named_section l.name-iterator
    ≡ list_any is_named_section l.fn.config.lists.keys)
