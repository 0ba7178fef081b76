use Rattle.std.proofs.Common.{◌≡◌, ◌||◌, ◌++◌}
use Rattle.std.specs.List.{list_any}
use Rattle.std.specs.String.{string_bytes}
use Rattle.config_reader.specs.Names.{is_setting_of}
use Rattle.config_reader.specs.Written.{key_lines}
use Rattle.config_reader.proofs.answer.add_keys.Given as goal

-- the keys that were added or seen, and then those that are left
abbrev pub invariant-loop-name : goal.invariant-loop-name
invariant-loop-name l =
    (string_bytes l.answers ++ key_lines l.section l.name-iterator
    ≡ string_bytes l.fn.answers ++ key_lines l.section l.fn.config.lists.keys)
    × (l.is_there || list_any (is_setting_of l.section) l.name-iterator
    ≡ list_any (is_setting_of l.section) l.fn.config.lists.keys)
