use Rattle.std.proofs.Common.{◌≡◌, ◌||◌, ◌++◌}
use Rattle.std.specs.List.{list_any}
use Rattle.std.specs.String.{string_bytes}
use Rattle.config_reader.specs.Listed.{is_set, listed_all}
use Rattle.config_reader.proofs.list.add_settings.Given as goal

-- the settings that were added or seen, and then those that are left
abbrev pub invariant-loop-name : goal.invariant-loop-name
invariant-loop-name l =
    (string_bytes l.answers ++ listed_all l.form l.name-iterator
    ≡ string_bytes l.fn.answers ++ listed_all l.form l.fn.config.lists.pairs)
    × (l.is_there || list_any is_set l.name-iterator
    ≡ list_any is_set l.fn.config.lists.pairs)
