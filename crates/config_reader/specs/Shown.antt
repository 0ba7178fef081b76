-- What commands show of a configuration.
use Rattle.std.specs.List.{list_any}
use Rattle.std.specs.Prelude.{ℕ, Bool, true, List, codes, if◌then◌else◌}
use Rattle.ordered_multimap.specs.End.TheVariants.{Back}
use Rattle.ordered_multimap.specs.Lists.{Lists}
use Rattle.ordered_multimap.specs.Pairs.{is_present, values_of}
use Rattle.ordered_multimap.specs.Walk.{end_item}
use Rattle.config_reader.specs.declared.command.Command.{Command}
use Rattle.config_reader.specs.declared.command.Command.TheVariants.{Get, All, Keys, Sections}
use Rattle.config_reader.specs.declared.command.Command.TheVariants.{Settings}
use Rattle.config_reader.specs.declared.config.Lines.{Lines}
use Rattle.config_reader.specs.declared.name.Name.{Name}
use Rattle.config_reader.specs.Listed.{is_set, listed_all}
use Rattle.config_reader.specs.Names.{is_named_section, is_setting_of, same_name}
use Rattle.config_reader.specs.Written.{key_lines, section_lines, texts_of}
use Rattle.config_reader.specs.Written.{value_line, value_lines}

-- whether there is what the command asks for
abbrev pub is_found : Command → Lists Name Lines → Bool
is_found (Get name) m = is_present same_name m.pairs name
is_found (All name) m = is_present same_name m.pairs name
is_found (Keys section) m = list_any (is_setting_of section) m.keys
is_found Sections m = list_any is_named_section m.keys
is_found (Settings form) m = list_any is_set m.pairs
is_found _ m = true

-- what the command shows: the last value, all values, the keys or the sections on lines, all
-- settings, and else the whole text
abbrev pub shown : Command → Lists Name Lines → List ℕ
shown (Get name) m = value_line (end_item Back (values_of same_name m.pairs name))
shown (All name) m = value_lines (values_of same_name m.pairs name)
shown (Keys section) m = key_lines section m.keys
shown Sections m = section_lines m.keys
shown (Settings form) m = listed_all form m.pairs
shown _ m = texts_of m.pairs

-- what a question is answered: what it shows, but `none` for a value that isn't there
abbrev pub answer_of : Command → Lists Name Lines → List ℕ
answer_of (Get name) m =
    if is_present same_name m.pairs name then shown (Get name) m else codes "none\n"
answer_of command m = shown command m
