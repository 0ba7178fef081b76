-- What a command makes of the headers, and the label of the lines that show a name's values.
use Rattle.std.specs.Str.{str_eq_ignore_ascii_case}
use Rattle.std.specs.Prelude.{ℕ, Bool, true, List, [], ◌++◌, Option, Some, None, codes}
use Rattle.ordered_multimap.specs.Changes.{appended, removed}
use Rattle.ordered_multimap.specs.Lists.{Lists}
use Rattle.ordered_multimap.specs.Pairs.{has_items, is_present}
use Rattle.ordered_multimap.specs.SetLists.{value_set}
use Rattle.header_store.specs.declared.command.Command.{Command}
use Rattle.header_store.specs.declared.command.Command.TheVariants.{Show, Set, Add, Remove}
use Rattle.header_store.specs.declared.command.Command.TheVariants.{Headers, Names, Write}
use Rattle.header_store.specs.declared.field.Field.{Field}
use Rattle.header_store.specs.declared.field.Field.TheVariants.{Written}
use Rattle.header_store.specs.declared.name.Name.{Name}

-- the name as it is spelled, and a colon
abbrev pub label_of : Option Name → List ℕ
label_of None = []
label_of (Some name) = name.text.0.now ++ codes ": "

-- names that differ in the case of ASCII letters alone are the same
abbrev pub same_name : Name → Name → Bool
same_name name other = str_eq_ignore_ascii_case name.text.0.now other.text.0.now

-- whether there is what the command asks for
abbrev pub is_found : Command → Lists Name Field → Bool
is_found (Show name form) m = is_present same_name m.pairs name
is_found Names m = has_items m.keys
is_found Headers m = has_items m.pairs
is_found _ m = true

-- what a command leaves of the headers
abbrev pub changed : Command → Lists Name Field → Lists Name Field
changed (Show name form) m = m
changed (Set name value) m = value_set same_name m name (Written value)
changed (Add name value) m = appended same_name m name (Written value)
changed (Remove name) m = removed same_name m name
changed Names m = m
changed Headers m = m
changed Write m = m
