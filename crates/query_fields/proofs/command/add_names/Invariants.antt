use Rattle.std.proofs.Common.{◌≡◌, ◌++◌, ◌||◌, map}
use Rattle.std.specs.Cow.{cow_str_bytes}
use Rattle.std.specs.String.{string_bytes}
use Rattle.ordered_multimap.specs.Pairs.{has_items}
use Rattle.query_fields.specs.Queries.{lines_of}
use Rattle.query_fields.proofs.command.add_names.Given as goal

-- what is written, and the lines of the names that are left, are those of all names
abbrev pub invariant-loop-name : goal.invariant-loop-name
invariant-loop-name l = record {
  written : string_bytes l.answers ++ lines_of (map cow_str_bytes l.name-iterator)
      ≡ string_bytes l.fn.answers ++ lines_of (map cow_str_bytes l.fields.lists.keys);
  there : (l.is_present || has_items l.name-iterator) ≡ has_items l.fields.lists.keys;
}
