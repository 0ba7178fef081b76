use Rattle.std.proofs.Common.{◌≡◌, ◌++◌, ◌||◌, map}
use Rattle.std.specs.Cow.{cow_str_bytes}
use Rattle.std.specs.String.{string_bytes}
use Rattle.ordered_multimap.specs.Pairs.{has_items}
use Rattle.query_fields.specs.Queries.{lines_of, values_named}
use Rattle.query_fields.proofs.command.add_all.Given as goal

-- what is written, and the lines of the values that are left, are those of all values
abbrev pub invariant-loop-value : goal.invariant-loop-value
invariant-loop-value l = record {
  written : string_bytes l.answers ++ lines_of (map cow_str_bytes l.value-iterator.left)
      ≡ string_bytes l.fn.answers ++ lines_of (values_named l.name l.fields.lists.pairs);
  there : (l.is_present || has_items l.value-iterator.left)
      ≡ has_items (values_named l.name l.fields.lists.pairs);
}
