use Rattle.std.proofs.Common.{◌≡◌, ◌++◌, ◌||◌, map}
use Rattle.std.specs.String.{string_bytes}
use Rattle.ordered_multimap.specs.Pairs.{has_items}
use Rattle.query_fields.specs.Queries.{lines_of, texts_of, written_field}
use Rattle.query_fields.proofs.command.add_pairs.Given as goal

-- what is written, and the lines of the fields that are left, are those of all fields
abbrev pub invariant-loop-name : goal.invariant-loop-name
invariant-loop-name l = record {
  written : string_bytes l.answers ++ lines_of (map written_field (texts_of l.name-iterator))
      ≡ string_bytes l.fn.answers ++ lines_of (map written_field (texts_of l.fields.lists.pairs));
  there : (l.is_present || has_items l.name-iterator) ≡ has_items l.fields.lists.pairs;
}
