use Rattle.std.proofs.Common.{◌≡◌, length}
use Rattle.multimap_table.specs.Private.Layout.{distance}
use Rattle.multimap_table.specs.Private.Entries.{entries, rows_of}
use Rattle.multimap_table.proofs.GapLemmas.{IsClosing}
use Rattle.multimap_table.proofs.remove.close_gap.Given as goal

abbrev pub invariant-loop-group : goal.invariant-loop-group
invariant-loop-group g l = record {
  closing : IsClosing l.count l.tags.items l.rows.items l.gap l.group l.last;
  map : rows_of l.tags.items l.rows.items ≡ rows_of l.initial.tags.items l.initial.rows.items;
  counted : length (entries l.tags.items l.rows.items) ≡ length (entries l.initial.tags.items l.initial.rows.items);
  lanes : length l.tags.items ≡ length l.initial.tags.items;
}

abbrev pub decreases-loop-group : goal.decreases-loop-group
decreases-loop-group g l = distance l.count l.group l.last
