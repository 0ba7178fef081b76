use Rattle.std.proofs.Common.{◌≡◌, length, take}
use Rattle.multimap_table.specs.Private.Entries.{entries, rows_of}
use Rattle.multimap_table.specs.Private.Layout.{IsLaidOut}
use Rattle.multimap_table.proofs.grow.insert_all.Given as goal

abbrev pub invariant-loop-lane : goal.invariant-loop-lane
invariant-loop-lane g l = record {
  laid_out : IsLaidOut l.tags.items l.rows.items;
  map : rows_of l.tags.items l.rows.items ≡ rows_of (take l.lane l.old_tags) (take l.lane l.old_rows);
  counted : length (entries l.tags.items l.rows.items) ≡ length (entries (take l.lane l.old_tags) (take l.lane l.old_rows));
  lanes : length l.tags.items ≡ length l.initial.tags.items;
}
