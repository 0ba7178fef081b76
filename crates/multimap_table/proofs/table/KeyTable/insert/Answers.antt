use Rattle.std.proofs.Common.{◌≡◌, ℕ, ◌*◌, ◌<◌, List, ap, ◌∙◌, arith}
use Rattle.std.specs.FinMap as map
use Rattle.multimap_table.specs.Table.{Table}
use Rattle.multimap_table.specs.declared.group.Row.{Row}
use Rattle.multimap_table.specs.Private.Entries.{rows_of}
use Rattle.multimap_table.specs.Private.Layout.{IsTable, group_count}
use Rattle.multimap_table.proofs.TableLemmas.{len_of, laid_out_of, room_of, table_put}
use Rattle.multimap_table.proofs.table.KeyTable.insert.Goals as goal

-- fewer rows than the lanes have room for
few : (tags : List ℕ) (rows : List Row) (n : ℕ) (table : Table) → IsTable tags rows n
    → ◌≡◌ {A = Table} (record { rows = rows_of tags rows; capacity = 12 * group_count tags }) table
    → map.len table.rows < table.capacity → n < 12 * group_count tags
few tags rows n table valid is room =
    let len = len_of tags rows n valid ∙ ap (λ (t : Table). map.len t.rows) is in let capacity = ap (λ (t : Table). t.capacity) is in
    omega (arith, len, capacity, room)

pub insert_row-requires : goal.insert_row-requires
insert_row-requires g c =
    let fits = few _ _ _ _ c.self.invariant c.self.view_is c.requires.room in
    record {
      laid_out = laid_out_of _ _ _ c.self.invariant (omega (arith, fits));
      room = room_of _ _ _ c.self.invariant (omega (arith, fits));
      absent = ap (λ (t : Table). map.get t.rows c.args.place) c.self.view_is ∙ c.requires.absent;
    }

pub invariant_of-self : goal.invariant_of-self
invariant_of-self g c = let new = c.insert_row.ensures in
    table_put c.self.inside.tags.items _ c.self.inside.rows.items _ _ c.self.invariant new.rows.laid_out new.counted new.rows.lanes
    (few _ _ _ _ c.self.invariant c.self.view_is c.requires.room)
