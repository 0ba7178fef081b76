use Rattle.std.proofs.Common.{ℕ, ◌/◌, ap, ◌∙◌, arith}
use Rattle.multimap_table.specs.Table.{Table}
use Rattle.multimap_table.specs.Private.Entries.{rows_of}
use Rattle.multimap_table.proofs.TableLemmas.{entries_of_empty, laid_out_of}
use Rattle.multimap_table.proofs.table.KeyTable.grow_to.Goals as goal

pub insert_all-requires-clause-empty : goal.insert_all-requires-clause-empty
insert_all-requires-clause-empty g c = entries_of_empty _ _ _ c.grown.invariant
    (ap (λ (t : Table). t.rows) c.grown.view_is ∙ (c.in_ok-grown.ensures {u = tt}).empty)

pub returns : goal.returns
returns g c =
    let capacity = ap (λ (t : Table). t.capacity) c.grown.view_is in
    let groups = ap (λ (n : ℕ). n / 16) c.insert_all.ensures.rows.lanes in
    let room = (c.in_ok-grown.ensures {u = tt}).room in
    record {
      unchanged = c.insert_all.ensures.rows.rows_are ∙ (λ i. rows_of (c.as_slice.ensures.value i) (c.as_slice-2.ensures.value i))
          ∙ ap (λ (t : Table). t.rows) c.self.view_is;
      room = omega (arith, capacity, room, groups);
      doubles = omega (arith, capacity, room, groups);
      refused = tt;
    }

pub insert_all-requires-clause-laid_out : goal.insert_all-requires-clause-laid_out
insert_all-requires-clause-laid_out g c =
    let groups = ap (λ (t : Table). t.capacity) c.grown.view_is in
    laid_out_of _ _ _ c.grown.invariant (omega (arith, groups, (c.in_ok-grown.ensures {u = tt}).room, c.requires))
