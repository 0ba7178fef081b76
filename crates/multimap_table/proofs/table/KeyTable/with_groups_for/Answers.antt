use Rattle.std.proofs.Common.{sym, subst, arith, List, ℕ, ◌∙◌}
use Rattle.multimap_table.specs.Private.Layout.{IsTable}
use Rattle.multimap_table.proofs.TableLemmas.{table-empty, rows_of-replicate}
use Rattle.multimap_table.proofs.table.KeyTable.with_groups_for.Goals as goal

pub invariant_of-result : goal.invariant_of-result
invariant_of-result g c =
    let rows = c.in_ok-rows.rows in
    subst (λ (tags : List ℕ). IsTable tags rows.items 0) (sym ((c.in_ok-tags.ensures {u = tt}).items_if_clones_equal (λ y e. e)))
    (table-empty c.groups_for-lanes.result rows.items
    (sym rows.ok.0 ∙ (c.in_ok-rows.ensures {u = tt}).len) c.groups_for-lanes.ensures.count)

pub returns : goal.returns
returns g c = record {
  empty = rows_of-replicate c.in_ok-tags.tags.items c.in_ok-rows.rows.items _
      ((c.in_ok-tags.ensures {u = tt}).items_if_clones_equal (λ y e. e));
  room = omega (arith, c.in_ok-tags.tags.ok.0, (c.in_ok-tags.ensures {u = tt}).len, c.groups_for-lanes.ensures.enough);
}
