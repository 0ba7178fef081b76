use Rattle.std.proofs.Common.{rules, ◌≡◌, ℕ, Bool, false, eqb, eq-eqb, List, sym, ap, subst, ◌∙◌}
use Rattle.std.specs.FinMap as map
use Rattle.multimap_table.specs.declared.group.Row.{Row}
use Rattle.multimap_table.specs.Table.{Table}
use mathlib.Core.Bool.{true≢false}
use Rattle.multimap_table.specs.Private.Entries.{rows_of, row_at}
use Rattle.multimap_table.specs.Private.Layout.{IsLaidOut}
use Rattle.multimap_table.proofs.TableLemmas.{laid_out_of, room_of, lanes_of_get, holds_of}
use Rattle.multimap_table.proofs.table.KeyTable.remove.Goals as goal

sized_along : (tags tags' : List ℕ) (rows rows' : List Row) → tags' ≡ tags → rows' ≡ rows → IsLaidOut tags rows → IsLaidOut tags' rows'
sized_along tags tags' rows rows' same_tags same_rows laid = subst (λ ts. IsLaidOut ts rows') (sym same_tags)
    (subst (λ rs. IsLaidOut tags rs) (sym same_rows) laid)

pub find_lane-found-requires : goal.find_lane-found-requires
find_lane-found-requires g c =
    let there = ap (λ (t : Table). map.get t.rows c.args.place) c.self.view_is ∙ c.requires in
    let laid = sized_along _ _ _ _ c.as_slice.ensures.value c.as_slice-2.ensures.value
    (laid_out_of _ _ _ c.self.invariant (lanes_of_get _ _ _ _ there)) in
    record { sized = laid.sized; reachable = laid.reachable; callable = search rules }

pub remove_row-requires : goal.remove_row-requires
remove_row-requires g c =
    let there = ap (λ (t : Table). map.get t.rows c.args.place) c.self.view_is ∙ c.requires in
    let some = lanes_of_get _ _ _ _ there in
    record {
      laid_out = laid_out_of _ _ _ c.self.invariant some;
      room = room_of _ _ _ c.self.invariant some;
      in_range = search rules;
      full = search rules;
    }

pub unreachable-requires : goal.unreachable-requires
unreachable-requires g c =
    let tags = c.as_slice.result.now in
    let rows = c.as_slice-2.result.now in
    let same : rows_of tags rows ≡ c.args.self.now.rows = (λ i. rows_of (c.as_slice.ensures.value i) (c.as_slice-2.ensures.value i))
    ∙ ap (λ (t : Table). t.rows) c.self.view_is in
    let at = holds_of tags rows c.args.place c.args.hash (ap (λ m. map.get m c.args.place) same ∙ c.requires) in
    let missed = (c.in_default.ensures {u = tt}).absent at.lane
    (record { in_range = at.in_range; full = at.full; same_hash = at.same_hash }) in
    let differs : ◌≡◌ {A = Bool} false (eqb (row_at rows at.lane).place c.args.place) = search (rules, missed) in
    let equal = eq-eqb (row_at rows at.lane).place c.args.place at.same_place in
    true≢false (sym equal ∙ sym differs)
