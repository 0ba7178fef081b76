use Rattle.std.proofs.Common.{rules, ◌≡◌, ℕ, ◌<◌, Some, true, false, length, sym, ap, subst, ◌∙◌, arith, eqb-true}
use Rattle.std.proofs.lemmas.Grind.{common_steps}
use Rattle.std.proofs.lemmas.List.{get_or_default}
use Rattle.std.specs.FinMap.{get}
use Rattle.multimap_table.specs.Table.{Table}
use Rattle.multimap_table.specs.Private.Entries.{no_row, rows_of, row_at}
use Rattle.multimap_table.proofs.TableLemmas.{table_along, laid_out_of, room_of, can_find_of, lanes_of_get, get_of, of_each_lane}
use Rattle.multimap_table.proofs.table.KeyTable.take.Goals as goal

pub returns-then-is_empty-clause-absent : goal.returns-then-is_empty-clause-absent
returns-then-is_empty-clause-absent g c = λ place there.
    let some = lanes_of_get c.self.inside.tags.items c.self.inside.rows.items place c.args.hash
    (ap (λ (t : Table). get t.rows place) c.self.view_is ∙ there) in
    let none = eqb-true _ 0 (sym c.is_empty.ensures ∙ c.if-is_empty.true) in
    absurd (omega (arith, some, none, c.self.inside.tags.ok.0))

pub find_lane-found-requires : goal.find_lane-found-requires
find_lane-found-requires g c =
    let tags = c.as_slice.result.now in
    let rows = c.as_slice-2.result.now in
    let table = table_along _ tags _ rows _ c.as_slice.ensures.value c.as_slice-2.ensures.value c.self.invariant in
    let same : rows_of tags rows ≡ c.args.self.now.rows = (λ i. rows_of (c.as_slice.ensures.value i) (c.as_slice-2.ensures.value i))
    ∙ ap (λ (t : Table). t.rows) c.self.view_is in
    let some : 0 < length tags = grind (arith, common_steps) in
    can_find_of tags rows _ c.args.hash _ table some
    (λ place there. c.requires.callable place (ap (λ m. get m place) (sym same) ∙ there))

pub returns-in_default-clause-absent : goal.returns-in_default-clause-absent
returns-in_default-clause-absent g c = λ place there.
    let tags = c.as_slice.result.now in
    let rows = c.as_slice-2.result.now in
    let same : rows_of tags rows ≡ c.args.self.now.rows = (λ i. rows_of (c.as_slice.ensures.value i) (c.as_slice-2.ensures.value i))
    ∙ ap (λ (t : Table). t.rows) c.self.view_is in
    of_each_lane tags rows place c.args.hash (λ p. goal.F-post g c.args.test p false)
    (ap (λ m. get m place) same ∙ there) (c.in_default.ensures {u = tt}).absent

pub remove_row-requires : goal.remove_row-requires
remove_row-requires g c =
    let some : 0 < length c.self.inside.tags.items = grind (arith, common_steps) in
    record {
      laid_out = laid_out_of _ _ _ c.self.invariant some;
      room = room_of _ _ _ c.self.invariant some;
      in_range = search rules;
      full = search rules;
    }

pub returns-clause-found : goal.returns-clause-found
returns-clause-found g c =
    let tags = c.as_slice.result.now in
    let rows = c.as_slice-2.result.now in
    let lane : ℕ = c.in-Some.lane in
    let found = (c.in-Some.ensures {u = tt}).found in
    let table = table_along _ tags _ rows _ c.as_slice.ensures.value c.as_slice-2.ensures.value c.self.invariant in
    let same : rows_of tags rows ≡ c.args.self.now.rows = (λ i. rows_of (c.as_slice.ensures.value i) (c.as_slice-2.ensures.value i))
    ∙ ap (λ (t : Table). t.rows) c.self.view_is in
    let within : lane < length c.self.inside.rows.items =
    omega (arith, found.0.in_range, c.self.invariant.row_each, ap length c.as_slice.ensures.value) in
    let at : (row_at rows lane).place ≡ c.index.result.now.place = ap (λ rs. (row_at rs lane).place) c.as_slice-2.ensures.value
    ∙ ap (λ row. row.place) (sym (c.index.ensures ∙ get_or_default c.self.inside.rows.items lane _ no_row within)) in (
      ap (λ m. get m c.index.result.now.place) (sym same)
          ∙ subst (λ p. get (rows_of tags rows) p ≡ Some c.args.hash) at (get_of tags rows _ c.args.hash lane table found.0),
      subst (λ p. goal.F-post g c.args.test p true) at found.1,
    )
