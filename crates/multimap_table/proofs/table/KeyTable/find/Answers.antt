use Rattle.std.proofs.Common.{◌≡◌, ℕ, ◌<◌, false, length, sym, ap, ◌∙◌, arith, eqb-true}
use Rattle.std.proofs.lemmas.Grind.{common_steps}
use Rattle.std.specs.FinMap.{get}
use Rattle.multimap_table.specs.Table.{Table}
use Rattle.multimap_table.specs.Private.Entries.{rows_of, row_at}
use Rattle.multimap_table.proofs.TableLemmas.{table_along, can_find_of, lanes_of_get, get_of, of_each_lane}
use Rattle.multimap_table.proofs.table.KeyTable.find.Goals as goal

pub returns-then-is_empty-clause-absent : goal.returns-then-is_empty-clause-absent
returns-then-is_empty-clause-absent g c = λ place there.
    let some = lanes_of_get c.self.inside.tags.items c.self.inside.rows.items place c.args.hash
    (ap (λ (t : Table). get t.rows place) c.self.view_is ∙ there) in
    let none = eqb-true _ 0 (sym c.is_empty.ensures ∙ c.if-is_empty.true) in
    absurd (omega (arith, some, none, c.self.inside.tags.ok.0))

pub find_lane-requires : goal.find_lane-requires
find_lane-requires g c =
    let tags = c.as_slice.result.now in
    let rows = c.as_slice-rows.result.now in
    let table = table_along _ tags _ rows _ c.as_slice.ensures.value c.as_slice-rows.ensures.value c.self.invariant in
    let same : rows_of tags rows ≡ c.args.self.now.rows = (λ i. rows_of (c.as_slice.ensures.value i) (c.as_slice-rows.ensures.value i))
    ∙ ap (λ (t : Table). t.rows) c.self.view_is in
    let some : 0 < length tags = grind (arith, common_steps) in
    can_find_of tags rows _ c.args.hash _ table some
    (λ place there. c.requires.callable place (ap (λ m. get m place) (sym same) ∙ there))

pub returns-in-Some-clause-found : goal.returns-in-Some-clause-found
returns-in-Some-clause-found g c =
    let tags = c.as_slice.result.now in
    let rows = c.as_slice-rows.result.now in
    let lane : ℕ = c.in-Some.lane in
    let found = (c.in-Some.ensures {u = tt}).found in
    let table = table_along _ tags _ rows _ c.as_slice.ensures.value c.as_slice-rows.ensures.value c.self.invariant in
    let same : rows_of tags rows ≡ c.args.self.now.rows = (λ i. rows_of (c.as_slice.ensures.value i) (c.as_slice-rows.ensures.value i))
    ∙ ap (λ (t : Table). t.rows) c.self.view_is in
    (ap (λ m. get m (row_at rows lane).place) (sym same) ∙ get_of tags rows _ c.args.hash lane table found.0, found.1)

pub returns-clause-absent : goal.returns-clause-absent
returns-clause-absent g c = λ place there.
    let tags = c.as_slice.result.now in
    let rows = c.as_slice-rows.result.now in
    let same : rows_of tags rows ≡ c.args.self.now.rows = (λ i. rows_of (c.as_slice.ensures.value i) (c.as_slice-rows.ensures.value i))
    ∙ ap (λ (t : Table). t.rows) c.self.view_is in
    of_each_lane tags rows place c.args.hash (λ p. goal.F-post g c.args.test p false)
    (ap (λ m. get m place) same ∙ there) (c.in-None.ensures {u = tt}).absent
