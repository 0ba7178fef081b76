use Rattle.std.proofs.Common.{rules, ◌≡◌, ℕ, ◌/◌, ◌<◌, List, length, get_or, set, subst, sym, ap, ◌∙◌, arith, refl}
use Rattle.multimap_table.specs.declared.group.Row.{Row}
use Rattle.multimap_table.specs.Private.Layout.{IsLaidOut, Reaches, Passes}
use Rattle.multimap_table.specs.Private.Entries.{row_at}
use Rattle.multimap_table.proofs.RowLemmas.{IsErased, erase_row, move_row}
use Rattle.multimap_table.proofs.GapLemmas.{IsClosing, opened, closed, falls, passed_by}
use Rattle.multimap_table.proofs.MoveLemmas.{moved_in}
use Rattle.multimap_table.proofs.remove.close_gap.Given.{Over}
use Rattle.multimap_table.proofs.remove.close_gap.Goals.{After-loop-group}
use Rattle.multimap_table.proofs.remove.close_gap.Goals as goal

-- the lane with room, of the vector's items
abbrev IsRoom : ℕ → ℕ → List ℕ → Type 0
IsRoom lane start tags = (lane < length tags) × (get_or tags lane 0 ≡ 0) × Reaches tags start (lane / 16)

pub loop-group-init : goal.loop-group-init
loop-group-init g c =
    let tags = c.args.tags.now.items in
    let rows = c.args.rows.now.items in
    let old = c.requires.laid_out in
    let found = c.lane_with_room-last.ensures in
    let room = subst (IsRoom c.lane_with_room-last.result (c.args.lane / 16)) c.deref.ensures.value
    (found.in_range, found.empty, found.reached) in
    let out = erase_row tags rows c.args.lane old.unique old.sized.row_each c.requires.in_range c.requires.full in
    let count : length tags / 16 ≡ c.len-count.result / 16 = ap (λ n. n / 16)
    (sym (c.len-count.ensures ∙ sym c.deref.ensures.len ∙ ap length c.deref.ensures.value)) in
    record {
      closing = subst (λ n. IsClosing n (set tags c.args.lane 0) rows c.args.lane (c.args.lane / 16) (c.lane_with_room-last.result / 16))
          count
          (opened tags rows c.args.lane c.lane_with_room-last.result old c.requires.in_range c.requires.full room.0 room.1 room.2
          out.unique);
      map = refl;
      counted = refl;
      lanes = refl;
    }

pub loop-group-smaller-in-Some : goal.loop-group-smaller-in-Some
loop-group-smaller-in-Some g c =
    let w = c.loop-group.invariant.closing in
    falls _ _ _ _ w.group_in_range c.probe-group.ensures.in_range w.last_in_range c.probe-group.ensures.value c.loop-group-test.true

pub loop-group-smaller : goal.loop-group-smaller
loop-group-smaller g c =
    let w = c.loop-group.invariant.closing in
    falls _ _ _ _ w.group_in_range c.probe-group.ensures.in_range w.last_in_range c.probe-group.ensures.value c.loop-group-test.true

pub loop-group-preserved-in-Some : goal.loop-group-preserved-in-Some
loop-group-preserved-in-Some g c =
    let tags = c.loop-group.tags.items in
    let rows = c.loop-group.rows.items in
    let gap = c.loop-group.gap in
    let later = c.in-Some.later in
    let w = c.loop-group.invariant.closing in
    let found = (c.in-Some.ensures {u = tt}).found in
    let full : 0 < get_or tags later 0 = subst (λ (ts : List ℕ). 0 < get_or ts later 0) c.deref-in-loop-group.ensures.value found.1 in
    let past : Passes tags rows later (gap / 16)
    = subst (λ (ts : List ℕ). Passes ts rows later (gap / 16)) c.deref-in-loop-group.ensures.value
    (subst (λ (rs : List Row). Passes c.deref-in-loop-group.result.now rs later (gap / 16)) c.deref-in-loop-group-2.ensures.value
    found.2) in
    let in_range : later < length tags = let l = w.lanes in let q = c.probe-group.ensures.in_range in let at = found.0 in omega arith in
    let moved = move_row tags rows later gap w.unique w.row_each in_range full w.gap_in_range w.empty in
    let closing = moved_in (c.len-count.result / 16) tags rows gap c.loop-group.group
    (c.lane_with_room-last.result / 16) later w in_range full past c.probe-group.result c.loop-group-test.true
    c.probe-group.ensures.in_range c.probe-group.ensures.value found.0 moved.unique in
    rw (c.move_row.ensures.tags, c.move_row.ensures.rows) (record {
      closing = closing;
      map = moved.map ∙ c.loop-group.invariant.map;
      counted = moved.counted ∙ c.loop-group.invariant.counted;
      lanes = closing.lanes ∙ sym w.lanes ∙ c.loop-group.invariant.lanes;
    })

pub loop-group-preserved : goal.loop-group-preserved
loop-group-preserved g c =
    let tags = c.loop-group.tags.items in
    let rows = c.loop-group.rows.items in
    let gap = c.loop-group.gap in
    let w = c.loop-group.invariant.closing in
    let missed = (c.in_default.ensures {u = tt}).absent in
    let none = subst (λ (ts : List ℕ). (lane : ℕ) → lane / 16 ≡ c.probe-group.result → 0 < get_or ts lane 0 → Passes ts rows lane (gap / 16)
    → ⊥) c.deref-in-loop-group.ensures.value
    (subst (λ (rs : List Row). (lane : ℕ) → lane / 16 ≡ c.probe-group.result → 0 < get_or c.deref-in-loop-group.result.now lane 0
    → Passes c.deref-in-loop-group.result.now rs lane (gap / 16) → ⊥)
    c.deref-in-loop-group-2.ensures.value missed) in
    record {
      closing = passed_by (c.len-count.result / 16) tags rows gap c.loop-group.group c.probe-group.result
          (c.lane_with_room-last.result / 16) w c.loop-group-test.true c.probe-group.ensures.in_range
          c.probe-group.ensures.value none;
      map = c.loop-group.invariant.map;
      counted = c.loop-group.invariant.counted;
      lanes = c.loop-group.invariant.lanes;
    }

laid_out : (g : Over) (c : After-loop-group g) → IsLaidOut c.loop-group.tags.items c.loop-group.rows.items
laid_out g c =
    let last = c.lane_with_room-last.result / 16 in
    closed (c.len-count.result / 16) c.loop-group.tags.items c.loop-group.rows.items c.loop-group.gap last
    (subst (λ n. IsClosing (c.len-count.result / 16) c.loop-group.tags.items c.loop-group.rows.items c.loop-group.gap n last)
    c.loop-group-test.false c.loop-group.invariant.closing)

out : (g : Over) (c : After-loop-group g) → IsErased c.args.tags.now.items c.args.rows.now.items (set c.args.tags.now.items c.args.lane 0)
    (row_at c.args.rows.now.items c.args.lane).place
out g c = let old = c.requires.laid_out in erase_row c.args.tags.now.items c.args.rows.now.items c.args.lane old.unique old.sized.row_each
    c.requires.in_range c.requires.full

pub returns : goal.returns
returns g c = record {
  holds = record {
    laid_out = laid_out g c;
    rows_are = c.loop-group.invariant.map ∙ (out g c).map;
    lanes = c.loop-group.invariant.lanes ∙ search rules;
  };
  counted = omega (arith, c.loop-group.invariant.counted, (out g c).counted);
}
