use Rattle.std.proofs.Common.{◌≡◌, ℕ, ◌+◌, ◌<◌, ◌≤◌, length, take, get_or, refl, sym, ap, ◌∙◌, arith, add-one, length-append, []}
use Rattle.std.specs.Ordering.{nat_cmp}
use Rattle.std.specs.FinMap.{FinMap, insert, get}
use Rattle.multimap_table.specs.Private.Entries.{entries, rows_of, row_at}
use Rattle.multimap_table.proofs.EntryLemmas.{room_from_count}
use Rattle.multimap_table.proofs.RowLemmas.{rows_of-nil}
use Rattle.multimap_table.proofs.TakeLemmas.{take_fewer, take_full, take_empty, take_whole, rows_of-take_full, rows_of-take_empty}
use Rattle.multimap_table.proofs.TakeLemmas.{get_before}
use Rattle.multimap_table.proofs.grow.insert_all.Goals.{then-old_tags-lane-ne0, else-old_tags-lane-ne0}
use Rattle.multimap_table.proofs.grow.insert_all.Goals as goal

pub loop-lane-init : goal.loop-lane-init
loop-lane-init g c = record {
  laid_out = c.requires.laid_out;
  map = rows_of-nil c.args.tags.now.items c.args.rows.now.items c.requires.empty ∙ sym (rows_of-nil [] [] refl);
  counted = ap length c.requires.empty;
  lanes = refl;
}

pub insert_row-requires : goal.insert_row-requires
insert_row-requires g c =
    let w = c.loop-lane.invariant in
    let tags = c.loop-lane.tags.items in
    let fewer = take_fewer c.args.old_tags.now c.args.old_rows.now c.loop-lane.lane c.requires.old_rows (omega arith) (omega arith) in
    let whole = c.requires.laid_out.sized.whole_groups in
    let place = (row_at c.args.old_rows.now c.loop-lane.lane).place in
    record {
      laid_out = w.laid_out;
      room = room_from_count tags c.loop-lane.rows.items w.laid_out.sized.row_each
          (omega (arith, w.counted, fewer, c.requires.room, w.lanes, whole));
      absent = ap (λ (m : FinMap nat_cmp ℕ). get m place) w.map
          ∙ get_before c.args.old_tags.now c.args.old_rows.now c.loop-lane.lane c.requires.unique c.requires.old_rows (omega arith)
          (omega arith);
    }

pub loop-lane-preserved : goal.loop-lane-preserved
loop-lane-preserved g c =
    let tags = c.args.old_tags.now in
    let rows = c.args.old_rows.now in
    let lane : ℕ = c.loop-lane.lane in
    let in_range : lane < length tags = omega arith in
    let w = c.loop-lane.invariant in
    elim c.if-old_tags-lane-ne0.branch [
      | then-old_tags-lane-ne0 b ↦
          let row = row_at rows lane in
          let full : 0 < get_or tags lane 0 = omega (arith, b.if-old_tags-lane-ne0.true) in
          let put = b.insert_row.ensures in
          rw (add-one, b.tags-is, b.rows-is) (record {
            laid_out = put.rows.laid_out;
            map = put.rows.rows_are ∙ ap (λ (m : FinMap nat_cmp ℕ). insert m row.place row.hash) w.map
                ∙ sym (rows_of-take_full tags rows lane c.requires.unique c.requires.old_rows in_range full);
            counted = put.counted ∙ ap (λ n. n + 1) w.counted
                ∙ sym (ap length (take_full tags rows lane c.requires.old_rows in_range full)
                ∙ length-append (entries (take lane tags) (take lane rows)) _);
            lanes = put.rows.lanes ∙ w.lanes;
          })
      | else-old_tags-lane-ne0 b ↦
          let free : get_or tags lane 0 ≡ 0 = b.if-old_tags-lane-ne0.false in
          rw (add-one, b.tags-is, b.rows-is) (record {
            laid_out = w.laid_out;
            map = w.map ∙ sym (rows_of-take_empty tags rows lane c.requires.old_rows in_range free);
            counted = w.counted ∙ sym (ap length (take_empty tags rows lane c.requires.old_rows in_range free));
            lanes = w.lanes;
          })
    ]

pub returns : goal.returns
returns g c =
    let tags = c.args.old_tags.now in
    let rows = c.args.old_rows.now in
    let w = c.loop-lane.invariant in
    let all : length tags ≤ c.loop-lane.lane = omega arith in
    let tags_whole = take_whole tags c.loop-lane.lane all in
    let rows_whole = take_whole rows c.loop-lane.lane (let same = c.requires.old_rows in omega arith) in
    record {
      rows = record { laid_out = w.laid_out; rows_are = w.map ∙ (λ i. rows_of (tags_whole i) (rows_whole i)); lanes = w.lanes };
      counted = w.counted ∙ (λ i. length (entries (tags_whole i) (rows_whole i)));
    }
