use Rattle.std.proofs.Common.{rules, ◌≡◌, ℕ, ◌/◌, ◌<◌, List, length, get_or, set, subst, sym, ap, ◌∙◌}
use Rattle.multimap_table.specs.Private.Layout.{IsLaidOut, Reaches, probe_start}
use Rattle.multimap_table.proofs.RowLemmas.{IsPut, put_row}
use Rattle.multimap_table.proofs.LayoutLemmas.{laid_out_put}
use Rattle.multimap_table.proofs.insert.insert_row.Goals.{After-rows-1}
use Rattle.multimap_table.proofs.insert.insert_row.Given.{Over}
use Rattle.multimap_table.proofs.insert.insert_row.Goals as goal

-- the lane, of the vector's items
abbrev IsRoom : ℕ → ℕ → List ℕ → Type 0
IsRoom lane start tags = (lane < length tags) × (get_or tags lane 0 ≡ 0) × Reaches tags start (lane / 16)

room : (g : Over) (c : After-rows-1 g) → IsRoom c.lane_with_room-lane.result c.probe_start.result c.args.tags.now.items
room g c = let new = c.lane_with_room-lane.ensures in
    subst (IsRoom c.lane_with_room-lane.result c.probe_start.result) c.deref.ensures.value (new.in_range, new.empty, new.reached)

put : (g : Over) (c : After-rows-1 g)
    → IsPut c.args.tags.now.items c.args.rows.now.items (set c.args.tags.now.items c.lane_with_room-lane.result c.tag_of.result)
    (set c.args.rows.now.items c.lane_with_room-lane.result c.args.row) c.args.row
put g c =
    let old = c.requires.laid_out in let new = room g c in
    put_row c.args.tags.now.items c.args.rows.now.items c.lane_with_room-lane.result c.tag_of.result c.args.row old.sized.row_each new.0
    new.1 c.tag_of.ensures.full c.requires.absent old.unique

laid_out : (g : Over) (c : After-rows-1 g) → IsLaidOut (set c.args.tags.now.items c.lane_with_room-lane.result c.tag_of.result)
    (set c.args.rows.now.items c.lane_with_room-lane.result c.args.row)
laid_out g c =
    let old = c.requires.laid_out in let new = room g c in
    laid_out_put c.args.tags.now.items c.args.rows.now.items c.lane_with_room-lane.result c.tag_of.result c.args.row old.sized new.0
    c.tag_of.ensures.value c.tag_of.ensures.full new.1 c.requires.absent
    (subst (λ s. Reaches c.args.tags.now.items s (c.lane_with_room-lane.result / 16))
    (c.probe_start.ensures.value ∙ ap (λ n. probe_start (n / 16) c.args.row.hash)
    (c.len-count.ensures ∙ sym c.deref.ensures.len ∙ ap length c.deref.ensures.value)) new.2) old

pub returns-clause-rows : goal.returns-clause-rows
returns-clause-rows g c = record { laid_out = laid_out g c; rows_are = (put g c).map; lanes = search rules }

pub returns-clause-counted : goal.returns-clause-counted
returns-clause-counted g c = (put g c).counted
