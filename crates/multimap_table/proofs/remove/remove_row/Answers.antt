use Rattle.std.proofs.Common.{◌≡◌, ℕ, ◌*◌, ◌+◌, ◌/◌, ◌<◌, List, length, get_or, set, subst, arith}
use Rattle.std.proofs.Common.{length-set}
use Rattle.std.specs.Int.{w64, trailing_zeros}
use Rattle.multimap_table.specs.Private.Layout.{IsBitSet, IsLaidOut, distance}
use Rattle.multimap_table.proofs.BitLemmas.{bit_trailing_zeros}
use Rattle.multimap_table.proofs.RowLemmas.{erase_row}
use Rattle.multimap_table.proofs.GapLemmas.{IsClosing, opened, closed, distance_self}
use Rattle.multimap_table.proofs.remove.remove_row.Goals as goal

-- a lane of the group is empty, so the gap is closed at once
pub returns : goal.returns
returns g c =
    let tags = c.args.tags.now.items in
    let rows = c.args.rows.now.items in
    let lane = c.args.lane in
    let old = c.requires.laid_out in
    let bit : ℕ = trailing_zeros w64 c.match_tag-empty.result in
    let is_set : IsBitSet c.match_tag-empty.result bit =
    bit_trailing_zeros 64 c.match_tag-empty.result (omega (arith, c.if-empty-eq0.false)) c.match_tag-empty.type_inv in
    let empty = subst (λ (ts : List ℕ). (bit < 16) × (get_or ts (16 * (lane / 16) + bit) 0 ≡ 0)) c.deref.ensures.value
    (c.match_tag-empty.ensures.only bit is_set) in
    let room : ℕ = 16 * (lane / 16) + bit in
    let same : room / 16 ≡ lane / 16 = omega (arith, empty.0) in
    let count : ℕ = length tags / 16 in
    let whole = old.sized.whole_groups in
    let in_range : room < length tags = omega (arith, empty.0, c.requires.in_range, whole) in
    let out = erase_row tags rows lane old.unique old.sized.row_each c.requires.in_range c.requires.full in
    let opening = opened tags rows lane room old c.requires.in_range c.requires.full in_range empty.1
    (λ other below nearer.
    let near = subst (λ n. distance count (lane / 16) other < distance count (lane / 16) n) same nearer in
    absurd (omega (arith, near, distance_self count (lane / 16) (omega (arith, c.requires.in_range, whole)))))
    out.unique in
    let laid_out : IsLaidOut (set tags lane 0) rows =
    closed count (set tags lane 0) rows lane (lane / 16)
    (subst (λ n. IsClosing count (set tags lane 0) rows lane (lane / 16) n) same opening) in
    record {
      holds = record { laid_out = laid_out; rows_are = out.map; lanes = length-set tags lane 0 };
      counted = out.counted;
    }
