use Rattle.std.proofs.Common.{◌≡◌, ◌+◌, ◌*◌, ◌/◌, ◌%◌, ◌<◌, length, get_or, arith}
use Rattle.multimap_table.proofs.CycleLemmas.{distance-lt}
use Rattle.multimap_table.proofs.GroupLemmas.{full_from_mask, full_one_more}
use Rattle.multimap_table.proofs.probe.lane_with_room.Goals as goal

pub loop-steps-preserved : goal.loop-steps-preserved
loop-steps-preserved c =
    full_one_more c.args.tags.now c.args.start c.loop-steps.steps c.probe-group.result c.requires.start c.probe-group.ensures.in_range
    c.probe-group.ensures.value c.loop-steps.invariant
    (full_from_mask c.args.tags.now c.probe-group.result c.match_tag-empty.result c.if-empty-ne0.false c.match_tag-empty.ensures.all)

-- some lane is empty, so a full round cannot have found all groups full
pub unreachable-requires : goal.unreachable-requires
unreachable-requires c =
    let tags = c.args.tags.now in
    let lane = c.requires.room.0 in
    let group = lane / 16 in
    let in_range : group < length tags / 16 = omega (arith, c.requires.room.1, c.requires.groups) in
    let full : 0 < get_or tags (16 * group + lane % 16) 0 = c.loop-steps.invariant group in_range
    (omega (arith, distance-lt (length tags / 16) c.args.start group c.requires.start in_range)) (lane % 16) (omega arith) in
    let at : 16 * group + lane % 16 ≡ lane = omega arith in
    let empty : get_or tags lane 0 ≡ 0 = c.requires.room.2 in
    omega (arith, rw at at full)
