use Rattle.std.proofs.Common.{◌≡◌, ℕ, ◌/◌, ◌<◌, false, length, arith}
use Rattle.multimap_table.specs.Private.Entries.{row_at}
use Rattle.multimap_table.proofs.CycleLemmas.{distance-lt, distance_cases}
use Rattle.multimap_table.proofs.GroupLemmas.{not_full_from_mask, group_of-lt, missed_one_more, missed_at_stop}
use Rattle.multimap_table.specs.Private.Layout.{HoldsHash, distance}
use Rattle.multimap_table.proofs.probe.find_lane.Given.{Over}
use Rattle.multimap_table.proofs.probe.find_lane.Goals.{After-loop-step}
use Rattle.multimap_table.proofs.probe.find_lane.Goals as goal

-- no way leads from a group to itself
no_way : (count start : ℕ) → start < count → distance count start start ≡ 0
no_way count start in_range = omega (arith, distance_cases count start start in_range)

pub returns-then-match_tag-ne0 : goal.returns-then-match_tag-ne0
returns-then-match_tag-ne0 g c =
    let tags = c.args.tags.now in
    let rows = c.args.rows.now in
    let start = c.probe_start-start in
    record {
      found = tt;
      absent = missed_at_stop (λ lane. goal.F-post g c.args.test.now (row_at rows lane).place false) tags rows c.args.hash
          start.result 0 start.result c.requires.sized c.requires.reachable start.ensures.in_range
          start.ensures.in_range (no_way (length tags / 16) start.result start.ensures.in_range)
          (λ lane holds near. absurd (omega (arith, near))) (c.in_default.ensures {u = tt}).absent
          start.ensures.value (not_full_from_mask tags start.result c.match_tag.result c.if-match_tag-ne0.true c.match_tag.type_inv
          c.match_tag.ensures.only);
    }

pub loop-step-init : goal.loop-step-init
loop-step-init g c =
    let start = c.probe_start-start in
    missed_one_more (λ lane. goal.F-post g c.args.test.now (row_at c.args.rows.now lane).place false) c.args.tags.now c.args.rows.now
    c.args.hash start.result 0 start.result c.requires.sized c.requires.reachable start.ensures.in_range start.ensures.in_range
    (no_way (length c.args.tags.now / 16) start.result start.ensures.in_range)
    (λ lane holds near. absurd (omega (arith, near))) (c.in_default.ensures {u = tt}).absent

pub returns-then-match_tag-ne0-2 : goal.returns-then-match_tag-ne0-2
returns-then-match_tag-ne0-2 g c =
    let tags = c.args.tags.now in
    let rows = c.args.rows.now in
    let group = c.probe-group.result in
    let start = c.probe_start-start in
    record {
      found = tt;
      absent = missed_at_stop (λ lane. goal.F-post g c.args.test.now (row_at rows lane).place false) tags rows c.args.hash
          start.result c.loop-step.step group c.requires.sized c.requires.reachable start.ensures.in_range
          c.probe-group.ensures.in_range c.probe-group.ensures.value c.loop-step.invariant
          (c.in_default-find_in_group.ensures {u = tt}).absent
          start.ensures.value (not_full_from_mask tags group c.match_tag-in-loop-step.result c.if-match_tag-ne0-2.true
          c.match_tag-in-loop-step.type_inv
          c.match_tag-in-loop-step.ensures.only);
    }

pub loop-step-preserved : goal.loop-step-preserved
loop-step-preserved g c =
    missed_one_more (λ lane. goal.F-post g c.args.test.now (row_at c.args.rows.now lane).place false) c.args.tags.now c.args.rows.now
    c.args.hash c.probe_start-start.result c.loop-step.step c.probe-group.result
    c.requires.sized c.requires.reachable c.probe_start-start.ensures.in_range c.probe-group.ensures.in_range c.probe-group.ensures.value
    c.loop-step.invariant (c.in_default-find_in_group.ensures {u = tt}).absent

absent : (g : Over) (c : After-loop-step g) → (lane : ℕ) → HoldsHash c.args.tags.now c.args.rows.now c.args.hash lane
    → goal.F-post g c.args.test.now (row_at c.args.rows.now lane).place false
absent g c = λ lane holds.
    let in_range = group_of-lt c.args.tags.now lane c.requires.sized.whole_groups holds.in_range in
    c.loop-step.invariant lane holds (omega (
      arith,
      distance-lt (length c.args.tags.now / 16) c.probe_start-start.result
          (lane / 16) c.probe_start-start.ensures.in_range in_range,
    ))

pub returns : goal.returns
returns g c = record { found = tt; absent = absent g c }
