use Rattle.std.proofs.Common.{◌≡◌, ◌+◌, ◌<◌, length, refl, sym, ◌∙◌, arith, add-one, subst}
use Rattle.multimap_slots.specs.Lists.{IsIn}
use Rattle.ordered_multimap.proofs.Compact.Dense.{following-holes, following-listed}
use Rattle.ordered_multimap.proofs.Compact.Lowered.{follows, lowers-start, lowers-step}
use Rattle.ordered_multimap.proofs.Compact.LoweredLinks.{row-listed}
use Rattle.ordered_multimap.proofs.list_ordered_multimap.compact.lowering.lower_values.Goals as goal

pub loop-to-init : goal.loop-to-init
loop-to-init g c = record {
  lowers = lowers-start c.requires.row;
  moved = omega arith;
  freed = refl;
  holes = refl;
  capacity = refl;
}

pub lower_value-requires : goal.lower_value-requires
lower_value-requires g c =
    let w = c.loop-to.invariant in
    let old = c.args.values.now.list in
    let more : c.loop-to.to < length old.order = omega (arith, c.len-to-end.ensures.len, c.loop-to-test.true) in
    let x = follows more w.lowers in
    let was = subst (IsIn (c.args.by + c.loop-to.to)) (sym c.requires.row) (row-listed c.args.by (length old.order) c.loop-to.to more) in
    record {
      listed = following-listed _ _ _ x;
      down = c.requires.down;
      holes = following-holes _ _ _ x;
      high = λ l is. c.requires.high (c.args.by + c.loop-to.to) l was
          (sym (w.lowers.links_left (c.args.by + c.loop-to.to) (omega arith)) ∙ is);
    }

pub loop-to-preserved : goal.loop-to-preserved
loop-to-preserved g c =
    let w = c.loop-to.invariant in
    let more : c.loop-to.to < length c.args.values.now.list.order = omega (arith, c.len-to-end.ensures.len, c.loop-to-test.true) in
    let m = c.lower_value.ensures in
    rw add-one (record {
      lowers = lowers-step c.requires.down more w.lowers m.lowers;
      moved = omega (arith, m.counts.moved, w.moved);
      freed = m.counts.freed ∙ w.freed;
      holes = m.counts.holes ∙ w.holes;
      capacity = m.capacity ∙ w.capacity;
    })

pub returns : goal.returns
returns g c =
    let w = c.loop-to.invariant in
    let all : c.loop-to.to ≡ length c.args.values.now.list.order =
    omega (arith, c.len-to-end.ensures.len, c.loop-to.auto.to-end, c.loop-to-test.false) in
    record {
      lowers = rw (← all) w.lowers;
      moved = omega (arith, w.moved, all);
      freed = w.freed;
      holes = w.holes;
      capacity = w.capacity;
    }
