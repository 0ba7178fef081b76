use Rattle.std.proofs.Common.{◌≡◌, length, refl, ap, ◌∙◌, arith, add-one}
use Rattle.multimap_slots.specs.Lists.{places_below}
use Rattle.ordered_multimap.specs.Private.Relocations.{relocated}
use Rattle.ordered_multimap.proofs.Agreement.Relocated.{chains-relocated}
use Rattle.ordered_multimap.proofs.Compact.Dense.{dense-start, following-listed, following-holes, dense-stay, dense-move}
use Rattle.ordered_multimap.proofs.Compact.Dense.{dense-end, dense-all, relocated-room, relocates-then, relocates-cut}
use Rattle.std.proofs.lemmas.List.{length-map}
use Rattle.ordered_multimap.proofs.list_ordered_multimap.compact.close_holes.Goals as goal
use Rattle.ordered_multimap.proofs.list_ordered_multimap.compact.close_holes.Goals.{then-to-from, else-to-from}

pub loop-to-init : goal.loop-to-init
loop-to-init g c = record {
  relocated = relocated-room _ _ _ _ c.requires.chains.keys_sound c.requires.chains.sound refl refl (omega arith) (omega arith);
  dense = dense-start _;
  same_length = refl;
  moved = omega arith;
  freed = refl;
  holes = refl;
  capacities = record { keys_capacity = refl; capacity = refl };
}

pub move_value-requires : goal.move_value-requires
move_value-requires g c =
    let order = c.loop-to.values.list.order in
    let x = c.place_behind-from.ensures in
    record {
      chains = chains-relocated c.requires.chains c.loop-to.invariant.relocated;
      listed = following-listed order c.loop-to.to c.place_behind-from.result x;
      down = c.if-to-from.true;
      holes = following-holes order c.loop-to.to c.place_behind-from.result x;
    }

pub loop-to-preserved : goal.loop-to-preserved
loop-to-preserved g c =
    let w = c.loop-to.invariant in
    let order = c.loop-to.values.list.order in
    let from = c.place_behind-from.result in
    let x = c.place_behind-from.ensures in
    elim c.if-to-from.branch [
      | then-to-from b ↦
          let m = b.move_value.ensures in
          rw (add-one, b.keys-is, b.values-is) (record {
            relocated = record {
              name = λ p. relocated from c.loop-to.to (w.relocated.name p);
              relocates = relocates-then w.relocated.name (relocated from c.loop-to.to) w.relocated.relocates m.relocates;
            };
            dense = dense-move order c.loop-to.to from x _ m.relocates.order;
            same_length = ap length m.relocates.order ∙ length-map order (relocated from c.loop-to.to) ∙ w.same_length;
            moved = omega (arith, m.counts.moved, w.moved);
            freed = m.counts.freed ∙ w.freed;
            holes = m.counts.holes ∙ w.holes;
            capacities = record {
              keys_capacity = m.capacities.keys_capacity ∙ w.capacities.keys_capacity;
              capacity = m.capacities.capacity ∙ w.capacities.capacity;
            };
          })
      | else-to-from b ↦
          rw (add-one, b.keys-is, b.values-is) (record {
            relocated = w.relocated;
            dense = dense-stay order c.loop-to.to from x (omega (arith, b.if-to-from.false));
            same_length = w.same_length;
            moved = omega (arith, w.moved);
            freed = w.freed;
            holes = w.holes;
            capacities = w.capacities;
          })
    ]

pub returns : goal.returns
returns g c =
    let w = c.loop-to.invariant in
    let order = c.loop-to.values.list.order in
    let cut = c.cut_end.ensures in
    let all : c.loop-to.to ≡ length c.args.values.now.list.order = omega
    (arith, c.len-to-end.ensures.len, c.loop-to.auto.to-end, c.loop-to-test.false) in
    let same : length order ≡ c.loop-to.to = omega (arith, w.same_length, all) in
    record {
      relocated = record {
        name = w.relocated.name;
        relocates = relocates-cut w.relocated.name c.loop-to.values _ w.relocated.relocates
            cut;
      };
      dense = cut.order ∙ dense-all order c.loop-to.to w.dense same ∙ ap places_below all;
      no_hole =
          let end = dense-end order c.loop-to.to w.dense same in
          omega (arith, cut.used, ap length cut.order, same, end);
      moved = omega (arith, cut.moved, w.moved, all);
      freed = cut.freed ∙ w.freed;
      capacities = record {
        keys_capacity = w.capacities.keys_capacity;
        capacity = cut.capacity ∙ w.capacities.capacity;
      };
    }
