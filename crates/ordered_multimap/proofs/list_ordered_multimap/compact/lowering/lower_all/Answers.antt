use Rattle.std.proofs.Common.{◌≡◌, ◌∙◌, [], length, sym, ap, arith}
use Rattle.std.proofs.lemmas.List.{append-nil}
use Rattle.multimap_slots.specs.Lists.{places_below}
use Rattle.multimap_slots.proofs.Callers.DensePlaces.{length-below}
use Rattle.ordered_multimap.specs.Private.Lowered.{lowered}
use Rattle.ordered_multimap.proofs.Compact.Dense.{dense-end, relocates-cut}
use Rattle.ordered_multimap.proofs.Compact.Lowered.{lowers-order, relocates-lowered}
use Rattle.ordered_multimap.proofs.Compact.LoweredLinks.{names-high, names-high-ends}
use Rattle.ordered_multimap.proofs.list_ordered_multimap.compact.lowering.lower_all.Goals as goal

pub lower_values-requires : goal.lower_values-requires
lower_values-requires g c = record {
  down = c.requires.down;
  row = c.requires.row;
  high = names-high c.args.by c.requires.chains c.requires.row;
}

pub lower_keys-requires : goal.lower_keys-requires
lower_keys-requires g c = record { high = names-high-ends c.args.by c.requires.chains c.requires.row }

pub returns : goal.returns
returns g c =
    let w = c.lower_values.ensures in
    let cut = c.cut_end.ensures in
    let n = length c.args.values.now.list.order in
    let order = lowers-order w.lowers in
    let same : length c.lower_values.new.values.list.order ≡ n = ap length order ∙ length-below n in
    let end = dense-end c.lower_values.new.values.list.order n
    (record { rest = []; parts = order ∙ sym (append-nil (places_below n)) }) same in
    let fits = c.requires.chains.sound.fits in
    record {
      relocated = record {
        name = lowered c.args.by;
        relocates = relocates-cut (lowered c.args.by) c.lower_values.new.values _
            (relocates-lowered c.requires.row w.lowers c.lower_keys.ensures c.requires.chains.keys_sound.fits
            (omega (arith, fits, w.capacity)))
            cut;
      };
      dense = cut.order ∙ order;
      no_hole = omega (arith, cut.used, ap length cut.order, same, end);
      moved = omega (arith, cut.moved, w.moved);
      freed = cut.freed ∙ w.freed;
      capacities = record {
        keys_capacity = ap (λ s. s.capacity) c.lower_keys.ensures.rest;
        capacity = cut.capacity ∙ w.capacity;
      };
    }
