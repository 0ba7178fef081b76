use Rattle.std.proofs.Common.{refl}
use Rattle.multimap_slots.proofs.LentSlots.{lends_slots}
use Rattle.multimap_slots.proofs.list.SlotList.cells.Goals as goal

pub returns : goal.returns
returns g c =
    let l = c.lend-cells.ensures.lent in (
      (refl, λ w. refl),
      record {
        writes_back = tt;
        lent = lends_slots _ _ l.made l.order_is l.links_are c.len-len.ensures.sound;
        sound = c.len-len.ensures.sound;
        ends = l.ends;
      },
    )
