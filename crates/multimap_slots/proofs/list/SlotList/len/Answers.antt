use Rattle.std.proofs.Common.{arith}
use Rattle.multimap_slots.proofs.list.SlotList.len.Goals as goal

pub returns-clause-sound : goal.returns-clause-sound
returns-clause-sound g c =
    let sound = c.len.ensures.sound in
    rw (← c.self.view_is) (record {
      distinct = sound.distinct;
      filled = c.self.invariant.filled;
      linked = sound.linked;
      fits = omega (arith, sound.among, sound.fits, c.self.invariant.same_length, c.self.inside.items.ok);
    })
