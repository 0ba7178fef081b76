use Rattle.std.proofs.Common.{arith}
use Rattle.std.proofs.lemmas.Bool.{ltb-true, lt-ltb}
use Rattle.multimap_slots.proofs.tape.Tape.has_end_room.Goals as goal

pub returns : goal.returns
returns g c = (
  λ below. let less = ltb-true c.push_place.result c.slots.result below in
      omega (arith, less, c.push_place.ensures.end, c.slots.ensures),
  λ room. lt-ltb c.push_place.result c.slots.result
      (omega (arith, room, c.push_place.ensures.end, c.slots.ensures)),
)
