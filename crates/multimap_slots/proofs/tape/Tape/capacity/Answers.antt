use Rattle.std.proofs.Common.{◌/◌, ap}
use Rattle.multimap_slots.proofs.tape.Tape.capacity.Goals as goal

pub returns : goal.returns
returns g c = ap (λ slots. slots / 2) c.slots.ensures
