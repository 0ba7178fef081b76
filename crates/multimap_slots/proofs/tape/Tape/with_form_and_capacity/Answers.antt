use Rattle.std.proofs.Common.{rules}
use Rattle.multimap_slots.proofs.tape.Tape.with_form_and_capacity.Goals as goal

pub returns-clause-room : goal.returns-clause-room
returns-clause-room g c = search rules
