use Rattle.std.proofs.Common.{rules}
use Rattle.multimap_slots.proofs.tape.Tape.detach_linked.Goals as goal

pub listed_link-link-requires : goal.listed_link-link-requires
listed_link-link-requires g c = search rules
