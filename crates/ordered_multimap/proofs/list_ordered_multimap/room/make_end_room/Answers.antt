use Rattle.std.proofs.Common.{rules, arith}
use Rattle.std.proofs.lemmas.Grind.{common_steps}
use Rattle.ordered_multimap.proofs.Compact.Dense.{same_places}
use Rattle.ordered_multimap.proofs.list_ordered_multimap.room.make_end_room.Goals as goal

pub returns-then-not-has_end_room : goal.returns-then-not-has_end_room
returns-then-not-has_end_room g c = grind (arith, common_steps, same_places) steps 2000000

pub returns-else-not-has_end_room : goal.returns-else-not-has_end_room
returns-else-not-has_end_room g c = search (rules, same_places)
