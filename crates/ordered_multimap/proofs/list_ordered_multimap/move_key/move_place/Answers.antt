use Rattle.std.proofs.Common.{rules}
use Rattle.ordered_multimap.proofs.list_ordered_multimap.move_key.move_place.Goals as goal

pub returns-in-Front : goal.returns-in-Front
returns-in-Front g c = search rules

pub returns-in-Back : goal.returns-in-Back
returns-in-Back g c = search rules
