use Rattle.std.proofs.Common.{rules}
use Rattle.multimap_walks.proofs.links.ValueLink.step_from.Goals as goal

pub returns-in-Front : goal.returns-in-Front
returns-in-Front c = search rules
