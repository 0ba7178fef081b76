use Rattle.std.proofs.Common.{rules}
use Rattle.multimap_walks.proofs.links.ChainEnds.after.Goals as goal

pub returns-in-Front : goal.returns-in-Front
returns-in-Front c = search rules

pub returns-in-Back : goal.returns-in-Back
returns-in-Back c = search rules
