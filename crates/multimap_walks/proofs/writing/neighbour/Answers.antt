use Rattle.std.proofs.Common.{rules}
use Rattle.multimap_walks.proofs.writing.neighbour.Goals as goal

pub preceding_place-requires-clause-more : goal.preceding_place-requires-clause-more
preceding_place-requires-clause-more g c = search rules

pub preceding_place-requires-clause-neighbour : goal.preceding_place-requires-clause-neighbour
preceding_place-requires-clause-neighbour g c = search rules

pub returns-in-Front : goal.returns-in-Front
returns-in-Front g c = search rules
