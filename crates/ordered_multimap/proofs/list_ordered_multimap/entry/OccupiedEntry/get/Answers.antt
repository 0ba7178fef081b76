use Rattle.ordered_multimap.proofs.Append.Entered.{has_head, is_head}
use Rattle.ordered_multimap.proofs.list_ordered_multimap.entry.OccupiedEntry.get.Goals as goal

pub first_from-requires : goal.first_from-requires
first_from-requires g c = is_head c.args.self.now

pub returns : goal.returns
returns g c = λ k is. c.first_from.ensures k (has_head c.args.self.now k is)
