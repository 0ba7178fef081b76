use Rattle.std.proofs.Common.{arith}
use Rattle.ordered_multimap.proofs.Clone.Ranks.{ranked_ends, ranked_neighbours, ranked_small}
use Rattle.ordered_multimap.proofs.list_ordered_multimap.clone.steps.clone_into.Goals as goal

pub clone_keys-requires-clause-ranked : goal.clone_keys-requires-clause-ranked
clone_keys-requires-clause-ranked g c = ranked_ends c.requires.chains c.requires.ranks

pub clone_keys-requires-clause-room : goal.clone_keys-requires-clause-room
clone_keys-requires-clause-room g c = omega (arith, c.requires.key_room, c.requires.row_room)

pub clone_values-requires-clause-ranked : goal.clone_values-requires-clause-ranked
clone_values-requires-clause-ranked g c = ranked_neighbours c.requires.chains c.requires.ranks

pub clone_values-requires-clause-small : goal.clone_values-requires-clause-small
clone_values-requires-clause-small g c = ranked_small c.requires.chains c.requires.ranks c.requires.counted

pub clone_values-requires-clause-named : goal.clone_values-requires-clause-named
clone_values-requires-clause-named g c =
    λ q l listed is.
    omega (arith, c.in_ok-clone_keys.ensures.new_places, c.requires.new_places l.key (c.requires.chains.chained.owned q l listed is))
