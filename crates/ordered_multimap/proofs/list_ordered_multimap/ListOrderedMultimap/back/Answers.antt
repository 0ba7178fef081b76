use Rattle.std.proofs.Common.{ap, ◌∙◌}
use Rattle.multimap_walks.specs.Walk.{end_item}
use Rattle.multimap_walks.specs.declared.End.TheVariants.{Back}
use Rattle.ordered_multimap.proofs.Agreement.LookUps.{last_of_walk}
use Rattle.ordered_multimap.proofs.list_ordered_multimap.ListOrderedMultimap.back.Goals as goal

pub returns : goal.returns
returns g c = last_of_walk c.iter.result c.next_back.new.self c.next_back.result c.next_back.ensures.steps
    ∙ ap (end_item Back) c.iter.ensures
