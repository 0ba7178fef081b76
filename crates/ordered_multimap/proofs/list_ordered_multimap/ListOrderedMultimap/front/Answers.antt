use Rattle.std.proofs.Common.{ap, ◌∙◌}
use Rattle.multimap_walks.specs.Walk.{end_item}
use Rattle.multimap_walks.specs.declared.End.TheVariants.{Front}
use Rattle.ordered_multimap.proofs.Agreement.LookUps.{first_of_walk}
use Rattle.ordered_multimap.proofs.list_ordered_multimap.ListOrderedMultimap.front.Goals as goal

pub returns : goal.returns
returns g c = first_of_walk c.iter.result c.next.new.self c.next.result c.next.ensures.steps ∙ ap (end_item Front) c.iter.ensures
