use Rattle.ordered_multimap.proofs.Append.Steps.{if_each, old_listed, pushes_value}
use Rattle.ordered_multimap.proofs.list_ordered_multimap.append.steps.push_value.Goals as goal

pub push_reserved-place-requires-clause-fits : goal.push_reserved-place-requires-clause-fits
push_reserved-place-requires-clause-fits g c =
    λ below. record { previous = if_each c.args.tail (λ q is. below q (c.requires.tail q is)); next = tt }

pub set_next-requires-clause-listed : goal.set_next-requires-clause-listed
set_next-requires-clause-listed g c =
    if_each c.args.tail (λ q is. old_listed c.push_reserved-place.ensures.pushed q (c.requires.tail q is))

pub set_next-requires-clause-fits : goal.set_next-requires-clause-fits
set_next-requires-clause-fits g c = c.push_reserved-place.ensures.below_max

pub returns-clause-pushed : goal.returns-clause-pushed
returns-clause-pushed g c = pushes_value c.push_reserved-place.ensures.pushed c.requires.tail c.set_next.ensures
