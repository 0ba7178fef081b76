use Rattle.std.proofs.Common.{◌∙◌, ap, unwrap_or}
use Rattle.ordered_multimap.proofs.Compact.Lowered.{first-fits, row-found}
use Rattle.ordered_multimap.proofs.list_ordered_multimap.compact.compact.Goals as goal

pub overflow_sub-push_place : goal.overflow_sub-push_place
overflow_sub-push_place g c =
    first-fits c.args.values.now.list.order c.unwrap_or-by.result c.push_place.result
    (c.unwrap_or-by.ensures ∙ ap (λ o. unwrap_or o 0) c.front_place.ensures) c.push_place.ensures.within

pub lower_all-requires-clause-row : goal.lower_all-requires-clause-row
lower_all-requires-clause-row g c =
    row-found c.args.values.now.list.order c.unwrap_or-by.result c.push_place.result c.len-len.ensures.rises
    (c.unwrap_or-by.ensures ∙ ap (λ o. unwrap_or o 0) c.front_place.ensures) c.push_place.ensures.within c.if-by-gt0.true
    (c.if-push_place-by.true ∙ c.len-len.ensures.len)
