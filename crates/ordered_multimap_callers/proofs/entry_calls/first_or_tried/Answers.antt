use Rattle.std.proofs.Common.{Ok, slice_get, subst, rules}
use Rattle.std.specs.Option.{UnwrapsOrElse}
use Rattle.ordered_multimap.specs.Pairs.{values_of}
use Rattle.ordered_multimap_callers.proofs.FirstLemmas.{first_unwritten}
use Rattle.ordered_multimap_callers.proofs.entry_calls.first_or_tried.Goals as goal

pub returns-clause-present : goal.returns-clause-present
returns-clause-present g c = λ present.
    let eq = g.K.PartialEq.eq in
    let key = c.args.key in
    let value = c.in_ok-first.first.now in
    let made : g.row.V.Denot → Type 0 = λ v. goal.F-post g c.args.make (Ok v) in
    let answer = c.in_ok-first.ensures.value key c.entry.ensures.key in
    let first = subst (λ m. UnwrapsOrElse (slice_get (values_of eq m.lists.pairs key) 0) made value) c.entry.ensures.unchanged answer in
    first_unwritten eq c.args.map.now.lists _ key value made present first (search rules)
