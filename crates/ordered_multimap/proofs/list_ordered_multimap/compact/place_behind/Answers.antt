use Rattle.std.proofs.Common.{◌∙◌, sym, ap, subst, IsSome, unwrap_or, rules}
use Rattle.ordered_multimap.proofs.Compact.Dense.{dense-listed, dense-next, rest-some, follows-dense}
use Rattle.ordered_multimap.proofs.list_ordered_multimap.compact.place_behind.Goals as goal

pub following_listed_place-requires-clause-listed : goal.following_listed_place-requires-clause-listed
following_listed_place-requires-clause-listed g c =
    dense-listed c.args.values.now.list.order c.args.dense c.requires.dense c.if-dense-eq0.false

pub following_listed_place-requires-clause-more : goal.following_listed_place-requires-clause-more
following_listed_place-requires-clause-more g c =
    let order = c.args.values.now.list.order in
    subst IsSome (sym (dense-next order c.args.dense c.requires.dense c.if-dense-eq0.false))
    (rest-some order c.args.dense c.requires.dense c.requires.more)

pub returns-else-dense-eq0 : goal.returns-else-dense-eq0
returns-else-dense-eq0 g c =
    let order = c.args.values.now.list.order in
    follows-dense order c.args.dense c.requires.dense c.requires.more c.requires.rises c.following_listed_place.result
    (sym (ap (λ o. unwrap_or o 0)
    (sym (dense-next order c.args.dense c.requires.dense c.if-dense-eq0.false) ∙ c.following_listed_place.ensures)))

pub returns-then-dense-eq0 : goal.returns-then-dense-eq0
returns-then-dense-eq0 g c = search rules
