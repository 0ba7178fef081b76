use Rattle.ordered_multimap.proofs.PairSorts.Begun.{last_elsewhere, last_other, last_own}
use Rattle.ordered_multimap.proofs.list_ordered_multimap.sort.resorted.last_value_of.Goals as goal

pub returns-then-link-key : goal.returns-then-link-key
returns-then-link-key g c =
    let found = c.in-Some.ensures.found in
    last_own c.args.values.now.list c.args.key c.args.tail c.requires c.in-Some.link found.listed found.link_is c.if-link-key.true

pub returns-in-Some : goal.returns-in-Some
returns-in-Some g c =
    last_elsewhere c.args.values.now.list c.args.key c.args.tail c.requires c.in-Some.link c.in-Some.ensures.found.link_is c.if-link-key.false

pub returns : goal.returns
returns g c = last_other c.args.values.now.list c.args.key c.args.tail c.requires (λ listed own. c.in-None.ensures.absent listed)
