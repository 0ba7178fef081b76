use Rattle.std.proofs.Common.{IfNone, subst, rules}
use Rattle.ordered_multimap.specs.Agrees.{LacksKey}
use Rattle.ordered_multimap.proofs.Append.PutPairs.{puts_new}
use Rattle.ordered_multimap.proofs.list_ordered_multimap.ListOrderedMultimap.put_reserved.Goals as goal

pub returns-in_default-clause-put : goal.returns-in_default-clause-put
returns-in_default-clause-put g c =
    puts_new g.met.K.Eq.laws c.args.replaces
    (subst (λ o. IfNone o (LacksKey g.K.PartialEq.eq c.args.self.now.lists c.args.key)) c.in_default.is c.look_up-hash.ensures.absent)
    c.requires c.in-Ok.ensures.places c.in-Ok.ensures.appends.ok

pub returns-clause-found : goal.returns-clause-found
returns-clause-found g c = search rules
