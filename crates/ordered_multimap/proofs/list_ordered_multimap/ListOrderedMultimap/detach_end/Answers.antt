use Rattle.std.proofs.Common.{Some, sym, ap, ◌∙◌, subst}
use Rattle.ordered_multimap.specs.Changes.{removed}
use Rattle.ordered_multimap.specs.Private.KeySteps.{DetachesValues}
use Rattle.ordered_multimap.proofs.list_ordered_multimap.ListOrderedMultimap.detach_end.Goals as goal

pub detach_at-requires : goal.detach_at-requires
detach_at-requires g c = (rw c.in-Some.is at c.end_key.ensures.found).there.listed

pub returns-in-Some-clause-key : goal.returns-in-Some-clause-key
returns-in-Some-clause-key g c =
    let e = rw c.in-Some.is at c.end_key.ensures.found in
    ap Some (c.detach_at.ensures.key e.key e.there ∙ e.stored) ∙ sym e.at_end

pub returns-in-Some-clause-detached : goal.returns-in-Some-clause-detached
returns-in-Some-clause-detached g c =
    let e = rw c.in-Some.is at c.end_key.ensures.found in
    let old = c.args.self.now in
    subst (λ k. DetachesValues g.K.PartialEq.eq old c.detach_at.new.self k (removed g.K.PartialEq.eq old.lists k))
    (sym (c.detach_at.ensures.key e.key e.there ∙ e.stored)) (c.detach_at.ensures.detached e.key e.there)

pub returns-in-None-clause-key : goal.returns-in-None-clause-key
returns-in-None-clause-key g c = sym (rw c.in-None.is at c.end_key.ensures.none)
