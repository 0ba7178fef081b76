use Rattle.std.proofs.Common.{ap, sym, ◌∙◌, subst}
use Rattle.ordered_multimap.specs.Changes.{all_appended}
use Rattle.set_ordered_multimap.proofs.Callers.Sets.{IsSet-all_inserted}
use Rattle.set_ordered_multimap.proofs.Lacked.{inserts-lacked}
use Rattle.set_ordered_multimap.specs.AppendSet.{lacked}
use Rattle.set_ordered_multimap.specs.Set.{IsSet}
use Rattle.set_ordered_multimap.proofs.set.SetOrderedMultimap.append_set.Goals as goal

pub returns-clause-inserted : goal.returns-clause-inserted
returns-clause-inserted g c = λ set.
    let eq = g.K.PartialEq.eq in let value_eq = g.V.PartialEq.eq in
    let same = c.reserve_values.ensures.grows.lists ∙ c.reserve_keys.ensures.grows.lists ∙ ap (λ m. m.lists) c.self.view_is in
    let pairs = ap (λ m. m.lists.pairs) c.other.view_is in
    c.append_lacked.ensures.appends.appended.lists
    ∙ (λ i. all_appended eq (same i) (lacked eq value_eq (same i) (pairs i)))
    ∙ inserts-lacked eq value_eq g.met.K.Eq.laws g.met.V.Eq.laws c.args.self.now.lists c.args.other.now.lists.pairs set

pub returns-clause-set : goal.returns-clause-set
returns-clause-set g c = λ set others.
    subst (IsSet g.K.PartialEq.eq g.V.PartialEq.eq) (sym (returns-clause-inserted g c others))
    (IsSet-all_inserted g.met.K.Eq.laws g.met.V.Eq.laws c.args.self.now.lists c.args.other.now.lists.pairs set)
