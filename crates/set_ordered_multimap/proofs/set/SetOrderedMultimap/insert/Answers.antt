use Rattle.std.proofs.Common.{rules}
use Rattle.std.proofs.Common.{false, ◌≡◌, sym, ◌∙◌, subst}
use Rattle.set_ordered_multimap.proofs.Insertions.{IsSet-appends}
use Rattle.set_ordered_multimap.specs.Set.{IsSet, has_pair}
use Rattle.set_ordered_multimap.proofs.set.SetOrderedMultimap.insert.Goals as goal

pub returns-clause-set : goal.returns-clause-set
returns-clause-set g c = λ set.
    let eq = g.K.PartialEq.eq in let value_eq = g.V.PartialEq.eq in
    IsSet-appends g.met.K.Eq.laws g.met.V.Eq.laws c.self.inside.map c.append.new.self c.args.key c.args.value c.append.result
    (let a = c.append.ensures in record { ok = a.ok; refused = a.refused; succeeds = a.succeeds })
    (subst (λ m. has_pair eq value_eq m.lists.pairs c.args.key c.args.value ≡ false) (sym c.self.view_is)
    (sym c.contains.ensures ∙ c.if-contains.false))
    (subst (λ m. IsSet eq value_eq m.lists) (sym c.self.view_is) set)

pub returns-clause-lists : goal.returns-clause-lists
returns-clause-lists g c = search rules

pub returns-then-contains-clause-lists : goal.returns-then-contains-clause-lists
returns-then-contains-clause-lists g c = search rules
