use Rattle.std.proofs.Common.{◌≡◌, ◌==◌, true, false, not, is_none, refl, ap, ◌∙◌, subst, sym}
use Rattle.std.specs.Bool.{then_some}
use Rattle.std.specs.List.{list_any}
use Rattle.ordered_multimap.specs.Agrees.{HasKey}
use Rattle.ordered_multimap.specs.Renames.{is_taken}
use Rattle.ordered_multimap.proofs.Agreement.TakenKeys.{taken-absent, taken-found}
use Rattle.ordered_multimap.proofs.list_ordered_multimap.ListOrderedMultimap.hash_at.Goals as goal

pub returns-in-Some-clause-taken : goal.returns-in-Some-clause-taken
returns-in-Some-clause-taken g c =
    let eq = g.K.PartialEq.eq in let key = c.args.key.now in let other = c.in-Some.other in
    let found = subst (λ m. HasKey eq m.slots.keys key other) (sym c.self.view_is) (rw c.in-Some.is at c.look_up-hash.ensures.found) in
    subst (λ m. (k : g.row.K.Denot) → HasKey eq m.slots.keys k c.args.place
    → is_none c.then_some.result ≡ is_taken eq (eq k) key m.lists.keys) c.self.view_is
    (λ k has. ap is_none c.then_some.ensures
    ∙ elim (other == c.args.place) as (λ b. is_none (then_some b c.look_up-hash.result.0) ≡ not b) [ true ↦ refl | false ↦ refl ]
    ∙ sym (taken-found g.met.K.Eq.laws c.self.invariant.agrees k key c.args.place has other found))

pub returns-in-None-clause-taken : goal.returns-in-None-clause-taken
returns-in-None-clause-taken g c =
    let eq = g.K.PartialEq.eq in let key = c.args.key.now in
    let lacks = rw c.in-None.is at c.look_up-hash.ensures.absent in
    let none = ap (λ m. list_any (eq key) m.lists.keys) c.self.view_is ∙ lacks.unlisted in
    subst (λ m. (k : g.row.K.Denot) → HasKey eq m.slots.keys k c.args.place
    → false ≡ is_taken eq (eq k) key m.lists.keys) c.self.view_is
    (λ k has. sym (taken-absent g.met.K.Eq.laws c.self.invariant.agrees k key c.args.place has none))
