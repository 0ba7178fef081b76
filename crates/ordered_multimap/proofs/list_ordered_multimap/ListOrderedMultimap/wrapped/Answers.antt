use Rattle.std.proofs.Common.{◌≡◌, Option, Some, None, ap, subst}
use Rattle.ordered_multimap.specs.Popped.{Popped}
use Rattle.ordered_multimap.specs.PopAnswers.{IsTaken, IsTakenKey, popped_of}
use Rattle.ordered_multimap.proofs.list_ordered_multimap.ListOrderedMultimap.wrapped.Goals as goal

pub wrapped_one-requires : goal.wrapped_one-requires
wrapped_one-requires g c =
    let keys = c.args.self.now.slots.keys in
    let t = c.in-Some.taken in
    let P : Option (Popped g.row.K.Denot g.row.V.Denot) → Type 0 = λ p. IsTaken keys p (Some t)
    → (x : Popped g.row.K.Denot g.row.V.Denot) × (t.value ≡ x.value) × IsTakenKey keys x t.key in
    (elim c.requires.0 as P [ Some x ↦ λ taken. (x, taken.0, taken.1) | None ↦ λ taken. absurd taken ])
    (subst (IsTaken keys c.requires.0) c.in-Some.is c.requires.1)

pub returns-in-Some : goal.returns-in-Some
returns-in-Some g c =
    λ p taken.
    let keys = c.args.self.now.slots.keys in
    let t = c.in-Some.taken in
    let P : Option (Popped g.row.K.Denot g.row.V.Denot) → Type 0 = λ p. IsTaken keys p (Some t)
    → Some (popped_of c.wrapped_one.result) ≡ p in
    (elim p as P [ Some x ↦ λ taken. ap Some (c.wrapped_one.ensures x taken.0 taken.1) | None ↦ λ taken. absurd taken ])
    (subst (IsTaken keys p) c.in-Some.is taken)
