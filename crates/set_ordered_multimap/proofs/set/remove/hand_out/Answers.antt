use Rattle.std.proofs.Common.{refl, sym, subst}
use Rattle.std.specs.List.{FoldsTo}
use Rattle.set_ordered_multimap.proofs.set.remove.hand_out.Goals as goal

pub returns-clause-called : goal.returns-clause-called
returns-clause-called g c =
    let step : g.row.F.Denot → g.row.V.Denot → g.row.F.Denot → Type 0 = λ p v q. goal.F-step g p v tt q in
    let last = c.loop-value.f in
    let rest = subst (λ vs. FoldsTo step last vs last) (sym c.in_default.ensures.steps.1.0) refl in
    (last, subst (λ vs. FoldsTo step c.args.f vs last) c.remove_all-drain.ensures.drain.left (c.loop-value.invariant.2 last rest))
