use Rattle.std.proofs.Common.{sym, ap, ◌∙◌}
use Rattle.std.specs.List.{list_any}
use Rattle.ordered_multimap.proofs.Callers.Members.{any_first, any_later}
use Rattle.ordered_multimap.proofs.list_ordered_multimap.lookup.values.has_value.Goals as goal

pub loop-stored-init : goal.loop-stored-init
loop-stored-init g c =
    ap (λ w. list_any (g.V.PartialEq.eq c.args.value.now) w.left) (sym c.into_iter-stored-iterator.ensures.into_iter_gives)

pub returns-then-eq : goal.returns-then-eq
returns-then-eq g c =
    sym (c.loop-stored.invariant ∙ any_first (g.V.PartialEq.eq c.args.value.now) _ _ _ c.in-Some.ensures.steps.0
    (sym c.eq.ensures ∙ c.if-eq.true))

pub loop-stored-preserved : goal.loop-stored-preserved
loop-stored-preserved g c =
    c.loop-stored.invariant
    ∙ any_later (g.V.PartialEq.eq c.args.value.now) _ _ _ c.in-Some.ensures.steps.0 (sym c.eq.ensures ∙ c.if-eq.false)

pub returns : goal.returns
returns g c = sym (c.loop-stored.invariant ∙ ap (list_any (g.V.PartialEq.eq c.args.value.now)) c.in-None.ensures.steps.0.0)
