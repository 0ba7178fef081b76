use Rattle.std.proofs.Common.{sym, ap, ◌∙◌}
use Rattle.ordered_multimap.specs.Pairs.{same_pairs}
use Rattle.ordered_multimap.proofs.Walks.EqualPairs.{same_further, same_no_more}
use Rattle.ordered_multimap.proofs.list_ordered_multimap.equal.are_same.Goals as goal

pub loop-key-init : goal.loop-key-init
loop-key-init g c = ap (λ w. same_pairs g.K.PartialEq.eq g.V.PartialEq.eq w c.args.right)
    (sym c.into_iter-key-iterator.ensures.into_iter_gives)

pub loop-key-preserved : goal.loop-key-preserved
loop-key-preserved g c =
    c.loop-key.invariant ∙ same_further g.K.PartialEq.eq g.V.PartialEq.eq c.loop-key.key-iterator c.loop-key.right _ _ c.next.new.self
    c.next-in-loop-key.new.self
    c.in-Some.ensures.steps c.in-Some-next.ensures.steps (sym c.is_same.ensures ∙ c.if-not-is_same.false)

pub returns-then-not-is_same : goal.returns-then-not-is_same
returns-then-not-is_same g c =
    sym (c.loop-key.invariant ∙ same_no_more g.K.PartialEq.eq g.V.PartialEq.eq c.loop-key.key-iterator c.loop-key.right _ _ c.next.new.self
    c.next-in-loop-key.new.self
    c.in-Some.ensures.steps c.in-Some-next.ensures.steps (sym c.is_same.ensures ∙ c.if-not-is_same.true))
