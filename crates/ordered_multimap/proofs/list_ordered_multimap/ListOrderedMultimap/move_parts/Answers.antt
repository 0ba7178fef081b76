use Rattle.std.proofs.Common.{sym, ◌∙◌}
use Rattle.ordered_multimap.proofs.Append.OtherMap.{moved_all, moving-start}
use Rattle.ordered_multimap.proofs.Append.OtherFront.{can_put, next_left}
use Rattle.ordered_multimap.proofs.Append.OtherStep.{moving-step}
use Rattle.ordered_multimap.proofs.Callers.Places.{no_rest}
use Rattle.ordered_multimap.proofs.Remove.OnePair.{are_chained}
use Rattle.ordered_multimap.proofs.list_ordered_multimap.ListOrderedMultimap.move_parts.Goals as goal

pub loop-place-init : goal.loop-place-init
loop-place-init g c = moving-start c.args.replaces c.requires.key_room c.requires.value_room

pub move_taken-key-requires : goal.move_taken-key-requires
move_taken-key-requires g c =
    can_put (are_chained c.requires.agrees.agrees) c.loop-place.invariant c.in-Some.place (sym c.front_place.ensures ∙ c.in-Some.is)
    c.take_listed-value.result.1 c.take_listed-value.ensures.link

pub set_key-requires : goal.set_key-requires
set_key-requires g c =
    next_left (are_chained c.requires.agrees.agrees) c.loop-place.invariant c.in-Some.place (sym c.front_place.ensures ∙ c.in-Some.is)
    c.take_listed-value.result.1 c.take_listed-value.ensures.link c.take_listed-value.ensures.removed

pub returns-clause-taken : goal.returns-clause-taken
returns-clause-taken g c = moved_all c.requires.agrees.agrees c.loop-place.invariant (no_rest _ (sym c.front_place.ensures ∙ c.in_default.is))

pub loop-place-preserved : goal.loop-place-preserved
loop-place-preserved g c =
    moving-step g.met.K.Eq.laws c.requires.agrees.agrees c.loop-place.invariant c.in-Some.place (sym c.front_place.ensures ∙ c.in-Some.is)
    c.take_listed-value.result.1 c.take_listed-value.ensures.link _ _ _ _ c.move_taken-key.ensures
    c.take_listed-value.ensures.removed c.take_listed-value.ensures.freed c.set_key.ensures
