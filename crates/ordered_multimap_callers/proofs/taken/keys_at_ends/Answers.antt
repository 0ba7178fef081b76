use Rattle.std.proofs.Common.{ap, ◌∙◌}
use Rattle.ordered_multimap.specs.End.TheVariants.{Front, Back}
use Rattle.ordered_multimap.specs.Walk.{end_item, end_rest}
use Rattle.ordered_multimap.proofs.Callers.TakenEnds.{taken_item, taken_rest}
use Rattle.ordered_multimap_callers.proofs.taken.keys_at_ends.Goals as goal

pub returns-clause-last : goal.returns-clause-last
returns-clause-last g c =
    taken_item Back _ _ _ c.next_back-last.ensures.steps
    ∙ ap (end_item Back) (taken_rest Front _ _ _ c.next-first.ensures.steps ∙ ap (end_rest Front) c.into_keys-keys.ensures)

pub returns-clause-first : goal.returns-clause-first
returns-clause-first g c =
    taken_item Front _ _ _ c.next-first.ensures.steps ∙ ap (end_item Front) c.into_keys-keys.ensures
