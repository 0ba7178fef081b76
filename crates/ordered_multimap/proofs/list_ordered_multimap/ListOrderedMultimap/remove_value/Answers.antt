use Rattle.std.proofs.Common.{sym, ap, ◌∙◌}
use Rattle.std.specs.Prelude.{Bool, find, slice_get}
use Rattle.ordered_multimap.specs.Changes.{kept}
use Rattle.ordered_multimap.specs.OneValue.{first_removed, index_of, index_removed}
use Rattle.ordered_multimap.specs.Pairs.{values_of, values_where}
use Rattle.ordered_multimap.proofs.Agreement.AbsentKeys.{lacks_position}
use Rattle.ordered_multimap.proofs.Callers.OneValue.{find-index, index_removed-lacking, without_first-index}
use Rattle.ordered_multimap.proofs.list_ordered_multimap.ListOrderedMultimap.remove_value.Goals as goal

pub returns-in-Some-clause-value : goal.returns-in-Some-clause-value
returns-in-Some-clause-value g c =
    let stands = rw c.in-Some.is at c.look_up.ensures.stored in let is = g.V.PartialEq.eq c.args.value.now in
    let pairs = c.args.self.now.lists.pairs in let values = values_of g.K.PartialEq.eq pairs stands.stored in
    c.take_index_at.ensures.value stands.stored stands.own
    ∙ ap (slice_get values) (c.index_of-index.ensures ∙ ap (index_of is) (c.values_at.ensures.values stands.stored stands.own))
    ∙ find-index is values ∙ sym (ap (λ (t : g.row.K.Denot → Bool). find is (values_where t pairs)) stands.same)

pub returns-in-Some-clause-lists : goal.returns-in-Some-clause-lists
returns-in-Some-clause-lists g c =
    let stands = rw c.in-Some.is at c.look_up.ensures.stored in let is = g.V.PartialEq.eq c.args.value.now in
    let eq = g.K.PartialEq.eq in let m = c.args.self.now.lists in
    c.take_index_at.ensures.lists stands.stored stands.own
    ∙ ap (index_removed eq (eq stands.stored) m)
    (c.index_of-index.ensures ∙ ap (index_of is) (c.values_at.ensures.values stands.stored stands.own))
    ∙ ap (kept eq m) (without_first-index (eq stands.stored) is m.pairs)
    ∙ sym (ap (λ (t : g.row.K.Denot → Bool). first_removed eq t is m) stands.same)

pub returns-in-None-clause-lists : goal.returns-in-None-clause-lists
returns-in-None-clause-lists g c =
    let lacks = rw c.in-None.is at c.look_up.ensures.absent in let accepts = g.Q.KeyQuery.equivalent c.args.key in
    let is = g.V.PartialEq.eq c.args.value.now in let m = c.args.self.now.lists in
    sym (index_removed-lacking g.met.K.Eq.laws m lacks.well_formed accepts (lacks_position accepts lacks) (index_of is (values_where accepts m.pairs)))
    ∙ ap (kept g.K.PartialEq.eq m) (without_first-index accepts is m.pairs)
