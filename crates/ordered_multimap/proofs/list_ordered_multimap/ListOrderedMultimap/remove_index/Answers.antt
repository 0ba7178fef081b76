use Rattle.std.proofs.Common.{sym, ap, ◌∙◌}
use Rattle.std.specs.Prelude.{Bool, slice_get}
use Rattle.ordered_multimap.specs.OneValue.{index_removed}
use Rattle.ordered_multimap.specs.Pairs.{values_where}
use Rattle.ordered_multimap.proofs.Agreement.AbsentKeys.{lacks_position}
use Rattle.ordered_multimap.proofs.Callers.OneValue.{index_removed-lacking}
use Rattle.ordered_multimap.proofs.list_ordered_multimap.ListOrderedMultimap.remove_index.Goals as goal

pub returns-in-Some-clause-value : goal.returns-in-Some-clause-value
returns-in-Some-clause-value g c =
    let stands = rw c.in-Some.is at c.look_up.ensures.stored in
    c.take_index_at.ensures.value stands.stored stands.own
    ∙ sym (ap (λ (t : g.row.K.Denot → Bool). slice_get (values_where t c.args.self.now.lists.pairs) c.args.index) stands.same)

pub returns-in-Some-clause-lists : goal.returns-in-Some-clause-lists
returns-in-Some-clause-lists g c =
    let stands = rw c.in-Some.is at c.look_up.ensures.stored in
    c.take_index_at.ensures.lists stands.stored stands.own
    ∙ sym (ap (λ (t : g.row.K.Denot → Bool). index_removed g.K.PartialEq.eq t c.args.self.now.lists c.args.index) stands.same)

pub returns-in-None-clause-value : goal.returns-in-None-clause-value
returns-in-None-clause-value g c = sym (ap (λ vs. slice_get vs c.args.index) (rw c.in-None.is at c.look_up.ensures.absent).no_value)

pub returns-in-None-clause-lists : goal.returns-in-None-clause-lists
returns-in-None-clause-lists g c =
    let lacks = rw c.in-None.is at c.look_up.ensures.absent in
    sym (index_removed-lacking g.met.K.Eq.laws c.args.self.now.lists lacks.well_formed (g.Q.KeyQuery.equivalent c.args.key)
    (lacks_position (g.Q.KeyQuery.equivalent c.args.key) lacks) c.args.index)
