use Rattle.std.proofs.Common.{sym, ap, ◌∙◌}
use Rattle.std.specs.Prelude.{Bool}
use Rattle.ordered_multimap.specs.Pairs.{positions_where, values_where}
use Rattle.ordered_multimap.proofs.Agreement.AbsentKeys.{lacks_position}
use Rattle.ordered_multimap.proofs.list_ordered_multimap.ListOrderedMultimap.get_all.Goals as goal

pub returns-in-Some-clause-values : goal.returns-in-Some-clause-values
returns-in-Some-clause-values g c =
    let stands = rw c.in-Some.is at c.look_up.ensures.stored in
    c.values_at.ensures.values stands.stored stands.own
    ∙ sym (ap (λ (t : g.row.K.Denot → Bool). values_where t c.args.self.now.lists.pairs) stands.same)

pub returns-in-Some-clause-positions : goal.returns-in-Some-clause-positions
returns-in-Some-clause-positions g c =
    let stands = rw c.in-Some.is at c.look_up.ensures.stored in
    c.values_at.ensures.positions stands.stored stands.own
    ∙ sym (ap (λ (t : g.row.K.Denot → Bool). positions_where t c.args.self.now.lists.pairs) stands.same)

pub returns-in-None-clause-positions : goal.returns-in-None-clause-positions
returns-in-None-clause-positions g c = c.new.ensures.positions
    ∙ sym (lacks_position (g.Q.KeyQuery.equivalent c.args.key) (rw c.in-None.is at c.look_up.ensures.absent))
