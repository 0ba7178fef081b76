use Rattle.std.proofs.Common.{sym, ap, ◌∙◌}
use Rattle.std.specs.Prelude.{Bool, length}
use Rattle.ordered_multimap.specs.Pairs.{values_where}
use Rattle.ordered_multimap.proofs.list_ordered_multimap.ListOrderedMultimap.entry_len.Goals as goal

pub returns-in-Some : goal.returns-in-Some
returns-in-Some g c =
    let stands = rw c.in-Some.is at c.look_up.ensures.stored in
    c.len_at.ensures.len stands.stored stands.own
    ∙ sym (ap (λ (t : g.row.K.Denot → Bool). length (values_where t c.args.self.now.lists.pairs)) stands.same)

pub returns-in-None : goal.returns-in-None
returns-in-None g c = sym (ap length (rw c.in-None.is at c.look_up.ensures.absent).no_value)
