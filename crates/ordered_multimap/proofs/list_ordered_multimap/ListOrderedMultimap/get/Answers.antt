use Rattle.std.proofs.Common.{sym, ap, ◌∙◌}
use Rattle.std.specs.Prelude.{Bool, slice_get}
use Rattle.ordered_multimap.specs.Pairs.{values_where}
use Rattle.ordered_multimap.proofs.list_ordered_multimap.ListOrderedMultimap.get.Goals as goal

pub returns-in-Some : goal.returns-in-Some
returns-in-Some g c =
    let stands = rw c.in-Some.is at c.look_up.ensures.stored in
    sym (ap (λ (t : g.row.K.Denot → Bool). slice_get (values_where t c.args.self.now.lists.pairs) 0) stands.same
    ∙ c.first_at.ensures stands.stored stands.own)

pub returns-in-None : goal.returns-in-None
returns-in-None g c = sym (ap (λ vs. slice_get vs 0) (rw c.in-None.is at c.look_up.ensures.absent).no_value)
