use Rattle.std.proofs.Common.{slice_get, sym, ap, ◌∙◌, refl, subst}
use mathlib.Core.Option.{some}
use Rattle.std.specs.Prelude.{Bool}
use Rattle.ordered_multimap.specs.Changes.{first_written_where}
use Rattle.ordered_multimap.specs.Pairs.{values_where}
use Rattle.ordered_multimap.specs.Writes.{IsWritten, with_first}
use Rattle.ordered_multimap.proofs.list_ordered_multimap.ListOrderedMultimap.get_mut.Goals as goal

pub returns-in-Some : goal.returns-in-Some
returns-in-Some g c =
    let m = c.args.self.now in
    let stands = rw c.in-Some.is at c.look_up.ensures.stored in
    let written = λ (w : g.row.V.Denot).
    subst (λ (t : g.row.K.Denot → Bool). IsWritten m (with_first m c.in-Some.place w) (first_written_where t m.lists w))
    (sym stands.same) (c.first_mut_at.ensures.written stands.stored stands.own w) in (
      (refl {a = some c.first_mut_at.result.ghost_name}, written, refl {a = m}),
      record {
        writes_back = tt;
        value = sym (ap (λ (t : g.row.K.Denot → Bool). slice_get (values_where t m.lists.pairs) 0) stands.same
            ∙ c.first_mut_at.ensures.value stands.stored stands.own);
      },
    )

pub returns-in-None : goal.returns-in-None
returns-in-None g c = (
  (refl, (λ w. tt), refl),
  record { writes_back = tt; value = sym (ap (λ vs. slice_get vs 0) (rw c.in-None.is at c.look_up.ensures.absent).no_value) },
)
