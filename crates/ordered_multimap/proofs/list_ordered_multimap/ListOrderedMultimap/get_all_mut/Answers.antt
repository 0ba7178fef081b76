use Rattle.std.proofs.Common.{refl, sym, ap, ◌∙◌}
use Rattle.std.specs.Prelude.{Bool}
use Rattle.multimap_slots.specs.Ownership.{final}
use Rattle.ordered_multimap.specs.Pairs.{positions_where, values_where}
use Rattle.ordered_multimap.proofs.Agreement.AbsentKeys.{lacks_position}
use Rattle.ordered_multimap.proofs.Callers.LentValues.{ends_walk}
use Rattle.ordered_multimap.proofs.list_ordered_multimap.ListOrderedMultimap.get_all_mut.Goals as goal

pub returns-in-Some : goal.returns-in-Some
returns-in-Some g c =
    let pairs = c.args.self.now.lists.pairs in
    let stands = rw c.in-Some.is at c.look_up.ensures.stored in (
      (refl, λ w. refl),
      record {
        writes_back = tt;
        values = c.values_mut_at.ensures.values stands.stored stands.own
            ∙ sym (ap (λ (t : g.row.K.Denot → Bool). values_where t pairs) stands.same);
        positions = c.values_mut_at.ensures.positions stands.stored stands.own
            ∙ sym (ap (λ (t : g.row.K.Denot → Bool). positions_where t pairs) stands.same);
        ends = c.values_mut_at.ensures.ends;
      },
    )

pub returns-in-None : goal.returns-in-None
returns-in-None g c =
    let lacks = rw c.in-None.is at c.look_up.ensures.absent in (
      (sym c.new.ensures.name, λ w. refl),
      record {
        writes_back = tt;
        values = c.new.ensures.values ∙ sym lacks.no_value;
        positions = c.new.ensures.positions ∙ sym (lacks_position (g.Q.KeyQuery.equivalent c.args.key) lacks);
        ends = ends_walk c.args.self.now (final g.row.V) c.new.ensures.lent c.lend-cells.ensures.ends;
      },
    )
