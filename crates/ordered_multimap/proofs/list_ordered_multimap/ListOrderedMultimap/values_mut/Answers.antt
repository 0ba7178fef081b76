use Rattle.std.proofs.Common.{refl, sym, ap, ◌∙◌}
use Rattle.multimap_slots.specs.Ownership.{final}
use Rattle.ordered_multimap.specs.Pairs.{all_positions, all_values}
use Rattle.ordered_multimap.proofs.Callers.LentValues.{ends_walk}
use Rattle.ordered_multimap.proofs.Agreement.LookUps.{positions_at-all}
use Rattle.ordered_multimap.proofs.Walks.WalkedLists.{all_values-listed}
use Rattle.ordered_multimap.proofs.list_ordered_multimap.ListOrderedMultimap.values_mut.Goals as goal

pub returns : goal.returns
returns g c =
    let lent = c.lend-cells.ensures.lent in (
      (sym c.new.ensures.name, λ w. refl),
      record {
        writes_back = tt;
        values = c.new.ensures.values ∙ sym (all_values-listed lent.agrees) ∙ ap (λ h. all_values h.pairs) lent.shown;
        positions = c.new.ensures.positions ∙ positions_at-all g.met.K.Eq.laws lent.agrees ∙ ap (λ h. all_positions h.pairs) lent.shown;
        ends = ends_walk c.args.self.now (final g.row.V) c.new.ensures.lent c.lend-cells.ensures.ends;
      },
    )
