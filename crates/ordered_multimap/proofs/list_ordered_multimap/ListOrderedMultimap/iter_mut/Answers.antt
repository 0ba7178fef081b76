use Rattle.std.proofs.Common.{refl, sym, ap, ◌∙◌}
use Rattle.multimap_slots.specs.Ownership.{final}
use Rattle.ordered_multimap.specs.Pairs.{all_positions}
use Rattle.ordered_multimap.proofs.Callers.LentValues.{ends_walk}
use Rattle.ordered_multimap.proofs.Agreement.LookUps.{positions_at-all}
use Rattle.ordered_multimap.proofs.list_ordered_multimap.ListOrderedMultimap.iter_mut.Goals as goal

pub returns : goal.returns
returns g c = (
  (sym c.new.ensures.name, λ w. refl),
  record {
    writes_back = tt;
    pairs = c.new.ensures.pairs ∙ ap (λ h. h.pairs) c.lend-cells.ensures.lent.shown;
    positions = c.new.ensures.positions ∙ positions_at-all g.met.K.Eq.laws c.lend-cells.ensures.lent.agrees
        ∙ ap (λ h. all_positions h.pairs) c.lend-cells.ensures.lent.shown;
    ends = ends_walk c.args.self.now (final g.row.V) c.new.ensures.lent c.lend-cells.ensures.ends;
  },
)
