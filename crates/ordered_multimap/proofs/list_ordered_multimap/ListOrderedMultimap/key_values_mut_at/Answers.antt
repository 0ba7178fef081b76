use Rattle.std.proofs.Common.{◌≡◌, Some, refl, sym, ap, ◌∙◌, subst}
use Rattle.multimap_slots.specs.Slots.{item_at}
use Rattle.multimap_slots.specs.Ownership.{final}
use Rattle.ordered_multimap.specs.Agrees.{HasKey}
use Rattle.ordered_multimap.specs.Pairs.{positions_of, values_of}
use Rattle.ordered_multimap.proofs.Callers.LentValues.{ends_walk}
use Rattle.ordered_multimap.proofs.Agreement.LookUps.{values_of-chain, positions_of-chain}
use Rattle.ordered_multimap.proofs.list_ordered_multimap.ListOrderedMultimap.key_values_mut_at.Goals as goal

pub returns : goal.returns
returns g c =
    let lent = c.lend-cells.ensures.lent in let place = c.args.place in let eq = g.K.PartialEq.eq in
    let at : (k : g.row.K.Denot) → HasKey eq c.args.self.now.slots.keys k place → HasKey eq c.lend-cells.result.1.now k place
    = λ k has. subst (λ keys. HasKey eq keys k place) (sym lent.keys_are) has in (
      (sym c.new.ensures.name, λ w. refl),
      record {
        writes_back = tt;
        key = subst (λ keys. item_at keys place ≡ Some c.slot_at.result.0.now) lent.keys_are c.slot_at.ensures.item_is;
        values = λ k has. c.new.ensures.values ∙ sym (values_of-chain g.met.K.Eq.laws lent.agrees k place (at k has))
            ∙ ap (λ h. values_of eq h.pairs k) lent.shown;
        positions = λ k has. c.new.ensures.positions ∙ sym (positions_of-chain g.met.K.Eq.laws lent.agrees k place (at k has))
            ∙ ap (λ h. positions_of eq h.pairs k) lent.shown;
        ends = ends_walk c.args.self.now (final g.row.V) c.new.ensures.lent c.lend-cells.ensures.ends;
      },
    )
