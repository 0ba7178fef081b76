use Rattle.std.proofs.Common.{◌≡◌, Bool, true, false, refl, sym, ap, ◌∙◌}
use Rattle.ordered_multimap.specs.Agrees.{SaysWhetherAccepted}
use Rattle.ordered_multimap.proofs.list_ordered_multimap.lookup.is_at.Goals as goal

pub returns : goal.returns
returns g c =
    let accepts = g.Q.KeyQuery.equivalent c.args.query in
    let stored = c.slot_at.result.0.now in
    let P : Bool → Type 0 = λ b. accepts stored ≡ b → SaysWhetherAccepted accepts c.args.keys.now c.args.place b in
    rw c.equivalent.ensures (elim (accepts stored) as P [
      | true ↦ λ e. record { listed = c.requires; stored = stored; item_is = c.slot_at.ensures.item_is; equal = e }
      | false ↦ λ e. λ j item. let same : stored ≡ j = cc in sym (ap accepts same) ∙ e
    ] refl)
