use Rattle.std.proofs.Common.{subst, arith}
use Rattle.multimap_slots.specs.Lists.{IsIn}
use Rattle.ordered_multimap.proofs.Agreement.Relocated.{chains-relocated}
use Rattle.ordered_multimap.proofs.list_ordered_multimap.pack.pack.Goals as goal

pub move_keys-requires-clause-within : goal.move_keys-requires-clause-within
move_keys-requires-clause-within g c =
    λ q i. c.requires.new_places q (subst (IsIn q) c.compact.ensures.relocated.relocates.key_order i)

pub move_values-requires-clause-within : goal.move_values-requires-clause-within
move_values-requires-clause-within g c =
    let r = c.compact.ensures.relocated in
    let chained = (chains-relocated c.requires.chains r).chained in
    λ q l i is. omega (
      arith,
      c.move_keys.ensures.new_places,
      c.requires.new_places l.key
          (subst (IsIn l.key) r.relocates.key_order (chained.owned q l i is)),
    )
