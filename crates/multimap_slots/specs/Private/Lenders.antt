-- The order of what lends its items. No public clause cites this module.
use Rattle.multimap_slots.specs.Private.LentOrder.{LentPlaces}
use Rattle.multimap_slots.specs.declared.lent_order.Lender.{Lender}
use Rattle.multimap_slots.specs.declared.lent_order.Lender.TheVariants.{List, Tape}

-- the order and the links of the slot list or of the tape
abbrev pub places_lent : {L A F : Type 0} → Lender L A F → LentPlaces L
places_lent (List o) = record { order = o.now.order; links = o.now.links }
places_lent (Tape t) = t
