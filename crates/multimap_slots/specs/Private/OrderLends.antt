-- What an order ends as, where a `&mut` to one of its links is returned.
-- No public clause cites this module.
use Rattle.std.specs.Prelude.{ℕ, slice_set}
use Rattle.std.specs.Borrow.{Lends, Fml, RattleType, MutBor}
use Rattle.std.specs.declared.alloc.Allocator.{Ghosts}
use Rattle.multimap_slots.specs.Private.ListLayout.{Places}
use Rattle.multimap_slots.specs.contracts.order.Order.{the_row}

-- another link at the place
abbrev pub with_place_link : {L : Type 0} → Places L → ℕ → L → Places L
with_place_link o place link = record o { links = slice_set o.links place link }

module _ (L A : RattleType) (alloc : Ghosts A.Denot) (o : MutBor (Places L.Denot)) (place : ℕ) where
  -- once the borrow r ends, the place has the last link written through r
  abbrev pub lends_place_link : MutBor L.Denot → Fml
  lends_place_link r = Lends (the_row L A alloc) L o r (with_place_link o.now place)
