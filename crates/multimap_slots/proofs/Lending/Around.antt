-- What stands around the items where slots and a tape are stored.
use base.Stored.{Gv}
use Rattle.std.specs.Prelude.{List, [], ◌∷◌, Bool, true, false}
use Rattle.std.specs.Coded.{Coded, coded×, coded_list, coded_ℕ}
use Rattle.multimap_slots.specs.Slots.{Slots}
use Rattle.multimap_slots.specs.Tapes.{Taped}

module _ {T L : Type 0} where
  -- what stands around the items of slots, and of a tape
  abbrev pub around_items : Coded L → Slots T L → List (Bool × Gv)
  around_items l s =
      (false, (coded× (coded_list l) coded_ℕ).code (s.links, s.capacity))
      ∷ (true, (coded_list coded_ℕ).code s.order)
      ∷ []

  abbrev pub around_tape : Coded L → Taped T L → List (Bool × Gv)
  around_tape l t =
      (false, (coded× coded_ℕ (coded× coded_ℕ coded_ℕ)).code (t.moved, (t.freed, t.holes)))
      ∷ around_items l t.list
