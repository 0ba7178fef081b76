-- A key that moves to either end of the keys. No public clause cites this module.
use Rattle.std.specs.Prelude.{ℕ, Bool, List}
use Rattle.multimap_slots.specs.Lists.{moved_first, moved_last}
use Rattle.multimap_walks.specs.Ends.{step_from}
use Rattle.multimap_walks.specs.declared.End.{End}
use Rattle.ordered_multimap.specs.KeyMoves.{moved_to_back_where, moved_to_front_where}
use Rattle.ordered_multimap.specs.Lists.{Lists}

-- the place goes to an end of the order
abbrev pub moved_place : End → List ℕ → ℕ → List ℕ
moved_place end order place = step_from end (moved_first order place) (moved_last order place)

-- an accepted key goes to an end of the keys, and the pairs stay
abbrev pub moved_to_end : {K V : Type 0} → End → (K → Bool) → Lists K V → Lists K V
moved_to_end end accepts m =
    step_from end (moved_to_front_where accepts m) (moved_to_back_where accepts m)
