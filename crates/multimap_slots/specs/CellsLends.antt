-- What slots, a list and a tape are with other items, exactly where items stand.
use Rattle.std.specs.Prelude.{List, Option}
use Rattle.std.specs.Borrow.{Fml, RattleType, MutBor, Array, follows}
use Rattle.std.specs.Vec.{with_items}
use Rattle.std.specs.declared.vec.Vec.{Vec}
use Rattle.std.specs.declared.alloc.Allocator.{Ghosts}
use Rattle.std.specs.contracts.vec.Vec as vec
use Rattle.std.specs.contracts.option.Option.{the_row as Opt}
use Rattle.multimap_slots.specs.Taken.{refilled}
use Rattle.multimap_slots.specs.Slots.{Slots}
use Rattle.multimap_slots.specs.Tapes.{Taped, with_list}

-- other items, exactly where items stand
abbrev pub with_refilled : {T L : Type 0} → Slots T L → List (Option T) → Slots T L
with_refilled s items = record s { items = refilled s.items items }

-- a tape with other items, exactly where items stand
abbrev pub with_tape_refilled : {T L : Type 0} → Taped T L → List (Option T) → Taped T L
with_tape_refilled t items = with_list t (with_refilled t.list items)

module _ (T A : RattleType) (alloc : Ghosts A.Denot) where
  abbrev pub slots_row : RattleType
  slots_row = vec.the_row (Opt T) A alloc

  -- once the borrow r ends, the vector has the last items written through r
  abbrev pub lends_slots
      : MutBor (Vec (Option T.Denot) A.Denot) → MutBor (List (Option T.Denot)) → Fml
  lends_slots v r = follows slots_row (Array (Opt T) 0) v.ghost_name r.ghost_name (with_items v.now)
