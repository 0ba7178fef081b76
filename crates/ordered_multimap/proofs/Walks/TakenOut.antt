-- The items that are left of a list, of which a step at either end takes one out.
use Rattle.std.proofs.Common.{◌≡◌, ℕ, Some, sym, ap, ◌∙◌, subst}
use Rattle.std.specs.List.{filter_map}
use Rattle.multimap_slots.specs.Lists.{IsIn, AreDistinct, without}
use Rattle.multimap_slots.specs.Slots.{Removes, Slots, item_at}
use Rattle.multimap_slots.proofs.Callers.PlaceLists.{IsIn-without}
use Rattle.multimap_walks.proofs.Callers.Ends.{shows_end}
use Rattle.multimap_walks.specs.declared.End.{End}
use Rattle.multimap_walks.specs.Walk.{with_end}
use Rattle.ordered_multimap.specs.Agrees.{items_of}
use Rattle.ordered_multimap.specs.Private.RemoveOne.{end_of_list}
use Rattle.ordered_multimap.proofs.Callers.Places.{filter_map-agree}
use Rattle.ordered_multimap.proofs.Remove.AtEnds.{order_at_end}

module _ {T L : Type 0} (old new : Slots T L) (place : ℕ) (item : T) (removed : Removes old new place item) where
  items_left : items_of new ≡ filter_map (item_at old) (without old.order place)
  items_left =
      filter_map-agree (item_at new) (item_at old) new.order
      (λ q member. removed.others.items q (IsIn-without q old.order place (subst (IsIn q) removed.order member)).1)
      ∙ ap (filter_map (item_at old)) removed.order

  -- the item at the end, and then those that are left
  pub taken_out : (end : End) → AreDistinct old.order → end_of_list end old.order ≡ Some place
      → items_of old ≡ with_end end item (items_of new)
  taken_out end distinct at =
      shows_end (item_at old) end old.order place (without old.order place) item (order_at_end end old.order place distinct at) removed.had
      ∙ ap (with_end end item) (sym items_left)
