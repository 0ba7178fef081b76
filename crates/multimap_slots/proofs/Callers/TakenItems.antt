-- What callers conclude where an item was taken out of those that are lent for writing.
use Rattle.std.proofs.Common.{◌≢◌, ℕ, false, get_or, sym, ap, subst, ◌∙◌}
use base.Stored.{Gv}
use Rattle.std.specs.Borrow.{GName, MutBor}
use Rattle.std.proofs.lemmas.List.{get_or-set_other}
use Rattle.multimap_slots.specs.Lists.{IsIn}
use Rattle.multimap_slots.specs.Slots.{Slots, IsDetached, item_at}
use Rattle.multimap_slots.specs.CellsLends.{with_refilled}
use Rattle.multimap_slots.specs.SlotCells.{IsLeft, LendsSlots, TakesItem}
use Rattle.multimap_slots.specs.declared.cells_of.SlotCells.{SlotCells}
use Rattle.multimap_slots.proofs.Lending.Refilled.{some-refilled}
use Rattle.std.specs.Prelude.{Bool, List, Option, IsSome}

module _ {T L A F : Type 0} {old new : SlotCells T L A F} {place : ℕ} {r : MutBor T} (t : TakesItem old place r new) where
  -- another item is left still
  pub IsLeft-other : (q : ℕ) → q ≢ place → IsLeft old q → IsLeft new q
  IsLeft-other q differs was = record {
    listed = subst (λ s. IsIn q s.order) (sym t.slots) was.listed;
    filled = subst (λ s. IsSome (item_at s q)) (sym t.slots) was.filled;
    untaken = ap (λ left. get_or left q false) t.left ∙ get_or-set_other old.cells.left place q false false differs ∙ was.untaken;
  }

-- the same items are lent where another loan is followed
pub LendsSlots-renamed : {T L A F : Type 0} {s : Slots T L} {c : SlotCells T L A F} (whole : GName) (around : Option (List (Bool × Gv)))
    → LendsSlots s c
    → LendsSlots s (record c { cells = record c.cells { lender_loan = whole; lender_context = around } })
LendsSlots-renamed whole around lent = record {
  slots = lent.slots;
  untaken = lent.untaken;
  named = lent.named;
  left = λ p i. record { listed = (lent.left p i).listed; filled = (lent.left p i).filled; untaken = (lent.left p i).untaken };
}

-- what is detached stays so, whatever was written
pub IsDetached-refilled : {T L : Type 0} (s : Slots T L) (items : List (Option T)) (p : ℕ) → IsDetached s p
    → IsDetached (with_refilled s items) p
IsDetached-refilled s items p d = record { not_listed = d.not_listed; has_item = some-refilled s.items items p d.has_item }
