-- Values leave the list one after another, in any of the ways.
use Rattle.std.proofs.Common.{◌≡◌, ℕ, ◌+◌, suc, Bool, true, List, length, Option, Some, None, refl, ap, ◌∙◌, arith}
use Rattle.multimap_slots.specs.Lists.{last_of}
use Rattle.multimap_slots.specs.Slots.{Slots}
use Rattle.multimap_slots.specs.Tapes.{Taped}
use Rattle.multimap_walks.specs.declared.links.ValueLink.{ValueLink}
use Rattle.ordered_multimap.specs.Private.Remove.{AreUnlinked, IsRow, IsTaking, KeepsContents, UnlinksValue}
use Rattle.ordered_multimap.specs.TapeNumbers.{TakesOut, numbers_of}
use Rattle.ordered_multimap.proofs.Chains.LongerLists.{last_or-push}
use Rattle.ordered_multimap.proofs.Remove.ValueByValue.{gone-step, taking-first, taking-step}

pub same_contents : {V : Type 0} (values : Slots V ValueLink) → KeepsContents values values
same_contents values = record { items = refl; links = refl }

module _ {V : Type 0} {keeps : Bool} {values : Taped V ValueLink} {first count : ℕ} {row : List ℕ}
    (in_row : IsRow values.list first count row) where
  -- the place behind those of the row that have left leaves too
  leaving-next : (n p : ℕ) (mid : Taped V ValueLink)
      (taking : IsTaking row n (Some p) values.list mid.list) → (keeps ≡ true → KeepsContents values.list mid.list)
      → mid.moved ≡ values.moved → mid.freed ≡ values.freed + n → mid.holes ≡ values.holes + n
      → length mid.list.order + n ≡ length values.list.order
      → (new : Taped V ValueLink) (l : ValueLink) → UnlinksValue keeps mid new p l → AreUnlinked keeps row (suc n) p l.next values new
  leaving-next n p mid taking kept moved freed holes shorter new l left = record {
    taking = taking-step in_row n p mid.list taking new.list l left.link_is left.order left.others left.capacity;
    last_is = ap last_of (gone-step in_row n p mid.list taking new.list l left.link_is left.order left.others left.capacity)
        ∙ last_or-push None taking.gone p;
    kept = λ e. record { items = (left.kept e).items ∙ (kept e).items; links = (left.kept e).links ∙ (kept e).links };
    moved = left.frees.moved ∙ moved;
    freed = omega (arith, left.frees.freed, freed);
    holes = omega (arith, left.frees.holes, holes);
    shorter = omega (arith, left.shorter, shorter);
  }

  pub leaving-first : (new : Taped V ValueLink) (l : ValueLink) → UnlinksValue keeps values new first l
      → AreUnlinked keeps row 1 first l.next values new
  leaving-first new l left =
      leaving-next 0 first values (taking-first in_row) (λ e. same_contents values.list) refl (omega arith) (omega arith)
      (omega arith) new l left

  pub leaving-step : (n p last : ℕ) (mid : Taped V ValueLink) → AreUnlinked keeps row n last (Some p) values mid
      → (new : Taped V ValueLink) (l : ValueLink)
      → UnlinksValue keeps mid new p l → AreUnlinked keeps row (suc n) p l.next values new
  leaving-step n p last mid a new l left = leaving-next n p mid a.taking a.kept a.moved a.freed a.holes a.shorter new l left

-- they are counted
pub leaving-counts : {V : Type 0} {keeps : Bool} {row : List ℕ} {n last : ℕ} {following : Option ℕ} {old new : Taped V ValueLink}
    → AreUnlinked keeps row n last following old new
    → TakesOut n (numbers_of old) (numbers_of new)
leaving-counts a = record { freed = a.freed; paid = omega (arith, a.moved, a.holes) }
