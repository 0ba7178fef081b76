-- The ends of an order and the neighbours in it are places of it, and where an item stands.
use Rattle.std.proofs.Common.{◌≡◌, ℕ, zero, suc, ◌<◌, Bool, true, false, if◌then◌else◌, ◌==◌, List, [], ◌∷◌, length, get_or, Option, Some}
use Rattle.std.proofs.Common.{None, IsSome, refl, inl, inr, ◌∙◌, reverse, arith}
use Rattle.std.specs.Prelude.{IfSome}
use Rattle.multimap_slots.specs.Lists.{IsIn, first_of, last_of, next_of, previous_of}
use Rattle.multimap_slots.specs.SlotCells.{lent_slots, IsLeft}
use Rattle.multimap_slots.specs.Taken.{CanTake}
use Rattle.multimap_slots.specs.declared.cells_of.SlotCells.{SlotCells}
use Rattle.multimap_slots.proofs.Callers.PlaceLists.{first_of-reverse, IsIn-reverse}

pub first_in : (ps : List ℕ) (p : ℕ) → first_of ps ≡ Some p → IsIn p ps
first_in [] p e = absurd (let bad = e in cc)
first_in (q ∷ ps) p e = inl (let same : p ≡ q = cc in same)

pub last_in : (ps : List ℕ) (p : ℕ) → last_of ps ≡ Some p → IsIn p ps
last_in ps p e = IsIn-reverse p ps (first_in (reverse ps) p (first_of-reverse ps ∙ e))

pub next_in : (ps : List ℕ) (p q : ℕ) → next_of ps p ≡ Some q → IsIn q ps
next_in [] p q e = absurd (let bad = e in cc)
next_in (r ∷ rs) p q e = go (r == p) (next_in rs p q) e
  where
    go : (b : Bool) → (next_of rs p ≡ Some q → IsIn q rs) → (if b then first_of rs else next_of rs p) ≡ Some q → IsIn q (r ∷ rs)
    go true behind e = inr (first_in rs q e)
    go false behind e = inr (behind e)

pub previous_in : (ps : List ℕ) (p q : ℕ) → previous_of ps p ≡ Some q → IsIn q ps
previous_in ps p q e = IsIn-reverse q ps (next_in (reverse ps) p q e)

each_some : {P : ℕ → Type 0} (o : Option ℕ) → ((x : ℕ) → o ≡ Some x → P x) → IfSome o P
each_some None each = tt
each_some (Some x) each = each x refl

-- where every item is left, so are those of both neighbours
module _ {T L A F : Type 0} (cells : SlotCells T L A F) (left : (p : ℕ) → IsIn p (lent_slots cells).order → IsLeft cells p) (p : ℕ) where
  pub next_left : IfSome (next_of (lent_slots cells).order p) (IsLeft cells)
  next_left = each_some (next_of (lent_slots cells).order p) (λ q is. left q (next_in (lent_slots cells).order p q is))

  pub previous_left : IfSome (previous_of (lent_slots cells).order p) (IsLeft cells)
  previous_left = each_some (previous_of (lent_slots cells).order p) (λ q is. left q (previous_in (lent_slots cells).order p q is))

-- an item stands at places of the slots alone
pub some_within : {X : Type 0} (xs : List (Option X)) (p : ℕ) → IsSome (get_or xs p None) → p < length xs
some_within [] p s = absurd (let bad = s in cc)
some_within (x ∷ xs) zero s = omega arith
some_within (x ∷ xs) (suc p) s = omega (arith, some_within xs p s)

-- what is left may be taken without the order as well
pub can_take : {T L A F : Type 0} (cells : SlotCells T L A F) (p : ℕ) → IsLeft cells p → CanTake cells.cells p
can_take cells p is = record {
  within = some_within cells.cells.items p is.filled;
  filled = is.filled;
  left = is.untaken;
}
