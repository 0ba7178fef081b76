-- A list with one more item at its end: its ends, and the neighbours of each item.
use Rattle.std.proofs.Common.{◌≡◌, ◌≢◌, ◌⊎◌, ℕ, List, [], ◌∷◌, ◌++◌, Option, Some, None, refl, sym, ap, ◌∙◌, subst, inl, inr, append_assoc}
use Rattle.std.proofs.lemmas.Bool.{cases_eq, eq-eqb, ne_eqb}
use Rattle.std.specs.List.{last_or}
use Rattle.multimap_slots.specs.Lists.{IsIn, AreDistinct, first_of, last_of, next_of, previous_of}
use Rattle.multimap_slots.proofs.Callers.PlaceLists.{AreDistinct-gone, IsIn-left, next_of-split, previous_of-split, reverse-split}
use Rattle.ordered_multimap.proofs.Callers.Places.{ends}

pub cases_some : (o : Option ℕ) (q : ℕ) → (o ≡ Some q) ⊎ (o ≢ Some q)
cases_some None q = inr (λ e. cc)
cases_some (Some p) q = elim (cases_eq p q) [
  | inl same ↦ inl (ap Some same)
  | inr differs ↦ inr
      (λ e. differs (let same : p ≡ q = cc in same))
]

pub last_or-push : {X : Type 0} (o : Option X) (xs : List X) (x : X) → last_or o (xs ++ x ∷ []) ≡ Some x
last_or-push o [] x = refl
last_or-push o (y ∷ xs) x = last_or-push (Some y) xs x

pub no_last : (ps : List ℕ) → last_of ps ≡ None → ps ≡ []
no_last [] e = refl
no_last (p ∷ ps) e = absurd (some p ps e)
  where
    some : (p : ℕ) (ps : List ℕ) → last_of (p ∷ ps) ≡ None → ⊥
    some p [] e = let bad = e in cc
    some p (q ∷ ps) e = some q ps e

pub first_of-push : {X : Type 0} (xs : List X) (x y : X) → first_of xs ≡ Some y → first_of (xs ++ x ∷ []) ≡ Some y
first_of-push [] x y e = absurd (cc)
first_of-push (z ∷ xs) x y e = e

module _ (ps : List ℕ) (q : ℕ) where
  -- the new place has the old last one before it, and none behind
  pub previous_of-pushed : previous_of (ps ++ q ∷ []) q ≡ last_of ps
  previous_of-pushed = previous_of-split ps q [] (λ i. i)

  pub next_of-pushed : (IsIn q ps → ⊥) → next_of (ps ++ q ∷ []) q ≡ None
  next_of-pushed absent = next_of-split ps q [] absent

  -- the old places keep what is before them
  pub previous_of-push : (r : ℕ) → r ≢ q → previous_of (ps ++ q ∷ []) r ≡ previous_of ps r
  previous_of-push r differs =
      ap (λ qs. next_of qs r) (reverse-split ps q []) ∙ rw (ne_eqb q r (λ e. differs (sym e))) refl

  -- the new place stands behind the old last one
  pub next_of-push_last : (r : ℕ) → AreDistinct ps → last_of ps ≡ Some r → next_of (ps ++ q ∷ []) r ≡ Some q
  next_of-push_last r distinct last =
      let e = ends ps r last in
      let absent = λ (i : IsIn r e.front). AreDistinct-gone e.front r [] (subst AreDistinct e.is distinct) (IsIn-left r e.front [] i) in
      ap (λ qs. next_of (qs ++ q ∷ []) r) e.is
      ∙ ap (λ qs. next_of qs r) (append_assoc e.front (r ∷ []) (q ∷ []))
      ∙ next_of-split e.front r (q ∷ []) absent

-- and each other place keeps what is behind it
pub next_of-push : (ps : List ℕ) (q r : ℕ) → r ≢ q → last_of ps ≢ Some r → next_of (ps ++ q ∷ []) r ≡ next_of ps r
next_of-push [] q r differs not_last = rw (ne_eqb q r (λ e. differs (sym e))) refl
next_of-push (p ∷ []) q r differs not_last =
    rw (ne_eqb p r (λ e. not_last (ap Some e)), ne_eqb q r (λ e. differs (sym e))) refl
next_of-push (p ∷ s ∷ ps) q r differs not_last = elim (cases_eq p r) [
  | inl same ↦ rw (eq-eqb p r same) refl
  | inr other ↦ rw (ne_eqb p r other) (next_of-push (s ∷ ps) q r differs not_last)
]
