-- Lists of places that are permutations of each other.
use Rattle.std.proofs.Common.{◌≡◌, ◌≢◌, ℕ, ◌<◌, ◌≤◌, List, [], ◌∷◌, refl, subst, inl, inr, arith, if◌then◌else◌, ◌==◌, rules}
use Rattle.std.proofs.lemmas.Bool.{cases_eq, cases_lt}
use Rattle.std.proofs.lemmas.List.Sums.{sum_by-cons}
use Rattle.std.proofs.lemmas.List.Sorted.{sum_by-IsPermutation}
use Rattle.std.specs.Prelude.{IsPermutation}
use Rattle.std.specs.List.{sum_by}
use Rattle.multimap_slots.specs.Lists.{IsIn, AreDistinct}

-- how often the place stands in a list
abbrev one_at : ℕ → ℕ → ℕ
one_at p q = if p == q then 1 else 0

one_here : (p q : ℕ) → p ≡ q → one_at p q ≡ 1
one_here p q e = search rules

one_elsewhere : (p q : ℕ) → p ≢ q → one_at p q ≡ 0
one_elsewhere p q e = search rules

counted_in : (p : ℕ) (ps : List ℕ) → IsIn p ps → 1 ≤ sum_by (one_at p) ps
counted_in p [] i = absurd i
counted_in p (q ∷ qs) (inl e) = omega (arith, sum_by-cons (one_at p) q qs, one_here p q e)
counted_in p (q ∷ qs) (inr i) = omega (arith, sum_by-cons (one_at p) q qs, counted_in p qs i)

in_counted : (p : ℕ) (ps : List ℕ) → 1 ≤ sum_by (one_at p) ps → IsIn p ps
in_counted p [] some = absurd (omega arith)
in_counted p (q ∷ qs) some = elim (cases_eq p q) [
  | inl e ↦ inl e
  | inr differs ↦ inr (in_counted p qs (omega (arith, some, sum_by-cons (one_at p) q qs, one_elsewhere p q differs)))
]

once_distinct : (ps : List ℕ) → ((p : ℕ) → sum_by (one_at p) ps ≤ 1) → AreDistinct ps
once_distinct [] once = tt
once_distinct (q ∷ qs) once = (
  λ i. absurd (omega (arith, once q, sum_by-cons (one_at q) q qs, one_here q q refl, counted_in q qs i)),
  once_distinct qs (λ p. omega (arith, once p, sum_by-cons (one_at p) q qs)),
)

distinct_once : (ps : List ℕ) → AreDistinct ps → (p : ℕ) → sum_by (one_at p) ps ≤ 1
distinct_once [] distinct p = omega arith
distinct_once (q ∷ qs) distinct p = elim (cases_eq p q) [
  | inl e ↦ omega (arith, sum_by-cons (one_at p) q qs, one_here p q e, gone e)
  | inr differs ↦ omega (arith, sum_by-cons (one_at p) q qs, one_elsewhere p q differs, distinct_once qs distinct.1 p)
]
  where
    gone : p ≡ q → sum_by (one_at p) qs < 1
    gone e = elim (cases_lt (sum_by (one_at p) qs) 1) [
      | inl below ↦ below
      | inr some ↦ absurd (distinct.0 (subst (λ x. IsIn x qs) e (in_counted p qs some)))
    ]

module _ {old new : List ℕ} (same : IsPermutation old new) where
  pub permuted_in : (p : ℕ) → IsIn p old → IsIn p new
  permuted_in p i = in_counted p new (omega (arith, counted_in p old i, sum_by-IsPermutation (one_at p) old new same))

  pub permuted_was_in : (p : ℕ) → IsIn p new → IsIn p old
  permuted_was_in p i = in_counted p old (omega (arith, counted_in p new i, sum_by-IsPermutation (one_at p) old new same))

  pub permuted_distinct : AreDistinct old → AreDistinct new
  permuted_distinct distinct =
      once_distinct new (λ p. omega (arith, distinct_once old distinct p, sum_by-IsPermutation (one_at p) old new same))
