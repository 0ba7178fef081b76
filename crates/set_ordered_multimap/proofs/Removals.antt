-- The pair that leaves a set.
use Rattle.std.proofs.Common.{◌≡◌, ◌+◌, ◌-◌, ℕ, Bool, true, false, not, cond, ◌&&◌, ◌||◌, List, [], ◌∷◌, length, refl, sym, ap}
use Rattle.std.proofs.Common.{◌∙◌}
use Rattle.std.proofs.Common.{true≢false, arith}
use Rattle.std.specs.Cmp.{IsEquivalence}
use Rattle.std.specs.List.{AllByRecursion, IsDistinct}
use Rattle.ordered_multimap.specs.TapeNumbers.{TapeNumbers, TakesOut}
use Rattle.set_ordered_multimap.specs.Set.{same_pair, has_pair_where, pairs_but_where}

both : (a b : Bool) → (a && b) ≡ true → (a ≡ true) × (b ≡ true)
both a b = elim a as (λ c. (c && b) ≡ true → (c ≡ true) × (b ≡ true)) [
  | true ↦ λ e. (refl, e)
  | false ↦ λ e. absurd (true≢false (sym e))
]

-- a test that accepts a key accepts those that are equal to it, and no others
module _ {K V : Type 0} {eq : K → K → Bool} {value_eq : V → V → Bool} (values : IsEquivalence value_eq) (accepts : K → Bool)
    (respects : (x y : K) → accepts x ≡ true → accepts y ≡ eq x y) where
  abbrev goes : V → K × V → Bool
  goes v p = accepts p.0 && value_eq v p.1

  -- so where a pair goes, those that are equal to it go
  goes-alike : (v : V) (p q : K × V) → goes v p ≡ true → goes v q ≡ same_pair eq value_eq p q
  goes-alike v p q gone =
      let is = both (accepts p.0) (value_eq v p.1) gone in
      λ i. respects p.0 q.0 is.0 i && values.congr v p.1 q.1 is.1 i

  -- and behind it no other of a set
  others_stay : (v : V) (p : K × V) → goes v p ≡ true → (pairs : List (K × V))
      → AllByRecursion (λ q. same_pair eq value_eq p q ≡ false) pairs → pairs_but_where accepts value_eq pairs v ≡ pairs
  others_stay v p gone [] apart = refl
  others_stay v p gone (q ∷ pairs) apart =
      let but : List (K × V) = pairs_but_where accepts value_eq pairs v in
      ap (λ b. cond (not b) (q ∷ but) but) (goes-alike v p q gone ∙ apart.0)
      ∙ ap (λ ps. q ∷ ps) (others_stay v p gone pairs apart.1)

  -- so one pair goes
  pub one_goes : (pairs : List (K × V)) (v : V) → IsDistinct (same_pair eq value_eq) pairs
      → has_pair_where accepts value_eq pairs v ≡ true → length pairs ≡ length (pairs_but_where accepts value_eq pairs v) + 1
  unfolding IsDistinct
  one_goes [] v distinct there = absurd (true≢false (sym there))
  one_goes (p ∷ pairs) v distinct there =
      let but : List (K × V) = pairs_but_where accepts value_eq pairs v in
      let P : Bool → Type 0 = λ b. goes v p ≡ b → (b || has_pair_where accepts value_eq pairs v) ≡ true
      → length (p ∷ pairs) ≡ length (cond (not b) (p ∷ but) but) + 1 in
      elim (goes v p) as P [
        | true ↦ λ gone _. omega (arith, ap length (others_stay v p gone pairs distinct.0))
        | false ↦ λ _ later. omega (arith, one_goes pairs v distinct.1 later)
      ] refl there

-- and one value is taken out
pub takes_one : (m n : ℕ) (old new : TapeNumbers) → m ≡ n + 1 → TakesOut (m - n) old new → TakesOut 1 old new
takes_one m n old new one taken = record { freed = omega (arith, taken.freed, one); paid = omega (arith, taken.paid, one) }
