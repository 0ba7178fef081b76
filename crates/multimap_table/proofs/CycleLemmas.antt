-- Distances round the groups.
use Rattle.std.proofs.Common.{◌≡◌, ℕ, suc, ◌+◌, ◌-◌, ◌*◌, ◌%◌, ◌^◌, ◌<◌, ◌≤◌, Bool, true, false, cond, ◌⊎◌, inl, inr, refl, sym, ap, ◌∙◌}
use Rattle.std.proofs.Common.{arith, pow-suc}
use Rattle.std.specs.Prelude.{leb}
use lib.Bits.{bit_and, and_mask, and_le_r}
use native.Mathlib.Nat.{mod-eq_of_lt, add-mod_right}
use native.Mathlib.Decide.{dec_lt}
use lib.Pow.{pow_mono}
use borrow.Author.Tests.{leb-true, leb-false}
use Rattle.multimap_table.specs.Private.Layout.{IsGroupCount, probe_start, distance}

-- a distance is the way up, or the way round
abbrev pub DistanceCases : ℕ → ℕ → ℕ → ℕ → Type 0
DistanceCases count from to steps = ((from ≤ to) × (steps + from ≡ to)) ⊎ ((to < from) × (steps + from ≡ to + count))

by_test : (count from to : ℕ) (test : Bool) → leb from to ≡ test → from < count
    → DistanceCases count from to (cond test (to - from) (to + count - from))
by_test count from to true e p = let h = leb-true from to e in inl (omega arith)
by_test count from to false e p = let h = leb-false from to e in inr (omega arith)

pub distance_cases : (count from to : ℕ) → from < count → DistanceCases count from to (distance count from to)
unfolding distance
distance_cases count from to p = by_test count from to (leb from to) refl p

pub probe_start-lt : (count hash : ℕ) → 0 < count → probe_start count hash < count
unfolding probe_start
probe_start-lt count hash p = omega (arith, and_le_r hash (count - 1))

-- the group that lies so many steps on
pub probe_value : (count start step : ℕ) → IsGroupCount count → start < count → step < count
    → (bit_and (start + step) (count - 1) < count) × (distance count start (bit_and (start + step) (count - 1)) ≡ step)
probe_value count start step power p q =
    let masked : bit_and (start + step) (count - 1) ≡ (start + step) % count = ap (λ n. bit_and (start + step) (n - 1)) power.1
    ∙ and_mask (start + step) power.0 ∙ ap (λ n. (start + step) % n) (sym power.1) in
    elim (dec_lt (start + step) count) [
      | yes r ↦ let small = masked ∙ mod-eq_of_lt r in
          omega (arith, small, distance_cases count start (bit_and (start + step) (count - 1)) p)
      | no r ↦
          let less : start + step - count < count = omega arith in
          let round : (start + step) % count ≡ start + step - count = ap (λ n. n % count)
          (let e : start + step ≡ start + step - count + count = omega arith in e) ∙ add-mod_right (start + step - count) count
          ∙ mod-eq_of_lt less in
          let small = masked ∙ round in
          omega (arith, small, distance_cases count start (bit_and (start + step) (count - 1)) p)
    ]

pub group_count_double : (count : ℕ) → IsGroupCount count → count < 2 ^ 56 → IsGroupCount (count * 2) × (count * 2 ≤ 2 ^ 56)
group_count_double count power small =
    elim (dec_lt power.0 56) [
      | yes q ↦ let m : 2 ^ (suc power.0) ≤ 2 ^ 56 = pow_mono {i = suc power.0} {j = 56} (omega arith) in
          ((suc power.0, omega (arith, power.1)), omega (arith, m, power.1, pow-suc power.0))
      | no q ↦ absurd (let m : 2 ^ 56 ≤ 2 ^ power.0 = pow_mono {i = 56} {j = power.0} (omega arith) in omega (arith, power.1))
    ]

pub distance_injective : (count from u v : ℕ) → from < count → u < count → v < count → distance count from u ≡ distance count from v → u ≡ v
distance_injective count from u v p q r e = omega (arith, distance_cases count from u p, distance_cases count from v p)

pub distance-lt : (count from to : ℕ) → from < count → to < count → distance count from to < count
distance-lt count from to p q = omega (arith, distance_cases count from to p)
