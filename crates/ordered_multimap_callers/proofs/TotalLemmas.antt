-- Sums that stop at the largest `u64`.
use Rattle.std.proofs.Common.{◌≡◌, ℕ, ◌+◌, ◌-◌, ◌^◌, List, [], ◌∷◌, min, sym, ap, ◌∙◌, arith}
use Rattle.std.specs.Prelude.{fold}

-- the total of some values behind others that have this sum
abbrev pub total_behind : ℕ → List ℕ → ℕ
total_behind sum values = min (fold (λ s value. s + value) sum values) (2 ^ 64 - 1)

add-stopped : (sum value : ℕ)
    → min (min sum (2 ^ 64 - 1) + value) (2 ^ 64 - 1) ≡ min (sum + value) (2 ^ 64 - 1)
add-stopped sum value = search arith

-- it is the same whether the sum stopped before them
pub total_behind-stopped : (sum : ℕ) (values : List ℕ) → total_behind (min sum (2 ^ 64 - 1)) values ≡ total_behind sum values
total_behind-stopped sum [] = search arith
total_behind-stopped sum (value ∷ values) =
    sym (total_behind-stopped (min sum (2 ^ 64 - 1) + value) values)
    ∙ ap (λ s. total_behind s values) (add-stopped sum value)
    ∙ total_behind-stopped (sum + value) values
