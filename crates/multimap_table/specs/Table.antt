-- What a caller sees of a key table.
use Rattle.std.specs.Prelude.{◌≡◌, ℕ, Some, refl}
use Rattle.std.specs.Coded.{Coded, code_by, coded×, coded_ℕ}
use Rattle.std.specs.Ordering.{nat_cmp}
use Rattle.std.specs.FinMap.{FinMap, code, get}

-- the rows, as the map from each place to its hash, and how many rows fit without growing
pub record Table : Type 0 where
  pub rows : FinMap nat_cmp ℕ
  pub capacity : ℕ

-- the table has the row of this place, with this hash
abbrev pub HasRow : Table → ℕ → ℕ → Type 0
HasRow table place hash = get table.rows place ≡ Some hash

-- a table is stored as the pair of its fields
abbrev pub table_code : Coded Table
table_code =
    code_by (FinMap nat_cmp ℕ × ℕ) (coded× (code coded_ℕ coded_ℕ) coded_ℕ)
    (λ table. (table.rows, table.capacity))
    (λ pair. record { rows = pair.0; capacity = pair.1 }) (λ _. refl)
