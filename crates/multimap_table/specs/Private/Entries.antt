-- The rows that lie in the lanes, as entries of a map. No public clause cites this module.
use Rattle.std.specs.Prelude.{◌≡◌, ℕ, zero, suc, List, [], ◌∷◌, slice_index_or}
use Rattle.std.specs.Ordering.{nat_cmp}
use Rattle.std.specs.Prelude.{None}
use Rattle.std.specs.FinMap.{FinMap, find, from_entries}
use Rattle.multimap_table.specs.declared.group.Row.{Row}

-- the rows of the lanes whose tag is above 0, in their order, as place and hash
abbrev pub entries : List ℕ → List Row → List (ℕ × ℕ)
entries [] rows = []
entries (tag ∷ tags) [] = []
entries (zero ∷ tags) (row ∷ rows) = entries tags rows
entries (suc tag ∷ tags) (row ∷ rows) = (row.place, row.hash) ∷ entries tags rows

-- no place stands twice
abbrev pub IsUnique : List (ℕ × ℕ) → Type 0
IsUnique [] = Unit {0}
IsUnique (entry ∷ entries) = (find nat_cmp entry.0 entries ≡ None) × IsUnique entries

-- the map that the lanes hold
unfoldable pub rows_of : List ℕ → List Row → FinMap nat_cmp ℕ
rows_of tags rows = from_entries (entries tags rows)

-- what stands in a lane that never had a row
abbrev pub no_row : Row
no_row = record { hash = 0; place = 0 }

-- the row of a lane
abbrev pub row_at : List Row → ℕ → Row
row_at rows lane = slice_index_or rows lane no_row
