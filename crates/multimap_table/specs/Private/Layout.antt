-- How the lanes of a key table lie. No public clause cites this module.
use Rattle.std.specs.Prelude.{◌≡◌, ◌⊎◌, ℕ, ◌+◌, ◌-◌, ◌*◌, ◌/◌, ◌%◌, ◌^◌, ◌<◌, ◌≤◌, max, nat_le}
use Rattle.std.specs.Prelude.{bit_and, if◌then◌else◌, Bool, true, false, None, List, length}
use Rattle.std.specs.Prelude.{slice_index, Option, IfSome, IfNone, Result, OnOk, OnErr}
use Rattle.std.specs.Ordering.{nat_cmp}
use Rattle.std.specs.FinMap as map
use Rattle.multimap_table.specs.declared.group.Row.{Row}
use Rattle.multimap_table.specs.Private.Entries.{entries, IsUnique, rows_of, row_at}
use Rattle.multimap_table.specs.Table.{Table}

-- the top byte of a hash, and never 0
unfoldable pub hash_tag : ℕ → ℕ
hash_tag hash = max (hash / 2 ^ 56) 1

-- bit k of n is 1
unfoldable pub IsBitSet : ℕ → ℕ → Type 0
IsBitSet n k = n / 2 ^ k % 2 ≡ 1

-- a power of two
abbrev pub IsGroupCount : ℕ → Type 0
IsGroupCount count = (k : ℕ) × (count ≡ 2 ^ k)

-- the group where a probe for the hash starts, among so many
unfoldable pub probe_start : ℕ → ℕ → ℕ
probe_start count hash = bit_and hash (count - 1)

-- how many groups a probe goes on from one group to another, among so many
unfoldable pub distance : ℕ → ℕ → ℕ → ℕ
distance count from to = if nat_le from to then to - from else to + count - from

-- the group that lies so many groups further on from the start
pub record IsGroupAfter (count start step group : ℕ) : Type 0 where
  pub in_range : group < count
  pub value : distance count start group ≡ step

-- how many groups the lanes make
abbrev pub group_count : List ℕ → ℕ
group_count tags = length tags / 16

-- no lane of the group is empty
abbrev pub IsFull : List ℕ → ℕ → Type 0
IsFull tags group = (lane : ℕ) → lane < 16 → 0 < slice_index tags (16 * group + lane)

-- a probe from the start goes on as far as the group: all groups before it are full
abbrev pub Reaches : List ℕ → ℕ → ℕ → Type 0
Reaches tags start group =
    let count = group_count tags in
    (other : ℕ) → other < count → distance count start other < distance count start group
    → IsFull tags other

-- a probe for the row of the lane goes on past the group
abbrev pub Passes : List ℕ → List Row → ℕ → ℕ → Type 0
Passes tags rows lane group =
    let start = probe_start (group_count tags) (row_at rows lane).hash in
    distance (group_count tags) start group < distance (group_count tags) start (lane / 16)

-- the lane holds a row of this hash
pub record HoldsHash (tags : List ℕ) (rows : List Row) (hash lane : ℕ) : Type 0 where
  pub in_range : lane < length tags
  pub full : 0 < slice_index tags lane
  pub same_hash : (row_at rows lane).hash ≡ hash

-- a lane of this hash is found whose place the test says yes to, or it says no to that of each
-- lane that is looked at
pub record FindsLane (tags : List ℕ) (rows : List Row) (hash : ℕ) (IsLookedAt : ℕ → Type 0)
    (Says : ℕ → Bool → Type 0) (answer : Option ℕ) : Type 0 where
  pub found : IfSome answer (λ lane. HoldsHash tags rows hash lane
      × Says (row_at rows lane).place true)
  pub absent : IfNone answer ((lane : ℕ) → IsLookedAt lane → Says (row_at rows lane).place false)

-- some lane is empty
abbrev pub HasRoom : List ℕ → Type 0
HasRoom tags = (lane : ℕ) × (lane < length tags) × (slice_index tags lane ≡ 0)

-- the lanes come in groups, whose count is a power of two, and each lane has a tag and a row
pub record IsSized (tags : List ℕ) (rows : List Row) : Type 0 where
  pub count : IsGroupCount (group_count tags)
  pub whole_groups : length tags ≡ 16 * group_count tags
  pub row_each : length rows ≡ length tags

-- each full lane has its row's tag, and a probe for its row's hash reaches it
pub record IsReachable (tags : List ℕ) (rows : List Row) : Type 0 where
  pub tagged : (lane : ℕ) → lane < length tags → 0 < slice_index tags lane
      → slice_index tags lane ≡ hash_tag (row_at rows lane).hash
  pub reached : (lane : ℕ) → lane < length tags → 0 < slice_index tags lane
      → Reaches tags (probe_start (group_count tags) (row_at rows lane).hash) (lane / 16)

-- a look-up can be made for the hash: each place of it may be asked about
pub record CanFind (tags : List ℕ) (rows : List Row) (hash : ℕ) (MayAsk : ℕ → Type 0)
    : Type 0 where
  pub sized : IsSized tags rows
  pub reachable : IsReachable tags rows
  pub callable : (lane : ℕ) → HoldsHash tags rows hash lane → MayAsk (row_at rows lane).place

-- what the lanes of a table with any groups keep
pub record IsLaidOut (tags : List ℕ) (rows : List Row) : Type 0 where
  pub sized : IsSized tags rows
  pub reachable : IsReachable tags rows
  pub unique : IsUnique (entries tags rows)

-- a row of this place can be put into an empty lane
pub record CanTake (tags : List ℕ) (rows : List Row) (place : ℕ) : Type 0 where
  pub laid_out : IsLaidOut tags rows
  pub room : HasRoom tags
  pub absent : map.get (rows_of tags rows) place ≡ None

-- the row of the lane can be taken out
pub record CanLose (tags : List ℕ) (rows : List Row) (lane : ℕ) : Type 0 where
  pub laid_out : IsLaidOut tags rows
  pub room : HasRoom tags
  pub in_range : lane < length tags
  pub full : 0 < slice_index tags lane

-- so many lanes, which hold these rows
pub record HoldRows (many : ℕ) (given : map.FinMap nat_cmp ℕ) (tags : List ℕ) (rows : List Row)
    : Type 0 where
  pub laid_out : IsLaidOut tags rows
  pub rows_are : rows_of tags rows ≡ given
  pub lanes : length tags ≡ many

-- the row of the lane is gone, and no other
pub record LosesRow (tags : List ℕ) (rows : List Row) (lane : ℕ) (tags' : List ℕ)
    (rows' : List Row) : Type 0 where
  pub holds : HoldRows (length tags) (map.remove (rows_of tags rows) (row_at rows lane).place)
      tags' rows'
  pub counted : length (entries tags' rows') + 1 ≡ length (entries tags rows)

-- the invariant of a table: no lanes, or lanes that hold `len` rows, at most three quarters full
pub record IsTable (tags : List ℕ) (rows : List Row) (len : ℕ) : Type 0 where
  pub lanes : (length tags ≡ 0) ⊎ IsLaidOut tags rows
  pub row_each : length rows ≡ length tags
  pub counted : len ≡ length (entries tags rows)
  pub load : len ≤ 12 * group_count tags

-- the table that the lanes make
abbrev pub table_of : List ℕ → List Row → Table
table_of tags rows = record { rows = rows_of tags rows; capacity = 12 * group_count tags }

-- an empty table with room for so many rows
pub record IsEmptyFor (capacity : ℕ) (table : Table) : Type 0 where
  pub empty : table.rows ≡ map.empty
  pub room : capacity ≤ table.capacity

-- a table grows so that it holds so many rows, and twice as many as before, or stays as it was
pub record Grows (capacity : ℕ) (old new : Table) {T E : Type 0} (answer : Result T E)
    : Type 0 where
  pub unchanged : new.rows ≡ old.rows
  pub room : OnOk answer (capacity ≤ new.capacity)
  pub doubles : OnOk answer (old.capacity * 2 ≤ new.capacity)
  pub refused : OnErr answer (new.capacity ≡ old.capacity)
