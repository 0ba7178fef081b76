-- What the invariant of a table says of the map that its callers see.
use Rattle.std.proofs.Common.{◌≡◌, ℕ, ◌+◌, ◌*◌, ◌/◌, ◌<◌, inl, inr, Some, List, [], ◌∷◌, length, get_or, replicate, refl, sym, ap, subst}
use Rattle.std.proofs.Common.{◌∙◌, arith}
use Rattle.std.proofs.lemmas.Simd.{length-replicate, get_or-replicate}
use Rattle.std.specs.Ordering.{nat_cmp}
use Rattle.std.specs.FinMap.{FinMap, get, len, empty, len-empty}
use Rattle.multimap_table.specs.declared.group.Row.{Row}
use Rattle.multimap_table.specs.Private.Entries.{entries, IsUnique, rows_of, row_at}
use Rattle.multimap_table.specs.Private.Layout.{IsGroupCount, CanFind, HoldsHash, HasRoom, IsLaidOut, IsTable, group_count}
use Rattle.multimap_table.proofs.EntryLemmas.{lane_of, LaneOf, find_full, room_from_count, entries-replicate}
use Rattle.multimap_table.proofs.RowLemmas.{len-rows_of, get-rows_of, rows_of-nil}

unique_if_empty : (tags : List ℕ) (rows : List Row) → length tags ≡ 0 → IsUnique (entries tags rows)
unique_if_empty [] rows e = tt
unique_if_empty (tag ∷ tags) rows e = absurd (omega arith)

pub unique_of : (tags : List ℕ) (rows : List Row) (n : ℕ) → IsTable tags rows n → IsUnique (entries tags rows)
unique_of tags rows n table = elim table.lanes [ inl e ↦ unique_if_empty tags rows e | inr laid ↦ laid.unique ]

pub len_of : (tags : List ℕ) (rows : List Row) (n : ℕ) → IsTable tags rows n → n ≡ len (rows_of tags rows)
len_of tags rows n table = table.counted ∙ sym (len-rows_of tags rows (unique_of tags rows n table))

-- a table that has or gets a row has lanes
pub laid_out_of : (tags : List ℕ) (rows : List Row) (n : ℕ) → IsTable tags rows n → 0 < length tags → IsLaidOut tags rows
laid_out_of tags rows n table some = elim table.lanes [ inl e ↦ absurd (omega arith) | inr laid ↦ laid ]

pub room_of : (tags : List ℕ) (rows : List Row) (n : ℕ) → IsTable tags rows n → 0 < length tags → HasRoom tags
room_of tags rows n table some =
    let laid = laid_out_of tags rows n table some in
    let whole = laid.sized.whole_groups in
    room_from_count tags rows table.row_each (omega (arith, table.counted, table.load, whole))

-- a row of the map lies in a lane
pub holds_of : (tags : List ℕ) (rows : List Row) (place hash : ℕ) → get (rows_of tags rows) place ≡ Some hash → LaneOf tags rows place hash
holds_of tags rows place hash there = lane_of tags rows place hash (sym (get-rows_of tags rows place) ∙ there)

-- the row of a lane is in the map
pub get_of : (tags : List ℕ) (rows : List Row) (n hash lane : ℕ) → IsTable tags rows n → HoldsHash tags rows hash lane
    → get (rows_of tags rows) (row_at rows lane).place ≡ Some hash
get_of tags rows n hash lane table holds =
    get-rows_of tags rows (row_at rows lane).place
    ∙ find_full tags rows lane (unique_of tags rows n table) table.row_each holds.in_range holds.full ∙ ap Some holds.same_hash

-- the invariant, of the slices that are looked through
pub table_along : (tags tags' : List ℕ) (rows rows' : List Row) (n : ℕ) → tags' ≡ tags → rows' ≡ rows → IsTable tags rows n
    → IsTable tags' rows' n
table_along tags tags' rows rows' n same_tags same_rows table = subst (λ ts. IsTable ts rows' n) (sym same_tags)
    (subst (λ rs. IsTable tags rs n) (sym same_rows) table)

-- a look-up can be made for a hash whose places may all be asked about
pub can_find_of : (tags : List ℕ) (rows : List Row) (n hash : ℕ) (MayAsk : ℕ → Type 0) → IsTable tags rows n → 0 < length tags
    → ((place : ℕ) → get (rows_of tags rows) place ≡ Some hash → MayAsk place) → CanFind tags rows hash MayAsk
can_find_of tags rows n hash MayAsk table some may =
    let laid = laid_out_of tags rows n table some in
    record {
      sized = laid.sized;
      reachable = laid.reachable;
      callable = λ lane holds. may (row_at rows lane).place (get_of tags rows n hash lane table holds);
    }

-- what is so of the place of each lane of a hash is so of each place of that hash
pub of_each_lane : (tags : List ℕ) (rows : List Row) (place hash : ℕ) (Holds : ℕ → Type 0) → get (rows_of tags rows) place ≡ Some hash
    → ((lane : ℕ) → HoldsHash tags rows hash lane → Holds (row_at rows lane).place) → Holds place
of_each_lane tags rows place hash Holds there each =
    let at = holds_of tags rows place hash there in
    subst Holds at.same_place (each at.lane (record { in_range = at.in_range; full = at.full; same_hash = at.same_hash }))

pub lanes_of_get : (tags : List ℕ) (rows : List Row) (place hash : ℕ) → get (rows_of tags rows) place ≡ Some hash → 0 < length tags
lanes_of_get tags rows place hash there = let w = holds_of tags rows place hash there in omega (arith, w.in_range)

-- ---- lanes that are all empty
pub table-empty : (count : ℕ) (rows : List Row) → length rows ≡ 16 * count → IsGroupCount count → IsTable (replicate (16 * count) 0) rows 0
table-empty count rows same power =
    let tags : List ℕ = replicate (16 * count) 0 in
    let long : length tags ≡ 16 * count = length-replicate {A = ℕ} (16 * count) 0 in
    let none : (lane : ℕ) → lane < length tags → 0 < get_or tags lane 0
    → ⊥ = λ lane p full. let z = get_or-replicate {A = ℕ} (16 * count) lane 0 0 (omega arith) in omega (arith, z, full) in
    let groups : group_count tags ≡ count = omega arith in
    let nil = entries-replicate (16 * count) rows in
    record {
      lanes = inr (record {
        sized = record {
          count = subst IsGroupCount (sym groups) power;
          whole_groups = omega (arith, long, groups);
          row_each = same
              ∙ sym long;
        };
        reachable = record { tagged = λ lane p full. absurd (none lane p full); reached = λ lane p full. absurd (none lane p full) };
        unique = subst IsUnique (sym nil) tt;
      });
      row_each = same ∙ sym long;
      counted = sym (ap length nil);
      load = omega arith;
    }

pub table-nil : (rows : List Row) → length rows ≡ 0 → IsTable [] rows 0
table-nil rows e = record { lanes = inl refl; row_each = e; counted = refl; load = omega arith }

-- a table whose lanes are all emptied
pub table_cleared : (tags new_tags : List ℕ) (rows : List Row) (n : ℕ) → IsTable tags rows n → new_tags ≡ replicate (length tags) 0
    → IsTable new_tags rows 0
table_cleared tags new_tags rows n table is =
    elim table.lanes [
      | inl e ↦ subst (λ ts. IsTable ts rows 0) (sym (is ∙ ap (λ k. replicate k 0) e)) (table-nil rows (table.row_each ∙ e))
      | inr laid ↦
          let whole = laid.sized.whole_groups in
          subst (λ ts. IsTable ts rows 0) (sym (is ∙ ap (λ k. replicate k 0) whole))
          (table-empty (group_count tags) rows (table.row_each ∙ whole) laid.sized.count)
    ]

pub rows_of-replicate : (tags : List ℕ) (rows : List Row) (n : ℕ) → tags ≡ replicate n 0 → rows_of tags rows ≡ empty
rows_of-replicate tags rows n is = rows_of-nil tags rows (ap (λ ts. entries ts rows) is ∙ entries-replicate n rows)

-- a table with one row more
pub table_put : (tags new_tags : List ℕ) (rows new_rows : List Row) (n : ℕ) → IsTable tags rows n → IsLaidOut new_tags new_rows
    → length (entries new_tags new_rows) ≡ length (entries tags rows) + 1
    → length new_tags ≡ length tags → n < 12 * group_count tags → IsTable new_tags new_rows (n + 1)
table_put tags new_tags rows new_rows n table laid more same few =
    record {
      lanes = inr laid;
      row_each = laid.sized.row_each;
      counted = let c = table.counted in
          omega (arith, more, c);
      load = let g : group_count new_tags ≡ group_count tags = ap (λ k. k / 16) same in omega (arith, g, few);
    }

nil_of_length : {X : Type 0} (xs : List X) → length xs ≡ 0 → xs ≡ []
nil_of_length [] e = refl
nil_of_length (x ∷ xs) e = absurd (omega arith)

-- a table without rows has only empty lanes
pub entries_of_empty : (tags : List ℕ) (rows : List Row) (n : ℕ) → IsTable tags rows n → rows_of tags rows ≡ empty → entries tags rows ≡ []
entries_of_empty tags rows n table none =
    nil_of_length (entries tags rows) (sym table.counted ∙ len_of tags rows n table ∙ ap (λ (m : FinMap nat_cmp ℕ). len m) none
    ∙ len-empty nat_cmp ℕ)
