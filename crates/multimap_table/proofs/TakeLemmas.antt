-- The rows of the first lanes, as they are put again one by one.
use Rattle.std.proofs.Common.{◌≡◌, ℕ, zero, suc, ◌<◌, ◌≤◌, cond, None, Some, List, [], ◌∷◌, ◌++◌, length, get_or, take, refl, sym, ap, ◌∙◌}
use Rattle.std.proofs.Common.{arith}
use Rattle.std.specs.Ordering.{nat_cmp}
use Rattle.std.specs.Cmp.{nat_cmp_total}
use Rattle.std.specs.FinMap.{find, from_entries, get, insert, nat_cmp-IsAntisymmetric, from_entries_push}
use Rattle.multimap_table.specs.declared.group.Row.{Row}
use Rattle.multimap_table.specs.Private.Entries.{entries, IsUnique, rows_of, row_at}
use Rattle.multimap_table.proofs.EntryLemmas.{not_tied, apart, find_full}
use Rattle.multimap_table.proofs.RowLemmas.{get-rows_of}

pub take_full : (tags : List ℕ) (rows : List Row) (k : ℕ) → length rows ≡ length tags → k < length tags → 0 < get_or tags k 0
    → entries (take (suc k) tags) (take (suc k) rows) ≡ entries (take k tags) (take k rows)
    ++ ((row_at rows k).place, (row_at rows k).hash) ∷ []
take_full [] rows k same p full = absurd (omega arith)
take_full (tag ∷ tags) [] k same p full = absurd (omega arith)
take_full (zero ∷ tags) (row ∷ rows) zero same p full = absurd (omega arith)
take_full (suc tag ∷ tags) (row ∷ rows) zero same p full = refl
take_full (zero ∷ tags) (row ∷ rows) (suc k) same p full = take_full tags rows k (omega arith) (omega arith) full
take_full (suc tag ∷ tags) (row ∷ rows) (suc k) same p full = ap (λ es. (row.place, row.hash) ∷ es)
    (take_full tags rows k (omega arith) (omega arith) full)

pub take_empty : (tags : List ℕ) (rows : List Row) (k : ℕ) → length rows ≡ length tags → k < length tags → get_or tags k 0 ≡ 0
    → entries (take (suc k) tags) (take (suc k) rows) ≡ entries (take k tags) (take k rows)
take_empty [] rows k same p free = absurd (omega arith)
take_empty (tag ∷ tags) [] k same p free = absurd (omega arith)
take_empty (zero ∷ tags) (row ∷ rows) zero same p free = refl
take_empty (suc tag ∷ tags) (row ∷ rows) zero same p free = absurd (omega arith)
take_empty (zero ∷ tags) (row ∷ rows) (suc k) same p free = take_empty tags rows k (omega arith) (omega arith) free
take_empty (suc tag ∷ tags) (row ∷ rows) (suc k) same p free = ap (λ es. (row.place, row.hash) ∷ es)
    (take_empty tags rows k (omega arith) (omega arith) free)

pub take_fewer : (tags : List ℕ) (rows : List Row) (k : ℕ) → length rows ≡ length tags → k < length tags → 0 < get_or tags k 0
    → length (entries (take k tags) (take k rows)) < length (entries tags rows)
take_fewer [] rows k same p full = absurd (omega arith)
take_fewer (tag ∷ tags) [] k same p full = absurd (omega arith)
take_fewer (zero ∷ tags) (row ∷ rows) zero same p full = absurd (omega arith)
take_fewer (suc tag ∷ tags) (row ∷ rows) zero same p full = omega arith
take_fewer (zero ∷ tags) (row ∷ rows) (suc k) same p full = take_fewer tags rows k (omega arith) (omega arith) full
take_fewer (suc tag ∷ tags) (row ∷ rows) (suc k) same p full = omega (arith, take_fewer tags rows k (omega arith) (omega arith) full)

absent_before : (tags : List ℕ) (rows : List Row) (k : ℕ) → IsUnique (entries tags rows) → length rows ≡ length tags → k < length tags
    → 0 < get_or tags k 0
    → find nat_cmp (row_at rows k).place (entries (take k tags) (take k rows)) ≡ None
absent_before [] rows k unique same p full = absurd (omega arith)
absent_before (tag ∷ tags) [] k unique same p full = absurd (omega arith)
absent_before (tag ∷ tags) (row ∷ rows) zero unique same p full = refl
absent_before (zero ∷ tags) (row ∷ rows) (suc k) unique same p full = absent_before tags rows k unique (omega arith) (omega arith) full
absent_before (suc tag ∷ tags) (row ∷ rows) (suc k) unique same p full =
    let there = find_full tags rows k unique.1 (omega arith) (omega arith) full in
    ap (λ b. cond b (Some row.hash) (find nat_cmp (row_at rows k).place (entries (take k tags) (take k rows))))
    (not_tied (row_at rows k).place row.place (λ e. apart row.place (row_at rows k).place (row_at rows k).hash
    (entries tags rows) unique.0 there (sym e)))
    ∙ absent_before tags rows k unique.1 (omega arith) (omega arith) full

pub get_before : (tags : List ℕ) (rows : List Row) (k : ℕ) → IsUnique (entries tags rows) → length rows ≡ length tags → k < length tags
    → 0 < get_or tags k 0
    → get (rows_of (take k tags) (take k rows)) (row_at rows k).place ≡ None
get_before tags rows k unique same p full = get-rows_of (take k tags) (take k rows) (row_at rows k).place
    ∙ absent_before tags rows k unique same p full

pub rows_of-take_full : (tags : List ℕ) (rows : List Row) (k : ℕ) → IsUnique (entries tags rows) → length rows ≡ length tags
    → k < length tags → 0 < get_or tags k 0
    → rows_of (take (suc k) tags) (take (suc k) rows) ≡ insert (rows_of (take k tags) (take k rows)) (row_at rows k).place
    (row_at rows k).hash
unfolding rows_of
rows_of-take_full tags rows k unique same p full =
    ap from_entries (take_full tags rows k same p full)
    ∙ from_entries_push nat_cmp_total nat_cmp-IsAntisymmetric _ _ _ (absent_before tags rows k unique same p full)

pub rows_of-take_empty : (tags : List ℕ) (rows : List Row) (k : ℕ) → length rows ≡ length tags → k < length tags → get_or tags k 0 ≡ 0
    → rows_of (take (suc k) tags) (take (suc k) rows) ≡ rows_of (take k tags) (take k rows)
unfolding rows_of
rows_of-take_empty tags rows k same p free = ap from_entries (take_empty tags rows k same p free)

pub take_whole : {X : Type 0} (xs : List X) (n : ℕ) → length xs ≤ n → take n xs ≡ xs
take_whole [] zero p = refl
take_whole [] (suc n) p = refl
take_whole (x ∷ xs) zero p = absurd (omega arith)
take_whole (x ∷ xs) (suc n) p = ap (λ ys. x ∷ ys) (take_whole xs n (omega arith))
