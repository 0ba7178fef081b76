-- The rows in the lanes, as a map: what one put in, taken out or moved changes.
use Rattle.std.proofs.Common.{◌≡◌, ℕ, zero, suc, ◌+◌, ◌<◌, true, false, cond, Option, None, Some, List, [], ◌∷◌, length, get_or, set, refl}
use Rattle.std.proofs.Common.{sym, ap, subst, ◌∙◌, arith, length-set, get_or-set_other}
use Rattle.std.specs.Ordering.{nat_cmp}
use Rattle.std.specs.Cmp.{nat_cmp_total}
use Rattle.std.specs.FinMap.{FinMap, find, from_entries, empty, get, insert, remove, len, get-from_entries, get-insert, get-remove}
use Rattle.std.specs.FinMap.{same_map, nat_cmp-IsAntisymmetric, len-insert, len-empty}
use Rattle.multimap_table.specs.declared.group.Row.{Row}
use Rattle.multimap_table.specs.Private.Entries.{entries, IsUnique, rows_of, row_at}
use Rattle.multimap_table.proofs.EntryLemmas.{tied, same_from_tied, tied_from_same, find_full, find_put, unique_put, length_put, find_erase}
use Rattle.multimap_table.proofs.EntryLemmas.{unique_erase, length_erase}

pub get-rows_of : (tags : List ℕ) (rows : List Row) (q : ℕ) → get (rows_of tags rows) q ≡ find nat_cmp q (entries tags rows)
unfolding rows_of
get-rows_of tags rows q = get-from_entries nat_cmp_total (entries tags rows) q

pub rows_of-nil : (tags : List ℕ) (rows : List Row) → entries tags rows ≡ [] → rows_of tags rows ≡ empty
unfolding rows_of
rows_of-nil tags rows e = ap from_entries e

len_unique : (es : List (ℕ × ℕ)) → IsUnique es → len (from_entries {R = nat_cmp} es) ≡ length es
len_unique [] u = len-empty nat_cmp ℕ
len_unique (e ∷ es) u =
    len-insert nat_cmp_total (from_entries es) e.0 e.1
    ∙ ap (λ (o : Option ℕ). cond (Rattle.std.specs.Prelude.is_some o) (len (from_entries {R = nat_cmp} es))
    (len (from_entries {R = nat_cmp} es) + 1)) (get-from_entries nat_cmp_total es e.0 ∙ u.0)
    ∙ ap (λ n. n + 1) (len_unique es u.1) ∙ (let z : length es + 1 ≡ suc (length es) = omega arith in z)

pub len-rows_of : (tags : List ℕ) (rows : List Row) → IsUnique (entries tags rows) → len (rows_of tags rows) ≡ length (entries tags rows)
unfolding rows_of
len-rows_of tags rows u = len_unique (entries tags rows) u

pub record IsPut (tags : List ℕ) (rows : List Row) (new_tags : List ℕ) (new_rows : List Row) (row : Row) : Type 0 where
  pub map : rows_of new_tags new_rows ≡ insert (rows_of tags rows) row.place row.hash
  pub unique : IsUnique (entries new_tags new_rows)
  pub counted : length (entries new_tags new_rows) ≡ length (entries tags rows) + 1

pub put_row : (tags : List ℕ) (rows : List Row) (i tag : ℕ) (row : Row) → length rows ≡ length tags → i < length tags → get_or tags i 0 ≡ 0
    → 0 < tag → get (rows_of tags rows) row.place ≡ None
    → IsUnique (entries tags rows) → IsPut tags rows (set tags i tag) (set rows i row) row
put_row tags rows i zero row same p free some none unique = absurd (omega arith)
put_row tags rows i (suc tag) row same p free some none unique =
    let absent = sym (get-rows_of tags rows row.place) ∙ none in
    record {
      map = same_map nat_cmp_total nat_cmp-IsAntisymmetric _ _ (λ q.
          get-rows_of (set tags i (suc tag)) (set rows i row) q ∙ find_put tags rows i tag row same p free absent q
          ∙ sym (get-insert nat_cmp_total (rows_of tags rows) row.place row.hash q
          ∙ ap (cond (tied q row.place) (Some row.hash)) (get-rows_of tags rows q)));
      unique = unique_put tags rows i tag row same p free absent unique;
      counted = length_put tags rows i tag row same p free;
    }

pub record IsErased (tags : List ℕ) (rows : List Row) (new_tags : List ℕ) (place : ℕ) : Type 0 where
  pub map : rows_of new_tags rows ≡ remove (rows_of tags rows) place
  pub unique : IsUnique (entries new_tags rows)
  pub counted : length (entries new_tags rows) + 1 ≡ length (entries tags rows)

pub erase_row : (tags : List ℕ) (rows : List Row) (i : ℕ) → IsUnique (entries tags rows) → length rows ≡ length tags → i < length tags
    → 0 < get_or tags i 0
    → IsErased tags rows (set tags i 0) (row_at rows i).place
erase_row tags rows i unique same p full =
    let place = (row_at rows i).place in
    record {
      map = same_map nat_cmp_total nat_cmp-IsAntisymmetric _ _ (λ q.
          get-rows_of (set tags i 0) rows q ∙ find_erase tags rows i unique same p full q
          ∙ sym (get-remove nat_cmp_total (rows_of tags rows) place q ∙ ap (cond (tied q place) None) (get-rows_of tags rows q)));
      unique = unique_erase tags rows i unique same p full;
      counted = length_erase tags rows i same p full;
    }

-- ---- a row moved to another lane
pub record IsMoved (tags : List ℕ) (rows : List Row) (new_tags : List ℕ) (new_rows : List Row) : Type 0 where
  pub map : rows_of new_tags new_rows ≡ rows_of tags rows
  pub unique : IsUnique (entries new_tags new_rows)
  pub counted : length (entries new_tags new_rows) ≡ length (entries tags rows)

put_back : (m : FinMap nat_cmp ℕ) (place hash q : ℕ) → get m place ≡ Some hash
    → cond (tied q place) (Some hash) (cond (tied q place) None (get m q)) ≡ get m q
put_back m place hash q there =
    elim (tied q place) as (λ b. tied q place ≡ b → cond b (Some hash) (cond b None (get m q)) ≡ get m q) [
      | true ↦ λ e. sym there ∙ ap (get m) (sym (same_from_tied q place e))
      | false ↦ λ e. refl
    ] refl

pub move_row : (tags : List ℕ) (rows : List Row) (from to : ℕ) → IsUnique (entries tags rows) → length rows ≡ length tags
    → from < length tags → 0 < get_or tags from 0 → to < length tags → get_or tags to 0 ≡ 0
    → IsMoved tags rows (set (set tags from 0) to (get_or tags from 0)) (set rows to (row_at rows from))
move_row tags rows from to unique same p full q free =
    let out = erase_row tags rows from unique same p full in
    let row = row_at rows from in
    let old = rows_of tags rows in
    let without = rows_of (set tags from 0) rows in
    let ne : to ≡ from → ⊥ = λ e. let z : get_or tags from 0 ≡ 0 = subst (λ n. get_or tags n 0 ≡ 0) e free in omega arith in
    let there : get old row.place ≡ Some row.hash = get-rows_of tags rows row.place ∙ find_full tags rows from unique same p full in
    let taken : (k : ℕ) → get without k ≡ cond (tied k row.place) None (get old k) = λ k. ap (λ (m : FinMap nat_cmp ℕ). get m k) out.map
    ∙ get-remove nat_cmp_total old row.place k in
    let absent : get without row.place ≡ None = taken row.place
    ∙ ap (λ b. cond b None (get old row.place)) (tied_from_same row.place row.place refl) in
    let l = length-set tags from 0 in
    let into = put_row (set tags from 0) rows to (get_or tags from 0) row (same ∙ sym l) (omega arith)
    (get_or-set_other tags from to 0 0 ne ∙ free) full absent out.unique in
    record {
      map = into.map ∙ same_map nat_cmp_total nat_cmp-IsAntisymmetric _ _ (λ k.
          get-insert nat_cmp_total without row.place row.hash k ∙ ap (cond (tied k row.place) (Some row.hash)) (taken k)
          ∙ put_back old row.place row.hash k there);
      unique = into.unique;
      counted = omega (arith, into.counted, out.counted);
    }
