-- A row put into an empty lane leaves the lanes laid out.
use Rattle.std.proofs.Common.{◌≡◌, ℕ, ◌+◌, ◌*◌, ◌/◌, ◌<◌, ◌⊎◌, inl, inr, None, List, length, get_or, set, sym, ap, subst, ◌∙◌, arith}
use Rattle.std.proofs.Common.{length-set, get_or-set_same, get_or-set_other}
use native.Mathlib.Decide.{dec_lt}
use Rattle.std.specs.FinMap.{get}
use Rattle.multimap_table.specs.declared.group.Row.{Row}
use Rattle.multimap_table.specs.Private.Entries.{rows_of, no_row, row_at}
use Rattle.multimap_table.specs.Private.Layout.{IsGroupCount, IsFull, Reaches, IsSized, IsReachable, IsLaidOut, distance, group_count}
use Rattle.multimap_table.specs.Private.Layout.{hash_tag}
use Rattle.multimap_table.specs.Private.Layout.{probe_start}
use Rattle.multimap_table.proofs.RowLemmas.{put_row}

pub same_or_not : (i j : ℕ) → (i ≡ j) ⊎ (i ≡ j → ⊥)
same_or_not i j = elim (dec_lt i j) [
  | yes p ↦ inr (λ e. omega arith)
  | no p ↦ elim
      (dec_lt j i) [ yes q ↦ inr (λ e. omega arith) | no q ↦ inl (omega arith) ]
]

-- an element after a write
pub get_set_same : {X : Type 0} (xs : List X) (i j : ℕ) (x d : X) → j ≡ i → i < length xs → get_or (set xs i x) j d ≡ x
get_set_same xs i j x d e p = ap (λ k. get_or (set xs i x) k d) e ∙ get_or-set_same xs i x d p

-- all groups before the one are full, among so many
abbrev pub ReachesIn : ℕ → List ℕ → ℕ → ℕ → Type 0
ReachesIn count tags start group = (other : ℕ) → other < count → distance count start other < distance count start group → IsFull tags other

pub reaches_along : {count count' start start' : ℕ} (tags : List ℕ) (group : ℕ) → count ≡ count' → start ≡ start'
    → ReachesIn count tags start group → ReachesIn count' tags start' group
reaches_along {count = count} {start' = start'} tags group same_count same_start reaches =
    subst (λ n. ReachesIn n tags start' group) same_count (subst (λ s. ReachesIn count tags s group) same_start reaches)

pub full_set : (tags : List ℕ) (i tag group : ℕ) → i < length tags → 0 < tag → IsFull tags group → IsFull (set tags i tag) group
full_set tags i tag group p some full lane q =
    elim (same_or_not (16 * group + lane) i) [
      | inl e ↦ subst (λ n. 0 < n) (sym (get_set_same tags i (16 * group + lane) tag 0 e p)) some
      | inr ne ↦ subst (λ n. 0 < n) (sym (get_or-set_other tags i (16 * group + lane) tag 0 ne)) (full lane q)
    ]

module _ (tags : List ℕ) (rows : List Row) (i tag : ℕ) (row : Row) (sized : IsSized tags rows) (p : i < length tags) where
  abbrev new_tags : List ℕ
  new_tags = set tags i tag

  abbrev new_rows : List Row
  new_rows = set rows i row

  pub count_set : group_count new_tags ≡ group_count tags
  count_set = ap (λ n. n / 16) (length-set tags i tag)

  pub sized_set : IsSized new_tags new_rows
  sized_set = record {
    count = subst IsGroupCount (sym count_set) sized.count;
    whole_groups = length-set tags i tag ∙ sized.whole_groups ∙ ap (λ n. 16 * n) (sym count_set);
    row_each = length-set rows i row ∙ sized.row_each ∙ sym (length-set tags i tag);
  }

  pub reachable_put : tag ≡ hash_tag row.hash → 0 < tag → Reaches tags (probe_start (group_count tags) row.hash) (i / 16)
      → IsReachable tags rows → IsReachable new_tags new_rows
  reachable_put is_tag some here old =
      let in_rows : i < length rows = omega (arith, sized.row_each) in
      let start : (hash : ℕ) → probe_start (group_count tags) hash ≡ probe_start (group_count new_tags) hash = λ hash. ap
      (λ n. probe_start n hash) (sym count_set) in
      record {
        tagged = λ lane q full.
            elim (same_or_not lane i) [
              | inl e ↦ get_set_same tags i lane tag 0 e p ∙ is_tag
                  ∙ ap (λ (r : Row). hash_tag r.hash) (sym (get_set_same rows i lane row no_row e in_rows))
              | inr ne ↦
                  let kept = get_or-set_other tags i lane tag 0 ne in
                  kept ∙ old.tagged lane (omega (arith, length-set tags i tag)) (subst (λ n. 0 < n) kept full)
                  ∙ ap (λ (r : Row). hash_tag r.hash) (sym (get_or-set_other rows i lane row no_row ne))
            ];
        reached = λ lane q full.
            elim (same_or_not lane i) [
              | inl e ↦
                  let from : probe_start (group_count tags) row.hash ≡ probe_start (group_count new_tags)
                  (row_at new_rows lane).hash = start row.hash
                  ∙ ap (λ (r : Row). probe_start (group_count new_tags) r.hash) (sym (get_set_same rows i lane row no_row e in_rows)) in
                  reaches_along new_tags (lane / 16) (sym count_set) from
                  (λ u r near. full_set tags i tag u p some
                  (here u r (subst (λ n. distance (group_count tags) (probe_start (group_count tags) row.hash) u < distance
                  (group_count tags) (probe_start (group_count tags) row.hash) (n / 16)) e near)))
              | inr ne ↦
                  let kept = get_or-set_other tags i lane tag 0 ne in
                  let from : probe_start (group_count tags) (row_at rows lane).hash ≡ probe_start (group_count new_tags)
                  (row_at new_rows lane).hash = start (row_at rows lane).hash
                  ∙ ap (λ (r : Row). probe_start (group_count new_tags) r.hash) (sym (get_or-set_other rows i lane row no_row ne)) in
                  reaches_along new_tags (lane / 16) (sym count_set) from
                  (λ u r near. full_set tags i tag u p some
                  (old.reached lane (omega (arith, length-set tags i tag)) (subst (λ n. 0 < n) kept full) u r near))
            ];
      }

  pub laid_out_put : tag ≡ hash_tag row.hash → 0 < tag → get_or tags i 0 ≡ 0 → get (rows_of tags rows) row.place ≡ None
      → Reaches tags (probe_start (group_count tags) row.hash) (i / 16) → IsLaidOut tags rows
      → IsLaidOut new_tags new_rows
  laid_out_put is_tag some free none here old = record {
    sized = sized_set;
    reachable = reachable_put is_tag some here old.reachable;
    unique = (put_row tags rows i tag row sized.row_each p free some none old.unique).unique;
  }
