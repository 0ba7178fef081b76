-- A row of the next group moves into the gap.
use Rattle.std.proofs.Common.{◌≡◌, ℕ, ◌+◌, ◌*◌, ◌/◌, ◌<◌, ◌≤◌, ◌⊎◌, inl, inr, List, length, get_or, set, sym, ap, subst, ◌∙◌, arith}
use Rattle.std.proofs.Common.{length-set, get_or-set_same, get_or-set_other}
use Rattle.multimap_table.specs.declared.group.Row.{Row}
use Rattle.multimap_table.specs.Private.Entries.{entries, IsUnique, no_row, row_at}
use Rattle.multimap_table.specs.Private.Layout.{Passes, distance, group_count, hash_tag, probe_start}
use Rattle.multimap_table.proofs.LayoutLemmas.{same_or_not}
use Rattle.multimap_table.proofs.GapLemmas.{IsClosing, next_between, further, distance_self, apart_distance}

module _ (count : ℕ) (tags : List ℕ) (rows : List Row) (gap group last later : ℕ) (w : IsClosing count tags rows gap group last)
    (p : later < length tags) (full : 0 < get_or tags later 0)
    (past : Passes tags rows later (gap / 16)) where
  abbrev moved_tags : List ℕ
  moved_tags = set (set tags later 0) gap (get_or tags later 0)

  abbrev moved_rows : List Row
  moved_rows = set rows gap (row_at rows later)

  same_length : length moved_tags ≡ length tags
  same_length = length-set (set tags later 0) gap (get_or tags later 0) ∙ length-set tags later 0

  not_gap : later ≡ gap → ⊥
  not_gap e = let z : 0 < get_or tags gap 0 = subst (λ n. 0 < get_or tags n 0) e full in let empty = w.empty in omega arith

  tag_at_gap : get_or moved_tags gap 0 ≡ get_or tags later 0
  tag_at_gap = get_or-set_same (set tags later 0) gap (get_or tags later 0) 0
      (let l = length-set tags later 0 in let g = w.gap_in_range in omega arith)

  tag_at_later : get_or moved_tags later 0 ≡ 0
  tag_at_later = get_or-set_other (set tags later 0) gap later (get_or tags later 0) 0 not_gap ∙ get_or-set_same tags later 0 0 p

  tag_at_other : (lane : ℕ) → (lane ≡ gap → ⊥) → (lane ≡ later → ⊥) → get_or moved_tags lane 0 ≡ get_or tags lane 0
  tag_at_other lane ne other = get_or-set_other (set tags later 0) gap lane (get_or tags later 0) 0 ne
      ∙ get_or-set_other tags later lane 0 0 other

  row_at_gap : row_at moved_rows gap ≡ row_at rows later
  row_at_gap = get_or-set_same rows gap (row_at rows later) no_row (let r = w.row_each in let g = w.gap_in_range in omega arith)

  row_at_other : (lane : ℕ) → (lane ≡ gap → ⊥) → row_at moved_rows lane ≡ row_at rows lane
  row_at_other lane ne = get_or-set_other rows gap lane (row_at rows later) no_row ne

  -- a full lane afterwards is the gap, or was full before and stays
  kept : (lane : ℕ) → 0 < get_or moved_tags lane 0 → (lane ≡ gap) ⊎ ((lane ≡ gap → ⊥) × (lane ≡ later → ⊥) × (0 < get_or tags lane 0))
  kept lane h =
      elim (same_or_not lane gap) [
        | inl e ↦ inl e
        | inr ne ↦ elim (same_or_not lane later) [
          | inl e ↦ absurd (let z : 0 < get_or moved_tags later 0 = subst (λ n. 0 < get_or moved_tags n 0) e h in
              omega (arith, z, tag_at_later))
          | inr other ↦ inr (ne, other, let z = tag_at_other lane ne other in omega (arith, z, h))
        ]
      ]

  -- a lane that was full, or is the gap, is full unless the row left it
  full_lane : (lane : ℕ) → (lane ≡ later → ⊥) → ((lane ≡ gap → ⊥) → 0 < get_or tags lane 0) → 0 < get_or moved_tags lane 0
  full_lane lane other before =
      elim (same_or_not lane gap) [
        | inl e ↦ let z : get_or moved_tags lane 0 ≡ get_or tags later 0 = subst (λ n. get_or moved_tags n 0 ≡ get_or tags later 0)
            (sym e) tag_at_gap in omega (arith, z, full)
        | inr ne ↦ let z = tag_at_other lane ne other in omega (arith, z, before ne)
      ]

  pub moved_in : (next : ℕ) → (group ≡ last → ⊥) → next < count → distance count group next ≡ 1 → later / 16 ≡ next
      → IsUnique (entries moved_tags moved_rows) → IsClosing count moved_tags moved_rows later next last
  moved_in next ne q step at unique =
      let lanes = w.lanes in
      let gap_lane = w.gap_in_range in
      let gap_group : gap / 16 < count = omega arith in
      let near = next_between count (gap / 16) group next last gap_group w.group_in_range q w.last_in_range step w.between ne in
      let same : group_count tags ≡ count = omega arith in
      let from = probe_start count (row_at rows later).hash in
      let passed : distance count from (gap / 16) < distance count from (later / 16) = subst
      (λ n. distance n (probe_start n (row_at rows later).hash) (gap / 16) < distance n (probe_start n (row_at rows later).hash)
      (later / 16)) same past in
      let at_self : distance count (later / 16) next ≡ 0 = subst (λ n. distance count n next ≡ 0) (sym at) (distance_self count next q) in
      record {
        power = w.power;
        lanes = same_length ∙ w.lanes;
        row_each = length-set rows gap (row_at rows later) ∙ w.row_each ∙ sym same_length;
        unique = unique;
        tagged = λ lane r h.
            elim (kept lane h) [
              | inl e ↦ subst (λ n. get_or moved_tags n 0 ≡ hash_tag (row_at moved_rows n).hash) (sym e)
                  (tag_at_gap ∙ w.tagged later p full ∙ ap (λ (x : Row). hash_tag x.hash) (sym row_at_gap))
              | inr k ↦ tag_at_other lane k.0 k.1 ∙ w.tagged lane (let l = same_length in omega arith) k.2
                  ∙ ap (λ (x : Row). hash_tag x.hash) (sym (row_at_other lane k.0))
            ];
        gap_in_range = let l = same_length in omega arith;
        empty = tag_at_later;
        group_in_range = q;
        last_in_range = w.last_in_range;
        between = omega (arith, at_self);
        full = λ u r less k s other.
            let within : distance count (gap / 16) u < distance count (gap / 16) last
            = further count (gap / 16) next last u gap_group q w.last_in_range r near.1
            (subst (λ n. distance count n u < distance count n last) at less) in
            full_lane (16 * u + k) other (w.full u r within k s);
        reached = λ lane r h u s before.
            elim (kept lane h) [
              | inl e ↦
                  let start_is : probe_start count (row_at moved_rows lane).hash ≡ from = ap
                  (λ n. probe_start count (row_at moved_rows n).hash) e ∙ ap (λ (x : Row). probe_start count x.hash) row_at_gap in
                  let less : distance count from u < distance count from (gap / 16) = subst
                  (λ n. distance count from u < distance count from (n / 16)) e
                  (subst (λ n. distance count n u < distance count n (lane / 16)) start_is before) in
                  elim (w.reached later p full u s (omega arith)) [
                    | inl whole ↦ inl (λ k t. full_lane (16 * u + k)
                        (λ z. let same_group : u ≡ later / 16 = omega arith in
                        let no : distance count from (later / 16) < distance count from (gap / 16) = subst
                        (λ n. distance count from n < distance count from (gap / 16)) same_group less in omega arith)
                        (λ _. whole k t))
                    | inr x ↦ absurd (let no : distance count from (gap / 16) < distance count from (gap / 16) = subst
                        (λ n. distance count from n < distance count from (gap / 16)) x.0 less in omega arith)
                  ]
              | inr k ↦
                  let start = probe_start count (row_at rows lane).hash in
                  let start_is : probe_start count (row_at moved_rows lane).hash ≡ start = ap (λ (x : Row). probe_start count x.hash)
                  (row_at_other lane k.0) in
                  let less : distance count start u < distance count start (lane / 16) = subst
                  (λ n. distance count n u < distance count n (lane / 16)) start_is before in
                  let in_range : lane < length tags = let l = same_length in omega arith in
                  let lane_group : lane / 16 < count = omega arith in
                  elim (w.reached lane in_range k.2 u s less) [
                    | inl whole ↦
                        elim (same_or_not u (later / 16)) [
                          | inl e ↦
                              let other : later / 16 ≡ lane / 16 → ⊥ = λ z. let no : distance count start (lane / 16) < distance count start
                              (lane / 16) = subst (λ n. distance count start n < distance count start (lane / 16)) (e ∙ z) less in
                              omega arith in
                              inr (e, omega (arith, at_self, apart_distance count (later / 16) (lane / 16) (omega arith) lane_group other))
                          | inr other ↦ inl (λ j t. full_lane (16 * u + j) (λ z. other (omega arith)) (λ _. whole j t))
                        ]
                    | inr x ↦
                        let ahead : distance count (gap / 16) u < distance count (gap / 16) last = subst
                        (λ n. distance count (gap / 16) n < distance count (gap / 16) last) (sym x.0)
                        (let z = distance_self count (gap / 16) gap_group in omega (arith, near.0, near.1, z)) in
                        let apart_groups : u ≡ later / 16 → ⊥ = λ z. let d : distance count (gap / 16) next ≡ 0 = ap
                        (distance count (gap / 16)) (sym at ∙ sym z ∙ x.0) ∙ distance_self count (gap / 16) gap_group in
                        omega (arith, near.0, d) in
                        inl (λ j t. full_lane (16 * u + j) (λ z. apart_groups (omega arith)) (w.full u s ahead j t))
                  ]
            ];
        not_past_last = λ lane r h.
            elim (kept lane h) [
              | inl e ↦
                  let start_is : probe_start count (row_at moved_rows lane).hash ≡ from = ap
                  (λ n. probe_start count (row_at moved_rows n).hash) e ∙ ap (λ (x : Row). probe_start count x.hash) row_at_gap in
                  let least : distance count from (gap / 16) ≤ distance count from last = let z = w.not_past_last later p full in
                  omega arith in
                  subst (λ n. distance count n (lane / 16) ≤ distance count n last) (sym start_is)
                  (subst (λ n. distance count from (n / 16) ≤ distance count from last) (sym e) least)
              | inr k ↦
                  let start_is : probe_start count (row_at moved_rows lane).hash ≡ probe_start count (row_at rows lane).hash = ap
                  (λ (x : Row). probe_start count x.hash) (row_at_other lane k.0) in
                  subst (λ n. distance count n (lane / 16) ≤ distance count n last) (sym start_is)
                  (w.not_past_last lane (let l = same_length in omega arith) k.2)
            ];
      }
