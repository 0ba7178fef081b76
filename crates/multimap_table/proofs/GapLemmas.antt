-- The gap that a removal leaves, as it moves on from group to group.
use Rattle.std.proofs.Common.{◌≡◌, ℕ, ◌+◌, ◌*◌, ◌/◌, ◌%◌, ◌<◌, ◌≤◌, ◌⊎◌, inl, inr, List, length, get_or, set, sym, ap, subst, ◌∙◌, arith}
use Rattle.std.proofs.Common.{length-set, get_or-set_same, get_or-set_other}
use native.Mathlib.Decide.{dec_lt}
use Rattle.multimap_table.specs.declared.group.Row.{Row}
use Rattle.multimap_table.specs.Private.Entries.{entries, IsUnique, row_at}
use Rattle.multimap_table.specs.Private.Layout.{IsGroupCount, IsFull, Reaches, Passes, IsLaidOut, distance, group_count, hash_tag}
use Rattle.multimap_table.specs.Private.Layout.{probe_start}
use Rattle.multimap_table.proofs.CycleLemmas.{distance_cases, distance_injective, probe_start-lt}
use Rattle.multimap_table.proofs.LayoutLemmas.{same_or_not, get_set_same}

-- lanes that are laid out but for one gap, which rows behind the last group looked at may pass
pub record IsClosing (count : ℕ) (tags : List ℕ) (rows : List Row) (gap group last : ℕ) : Type 0 where
  pub power : IsGroupCount count
  pub lanes : length tags ≡ 16 * count
  pub row_each : length rows ≡ length tags
  pub unique : IsUnique (entries tags rows)
  pub tagged : (lane : ℕ) → lane < length tags → 0 < get_or tags lane 0 → get_or tags lane 0 ≡ hash_tag (row_at rows lane).hash
  pub gap_in_range : gap < length tags
  pub empty : get_or tags gap 0 ≡ 0
  pub group_in_range : group < count
  pub last_in_range : last < count
  pub between : distance count (gap / 16) group ≤ distance count (gap / 16) last
  pub full : (u : ℕ) → u < count → distance count (gap / 16) u < distance count (gap / 16) last → (k : ℕ) → k < 16 → (16 * u + k ≡ gap → ⊥)
      → 0 < get_or tags (16 * u + k) 0
  pub reached : (lane : ℕ) → lane < length tags → 0 < get_or tags lane 0 → (u : ℕ) → u < count
      → distance count (probe_start count (row_at rows lane).hash) u < distance count (probe_start count (row_at rows lane).hash)
      (lane / 16)
      → IsFull tags u ⊎ ((u ≡ gap / 16) × (distance count (gap / 16) group < distance count (gap / 16) (lane / 16)))
  pub not_past_last : (lane : ℕ) → lane < length tags → 0 < get_or tags lane 0
      → distance count (probe_start count (row_at rows lane).hash) (lane / 16) ≤ distance count
      (probe_start count (row_at rows lane).hash) last

-- ---- distances
module _ (count : ℕ) where
  -- a row that lies behind the gap's group by more than the last group would lie behind the last group too
  behind_last : (start gap last at : ℕ) → start < count → gap < count → last < count → at < count
      → distance count start gap < distance count start at → distance count gap last < distance count gap at
      → distance count start at ≤ distance count start last → ⊥
  behind_last start gap last at p q r s past far near =
      omega (
        arith,
        distance_cases count start gap p,
        distance_cases count start at p,
        distance_cases count start last p,
        distance_cases
            count gap last q,
        distance_cases count gap at q,
      )

  pub next_between : (gap group next last : ℕ) → gap < count → group < count → next < count → last < count → distance count group next ≡ 1
      → distance count gap group ≤ distance count gap last → (group ≡ last → ⊥)
      → (distance count gap next ≡ distance count gap group + 1) × (distance count gap next ≤ distance count gap last)
  next_between gap group next last p q r s step near ne =
      omega (
        arith,
        distance_cases count group next q,
        distance_cases count gap group p,
        distance_cases count gap next p,
        distance_cases
            count gap last p,
      )

  pub further : (gap next last u : ℕ) → gap < count → next < count → last < count → u < count
      → distance count gap next ≤ distance count gap last → distance count next u < distance count next last
      → distance count gap u < distance count gap last
  further gap next last u p q r s near less =
      omega (
        arith,
        distance_cases count gap next p,
        distance_cases count gap last p,
        distance_cases count next u q,
        distance_cases count
            next last q,
        distance_cases count gap u p,
      )

  pub distance_self : (a : ℕ) → a < count → distance count a a ≡ 0
  distance_self a p = omega (arith, distance_cases count a a p)

  pub apart_distance : (a b : ℕ) → a < count → b < count → (a ≡ b → ⊥) → 0 < distance count a b
  apart_distance a b p q ne = omega (arith, distance_cases count a b p)

  pub falls : (group next last : ℕ) → group < count → next < count → last < count → distance count group next ≡ 1 → (group ≡ last → ⊥)
      → distance count next last < distance count group last
  falls group next last p q r step ne = omega (
    arith,
    distance_cases count group next p,
    distance_cases count next last q,
    distance_cases
        count group last p,
  )

count-pos : (count n : ℕ) → n < 16 * count → 0 < count
count-pos count n p = omega arith

-- ---- the end: the gap is closed, or lies where a gap was before
pub closed : (count : ℕ) (tags : List ℕ) (rows : List Row) (gap last : ℕ) → IsClosing count tags rows gap last last → IsLaidOut tags rows
closed count tags rows gap last w =
    let same : group_count tags ≡ count = let l = w.lanes in omega arith in
    let some : 0 < count = count-pos count gap (let l = w.lanes in let g = w.gap_in_range in omega arith) in
    record {
      sized = record {
        count = subst IsGroupCount (sym same) w.power;
        whole_groups = w.lanes
            ∙ ap (λ n. 16 * n) (sym same);
        row_each = w.row_each;
      };
      reachable = record {
        tagged = w.tagged;
        reached = λ lane p full.
            let start = probe_start count (row_at rows lane).hash in
            subst (λ n. (u : ℕ) → u < n → distance n (probe_start n (row_at rows lane).hash) u < distance n
            (probe_start n (row_at rows lane).hash) (lane / 16) → IsFull tags u) (sym same) (λ u q near.
            elim (w.reached lane p full u q near) [
              | inl h ↦ h
              | inr h ↦
                  let at : lane / 16 < count = let l = w.lanes in omega arith in
                  let gap_group : gap / 16 < count = let l = w.lanes in let g = w.gap_in_range in omega arith in
                  absurd (behind_last count start (gap / 16) last (lane / 16)
                  (probe_start-lt count (row_at rows lane).hash some) gap_group w.last_in_range at
                  (subst (λ n. distance count start n < distance count start (lane / 16)) h.0 near) h.1 (w.not_past_last lane p full))
            ]);
      };
      unique = w.unique;
    }

-- ---- the start: a full lane is emptied
pub opened : (tags : List ℕ) (rows : List Row) (lane room : ℕ) → IsLaidOut tags rows → lane < length tags → 0 < get_or tags lane 0
    → room < length tags → get_or tags room 0 ≡ 0
    → Reaches tags (lane / 16) (room / 16) → IsUnique (entries (set tags lane 0) rows)
    → IsClosing (group_count tags) (set tags lane 0) rows lane (lane / 16) (room / 16)
opened tags rows lane room old p full q free reaches unique =
    let count = group_count tags in
    let sized = old.sized in
    let same = length-set tags lane 0 in
    let kept : (i : ℕ) → 0 < get_or (set tags lane 0) i 0 → (i < length tags)
    → (0 < get_or tags i 0) × (get_or (set tags lane 0) i 0 ≡ get_or tags i 0)
    = λ i h r. elim (same_or_not i lane) [
      | inl e ↦ absurd (let z = get_set_same tags lane i 0 0 e p in omega (arith, z, h))
      | inr ne ↦ let z = get_or-set_other tags lane i 0 0 ne in (omega (arith, z, h), z)
    ] in
    let whole = sized.whole_groups in
    let group : lane / 16 < count = omega arith in
    let last : room / 16 < count = omega arith in
    record {
      power = sized.count;
      lanes = same ∙ whole;
      row_each = sized.row_each ∙ sym same;
      unique = unique;
      tagged = λ i r h. let k = kept i h (omega arith) in k.1 ∙ old.reachable.tagged i (omega arith) k.0;
      gap_in_range = omega arith;
      empty = get_or-set_same tags lane 0 0 p;
      group_in_range = group;
      last_in_range = last;
      between = omega (arith, distance_self count (lane / 16) group);
      full = λ u r near k s ne. let z = get_or-set_other tags lane (16 * u + k) 0 0 ne in omega (arith, z, reaches u r near k s);
      reached = λ i r h u s near.
          let k = kept i h (omega arith) in
          let whole_group = old.reachable.reached i (omega arith) k.0 u s near in
          elim (same_or_not u (lane / 16)) [
            | inl e ↦
                let at : i / 16 < count = omega arith in
                inr (
                  e,
                  let ne : lane / 16 ≡ i / 16 → ⊥ = λ z. let start = probe_start count (row_at rows i).hash in
                      let near' : distance count start (i / 16) < distance count start (i / 16) = subst
                      (λ n. distance count start n < distance count start (i / 16)) (e ∙ z) near in omega arith in
                      omega (arith, distance_self count (lane / 16) group, apart_distance count (lane / 16) (i / 16) group at ne),
                )
            | inr ne ↦ inl (λ j t. let other : 16 * u + j ≡ lane → ⊥ = λ z. ne (omega arith) in
                let z = get_or-set_other tags lane (16 * u + j) 0 0 other in omega (arith, z, whole_group j t))
          ];
      not_past_last = λ i r h.
          let k = kept i h (omega arith) in
          let start = probe_start count (row_at rows i).hash in
          elim (dec_lt (distance count start (room / 16)) (distance count start (i / 16))) [
            | yes far ↦ absurd (let whole_group = old.reachable.reached i (omega arith) k.0 (room / 16) last far in
                let at : 16 * (room / 16) + room % 16 ≡ room = omega arith in
                let some : 0 < get_or tags room 0 = subst (λ n. 0 < get_or tags n 0) at (whole_group (room % 16) (omega arith)) in
                omega (arith, some, free))
            | no near ↦ omega arith
          ];
    }

-- ---- a step: no row of the next group passes the gap
pub passed_by : (count : ℕ) (tags : List ℕ) (rows : List Row) (gap group next last : ℕ) → IsClosing count tags rows gap group last
    → (group ≡ last → ⊥) → next < count → distance count group next ≡ 1
    → ((lane : ℕ) → lane / 16 ≡ next → 0 < get_or tags lane 0 → Passes tags rows lane (gap / 16) → ⊥)
    → IsClosing count tags rows gap next last
passed_by count tags rows gap group next last w ne q step none =
    let gap_group : gap / 16 < count = let l = w.lanes in let g = w.gap_in_range in omega arith in
    let near = next_between count (gap / 16) group next last gap_group w.group_in_range q w.last_in_range step w.between ne in
    let same : count ≡ group_count tags = let l = w.lanes in omega arith in
    record {
      power = w.power;
      lanes = w.lanes;
      row_each = w.row_each;
      unique = w.unique;
      tagged = w.tagged;
      gap_in_range = w.gap_in_range;
      empty = w.empty;
      group_in_range = q;
      last_in_range = w.last_in_range;
      between = near.1;
      full = w.full;
      reached = λ lane p full u r before.
          let at : lane / 16 < count = let l = w.lanes in omega arith in
          elim (w.reached lane p full u r before) [
            | inl h ↦ inl h
            | inr h ↦
                elim (same_or_not (lane / 16) next) [
                  | inl e ↦
                      let start = probe_start count (row_at rows lane).hash in
                      let past : distance count start (gap / 16) < distance count start (lane / 16) = subst
                      (λ n. distance count start n < distance count start (lane / 16)) h.0 before in
                      absurd (none lane e full (subst (λ n. distance n (probe_start n (row_at rows lane).hash) (gap / 16) < distance n
                      (probe_start n (row_at rows lane).hash) (lane / 16)) same past))
                  | inr apart ↦
                      let other : distance count (gap / 16) (lane / 16) ≡ distance count (gap / 16) next
                      → ⊥ = λ z. apart (distance_injective count (gap / 16) (lane / 16) next gap_group at q z) in
                      inr (h.0, omega (arith, h.1, near.0, other))
                ]
          ];
      not_past_last = w.not_past_last;
    }
