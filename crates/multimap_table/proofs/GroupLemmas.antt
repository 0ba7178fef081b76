-- Full groups, and what a probe through them has seen.
use Rattle.std.proofs.Common.{◌≡◌, ℕ, ◌+◌, ◌*◌, ◌/◌, ◌^◌, ◌<◌, List, length, get_or, sym, ap, subst, ◌∙◌, arith}
use native.Mathlib.Decide.{dec_lt}
use lib.Count.{count_trailing_zeros}
use Rattle.multimap_table.specs.declared.group.Row.{Row}
use Rattle.multimap_table.specs.Private.Entries.{row_at}
use Rattle.multimap_table.specs.Private.Layout.{IsBitSet, IsFull, IsSized, IsReachable, HoldsHash, distance, group_count, hash_tag}
use Rattle.multimap_table.specs.Private.Layout.{probe_start}
use Rattle.multimap_table.proofs.BitLemmas.{no_bit_zero, bit_trailing_zeros}
use Rattle.multimap_table.proofs.CycleLemmas.{distance_injective}

-- a group is full where the mask of its empty lanes is empty
pub full_from_mask : (tags : List ℕ) (group mask : ℕ) → mask ≡ 0 → ((k : ℕ) → k < 16 → get_or tags (16 * group + k) 0 ≡ 0 → IsBitSet mask k)
    → IsFull tags group
full_from_mask tags group mask none all lane p =
    elim (dec_lt 0 (get_or tags (16 * group + lane) 0)) [
      | yes q ↦ q
      | no q ↦ absurd (no_bit_zero lane (subst (λ n. IsBitSet n lane) none (all lane p (omega arith))))
    ]

-- one more group is full
pub full_one_more : (tags : List ℕ) (start step group : ℕ) → start < group_count tags → group < group_count tags
    → distance (group_count tags) start group ≡ step
    → ((u : ℕ) → u < group_count tags → distance (group_count tags) start u < step → IsFull tags u) → IsFull tags group
    → (u : ℕ) → u < group_count tags → distance (group_count tags) start u < step + 1 → IsFull tags u
full_one_more tags start step group p q at before here u r near =
    elim (dec_lt (distance (group_count tags) start u) step) [
      | yes s ↦ before u r s
      | no s ↦ subst (IsFull tags) (distance_injective (group_count tags) start group u p q r (omega arith)) here
    ]

-- a group is not full where the mask of its empty lanes has a bit
pub not_full_from_mask : (tags : List ℕ) (group mask : ℕ) → (mask ≡ 0 → ⊥) → mask < 2 ^ 64
    → ((k : ℕ) → IsBitSet mask k → (k < 16) × (get_or tags (16 * group + k) 0 ≡ 0)) → IsFull tags group → ⊥
not_full_from_mask tags group mask some fits only full =
    let lane = count_trailing_zeros 64 mask in
    let empty = only lane (bit_trailing_zeros 64 mask (omega arith) fits) in
    omega (arith, full lane empty.0, empty.1)

pub group_of-lt : (tags : List ℕ) (lane : ℕ) → length tags ≡ 16 * group_count tags → lane < length tags → lane / 16 < group_count tags
group_of-lt tags lane whole p = omega arith

-- a look-up that has missed all rows of the hash in so many groups, and in one more
module _ (Missed : ℕ → Type 0) (tags : List ℕ) (rows : List Row) (hash start step group : ℕ) (sized : IsSized tags rows)
    (reachable : IsReachable tags rows)
    (in_start : start < group_count tags) (in_group : group < group_count tags) (at : distance (group_count tags) start group ≡ step)
    (before : (lane : ℕ) → HoldsHash tags rows hash lane → distance (group_count tags) start (lane / 16) < step → Missed lane)
    (here : (lane : ℕ) → (lane / 16 ≡ group) × (get_or tags lane 0 ≡ hash_tag hash) × ((row_at rows lane).hash ≡ hash) → Missed lane) where
  pub missed_one_more : (lane : ℕ) → HoldsHash tags rows hash lane → distance (group_count tags) start (lane / 16) < step + 1 → Missed lane
  missed_one_more lane holds near =
      elim (dec_lt (distance (group_count tags) start (lane / 16)) step) [
        | yes s ↦ before lane holds s
        | no s ↦ here lane (
          distance_injective (group_count tags) start (lane / 16) group in_start
              (group_of-lt tags lane sized.whole_groups holds.in_range) in_group (omega arith),
          reachable.tagged lane holds.in_range holds.full ∙ ap hash_tag holds.same_hash,
          holds.same_hash,
        )
      ]

  -- a group with an empty lane ends the look-up
  pub missed_at_stop : start ≡ probe_start (group_count tags) hash → (IsFull tags group → ⊥) → (lane : ℕ) → HoldsHash tags rows hash lane
      → Missed lane
  missed_at_stop is_start stops lane holds =
      elim (dec_lt (distance (group_count tags) start (lane / 16)) (step + 1)) [
        | yes s ↦ missed_one_more lane holds s
        | no s ↦
            let from : probe_start (group_count tags) (row_at rows lane).hash ≡ start = ap (probe_start (group_count tags)) holds.same_hash
            ∙ sym is_start in
            absurd (stops (subst (λ n. distance (group_count tags) n group < distance (group_count tags) n (lane / 16) → IsFull tags group)
            from (reachable.reached lane holds.in_range holds.full group in_group) (omega arith)))
      ]
