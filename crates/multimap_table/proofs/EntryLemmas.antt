-- The rows that lie in the lanes, as a list of entries: what one put in or taken out changes.
use Rattle.std.proofs.Common.{◌≡◌, ℕ, zero, suc, ◌+◌, ◌<◌, Bool, true, false, cond, Option, None, Some, List, [], ◌∷◌, length, get_or, set}
use Rattle.std.proofs.Common.{replicate, refl, sym, ap, ◌∙◌, arith, eqb-true, eq-eqb}
use Rattle.std.specs.Ordering.{nat_cmp, eq_by_cmp}
use Rattle.std.specs.Cmp.{unsigned_tied}
use Rattle.std.specs.FinMap.{find}
use Rattle.multimap_table.specs.declared.group.Row.{Row}
use Rattle.multimap_table.specs.Private.Entries.{entries, IsUnique, row_at}
use Rattle.multimap_table.specs.Private.Layout.{HasRoom}

abbrev pub tied : ℕ → ℕ → Bool
tied x y = eq_by_cmp nat_cmp x y

pub same_from_tied : (x y : ℕ) → tied x y ≡ true → x ≡ y
same_from_tied x y e = eqb-true x y (sym (unsigned_tied x y) ∙ e)

pub tied_from_same : (x y : ℕ) → x ≡ y → tied x y ≡ true
tied_from_same x y e = unsigned_tied x y ∙ eq-eqb x y e

pub not_tied : (x y : ℕ) → (x ≡ y → ⊥) → tied x y ≡ false
not_tied x y ne = elim (tied x y) as (λ b. tied x y ≡ b → b ≡ false) [ true ↦ λ e. absurd (ne (same_from_tied x y e)) | false ↦ λ e. refl ]
    refl

pub swapped : {X : Type 0} (b d : Bool) (u v x : X) → (b ≡ true → d ≡ true → ⊥) → cond b u (cond d v x) ≡ cond d v (cond b u x)
swapped true true u v x apart = absurd (apart refl refl)
swapped true false u v x apart = refl
swapped false true u v x apart = refl
swapped false false u v x apart = refl

none_of_cond : {X : Type 0} (b : Bool) (x : X) (y : Option X) → cond b (Some x) y ≡ None → (b ≡ false) × (y ≡ None)
none_of_cond true x y e = absurd (cc)
none_of_cond false x y e = (refl, e)

-- two places of which one is in a list and the other is not
pub apart : (x y h : ℕ) (es : List (ℕ × ℕ)) → find nat_cmp x es ≡ None → find nat_cmp y es ≡ Some h → x ≡ y → ⊥
apart x y h es none some e = let z : ◌≡◌ {A = Option ℕ} None (Some h) = sym none ∙ ap (λ k. find nat_cmp k es) e ∙ some in cc

-- ---- a full lane, and the map
pub find_full : (tags : List ℕ) (rows : List Row) (i : ℕ) → IsUnique (entries tags rows) → length rows ≡ length tags → i < length tags
    → 0 < get_or tags i 0
    → find nat_cmp (row_at rows i).place (entries tags rows) ≡ Some (row_at rows i).hash
find_full [] rows i unique same p full = absurd (omega arith)
find_full (tag ∷ tags) [] i unique same p full = absurd (omega arith)
find_full (zero ∷ tags) (row ∷ rows) zero unique same p full = absurd (omega arith)
find_full (suc tag ∷ tags) (row ∷ rows) zero unique same p full = ap
    (λ b. cond b (Some row.hash) (find nat_cmp row.place (entries tags rows))) (tied_from_same row.place row.place refl)
find_full (zero ∷ tags) (row ∷ rows) (suc i) unique same p full = find_full tags rows i unique (omega arith) (omega arith) full
find_full (suc tag ∷ tags) (row ∷ rows) (suc i) unique same p full =
    let rest = find_full tags rows i unique.1 (omega arith) (omega arith) full in
    ap (λ b. cond b (Some row.hash) (find nat_cmp (row_at rows i).place (entries tags rows)))
    (not_tied (row_at rows i).place row.place (λ e. apart row.place (row_at rows i).place (row_at rows i).hash
    (entries tags rows) unique.0 rest (sym e))) ∙ rest

-- the lane that holds a row
pub record LaneOf (tags : List ℕ) (rows : List Row) (place hash : ℕ) : Type 0 where
  pub lane : ℕ
  pub in_range : lane < length tags
  pub full : 0 < get_or tags lane 0
  pub same_place : (row_at rows lane).place ≡ place
  pub same_hash : (row_at rows lane).hash ≡ hash

lane_behind : (tag : ℕ) (tags : List ℕ) (row : Row) (rows : List Row) (place hash : ℕ) → LaneOf tags rows place hash
    → LaneOf (tag ∷ tags) (row ∷ rows) place hash
lane_behind tag tags row rows place hash w = record {
  lane = suc w.lane;
  in_range = omega
      (arith, w.in_range);
  full = w.full;
  same_place = w.same_place;
  same_hash = w.same_hash;
}

some_of_some : (x y : ℕ) → ◌≡◌ {A = Option ℕ} (Some x) (Some y) → x ≡ y
some_of_some x y e = cc

pub lane_of : (tags : List ℕ) (rows : List Row) (place hash : ℕ) → find nat_cmp place (entries tags rows) ≡ Some hash
    → LaneOf tags rows place hash
lane_of [] rows place hash e = absurd (cc)
lane_of (tag ∷ tags) [] place hash e = absurd (cc)
lane_of (zero ∷ tags) (row ∷ rows) place hash e = lane_behind zero tags row rows place hash (lane_of tags rows place hash e)
lane_of (suc tag ∷ tags) (row ∷ rows) place hash e =
    elim (tied place row.place) as (λ b. tied place row.place ≡ b
    → cond b (Some row.hash) (find nat_cmp place (entries tags rows)) ≡ Some hash → LaneOf (suc tag ∷ tags) (row ∷ rows) place hash) [
      | true ↦ λ t h. record {
        lane = 0;
        in_range = omega arith;
        full = omega arith;
        same_place = sym
            (same_from_tied place row.place t);
        same_hash = some_of_some row.hash hash h;
      }
      | false ↦ λ t h. lane_behind (suc tag) tags row rows place hash (lane_of tags rows place hash h)
    ] refl e

-- ---- a row put into an empty lane
pub find_put : (tags : List ℕ) (rows : List Row) (i tag : ℕ) (row : Row) → length rows ≡ length tags → i < length tags → get_or tags i 0 ≡ 0
    → find nat_cmp row.place (entries tags rows) ≡ None
    → (q : ℕ) → find nat_cmp q (entries (set tags i (suc tag)) (set rows i row)) ≡ cond (tied q row.place) (Some row.hash)
    (find nat_cmp q (entries tags rows))
find_put [] rows i tag row same p free none q = absurd (omega arith)
find_put (t ∷ tags) [] i tag row same p free none q = absurd (omega arith)
find_put (zero ∷ tags) (r ∷ rows) zero tag row same p free none q = refl
find_put (suc t ∷ tags) (r ∷ rows) zero tag row same p free none q = absurd (omega arith)
find_put (zero ∷ tags) (r ∷ rows) (suc i) tag row same p free none q = find_put tags rows i tag row (omega arith) (omega arith) free none q
find_put (suc t ∷ tags) (r ∷ rows) (suc i) tag row same p free none q =
    let w = none_of_cond (tied row.place r.place) r.hash (find nat_cmp row.place (entries tags rows)) none in
    ap (cond (tied q r.place) (Some r.hash)) (find_put tags rows i tag row (omega arith) (omega arith) free w.1 q)
    ∙ swapped (tied q r.place) (tied q row.place) (Some r.hash) (Some row.hash) (find nat_cmp q (entries tags rows))
    (λ a b. let z : ◌≡◌ {A = Bool} true false = sym
    (tied_from_same row.place r.place (sym (same_from_tied q row.place b) ∙ same_from_tied q r.place a)) ∙ w.0 in cc)

pub unique_put : (tags : List ℕ) (rows : List Row) (i tag : ℕ) (row : Row) → length rows ≡ length tags → i < length tags
    → get_or tags i 0 ≡ 0 → find nat_cmp row.place (entries tags rows) ≡ None
    → IsUnique (entries tags rows) → IsUnique (entries (set tags i (suc tag)) (set rows i row))
unique_put [] rows i tag row same p free none unique = absurd (omega arith)
unique_put (t ∷ tags) [] i tag row same p free none unique = absurd (omega arith)
unique_put (zero ∷ tags) (r ∷ rows) zero tag row same p free none unique = (none, unique)
unique_put (suc t ∷ tags) (r ∷ rows) zero tag row same p free none unique = absurd (omega arith)
unique_put (zero ∷ tags) (r ∷ rows) (suc i) tag row same p free none unique = unique_put tags rows i tag row (omega arith)
    (omega arith) free none unique
unique_put (suc t ∷ tags) (r ∷ rows) (suc i) tag row same p free none unique =
    let w = none_of_cond (tied row.place r.place) r.hash (find nat_cmp row.place (entries tags rows)) none in
    let other : tied r.place row.place ≡ false = not_tied r.place row.place
    (λ e. let z : ◌≡◌ {A = Bool} true false = sym (tied_from_same row.place r.place (sym e)) ∙ w.0 in cc) in (
      find_put tags rows i tag row (omega arith) (omega arith) free w.1 r.place
          ∙ ap (λ b. cond b (Some row.hash) (find nat_cmp r.place (entries tags rows))) other ∙ unique.0,
      unique_put tags rows i tag row (omega arith) (omega arith) free w.1 unique.1,
    )

pub length_put : (tags : List ℕ) (rows : List Row) (i tag : ℕ) (row : Row) → length rows ≡ length tags → i < length tags
    → get_or tags i 0 ≡ 0
    → length (entries (set tags i (suc tag)) (set rows i row)) ≡ length (entries tags rows) + 1
length_put [] rows i tag row same p free = absurd (omega arith)
length_put (t ∷ tags) [] i tag row same p free = absurd (omega arith)
length_put (zero ∷ tags) (r ∷ rows) zero tag row same p free = omega arith
length_put (suc t ∷ tags) (r ∷ rows) zero tag row same p free = absurd (omega arith)
length_put (zero ∷ tags) (r ∷ rows) (suc i) tag row same p free = length_put tags rows i tag row (omega arith) (omega arith) free
length_put (suc t ∷ tags) (r ∷ rows) (suc i) tag row same p free = omega
    (arith, length_put tags rows i tag row (omega arith) (omega arith) free)

-- ---- a row taken out of its lane
pub find_erase : (tags : List ℕ) (rows : List Row) (i : ℕ) → IsUnique (entries tags rows) → length rows ≡ length tags → i < length tags
    → 0 < get_or tags i 0
    → (q : ℕ) → find nat_cmp q (entries (set tags i 0) rows) ≡ cond (tied q (row_at rows i).place) None (find nat_cmp q (entries tags rows))
find_erase [] rows i unique same p full q = absurd (omega arith)
find_erase (tag ∷ tags) [] i unique same p full q = absurd (omega arith)
find_erase (zero ∷ tags) (row ∷ rows) zero unique same p full q = absurd (omega arith)
find_erase (suc tag ∷ tags) (row ∷ rows) zero unique same p full q =
    elim (tied q row.place) as (λ b. tied q row.place ≡ b
    → find nat_cmp q (entries tags rows) ≡ cond b None (cond b (Some row.hash) (find nat_cmp q (entries tags rows)))) [
      | true ↦ λ e. ap (λ k. find nat_cmp k (entries tags rows)) (same_from_tied q row.place e) ∙ unique.0
      | false ↦ λ e. refl
    ] refl
find_erase (zero ∷ tags) (row ∷ rows) (suc i) unique same p full q = find_erase tags rows i unique (omega arith) (omega arith) full q
find_erase (suc tag ∷ tags) (row ∷ rows) (suc i) unique same p full q =
    let there = find_full tags rows i unique.1 (omega arith) (omega arith) full in
    let place = (row_at rows i).place in
    ap (cond (tied q row.place) (Some row.hash)) (find_erase tags rows i unique.1 (omega arith) (omega arith) full q)
    ∙ swapped (tied q row.place) (tied q place) (Some row.hash) None (find nat_cmp q (entries tags rows))
    (λ a b. apart row.place place (row_at rows i).hash (entries tags rows) unique.0 there
    (sym (same_from_tied q row.place a) ∙ same_from_tied q place b))

cond_none : (b : Bool) (y : Option ℕ) → y ≡ None → cond b None y ≡ None
cond_none true y e = refl
cond_none false y e = e

pub unique_erase : (tags : List ℕ) (rows : List Row) (i : ℕ) → IsUnique (entries tags rows) → length rows ≡ length tags → i < length tags
    → 0 < get_or tags i 0 → IsUnique (entries (set tags i 0) rows)
unique_erase [] rows i unique same p full = absurd (omega arith)
unique_erase (tag ∷ tags) [] i unique same p full = absurd (omega arith)
unique_erase (zero ∷ tags) (row ∷ rows) zero unique same p full = absurd (omega arith)
unique_erase (suc tag ∷ tags) (row ∷ rows) zero unique same p full = unique.1
unique_erase (zero ∷ tags) (row ∷ rows) (suc i) unique same p full = unique_erase tags rows i unique (omega arith) (omega arith) full
unique_erase (suc tag ∷ tags) (row ∷ rows) (suc i) unique same p full = (
  find_erase tags rows i unique.1 (omega arith) (omega arith) full row.place
      ∙ cond_none (tied row.place (row_at rows i).place) (find nat_cmp row.place (entries tags rows)) unique.0,
  unique_erase tags rows i unique.1 (omega arith) (omega arith) full,
)

pub length_erase : (tags : List ℕ) (rows : List Row) (i : ℕ) → length rows ≡ length tags → i < length tags → 0 < get_or tags i 0
    → length (entries (set tags i 0) rows) + 1 ≡ length (entries tags rows)
length_erase [] rows i same p full = absurd (omega arith)
length_erase (tag ∷ tags) [] i same p full = absurd (omega arith)
length_erase (zero ∷ tags) (row ∷ rows) zero same p full = absurd (omega arith)
length_erase (suc tag ∷ tags) (row ∷ rows) zero same p full = omega arith
length_erase (zero ∷ tags) (row ∷ rows) (suc i) same p full = length_erase tags rows i (omega arith) (omega arith) full
length_erase (suc tag ∷ tags) (row ∷ rows) (suc i) same p full = omega (arith, length_erase tags rows i (omega arith) (omega arith) full)

-- ---- an empty lane
pub room_from_count : (tags : List ℕ) (rows : List Row) → length rows ≡ length tags → length (entries tags rows) < length tags
    → HasRoom tags
room_from_count [] rows same few = absurd (omega arith)
room_from_count (tag ∷ tags) [] same few = absurd (omega arith)
room_from_count (zero ∷ tags) (row ∷ rows) same few = (0, omega arith, refl)
room_from_count (suc tag ∷ tags) (row ∷ rows) same few = let w = room_from_count tags rows (omega arith) (omega arith) in
    (suc w.0, omega (arith, w.1), w.2)

pub entries-replicate : (n : ℕ) (rows : List Row) → entries (replicate n 0) rows ≡ []
entries-replicate zero rows = refl
entries-replicate (suc n) [] = refl
entries-replicate (suc n) (row ∷ rows) = entries-replicate n rows
