-- The runs of a tape: where each one begins and ends, and how a change within some places keeps the others.
use Rattle.std.proofs.Common.{◌≡◌, ◌⊎◌, ℕ, zero, suc, ◌+◌, ◌-◌, ◌<◌, ◌≤◌, List, length, get_or, set, refl, sym, ap, ◌∙◌, inl, inr, arith}
use Rattle.std.proofs.lemmas.Bool.{cases_eq, cases_lt}
use Rattle.std.proofs.lemmas.List.{get_or-set_same, get_or-set_other, get_or_past, get_or_default}
use Rattle.multimap_slots.specs.Private.Runs.{before, IsRun, HasItemAt, HasLength, AreRuns}

-- a number is 0, or it isn't
pub zero_or : (n : ℕ) → (n ≡ 0) ⊎ (0 < n)
zero_or zero = inl refl
zero_or (suc n) = inr (omega arith)

-- the places from a first to a last
pub record RunFrom (runs : List ℕ) (start : ℕ) : Type 0 where
  pub end : ℕ
  pub run : IsRun runs start end

pub record RunTo (runs : List ℕ) (end : ℕ) : Type 0 where
  pub start : ℕ
  pub run : IsRun runs start end

module _ (runs : List ℕ) where
  -- a hole is one of the numbers
  pub hole_within : (p : ℕ) → 0 < get_or runs p 0 → p < length runs
  hole_within p hole = elim (cases_lt p (length runs)) [
    | inl below ↦ below
    | inr past ↦ absurd (omega (arith, hole, get_or_past runs p 0 past))
  ]

  holes_from : (fuel start : ℕ) → length runs ≤ start + fuel
      → (end : ℕ) × (start ≤ end) × ((p : ℕ) → start ≤ p → p < end → 0 < get_or runs p 0) × (get_or runs end 0 ≡ 0)
  holes_from zero start enough = (
    start,
    omega arith,
    λ p from below. absurd (omega (arith, from, below)),
    get_or_past runs start 0
        (omega (arith, enough)),
  )
  holes_from (suc fuel) start enough = elim (zero_or (get_or runs start 0)) [
    | inl none ↦ (start, omega arith, λ p from below. absurd (omega (arith, from, below)), none)
    | inr some ↦
        let rest = holes_from fuel (suc start) (omega (arith, enough)) in (
          rest.0,
          omega (arith, rest.1),
          λ p from below. elim
              (cases_eq p start) [ inl same ↦ rw same some | inr differs ↦ rest.2 p (omega (arith, from, differs)) below ],
          rest.3,
        )
  ]

  holes_to : (end : ℕ) → (start : ℕ) × (start ≤ end) × (before runs start ≡ 0) × ((p : ℕ) → start ≤ p → p < end → 0 < get_or runs p 0)
  holes_to zero = (0, omega arith, refl, λ p from below. absurd (omega (arith, below)))
  holes_to (suc q) = elim (zero_or (get_or runs q 0)) [
    | inl none ↦ (suc q, omega arith, none, λ p from below. absurd (omega (arith, from, below)))
    | inr some ↦
        let rest = holes_to q in (
          rest.0,
          omega (arith, rest.1),
          rest.2,
          λ p from below. elim
              (cases_eq p q) [ inl same ↦ rw same some | inr differs ↦ rest.3 p from (omega (arith, below, differs)) ],
        )
  ]

  pub run_from : (start : ℕ) → before runs start ≡ 0 → RunFrom runs start
  run_from start starts =
      let h = holes_from (length runs) start (omega arith) in
      record { end = h.0; run = record { rises = h.1; starts = starts; holes = h.2; stops = h.3 } }

  pub run_to : (end : ℕ) → get_or runs end 0 ≡ 0 → RunTo runs end
  run_to end stops =
      let h = holes_to end in
      record { start = h.0; run = record { rises = h.1; starts = h.2; holes = h.3; stops = stops } }

-- from `start` on as many holes as the number there says
pub run_ahead : (runs : List ℕ) → AreRuns runs → (start : ℕ) → before runs start ≡ 0 → IsRun runs start (start + get_or runs start 0)
run_ahead runs are start starts =
    let r = run_from runs start starts in
    rw (are start r.end r.run).first r.run

-- and so back from `end`
pub run_back : (runs : List ℕ) → AreRuns runs → (end : ℕ) → get_or runs end 0 ≡ 0
    → (start : ℕ) × (start + before runs end ≡ end) × IsRun runs start end
run_back runs are end stops =
    let r = run_to runs end stops in
    (r.start, (are r.start end r.run).last, r.run)

-- two lists of runs that differ at most from `from` up to `to`, where no run goes beyond
module _ (old new : List ℕ) (from to : ℕ) (rises : from ≤ to) (starts : before old from ≡ 0) (stops : get_or old to 0 ≡ 0)
    (same : (q : ℕ) → (q < from) ⊎ (to ≤ q) → get_or new q 0 ≡ get_or old q 0) where
  before-same : (q : ℕ) → (q ≤ from) ⊎ (to < q) → before new q ≡ before old q
  before-same zero at_side = refl
  before-same (suc q) (inl low) = same q (inl (omega (arith, low)))
  before-same (suc q) (inr high) = same q (inr (omega (arith, high)))

  -- a run to the left ends before `from`
  ends_before : (start end : ℕ) → IsRun new start end → start < from → end < from
  ends_before start end r left = elim (cases_lt end from) [
    | inl below ↦ below
    | inr past ↦ absurd (at_hole from refl past)
  ]
    where
      at_hole : (f : ℕ) → f ≡ from → from ≤ end → ⊥
      at_hole zero e past = omega (arith, left, e)
      at_hole (suc p) e past =
          let was = rw (← e) at starts in
          omega (arith, was, same p (inl (omega (arith, e))), r.holes p (omega (arith, e, left)) (omega (arith, e, past)))

  outside : (start end : ℕ) → ((q : ℕ) → start ≤ q → q ≤ end → ((q < from) × (q ≤ from)) ⊎ ((to ≤ q) × (to < q))) → AreRuns old
      → IsRun new start end → HasLength new start end
  outside start end side are r =
      let h = are start end (record {
        rises = r.rises;
        starts = sym (same_before start (omega arith) r.rises) ∙ r.starts;
        holes = λ p above below. omega (arith, same_at p above (omega (arith, below)), r.holes p above below);
        stops = omega (arith, same_at end r.rises (omega arith), r.stops);
      }) in
      record {
        first = omega (arith, h.first, same_at start (omega arith) r.rises);
        last = omega (arith, h.last, same_before end r.rises (omega arith));
      }
    where
      same_at : (q : ℕ) → start ≤ q → q ≤ end → get_or new q 0 ≡ get_or old q 0
      same_at q above below = same q (elim (side q above below) [ inl low ↦ inl low.0 | inr high ↦ inr high.0 ])

      same_before : (q : ℕ) → start ≤ q → q ≤ end → before new q ≡ before old q
      same_before q above below = before-same q (elim (side q above below) [ inl low ↦ inl low.1 | inr high ↦ inr high.1 ])

  -- the runs outside are as they were
  pub AreRuns-within : AreRuns old
      → ((start end : ℕ) → from ≤ start → end ≤ to → IsRun new start end → HasLength new start end)
      → AreRuns new
  AreRuns-within are inside start end r = elim (cases_lt start from) [
    | inl left ↦
        let below = ends_before start end r left in
        outside start end (λ q above at_most. inl (omega (arith, at_most, below), omega (arith, at_most, below))) are r
    | inr right ↦ elim (cases_lt to end) [
      | inr low ↦ inside start end right low r
      | inl high ↦
          let beyond = above_end start end r high in
          outside start end (λ q above at_most. inr (omega (arith, above, beyond), omega (arith, above, beyond))) are r
    ]
  ]
    where
      above_end : (start end : ℕ) → IsRun new start end → to < end → to < start
      above_end start end r high = elim (cases_lt to start) [
        | inl above ↦ above
        | inr bad ↦ absurd (omega (arith, r.holes to bad high, same to (inr (omega arith)), stops))
      ]

-- the numbers that a change writes are at the ends of a run, and none of them is 0
module _ (runs : List ℕ) (i n : ℕ) where
  pub hole-set : (q : ℕ) → 0 < n → 0 < get_or runs q 0 → 0 < get_or (set runs i n) q 0
  hole-set q some hole = elim (cases_eq q i) [
    | inl same ↦ rw (same, get_or-set_same runs i n 0 (rw (← same) (hole_within runs q hole))) some
    | inr differs ↦ rw (get_or-set_other runs i q n 0 differs) hole
  ]

  pub get_or-set_again : (q : ℕ) → q < length runs → get_or runs q 0 ≡ n → get_or (set runs i n) q 0 ≡ n
  get_or-set_again q within is = elim (cases_eq q i) [
    | inl same ↦ rw same (get_or-set_same runs i n 0 (rw (← same) within))
    | inr differs ↦ get_or-set_other runs i q n 0 differs ∙ is
  ]

module _ (runs : List ℕ) where
  -- a place with 0, whatever stands for the numbers behind the last
  pub item_within : (p : ℕ) → get_or runs p 1 ≡ 0 → p < length runs
  item_within p item = elim (cases_lt p (length runs)) [
    | inl below ↦ below
    | inr beyond ↦ absurd (omega (arith, item, get_or_past runs p 1 beyond))
  ]

  pub item_zero : (p : ℕ) → get_or runs p 1 ≡ 0 → get_or runs p 0 ≡ 0
  item_zero p item = get_or_default runs p 0 1 (item_within p item) ∙ item

  pub zero_item : (p : ℕ) → p < length runs → get_or runs p 0 ≡ 0 → get_or runs p 1 ≡ 0
  zero_item p within none = get_or_default runs p 1 0 within ∙ none

  -- a run that lies among holes is all of them
  pub whole : (start end from to : ℕ) → ((p : ℕ) → from ≤ p → p < to → 0 < get_or runs p 0) → from ≤ start → end ≤ to → IsRun runs start end
      → from ≤ to
      → (start ≡ from) × (end ≡ to)
  whole start end from to holes above below r rises = (begins start refl, ends (cases_lt end to))
    where
      begins : (s : ℕ) → s ≡ start → start ≡ from
      begins zero e = omega (arith, e, above)
      begins (suc p) e = elim (cases_lt from (suc p)) [
        | inl more ↦ absurd (let none = rw (← e) at r.starts in
            omega (arith, none, holes p (omega (arith, more)) (omega (arith, e, below, r.rises))))
        | inr same ↦ omega (arith, same, e, above)
      ]

      ends : (end < to) ⊎ (to ≤ end) → end ≡ to
      ends (inl more) = absurd (omega (arith, r.stops, holes end (omega (arith, above, r.rises)) more))
      ends (inr same) = omega (arith, same, below)

  -- no hole at all is a run of length 0
  pub HasLength-none : (start end : ℕ) → IsRun runs start end → end ≡ start → HasLength runs start end
  HasLength-none start end r e =
      let stops = rw e at r.stops in
      record { first = omega (arith, stops, e); last = rw e (omega (arith, r.starts)) }

-- a run that begins within the numbers ends there
pub run_within : (runs : List ℕ) (start end : ℕ) → IsRun runs start end → start ≤ length runs → end ≤ length runs
run_within runs start end r begins = elim (cases_lt (length runs) end) [
  | inr fits ↦ fits
  | inl more ↦ absurd (omega (arith, r.holes (length runs) begins more, get_or_past runs (length runs) 0 (omega arith)))
]

-- what is around an item: holes before it, holes behind it, or none
pub record IsAround (runs : List ℕ) (start place end : ℕ) : Type 0 where
  pub left : IsRun runs start place
  pub right : IsRun runs (suc place) end
  pub within : end ≤ length runs

pub around : (runs : List ℕ) (start place end : ℕ) → AreRuns runs → get_or runs place 1 ≡ 0
    → start + before runs place ≡ place → end ≡ suc place + get_or runs (suc place) 0 → IsAround runs start place end
around runs start place end are item start_is end_is =
    record { left = left; right = right; within = run_within runs (suc place) end right (omega (arith, item_within runs place item)) }
  where
    left : IsRun runs start place
    left =
        let r = run_back runs are place (item_zero runs place item) in
        let same : start ≡ r.0 = omega (arith, start_is, r.1) in
        rw same r.2

    right : IsRun runs (suc place) end
    right = rw end_is (run_ahead runs are (suc place) (item_zero runs place item))

-- no run is longer than the places before its end
pub before_fits : (runs : List ℕ) (place : ℕ) → AreRuns runs → get_or runs place 0 ≡ 0 → before runs place ≤ place
before_fits runs place are stops = omega (arith, (run_back runs are place stops).1)

module _ (runs : List ℕ) (place lower : ℕ) (item : HasItemAt runs place) (lower_is : lower ≡ before runs place) where
  -- the number before an item tells no more holes than there are places
  pub lower_fits : lower ≤ place
  lower_fits = omega (arith, lower_is, before_fits runs place item.are (item_zero runs place item.item))

  -- what is around an item, from the numbers that were read
  pub around-read : (upper : ℕ) → upper ≡ get_or runs (place + 1) 0 → IsAround runs (place - lower) place (place + 1 + upper)
  around-read upper upper_is =
      around runs (place - lower) place (place + 1 + upper) item.are item.item (omega (arith, lower_fits, lower_is))
      (omega (arith, upper_is, ap (λ p. get_or runs p 0) next))
    where
      next : place + 1 ≡ suc place
      next = omega arith
