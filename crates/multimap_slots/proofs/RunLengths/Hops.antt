-- Where a hop over a run of holes comes down.
use Rattle.std.proofs.Common.{◌≡◌, ℕ, zero, suc, ◌+◌, ◌-◌, ◌<◌, ◌≤◌, List, [], length, get_or, Some, None, refl, ap, subst, ◌∙◌, inl, inr}
use Rattle.std.proofs.Common.{arith, IsSome}
use Rattle.std.proofs.lemmas.Bool.{cases_lt}
use Rattle.multimap_slots.specs.Lists.{IsIn, first_of, last_of, next_of, previous_of, end_of}
use Rattle.multimap_slots.specs.Private.Runs.{places_from, before, IsRun, AreRuns}
use Rattle.multimap_slots.proofs.Callers.TapePlaces.{places-zero, places-listed, places-distinct, places-first, places-none, places-next}
use Rattle.multimap_slots.proofs.Callers.TapePlaces.{places-last, previous_of-next, previous_of-first, last_of-next}
use Rattle.multimap_slots.proofs.RunLengths.Runs.{zero_or, item_within, item_zero, zero_item, run_ahead, run_back, run_within}

-- a listed place has the number 0, and so the other way round
pub item-listed : (runs : List ℕ) (p : ℕ) → IsIn p (places_from 0 runs) → get_or runs p 1 ≡ 0
item-listed runs p i = places-zero 0 runs p (subst (λ q. IsIn q (places_from 0 runs)) (omega arith) i)

pub listed-item : (runs : List ℕ) (p : ℕ) → get_or runs p 1 ≡ 0 → IsIn p (places_from 0 runs)
listed-item runs p item = subst (λ q. IsIn q (places_from 0 runs)) (omega arith) (places-listed 0 runs p item)

-- a hop forward comes down at the next item, or behind all numbers
pub record HopsOn (runs : List ℕ) (p q : ℕ) : Type 0 where
  pub fits : q ≤ length runs
  pub some : q < length runs → next_of (places_from 0 runs) p ≡ Some q
  pub none : length runs ≤ q → next_of (places_from 0 runs) p ≡ None

pub hops_on : (runs : List ℕ) (p holes : ℕ) → AreRuns runs → get_or runs p 1 ≡ 0 → holes ≡ get_or runs (p + 1) 0
    → HopsOn runs p (p + 1 + holes)
hops_on runs p holes are item holes_is =
    record {
      fits = omega (arith, is, run_within runs (suc p) (suc p + get_or runs (suc p) 0) run (item_within runs p item));
      some = λ below.
          ap (next_of (places_from 0 runs)) (omega arith)
          ∙ places-next 0 runs p (p + 1 + holes) (omega arith) item
          (λ h above under. run.holes h (omega (arith, above)) (omega (arith, under, is)))
          (zero_item runs (p + 1 + holes) below (ap (λ q. get_or runs q 0) is ∙ run.stops))
          ∙ ap Some (omega arith);
      none = λ past_all.
          ap (next_of (places_from 0 runs)) (omega arith)
          ∙ places-last 0 runs p item (λ h above under. run.holes h (omega (arith, above)) (omega (arith, under, is, past_all)));
    }
  where
    run : IsRun runs (suc p) (suc p + get_or runs (suc p) 0)
    run = run_ahead runs are (suc p) (item_zero runs p item)

    next : p + 1 ≡ suc p
    next = omega arith

    is : p + 1 + holes ≡ suc p + get_or runs (suc p) 0
    is = omega (arith, holes_is, ap (λ q. get_or runs q 0) next)

-- the number behind an item that isn't the last leads to the next one
pub record LeadsOn (runs : List ℕ) (p : ℕ) : Type 0 where
  pub within : p + 1 + get_or runs (p + 1) 0 < length runs
  pub next : next_of (places_from 0 runs) p ≡ Some (p + 1 + get_or runs (p + 1) 0)

pub leads_on : (runs : List ℕ) (p : ℕ) → AreRuns runs → IsIn p (places_from 0 runs) → IsSome (next_of (places_from 0 runs) p)
    → LeadsOn runs p
leads_on runs p are listed more =
    let item = item-listed runs p listed in
    let hop = hops_on runs p (get_or runs (p + 1) 0) are item refl in
    elim (cases_lt (p + 1 + get_or runs (p + 1) 0) (length runs)) [
      | inl below ↦ record { within = below; next = hop.some below }
      | inr past ↦ absurd (let e = subst IsSome (hop.none past) more in cc)
    ]

-- the first item
pub first_on : (runs : List ℕ) (holes : ℕ) → AreRuns runs → holes ≡ get_or runs 0 0 → holes < length runs
    → first_of (places_from 0 runs) ≡ Some holes
first_on runs holes are is below =
    let run = run_ahead runs are 0 refl in
    let f = places-first 0 runs holes (λ q under. run.holes q (omega arith) (omega (arith, under, is)))
    (zero_item runs holes below (ap (λ q. get_or runs q 0) (omega (arith, is)) ∙ run.stops)) in
    ap first_of f.1 ∙ ap Some (omega arith)

pub none_on : (runs : List ℕ) (holes : ℕ) → AreRuns runs → holes ≡ get_or runs 0 0 → length runs ≤ holes → places_from 0 runs ≡ []
none_on runs holes are is all =
    let run = run_ahead runs are 0 refl in
    places-none 0 runs (λ q under. run.holes q (omega arith) (omega (arith, under, is, all)))

ends : (ps : List ℕ) (q : ℕ) → last_of ps ≡ Some q → end_of ps ≡ suc q
ends ps q e = rw (end_of, e) refl

-- a hop back from an item, or from behind all numbers
module _ (runs : List ℕ) (p holes : ℕ) (are : AreRuns runs) (stops : get_or runs p 0 ≡ 0) (is : holes ≡ before runs p) where
  pub back_fits : holes ≤ p
  back_fits = omega (arith, is, (run_back runs are p stops).1)

  pub run : IsRun runs (p - holes) p
  run =
      let r = run_back runs are p stops in
      let same : p - holes ≡ r.0 = omega (arith, r.1, is) in
      rw same r.2

  -- the item before the holes
  module _ (at_most : p ≤ length runs) (more : holes < p) where
    pub hop_item : get_or runs (p - holes - 1) 1 ≡ 0
    hop_item = zero_item runs (p - holes - 1) (omega (arith, at_most, more)) (here (p - holes) (omega (arith, more)) run.starts)
      where
        here : (start : ℕ) → 0 < start → before runs start ≡ 0 → get_or runs (start - 1) 0 ≡ 0
        here zero some e = absurd (omega (arith, some))
        here (suc q) some e = let same : suc q - 1 ≡ q = omega arith in rw same e

    between : (h : ℕ) → p - holes - 1 < h → h < p → 0 < get_or runs h 0
    between h above under = run.holes h (omega (arith, above, more)) under

    pub hops_back : get_or runs p 1 ≡ 0 → previous_of (places_from 0 runs) p ≡ Some (p - holes - 1)
    hops_back item =
        previous_of-next (places_from 0 runs) p (p - holes - 1) (places-distinct 0 runs) (listed-item runs (p - holes - 1) hop_item)
        (ap (next_of (places_from 0 runs)) (omega arith) ∙ places-next 0 runs (p - holes - 1) p (omega (arith, more)) hop_item between item
        ∙ ap Some (omega arith))

    pub hops_last : p ≡ length runs → last_of (places_from 0 runs) ≡ Some (p - holes - 1)
    hops_last e =
        last_of-next (places_from 0 runs) (p - holes - 1) (places-distinct 0 runs) (listed-item runs (p - holes - 1) hop_item)
        (ap (next_of (places_from 0 runs)) (omega arith)
        ∙ places-last 0 runs (p - holes - 1) hop_item (λ h above under. between h above (omega (arith, under, e))))

  pub back_none : holes ≡ p → get_or runs p 1 ≡ 0 → previous_of (places_from 0 runs) p ≡ None
  back_none all item =
      let f = places-first 0 runs p (λ q under. run.holes q (omega (arith, all)) under) item in
      previous_of-first (places_from 0 runs) p (places-distinct 0 runs) (ap first_of f.1 ∙ ap Some (omega arith))

  pub last_none : holes ≡ p → p ≡ length runs → places_from 0 runs ≡ []
  last_none all e = places-none 0 runs (λ q under. run.holes q (omega (arith, all)) (omega (arith, under, e)))

  -- where the holes at the end begin, the items end
  pub end_is : p ≡ length runs → p - holes ≡ end_of (places_from 0 runs)
  end_is e = elim (cases_lt holes p) [
    | inl more ↦ let last = hops_last (omega (arith, e)) more e in omega (arith, ends (places_from 0 runs) (p - holes - 1) last, more)
    | inr none ↦ let all = last_none (omega (arith, none, back_fits)) e in omega (arith, ap end_of all, none)
  ]

-- the number before an item that isn't the first leads back to the one before
pub record LeadsBack (runs : List ℕ) (p : ℕ) : Type 0 where
  pub some : 0 < p
  pub within : p < length runs
  pub fits : get_or runs (p - 1) 0 ≤ p - 1
  pub previous : previous_of (places_from 0 runs) p ≡ Some (p - 1 - get_or runs (p - 1) 0)

pub leads_back : (runs : List ℕ) (p : ℕ) → AreRuns runs → IsIn p (places_from 0 runs) → IsSome (previous_of (places_from 0 runs) p)
    → LeadsBack runs p
leads_back runs p are listed more =
    let item = item-listed runs p listed in
    let within = item_within runs p item in
    let stops = item_zero runs p item in
    let fits = back_fits runs p (before runs p) are stops refl in
    elim (cases_lt (before runs p) p) [
      | inl some ↦
          let same = before-some p some in
          record {
            some = omega (arith, some);
            within = within;
            fits = omega (arith, some, same);
            previous = hops_back runs p (before runs p) are stops refl (omega (arith, within)) some item ∙ ap Some (omega (arith, same));
          }
      | inr none ↦ absurd (let e = subst IsSome (back_none runs p (before runs p) are stops refl (omega (arith, none, fits)) item) more in
          cc)
    ]
  where
    before-some : (q : ℕ) → before runs q < q → before runs q ≡ get_or runs (q - 1) 0
    before-some zero under = absurd (omega (arith, under))
    before-some (suc q) under = let same : suc q - 1 ≡ q = omega arith in rw same refl

-- a place that is not listed, among the numbers
pub hole-unlisted : (runs : List ℕ) (q : ℕ) → q < length runs → (IsIn q (places_from 0 runs) → ⊥) → 0 < get_or runs q 0
hole-unlisted runs q within absent = elim (zero_or (get_or runs q 0)) [
  | inl none ↦ absurd (absent (listed-item runs q (zero_item runs q within none)))
  | inr some ↦ some
]
