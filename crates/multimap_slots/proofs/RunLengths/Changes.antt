-- The runs of a tape where an item's place becomes a hole, where an item comes behind all or goes down into a hole, and where the end is
-- cut.
use Rattle.std.proofs.Common.{◌≡◌, ◌≢◌, ◌⊎◌, ℕ, zero, suc, ◌+◌, ◌<◌, ◌≤◌, List, [], ◌∷◌, ◌++◌, length, get_or, set, take, refl, sym, ◌∙◌}
use Rattle.std.proofs.Common.{inl, inr, arith, length-append, length-take-le}
use Rattle.std.proofs.lemmas.Bool.{cases_eq, cases_lt}
use Rattle.std.proofs.lemmas.List.{get_or-set_same, get_or-set_other, get_or_past, length-set, get_or-take}
use Rattle.multimap_slots.proofs.Callers.TapePlaces.{places-hole, places-push}
use Rattle.multimap_slots.specs.Private.Runs.{before, IsRun, HasLength, AreRuns, WritesRun, IsRunLengthCoded}
use Rattle.multimap_slots.proofs.RunLengths.Runs.{AreRuns-within, hole-set, get_or-set_again, whole, HasLength-none, IsAround}

-- an item's place becomes a hole
module _ (old : List ℕ) (start place end : ℕ) (a : IsAround old start place end) where
  pub join-holes : (q : ℕ) → start ≤ q → q < end → 0 < get_or (set old place 1) q 0
  join-holes q above below = elim (cases_eq q place) [
    | inl same ↦ rw (same, get_or-set_same old place 1 0 (omega (arith, a.within, a.right.rises))) (omega arith)
    | inr differs ↦ hole-set old place 1 q (omega arith) (elim (cases_lt q place) [
      | inl low ↦ a.left.holes q above low
      | inr high ↦ a.right.holes q (omega (arith, high, differs)) below
    ])
  ]

  pub AreRuns-join : (new : List ℕ) → AreRuns old → WritesRun (set old place 1) new start end → AreRuns new
  AreRuns-join new are w =
      AreRuns-within old new start end (omega (arith, a.left.rises, a.right.rises)) a.left.starts a.right.stops
      (λ q side. w.others q side ∙ get_or-set_other old place q 1 0
      (elim side [ inl low ↦ (λ e. omega (arith, low, e, a.left.rises)) | inr high ↦ (λ e. omega (arith, high, e, a.right.rises)) ]))
      are inside
    where
      inside : (s e : ℕ) → start ≤ s → e ≤ end → IsRun new s e → HasLength new s e
      inside s e above below r =
          let all = whole new s e start end (λ q from to. w.holes q (join-holes q from to)) above below r
          (omega (arith, a.left.rises, a.right.rises)) in
          rw (all.0, all.1) (w.ends (omega (arith, a.left.rises, a.right.rises)))

pub before-suc : (runs : List ℕ) (end last : ℕ) → suc last ≡ end → before runs end ≡ get_or runs last 0
before-suc runs end last e = rw (← e) refl

-- a length is written at both ends of a run of holes
pub WritesRun-set : (old : List ℕ) (start last end n : ℕ) → suc last ≡ end → start + n ≡ end → start ≤ last → last < length old
    → ((q : ℕ) → start ≤ q → q < end → 0 < get_or old q 0) → WritesRun old (set (set old start n) last n) start end
WritesRun-set old start last end n last_is n_is rises within holes =
    record {
      same_length = length-set (set old start n) last n ∙ length-set old start n;
      ends = λ some. record {
        first = omega (
          arith,
          n_is,
          get_or-set_again (set old start n) last n start (rw length-set (omega (arith, rises, within)))
              (get_or-set_same old start n 0 (omega (arith, rises, within))),
        );
        last = omega (
          arith,
          n_is,
          before-suc (set (set old start n) last n) end last last_is,
          get_or-set_same (set old start n) last n 0
              (rw length-set within),
        );
      };
      others = λ q side.
          get_or-set_other (set old start n) last q n 0 (not_last q side)
          ∙ get_or-set_other old start q n 0 (not_start q side);
      holes = λ q hole. hole-set (set old start n) last n q some (hole-set old start n q some hole);
      places =
          places-hole 0 (set old start n) last n (hole-set old start n last some (holes last rises (omega (arith, last_is)))) some
          ∙ places-hole 0 old start n (holes start (omega arith) (omega (arith, last_is, rises))) some;
    }
  where
    some : 0 < n
    some = omega (arith, last_is, n_is, rises)

    not_last : (q : ℕ) → (q < start) ⊎ (end ≤ q) → q ≢ last
    not_last q (inl low) = λ e. omega (arith, low, e, rises)
    not_last q (inr high) = λ e. omega (arith, high, e, last_is)

    not_start : (q : ℕ) → (q < start) ⊎ (end ≤ q) → q ≢ start
    not_start q (inl low) = λ e. omega (arith, low, e)
    not_start q (inr high) = λ e. omega (arith, high, e, rises, last_is)

-- an item behind all
pub IsRunLengthCoded-push : (runs : List ℕ) (len : ℕ) → IsRunLengthCoded runs len → IsRunLengthCoded (runs ++ 0 ∷ []) (len + 1)
IsRunLengthCoded-push runs len laid =
    record {
      are =
          AreRuns-within runs (runs ++ 0 ∷ []) (suc (length runs)) (suc (length runs)) (omega arith)
          (get_or_past runs (length runs) 0 (omega arith)) (get_or_past runs (suc (length runs)) 0 (omega arith))
          (λ q side. get_or-push runs q) laid.are
          (λ s e above below r. HasLength-none (runs ++ 0 ∷ []) s e r (omega (arith, above, below, r.rises)));
      counted = rw places-push (rw length-append (omega (arith, laid.counted)));
    }
  where
    get_or-push : (runs : List ℕ) (q : ℕ) → get_or (runs ++ 0 ∷ []) q 0 ≡ get_or runs q 0
    get_or-push [] zero = refl
    get_or-push [] (suc q) = refl
    get_or-push (r ∷ runs) zero = refl
    get_or-push (r ∷ runs) (suc q) = get_or-push runs q

-- a run reaches down over all holes before its end
pub run_reaches : (runs : List ℕ) (start end from : ℕ) → IsRun runs start end → from < end
    → ((q : ℕ) → from ≤ q → q < end → 0 < get_or runs q 0) → start ≤ from
run_reaches runs start end from r below holes = reaches start refl
  where
    reaches : (s : ℕ) → s ≡ start → start ≤ from
    reaches zero e = omega (arith, e)
    reaches (suc p) e = elim (cases_lt from (suc p)) [
      | inl more ↦ absurd (let none = rw (← e) at r.starts in
          omega (arith, none, holes p (omega (arith, more)) (omega (arith, e, r.rises))))
      | inr fits ↦ omega (arith, fits, e)
    ]

-- an item goes down into a hole
module _ (old : List ℕ) (start from to end : ℕ) (a : IsAround old start from end) (item : get_or old from 1 ≡ 0) (down : to < from)
    (above_start : start ≤ to) where
  shift-same : (q : ℕ) → q ≢ to → q ≢ from → get_or (set (set old to 0) from 1) q 0 ≡ get_or old q 0
  shift-same q not_to not_from = get_or-set_other (set old to 0) from q 1 0 not_from ∙ get_or-set_other old to q 0 0 not_to

  shift-from : get_or (set (set old to 0) from 1) from 0 ≡ 1
  shift-from = get_or-set_same (set old to 0) from 1 0 (rw length-set (omega (arith, a.within, a.right.rises)))

  shift-to : get_or (set (set old to 0) from 1) to 0 ≡ 0
  shift-to = get_or-set_other (set old to 0) from to 1 0 (λ e. omega (arith, e, down))
      ∙ get_or-set_same old to 0 0 (omega (arith, a.within, a.right.rises, down))

  pub shift-low : (q : ℕ) → start ≤ q → q < to → 0 < get_or (set (set old to 0) from 1) q 0
  shift-low q above below = rw (shift-same q (λ e. omega (arith, e, below)) (λ e. omega (arith, e, below, down)))
      (a.left.holes q above (omega (arith, below, down)))

  pub shift-high : (q : ℕ) → suc to ≤ q → q < end → 0 < get_or (set (set old to 0) from 1) q 0
  shift-high q above below = elim (cases_eq q from) [
    | inl same ↦ rw same (omega (arith, shift-from))
    | inr differs ↦ rw (shift-same q (λ e. omega (arith, e, above)) differs) (elim (cases_lt q from) [
      | inl low ↦ a.left.holes q (omega (arith, above_start, above)) low
      | inr high ↦ a.right.holes q (omega (arith, high, differs)) below
    ])
  ]

  module _ (mid new : List ℕ) (low : WritesRun (set (set old to 0) from 1) mid start to) (high : WritesRun mid new (suc to) end) where
    to_is : get_or new to 0 ≡ 0
    to_is = high.others to (inl (omega arith)) ∙ low.others to (inr (omega arith)) ∙ shift-to

    in_order : (start ≤ to) × (suc to ≤ end)
    in_order = (above_start, omega (arith, a.right.rises, down))

    outside_same : (q : ℕ) → (q < start) ⊎ (end ≤ q) → get_or new q 0 ≡ get_or old q 0
    outside_same q (inl below) =
        high.others q (inl (omega (arith, below, above_start))) ∙ low.others q (inl below)
        ∙ shift-same q (λ e. omega (arith, e, below, above_start)) (λ e. omega (arith, e, below, above_start, down))
    outside_same q (inr above) =
        high.others q (inr above) ∙ low.others q (inr (omega (arith, above, in_order.1)))
        ∙ shift-same q (λ e. omega (arith, e, above, in_order.1)) (λ e. omega (arith, e, above, a.right.rises))

    high_holes : (q : ℕ) → suc to ≤ q → q < end → 0 < get_or new q 0
    high_holes q above below = high.holes q (low.holes q (shift-high q above below))

    low_holes : (q : ℕ) → start ≤ q → q < to → 0 < get_or new q 0
    low_holes q above below = high.holes q (low.holes q (shift-low q above below))

    low_length : start < to → HasLength new start to
    low_length some =
        let h = low.ends some in
        record {
          first = omega (arith, h.first, high.others start (inl (omega (arith, some))));
          last = omega (arith, h.last, before_kept to (omega arith));
        }
      where
        before_kept : (q : ℕ) → q ≤ to → before new q ≡ before mid q
        before_kept zero at_most = refl
        before_kept (suc q) at_most = high.others q (inl (omega (arith, at_most)))

    pub AreRuns-shift : AreRuns old → AreRuns new
    AreRuns-shift are =
        AreRuns-within old new start end (omega (arith, in_order.0, in_order.1)) a.left.starts a.right.stops outside_same are inside
      where
        inside : (s e : ℕ) → start ≤ s → e ≤ end → IsRun new s e → HasLength new s e
        inside s e above below r = elim (cases_lt to s) [
          | inl right ↦
              let all = whole new s e (suc to) end high_holes (omega (arith, right)) below r in_order.1 in
              rw (all.0, all.1) (high.ends (omega (arith, a.right.rises, down)))
          | inr left ↦ elim (cases_lt to e) [
            | inl more ↦ absurd (omega (arith, to_is, r.holes to left more))
            | inr less ↦
                let all = whole new s e start to low_holes above less r in_order.0 in
                elim (cases_lt start to) [
                  | inl some ↦ rw (all.0, all.1) (low_length some)
                  | inr none ↦ HasLength-none new s e r (omega (arith, all.0, all.1, none, above_start))
                ]
          ]
        ]

-- the holes at the end go
pub AreRuns-cut : (runs : List ℕ) (start : ℕ) → AreRuns runs → IsRun runs start (length runs) → AreRuns (take start runs)
AreRuns-cut runs start are r =
    AreRuns-within runs (take start runs) start (length runs) r.rises r.starts r.stops same are
    (λ s e above below new. HasLength-none (take start runs) s e new (none s e above new (cases_lt s e)))
  where
    shorter : length (take start runs) ≤ start
    shorter = omega (arith, length-take-le start runs r.rises)

    same : (q : ℕ) → (q < start) ⊎ (length runs ≤ q) → get_or (take start runs) q 0 ≡ get_or runs q 0
    same q (inl low) = get_or-take start runs q 0 low
    same q (inr high) = get_or_past (take start runs) q 0 (omega (arith, high, shorter, r.rises)) ∙ sym (get_or_past runs q 0 high)

    none : (s e : ℕ) → start ≤ s → IsRun (take start runs) s e → (s < e) ⊎ (e ≤ s) → e ≡ s
    none s e above new (inl some) = absurd (omega (
      arith,
      new.holes s (omega arith) some,
      get_or_past (take start runs) s 0
          (omega (arith, above, shorter)),
    ))
    none s e above new (inr less) = omega (arith, less, new.rises)
