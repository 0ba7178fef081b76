-- The number of detached places.
use Rattle.std.proofs.Common.{◌≡◌, ◌≢◌, ℕ, zero, suc, ◌+◌, ◌<◌, ◌≤◌, List, [], ◌∷◌, length, set, get_or, refl, sym, ap, subst, ◌∙◌, inl}
use Rattle.std.proofs.Common.{inr, arith}
use Rattle.std.proofs.lemmas.Bool.{cases_lt}
use Rattle.std.proofs.lemmas.List.{get_or-set_same, get_or_past}
use Rattle.std.proofs.lemmas.List.Sums.{sum_by-cons}
use Rattle.multimap_slots.specs.declared.order.node.State.{State}
use Rattle.multimap_slots.specs.declared.order.node.State.TheVariants.{Listed, Free, Detached}
use Rattle.multimap_slots.specs.Lists.{IsIn, AreDistinct, without}
use Rattle.multimap_slots.specs.Private.ListLayout.{one_if_detached, count_detached, put}
use Rattle.multimap_slots.proofs.Callers.PlaceLists.{IsIn-without}
use Rattle.multimap_slots.proofs.Changes.Put.{get_or-put_other}

-- a place that is written
pub count_detached-put : (ss : List State) (i : ℕ) (s : State)
    → count_detached (put ss i s) + one_if_detached (get_or ss i Free) ≡ count_detached ss + one_if_detached s
count_detached-put [] i s = omega (arith, sum_by-cons one_if_detached s [])
count_detached-put (r ∷ ss) zero s = omega (arith, sum_by-cons one_if_detached r ss, sum_by-cons one_if_detached s ss)
count_detached-put (r ∷ ss) (suc i) s =
    omega (arith, count_detached-put ss i s, sum_by-cons one_if_detached r ss, sum_by-cons one_if_detached r (put ss i s))

-- a detached place is counted
pub count_detached-some : (ss : List State) (p : ℕ) → get_or ss p Free ≡ Detached → 1 ≤ count_detached ss
count_detached-some [] p e = absurd (let e' = e in cc)
count_detached-some (s ∷ ss) zero e = omega (arith, sum_by-cons one_if_detached s ss, ap one_if_detached e)
count_detached-some (s ∷ ss) (suc p) e = omega (arith, sum_by-cons one_if_detached s ss, count_detached-some ss p e)

-- where none is detached
pub count_detached-none : (ss : List State) → count_detached ss ≡ 0 → (p : ℕ) → get_or ss p Free ≢ Detached
count_detached-none ss none p e = absurd (omega (arith, none, count_detached-some ss p e))

-- a place that is neither listed nor free
pub apart-detached : (s : State) → s ≢ Listed → s ≢ Free → s ≡ Detached
apart-detached Listed unlisted taken = absurd (unlisted refl)
apart-detached Free unlisted taken = absurd (taken refl)
apart-detached Detached unlisted taken = refl

-- a listed place that has just been detached is neither listed nor free
pub detached-apart : (order : List ℕ) (ss : List State) {new : List ℕ} {new_ss : List State} (place : ℕ) → get_or ss place Free ≡ Listed
    → new ≡ without order place → new_ss ≡ set ss place Detached → (IsIn place new → ⊥) × (get_or new_ss place Free ≢ Free)
detached-apart order ss place listed order_is states_are = (
  λ i. (IsIn-without place order place (subst (IsIn place) order_is i)).1 refl,
  λ e. let bad = sym (ap (λ ss. get_or ss place Free) states_are ∙ get_or-set_same ss place Detached Free within) ∙ e in cc,
)
  where
    within : place < length ss
    within = elim (cases_lt place (length ss)) [
      | inl below ↦ below
      | inr past ↦ absurd (let bad = sym listed ∙ get_or_past ss place Free past in cc)
    ]

-- detached places that differ are no more than the detached ones
pub detached_counted : (places : List ℕ) (ss : List State) → AreDistinct places → ((p : ℕ) → IsIn p places → get_or ss p Free ≡ Detached)
    → length places ≤ count_detached ss
detached_counted [] ss distinct all = omega arith
detached_counted (p ∷ places) ss distinct all =
    let here : get_or ss p Free ≡ Detached = all p (inl refl) in
    let within : p ≤ length ss = some_state ss p here in
    let fewer = detached_counted places (put ss p Free) distinct.1
    (λ q i. get_or-put_other ss p q Free Free within (λ same. distinct.0 (subst (λ x. IsIn x places) same i)) ∙ all q (inr i)) in
    omega (arith, fewer, count_detached-put ss p Free, ap one_if_detached here)
  where
    some_state : (ss : List State) (p : ℕ) → get_or ss p Free ≡ Detached → p ≤ length ss
    some_state [] p e = absurd (let bad = e in cc)
    some_state (s ∷ ss) zero e = omega arith
    some_state (s ∷ ss) (suc p) e = omega (arith, some_state ss p e)
