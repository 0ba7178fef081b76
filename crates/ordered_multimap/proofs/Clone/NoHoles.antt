-- The places on a tape without holes: each is its own rank.
use Rattle.std.proofs.Common.{◌≡◌, ℕ, zero, suc, ◌+◌, ◌<◌, ◌≤◌, List, [], ◌∷◌, ◌++◌, length, length-append, append_assoc, Some, None}
use Rattle.std.proofs.Common.{refl, sym, ap, ◌∙◌, subst, inl, inr, arith}
use Rattle.std.specs.Prelude.{⊤}
use Rattle.std.proofs.lemmas.Bool.{eq-eqb, ne_eqb}
use Rattle.multimap_slots.specs.Lists.{AreDistinct, IsIn, Rises, first_of, next_of, places_below}
use Rattle.multimap_slots.proofs.Callers.PlaceLists.{Split, AreDistinct-gone, IsIn-left, IsIn-right, IsIn-split, next_of-split}
use Rattle.multimap_walks.specs.Chained.{position_in}
use Rattle.ordered_multimap.specs.Private.Copies.{AreRanks}
use Rattle.ordered_multimap.proofs.Callers.Places.{position_in-split}

-- places that rise from one number to another are no more than there are between the two
rises_between : (ps : List ℕ) (low high : ℕ) → low ≤ high → Rises ps → ((q : ℕ) → IsIn q ps → low ≤ q) → ((q : ℕ) → IsIn q ps → q < high)
    → low + length ps ≤ high
rises_between [] low high fits rises above below = omega (arith, fits)
rises_between (p ∷ ps) low high fits rises above below =
    let rest = rises_between ps (suc p) high (omega (arith, below p (inl refl))) rises.1 (λ q i. omega (arith, rises.0 q i))
    (λ q i. below q (inr i)) in
    omega (arith, rest, above p (inl refl))

-- and where they are as many, none between the two is missing
none_missing : (ps : List ℕ) (low : ℕ) → Rises ps → ((q : ℕ) → IsIn q ps → low ≤ q) → ((q : ℕ) → IsIn q ps → q < low + length ps)
    → (q : ℕ) → IsIn q ps → q ≡ low + position_in ps q
none_missing [] low rises above below q i = absurd i
none_missing (p ∷ ps) low rises above below q i =
    let rest = rises_between ps (suc p) (low + suc (length ps)) (omega (arith, below p (inl refl))) rises.1
    (λ r j. omega (arith, rises.0 r j)) (λ r j. below r (inr j)) in
    let first : p ≡ low = omega (arith, rest, above p (inl refl)) in
    elim i [
      | inl same ↦ rw (eq-eqb p q (sym same)) (omega (arith, same, first))
      | inr later ↦
          let higher : p < q = rises.0 q later in
          let is = none_missing ps (suc low) rises.1 (λ r j. let over : p < r = rises.0 r j in omega (arith, over, first))
          (λ r j. omega (arith, below r (inr j))) q later in
          rw (ne_eqb p q (λ e. omega (arith, e, higher))) (omega (arith, is))
    ]

-- the numbers from one on, so many
abbrev numbers_from : ℕ → ℕ → List ℕ
numbers_from low zero = []
numbers_from low (suc n) = low ∷ numbers_from (suc low) n

numbers_from-push : (low n : ℕ) → numbers_from low (suc n) ≡ numbers_from low n ++ (low + n) ∷ []
numbers_from-push low zero =
    let same : low ≡ low + 0 = omega arith in
    ap (λ m. m ∷ []) same
numbers_from-push low (suc n) =
    let same : suc low + n ≡ low + suc n = omega arith in
    ap (λ ms. low ∷ ms) (numbers_from-push (suc low) n) ∙ ap (λ m. low ∷ (numbers_from (suc low) n ++ m ∷ [])) same

numbers_from-below : (n : ℕ) → numbers_from 0 n ≡ places_below n
numbers_from-below zero = refl
numbers_from-below (suc n) =
    let same : 0 + n ≡ n = omega arith in
    numbers_from-push 0 n ∙ (λ i. numbers_from-below n i ++ same i ∷ [])

all_numbers : (ps : List ℕ) (low : ℕ) → Rises ps → ((q : ℕ) → IsIn q ps → low ≤ q) → ((q : ℕ) → IsIn q ps → q < low + length ps)
    → ps ≡ numbers_from low (length ps)
all_numbers [] low rises above below = refl
all_numbers (p ∷ ps) low rises above below =
    let rest = rises_between ps (suc p) (low + suc (length ps)) (omega (arith, below p (inl refl))) rises.1
    (λ r j. omega (arith, rises.0 r j)) (λ r j. below r (inr j)) in
    let first : p ≡ low = omega (arith, rest, above p (inl refl)) in
    let others = all_numbers ps (suc low) rises.1 (λ r j. let over : p < r = rises.0 r j in omega (arith, over, first))
    (λ r j. omega (arith, below r (inr j))) in
    (λ i. first i ∷ others i)

-- places below their number are those from 0 on
pub all_dense : (order : List ℕ) → Rises order → ((q : ℕ) → IsIn q order → q < length order) → order ≡ places_below (length order)
all_dense order rises below =
    all_numbers order 0 rises (λ p j. omega arith) (λ p j. omega (arith, below p j)) ∙ numbers_from-below (length order)

-- the ranks of values whose places are below their number
pub no_holes : (order : List ℕ) → Rises order → ((q : ℕ) → IsIn q order → q < length order) → AreRanks order (λ q. ⊤) (λ q. q)
no_holes order rises below = record {
  within = λ q i. tt;
  each = λ q i. omega (arith, none_missing order 0 rises (λ p j. omega arith) (λ p j. omega (arith, below p j)) q i);
}

module _ (order : List ℕ) (are : AreRanks order (λ q. ⊤) (λ q. q)) where
  pub first-zero : (order ≡ [] → ⊥) → Some 0 ≡ first_of order
  first-zero some = go order are some
    where
      go : (ps : List ℕ) → AreRanks ps (λ q. ⊤) (λ q. q) → (ps ≡ [] → ⊥) → Some 0 ≡ first_of ps
      go [] w more = absurd (more refl)
      go (p ∷ ps) w more = ap Some (sym (w.each p (inl refl) ∙ rw (eq-eqb p p refl) refl))

  module _ (distinct : AreDistinct order) (place : ℕ) (listed : IsIn place order) where
    split : Split place order
    split = IsIn-split place order listed

    absent : IsIn place split.front → ⊥
    absent i = AreDistinct-gone split.front place split.back (subst AreDistinct split.is distinct)
        (IsIn-left place split.front split.back i)

    before : place ≡ length split.front
    before = are.each place listed ∙ ap (λ ps. position_in ps place) split.is ∙ position_in-split split.front place split.back absent

    next_is : next_of order place ≡ first_of split.back
    next_is = ap (λ ps. next_of ps place) split.is ∙ next_of-split split.front place split.back absent

    pub below_length : place < length order
    below_length = omega (arith, before, ap length split.is, length-append split.front (place ∷ split.back))

    -- the next place, if there is one, is one higher
    pub next-higher : place + 1 < length order → Some (place + 1) ≡ next_of order place
    next-higher more = go split.back split.is ∙ sym next_is
      where
        go : (back : List ℕ) → order ≡ split.front ++ place ∷ back → Some (place + 1) ≡ first_of back
        go [] is = absurd (omega (arith, more, before, ap length is, length-append split.front (place ∷ [])))
        go (next ∷ back) is =
            let done = split.front ++ place ∷ [] in
            let further : order ≡ done ++ next ∷ back = is ∙ sym (append_assoc split.front (place ∷ []) (next ∷ back)) in
            let new : IsIn next done → ⊥ = λ i.
            AreDistinct-gone done next back (subst AreDistinct further distinct) (IsIn-left next done back i) in
            let there : IsIn next order = subst (IsIn next) (sym further) (IsIn-right next done (next ∷ back) (inl refl)) in
            let rank : next ≡ length done = are.each next there ∙ ap (λ ps. position_in ps next) further
            ∙ position_in-split done next back new in
            ap Some (omega (arith, rank, before, length-append split.front (place ∷ [])))

    pub next-none : length order ≤ place + 1 → None ≡ next_of order place
    next-none last = go split.back split.is ∙ sym next_is
      where
        go : (back : List ℕ) → order ≡ split.front ++ place ∷ back → None ≡ first_of back
        go [] is = refl
        go (next ∷ back) is = absurd (omega (arith, last, before, ap length is, length-append split.front (place ∷ next ∷ back)))
