-- Places in order from 0 on, for callers too.
use Rattle.std.proofs.Common.{◌≡◌, ℕ, zero, suc, ◌+◌, ◌<◌, ◌≤◌, List, [], ◌∷◌, ◌++◌, length, Option, Some, refl, sym, ap, ◌∙◌, subst, inl}
use Rattle.std.proofs.Common.{inr, arith}
use Rattle.std.proofs.Common.{append_assoc, length-append}
use Rattle.std.proofs.Common.{true, false, not, None, true≢false}
use Rattle.std.proofs.Math.Dec.{eqb}
use Rattle.std.proofs.lemmas.Bool.{cases_eq, eq-eqb, eqb-true, not-false}
use Rattle.std.specs.Option.{option_eq}
use Rattle.std.proofs.lemmas.List.{append-nil, append_cancel_left}
use Rattle.multimap_slots.specs.Lists.{IsIn, Rises, first_of, next_of, places_below}
use Rattle.multimap_slots.proofs.Callers.PlaceLists.{IsIn-append, IsIn-left, IsIn-right, next_of-split}

pub below-less : (n q : ℕ) → IsIn q (places_below n) → q < n
below-less zero q i = absurd i
below-less (suc n) q i = elim (IsIn-append q (places_below n) (n ∷ []) i) [
  | inl low ↦ omega (arith, below-less n q low)
  | inr last ↦ elim last [ inl e ↦ omega (arith, e) | inr none ↦ absurd none ]
]

pub in-below : (n q : ℕ) → q < n → IsIn q (places_below n)
in-below zero q below = absurd (omega (arith, below))
in-below (suc n) q below = elim (cases_eq q n) [
  | inl same ↦ IsIn-right q (places_below n) (n ∷ []) (inl same)
  | inr differs ↦ IsIn-left q (places_below n) (n ∷ []) (in-below n q (omega (arith, below, differs)))
]

pub length-below : (n : ℕ) → length (places_below n) ≡ n
length-below zero = refl
length-below (suc n) = length-append (places_below n) (n ∷ []) ∙ omega (arith, length-below n)

-- a place above all others comes last
rises-push : (ps : List ℕ) (p : ℕ) → Rises ps → ((q : ℕ) → IsIn q ps → q < p) → Rises (ps ++ p ∷ [])
rises-push [] p rises below = (λ q i. absurd i, tt)
rises-push (x ∷ ps) p rises below = (
  λ q i. elim (IsIn-append q ps (p ∷ []) i) [
    | inl before ↦ rises.0 q before
    | inr last ↦ elim last [
      | inl same ↦ let low : x < p = below x (inl refl) in omega (arith, low, same)
      | inr none ↦ absurd none
    ]
  ],
  rises-push ps p rises.1 (λ q i. below q (inr i)),
)

pub below-rises : (n : ℕ) → Rises (places_below n)
below-rises zero = tt
below-rises (suc n) = rises-push (places_below n) n (below-rises n) (below-less n)

-- each number below the last one has its place
below-split : (n p : ℕ) → p < n → (rest : List ℕ) × (places_below n ≡ places_below p ++ p ∷ rest)
below-split zero p below = absurd (omega (arith, below))
below-split (suc n) p below = elim (cases_eq p n) [
  | inl same ↦ ([], ap (λ m. places_below m ++ m ∷ []) (sym same))
  | inr differs ↦
      let s = below-split n p (omega (arith, below, differs)) in
      (s.0 ++ n ∷ [], ap (λ ps. ps ++ n ∷ []) s.1 ∙ append_assoc (places_below p) (p ∷ s.0) (n ∷ []))
]

-- what the test of an optional place against one says
pub place_same : (o : Option ℕ) (p : ℕ) → false ≡ not (option_eq eqb o (Some p)) → o ≡ Some p
place_same None p e = absurd (true≢false (sym e))
place_same (Some q) p e = ap Some (eqb-true q p (not-false (eqb q p) (sym e)))

pub place_differs : (o : Option ℕ) (p : ℕ) → true ≡ not (option_eq eqb o (Some p)) → o ≡ Some p → ⊥
place_differs o p e same = true≢false (e ∙ ap not (ap (λ x. option_eq eqb x (Some p)) same ∙ eq-eqb p p refl))

-- the places below this one stand first, and the next one follows them
pub record BeginsDense (order : List ℕ) (place : ℕ) (following : Option ℕ) : Type 0 where
  pub rest : List ℕ
  pub parts : order ≡ places_below place ++ rest
  pub following_is : following ≡ first_of rest

pub dense-start : (order : List ℕ) (following : Option ℕ) → following ≡ first_of order → BeginsDense order 0 following
dense-start order following is = record { rest = order; parts = refl; following_is = is }

module _ {order : List ℕ} {place : ℕ} {following : Option ℕ} (begins : BeginsDense order place following) where
  -- all places are passed
  pub dense-end : length order ≤ place → order ≡ places_below (length order)
  dense-end all = go begins.rest begins.parts
    where
      go : (rest : List ℕ) → order ≡ places_below place ++ rest → order ≡ places_below (length order)
      go [] parts =
          let whole : order ≡ places_below place = parts ∙ append-nil (places_below place) in
          whole ∙ ap places_below (sym (length-below place) ∙ sym (ap length whole))
      go (p ∷ ps) parts =
          absurd (omega (arith, all, ap length parts, length-append (places_below place) (p ∷ ps), length-below place))

  -- another place follows
  pub dense-not : place < length order → (following ≡ Some place → ⊥) → order ≡ places_below (length order) → ⊥
  dense-not more differs dense =
      let s = below-split (length order) place more in
      let rest = append_cancel_left (places_below place) begins.rest (place ∷ s.0) (sym begins.parts ∙ dense ∙ s.1) in
      differs (begins.following_is ∙ ap first_of rest)

  module _ (here : following ≡ Some place) where
    behind : (rest : List ℕ) × (order ≡ places_below place ++ place ∷ rest)
    behind = go begins.rest begins.parts (sym begins.following_is ∙ here)
      where
        go : (ps : List ℕ) → order ≡ places_below place ++ ps → first_of ps ≡ Some place
            → (rest : List ℕ) × (order ≡ places_below place ++ place ∷ rest)
        go [] parts first = absurd (let e = first in cc)
        go (p ∷ ps) parts first =
            let same : p ≡ place = cc in
            (ps, parts ∙ ap (λ q. places_below place ++ q ∷ ps) same)

    pub dense-listed : IsIn place order
    dense-listed = subst (IsIn place) (sym behind.1) (IsIn-right place (places_below place) (place ∷ behind.0) (inl refl))

    one_more : suc place ≡ place + 1
    one_more = omega arith

    pub dense-step : (next : Option ℕ) → next ≡ next_of order place → BeginsDense order (place + 1) next
    dense-step next next_is = subst (λ n. BeginsDense order n next) one_more (record {
      rest = behind.0;
      parts = behind.1 ∙ sym (append_assoc (places_below place) (place ∷ []) behind.0);
      following_is = next_is ∙ ap (λ ps. next_of ps place) behind.1
          ∙ next_of-split (places_below place) place behind.0 (λ i. omega (arith, below-less place place i));
    })
