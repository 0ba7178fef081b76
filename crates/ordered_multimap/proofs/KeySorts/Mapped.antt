-- What a sort of some items by what a function gives of each says of what it gives.
use Rattle.std.proofs.Common.{◌≡◌, ◌⊎◌, ◌+◌, ◌<◌, Bool, true, false, not, ◌&&◌, List, [], ◌∷◌, map, filter, length}
use Rattle.std.proofs.Common.{if◌then◌else◌, refl, sym, ap, ◌∙◌, inl, inr, arith}
use Rattle.std.proofs.lemmas.List.{length-map, get_or-map}
use Rattle.std.specs.Prelude.{Result, Ok, Err, OnOk}
use Rattle.std.specs.Cmp.{IsStrictWeakOrder}
use Rattle.std.specs.Fn.{AlwaysReturns, Called, Mut, ReturnsEach}
use Rattle.std.specs.List.Sorted.{IsSortedBy, IsStableBy, ties}

-- tests that are false of the same are the same
same_false : (a b : Bool) → (a ≡ false → b ≡ false) → (b ≡ false → a ≡ false) → a ≡ b
same_false true true there back = refl
same_false true false there back = back refl
same_false false true there back = sym (there refl)
same_false false false there back = refl

neither : (a b : Bool) → (not a && not b) ≡ true → (a ≡ false) × (b ≡ false)
neither true b e = absurd (let bad = e in cc)
neither false true e = absurd (let bad = e in cc)
neither false false e = (refl, refl)

module _ {Y : Type 0} {lt : Y → Y → Bool} (o : IsStrictWeakOrder lt) where
  -- what ties with one of two that tie ties with the other
  ties_same : (x y : Y) → ties lt x y ≡ true → (z : Y) → ties lt x z ≡ ties lt y z
  ties_same x y tie z =
      let n = neither (lt x y) (lt y x) tie in
      let above : lt x z ≡ lt y z = same_false (lt x z) (lt y z) (o.chain y x z n.1) (o.chain x y z n.0) in
      let below : lt z x ≡ lt z y = same_false (lt z x) (lt z y) (λ h. o.chain z x y h n.0) (λ h. o.chain z y x h n.1) in
      (λ i. not (above i) && not (below i))

-- the items that a test accepts, of one that it accepts or of none
module _ {X : Type 0} where
  record Accepted (t : X → Bool) : Type 0 where
    item : X
    is : t item ≡ true

  none_or_one : (t : X → Bool) (xs : List X) → Accepted t ⊎ (filter t xs ≡ [])
  none_or_one t [] = inr refl
  none_or_one t (x ∷ xs) = by (t x) refl (none_or_one t xs)
    where
      by : (b : Bool) → t x ≡ b → Accepted t ⊎ (filter t xs ≡ []) → Accepted t ⊎ (filter t (x ∷ xs) ≡ [])
      by true e rest = inl (record { item = x; is = e })
      by false e (inl one) = inl one
      by false e (inr none) = inr (ap (λ b. if b then x ∷ filter t xs else filter t xs) e ∙ none)

  filter-agree : (s t : X → Bool) (xs : List X) → ((x : X) → s x ≡ t x) → filter s xs ≡ filter t xs
  filter-agree s t [] same = refl
  filter-agree s t (x ∷ xs) same = λ i. if same x i then x ∷ filter-agree s t xs same i else filter-agree s t xs same i

module _ {X Y : Type 0} (f : X → Y) where
  filter-mapped : (t : Y → Bool) (xs : List X) → filter t (map f xs) ≡ map f (filter (λ x. t (f x)) xs)
  filter-mapped t [] = refl
  filter-mapped t (x ∷ xs) = by (t (f x)) (filter-mapped t xs)
    where
      by : (b : Bool) → filter t (map f xs) ≡ map f (filter (λ x. t (f x)) xs)
          → (if b then f x ∷ filter t (map f xs) else filter t (map f xs))
          ≡ map f (if b then x ∷ filter (λ x. t (f x)) xs else filter (λ x. t (f x)) xs)
      by true rest = ap (λ ys. f x ∷ ys) rest
      by false rest = rest

  module _ (lt : Y → Y → Bool) where
    pub order-mapped : IsStrictWeakOrder lt → IsStrictWeakOrder {X = X} (λ x y. lt (f x) (f y))
    order-mapped o = record { one_way = λ x y. o.one_way (f x) (f y); chain = λ x y z. o.chain (f x) (f y) (f z) }

    pub sorted-mapped : (xs : List X) → IsSortedBy (λ x y. lt (f x) (f y)) xs → IsSortedBy lt (map f xs)
    sorted-mapped [] sorted k d low high = absurd (omega arith)
    sorted-mapped (x ∷ xs) sorted k d low high =
        let within : k + 1 < length (x ∷ xs) = omega (arith, length-map (x ∷ xs) f) in
        (λ i. lt (get_or-map f (x ∷ xs) (k + 1) x d within i) (get_or-map f (x ∷ xs) k x d (omega arith) i)) ∙ sorted k x low within

    pub stable-mapped : IsStrictWeakOrder lt → (xs ys : List X) → IsStableBy (λ x y. lt (f x) (f y)) xs ys
        → IsStableBy lt (map f xs) (map f ys)
    stable-mapped o xs ys stable y =
        let t : X → Bool = λ x. ties lt y (f x) in
        let at : Accepted t → filter t ys ≡ filter t xs = λ one.
        let same = λ (x : X). ties_same o y (f one.item) one.is (f x) in
        filter-agree t (λ x. ties lt (f one.item) (f x)) ys same ∙ stable one.item
        ∙ sym (filter-agree t (λ x. ties lt (f one.item) (f x)) xs same) in
        let kept : filter t ys ≡ filter t xs = elim (none_or_one t ys) [
          | inl one ↦ at one
          | inr none ↦ elim (none_or_one t xs) [ inl one ↦ at one | inr none_before ↦ none ∙ sym none_before ]
        ] in
        filter-mapped (ties lt y) ys ∙ ap (map f) kept ∙ sym (filter-mapped (ties lt y) xs)

-- what is so of each call is so of this one
pub answers_now : {F X R : Type 0} (g : Mut F X R) (P : X → R → Type 0) {f f' : F} {a : X} {r : R} → Called g f a r f' → AlwaysReturns g P f
    → P a r
answers_now g P {f} {f'} {a} {r} called always = (always.at (a ∷ []) r f' called).0

-- what a success says, said otherwise
pub OnOk-then : {X E : Type 0} (r : Result X E) {P Q : Type 0} → (P → Q) → OnOk r P → OnOk r Q
OnOk-then (Ok x) says p = says p
OnOk-then (Err e) says p = tt

-- what is so of each call as long as something is so of the function, which each call keeps
pub always_returns_kept : {F X R : Type 0} (g : Mut F X R) (P : X → R → Type 0) (kept : F → Type 0)
    → ((f : F) (a : X) (r : R) (f' : F) → kept f → Called g f a r f' → P a r × kept f') → (f : F) → kept f → AlwaysReturns g P f
always_returns_kept {F} {X} g P kept step f holds = record { at = λ xs. each xs f holds }
  where
    each : (xs : List X) (f : F) → kept f → ReturnsEach g P f xs
    each [] f holds = tt
    each (a ∷ xs) f holds = λ r f' called. let s = step f a r f' holds called in (s.0, each xs f' s.1)
