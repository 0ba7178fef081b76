-- What callers of the tape conclude from its contracts.
use Rattle.std.proofs.Common.{◌≡◌, ◌≢◌, ℕ, ◌<◌, ◌≤◌, List, [], ◌∷◌, ◌++◌, Option, Some, None, IsSome, refl, sym, ap, subst, ◌∙◌, inl, inr}
use Rattle.std.proofs.Common.{arith}
use Rattle.std.specs.List.{last_or}
use Rattle.multimap_slots.specs.Lists.{IsIn, Rises, last_of, previous_of}
use Rattle.multimap_slots.specs.Slots.{Slots, item_at, IsDetached, Detaches, PushesBack}
use Rattle.multimap_slots.proofs.Callers.PlaceLists.{Split, IsIn-append, IsIn-split, IsIn-without, previous_of-split}

-- each place of the front of a rising order is at most its last one
below-last : (o : Option ℕ) (xs : List ℕ) (b q : ℕ) → Rises xs → IsIn q xs → last_or o xs ≡ Some b → q ≤ b
below-last o [] b q rises i last = absurd i
below-last o (x ∷ []) b q rises (inl e) last = let same : x ≡ b = cc in omega (arith, e, same)
below-last o (x ∷ y ∷ ys) b q rises (inl e) last =
    omega (arith, e, rises.0 y (inl refl), below-last (Some x) (y ∷ ys) b y rises.1 (inl refl) last)
below-last o (x ∷ xs) b q rises (inr i) last = below-last (Some x) xs b q rises.1 i last

Rises-left : (xs ys : List ℕ) → Rises (xs ++ ys) → Rises xs
Rises-left [] ys rises = tt
Rises-left (x ∷ xs) ys rises = (λ q i. rises.0 q (left q xs i), Rises-left xs ys rises.1)
  where
    left : (q : ℕ) (zs : List ℕ) → IsIn q zs → IsIn q (zs ++ ys)
    left q [] i = absurd i
    left q (z ∷ zs) (inl e) = inl e
    left q (z ∷ zs) (inr i) = inr (left q zs i)

Rises-behind : (xs : List ℕ) (p : ℕ) (ys : List ℕ) (q : ℕ) → Rises (xs ++ p ∷ ys) → IsIn q ys → p < q
Rises-behind [] p ys q rises i = rises.0 q i
Rises-behind (x ∷ xs) p ys q rises i = Rises-behind xs p ys q rises.1 i

last-none : (xs : List ℕ) (q : ℕ) → last_of xs ≡ None → IsIn q xs → ⊥
last-none [] q last i = i
last-none (x ∷ xs) q last i = go x xs last
  where
    go : (x : ℕ) (xs : List ℕ) → last_or (Some x) xs ≡ None → ⊥
    go x [] e = let bad = e in cc
    go x (y ∷ ys) e = go y ys e

-- what lies right before a place of a rising order, if anything, is below `to`
abbrev pub IsBelow : Option ℕ → ℕ → Type 0
IsBelow None to = Unit {0}
IsBelow (Some b) to = b < to

-- then no place is listed from there up to it
pub none_between : (order : List ℕ) (from to : ℕ) → Rises order → IsIn from order → (o : Option ℕ) → o ≡ previous_of order from
    → IsBelow o to
    → (q : ℕ) → to ≤ q → q < from → IsIn q order → ⊥
none_between order from to rises listed o o_is low q above below i =
    elim (IsIn-append q s.front (from ∷ s.back) (subst (IsIn q) s.is i)) [
      | inl a ↦ in_front o (o_is ∙ previous) low a
      | inr b ↦ elim b [ inl e ↦ omega (arith, e, below) | inr c ↦ omega (arith, below, Rises-behind s.front from s.back q split c) ]
    ]
  where
    s : Split from order
    s = IsIn-split from order listed

    split : Rises (s.front ++ from ∷ s.back)
    split = subst Rises s.is rises

    previous : previous_of order from ≡ last_of s.front
    previous =
        ap (λ ps. previous_of ps from) s.is
        ∙ previous_of-split s.front from s.back (λ j. omega (arith, Rises-behind s.front from s.back from split j))

    in_front : (o : Option ℕ) → o ≡ last_of s.front → IsBelow o to → IsIn q s.front → ⊥
    in_front None e low a = last-none s.front q (sym e) a
    in_front (Some b) e low a =
        omega (arith, low, above, below-last None s.front b q (Rises-left s.front (from ∷ s.back) split) a (sym e))

module _ {T L : Type 0} (old new : Slots T L) (place : ℕ) where
  pub IsDetached-detach : Detaches old new place → IsSome (item_at old place) → IsDetached new place
  IsDetached-detach d some =
      record {
        not_listed = λ i. (IsIn-without place old.order place (rw d.order at i)).1 refl;
        has_item = rw d.items some;
      }

  -- a push goes to another place than a detached item's
  push-apart : (at : ℕ) (item : T) (link : L) → IsDetached old place → PushesBack old new at item link → place ≢ at
  push-apart at item link d p same = let bad = subst (λ o. IsSome o) (ap (item_at old) same ∙ p.was_free) d.has_item in cc

  pub IsDetached-push : (at : ℕ) (item : T) (link : L) → IsDetached old place → PushesBack old new at item link → IsDetached new place
  IsDetached-push at item link d p =
      record {
        not_listed = λ i. elim (IsIn-append place old.order (at ∷ []) (rw p.order at i)) [
          | inl was ↦ d.not_listed was
          | inr b ↦ elim b [ inl e ↦ push-apart at item link d p e | inr none ↦ none ]
        ];
        has_item = rw (p.others.items place (push-apart at item link d p)) d.has_item;
      }
