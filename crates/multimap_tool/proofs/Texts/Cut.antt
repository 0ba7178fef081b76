-- A text cut at its first separator.
use Rattle.std.proofs.Common.{◌≡◌, ℕ, Bool, true, false, ◌||◌, nat_eq, List, [], ◌∷◌, ◌++◌, refl, ap, ◌∙◌, true≢false}
use Rattle.std.specs.List.{list_any}
use Rattle.std.proofs.lemmas.Bool.{eqb-false}
use Rattle.multimap_tool.specs.Private.Parts.{IsWithout}

-- of a disjunction that is false, each part is
or_false : (a b : Bool) → (a || b) ≡ false → (a ≡ false) × (b ≡ false)
or_false a b e = elim a as (λ v. (v || b) ≡ false
    → (v ≡ false) × (b ≡ false)) [ true ↦ λ never. absurd (true≢false never) | false ↦ λ e. (refl, e) ] e

module _ (s : ℕ) where
  -- the separator isn't in what is without it
  pub without-cut : (before after : List ℕ) → IsWithout s (before ++ s ∷ after) → ⊥
  without-cut [] after without = eqb-false s s (or_false (nat_eq s s) (list_any (nat_eq s) after) without).0 refl
  without-cut (b ∷ before) after without = without-cut before after
      (or_false (nat_eq s b) (list_any (nat_eq s) (before ++ s ∷ after)) without).1

  pub head_differs : (b : ℕ) (bs : List ℕ) → IsWithout s (b ∷ bs) → s ≡ b → ⊥
  head_differs b bs without e = eqb-false s b (or_false (nat_eq s b) (list_any (nat_eq s) bs) without).0 e

  pub tail_without : (b : ℕ) (bs : List ℕ) → IsWithout s (b ∷ bs) → IsWithout s bs
  tail_without b bs without = (or_false (nat_eq s b) (list_any (nat_eq s) bs) without).1

  -- two parts before the first separator are one
  pub same_cut : (a b x y : List ℕ) → IsWithout s a → IsWithout s b → a ++ s ∷ x ≡ b ++ s ∷ y → (a ≡ b) × (x ≡ y)
  same_cut [] [] x y left right e = (refl, cc)
  same_cut [] (b ∷ bs) x y left right e = absurd (head_differs b bs right (cc))
  same_cut (a ∷ as_) [] x y left right e = absurd (head_differs a as_ left (cc))
  same_cut (a ∷ as_) (b ∷ bs) x y left right e =
      let heads : a ≡ b = cc in
      let tails : as_ ++ s ∷ x ≡ bs ++ s ∷ y = cc in
      let rest = same_cut as_ bs x y (tail_without a as_ left) (tail_without b bs right) tails in
      (ap (λ c. c ∷ as_) heads ∙ ap (λ cs. b ∷ cs) rest.0, rest.1)
