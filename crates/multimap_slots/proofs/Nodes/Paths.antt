-- What a path tells of each place's neighbours, and how it changes.
use Rattle.std.proofs.Common.{◌≡◌, ◌≢◌, ◌⊎◌, ℕ, List, [], ◌∷◌, ◌++◌, length, Option, Some, None, refl, sym, ap, subst, ◌∙◌, inl, inr}
use Rattle.std.specs.List.{last_or}
use Rattle.multimap_slots.specs.Lists.{IsIn, AreDistinct, first_of}
use Rattle.multimap_slots.specs.Private.Paths.{IsMoved, IsPath, walk}
use Rattle.multimap_slots.proofs.Callers.PlaceLists.{IsIn-left, IsIn-right}

-- the place that `a` names is none of these
abbrev pub IsAway : Option ℕ → List ℕ → Type 0
IsAway a ps = (x : ℕ) → IsIn x ps → a ≢ Some x

same_place : (x y : ℕ) → Some x ≡ Some y → x ≡ y
same_place x y e = cc

last_differs : (a : Option ℕ) (p : ℕ) (qs : List ℕ) → IsAway a (p ∷ qs) → a ≢ last_or (Some p) qs
last_differs a p [] away = away p (inl refl)
last_differs a p (q ∷ qs) away = last_differs a q qs (λ x i. away x (inr i))

first_differs : (p : ℕ) (qs : List ℕ) → (IsIn p qs → ⊥) → Some p ≢ first_of qs
first_differs p [] absent = λ e. cc
first_differs p (q ∷ qs) absent = λ e. absent (inl (same_place p q e))

away_rest : (p : ℕ) (qs : List ℕ) → (IsIn p qs → ⊥) → IsAway (Some p) qs
away_rest p qs absent = λ x i e. absent (subst (λ y. IsIn y qs) (sym (same_place p x e)) i)

-- the last of some places is one of them, or what stood before them
pub last_or_in : (a : Option ℕ) (ps : List ℕ) → (last_or a ps ≡ a) ⊎ ((x : ℕ) × (last_or a ps ≡ Some x) × IsIn x ps)
last_or_in a [] = inl refl
last_or_in a (p ∷ ps) = elim (last_or_in (Some p) ps) [ inl e ↦ inr (p, e, inl refl) | inr r ↦ inr (r.0, r.1, inr r.2) ]

module _ (forth back : Option ℕ → Option ℕ) where
  -- the places are found by following the path for as many steps as it is long
  pub walk-path : (a : Option ℕ) (ps : List ℕ) → IsPath forth back a ps → walk forth a (length ps) ≡ ps
  walk-path a [] path = refl
  walk-path a (p ∷ ps) path = rw path.0 (ap (λ qs. p ∷ qs) (walk-path (Some p) ps path.2))

  pub path-first : (a : Option ℕ) (ps : List ℕ) → IsPath forth back a ps → forth a ≡ first_of ps
  path-first a [] path = path.0
  path-first a (p ∷ ps) path = path.0

  pub path-last : (a : Option ℕ) (ps : List ℕ) → IsPath forth back a ps → back None ≡ last_or a ps
  path-last a [] path = path.1
  path-last a (p ∷ ps) path = path-last (Some p) ps path.2

  -- the neighbours tell where a place stands
  pub path-neighbours : (a : Option ℕ) (xs : List ℕ) (r : ℕ) (ys : List ℕ) → IsPath forth back a (xs ++ r ∷ ys)
      → (back (Some r) ≡ last_or a xs) × (forth (Some r) ≡ first_of ys)
  path-neighbours a [] r ys path = (path.1, path-first (Some r) ys path.2)
  path-neighbours a (x ∷ xs) r ys path = path-neighbours (Some x) xs r ys path.2

  module _ (forth' back' : Option ℕ → Option ℕ) where
    -- other functions that agree on the path
    pub path-agree : (a : Option ℕ) (ps : List ℕ) → forth' a ≡ forth a → back' None ≡ back None
        → ((x : ℕ) → IsIn x ps → (forth' (Some x) ≡ forth (Some x)) × (back' (Some x) ≡ back (Some x)))
        → IsPath forth back a ps → IsPath forth' back' a ps
    path-agree a [] first last same path = (first ∙ path.0, last ∙ path.1)
    path-agree a (p ∷ ps) first last same path = (
      first ∙ path.0,
      (same p (inl refl)).1 ∙ path.1,
      path-agree (Some p) ps (same p (inl refl)).0 last (λ x i. same x (inr i)) path.2,
    )

    -- a new place goes behind the last
    pub path-push : (a : Option ℕ) (ps : List ℕ) (n : ℕ) → a ≢ Some n → (IsIn n ps → ⊥) → IsAway a ps → AreDistinct ps
        → ((x : Option ℕ) → x ≢ last_or a ps → x ≢ Some n → forth' x ≡ forth x) → forth' (last_or a ps) ≡ Some n → forth' (Some n) ≡ None
        → ((x : ℕ) → x ≢ n → back' (Some x) ≡ back (Some x)) → back' (Some n) ≡ last_or a ps → back' None ≡ Some n
        → IsPath forth back a ps → IsPath forth' back' a (ps ++ n ∷ [])
    path-push a [] n not_a absent away distinct keeps_forth last end keeps_back before top path = (last, before, (end, top))
    path-push a (p ∷ ps) n not_a absent away distinct keeps_forth last end keeps_back before top path = (
      keeps_forth a (last_differs a p ps away) not_a ∙ path.0,
      keeps_back p (λ e. absent (inl (sym e))) ∙ path.1,
      path-push (Some p) ps n (λ e. absent (inl (sym (same_place p n e)))) (λ i. absent (inr i))
          (away_rest p ps distinct.0) distinct.1 keeps_forth last end keeps_back before top path.2,
    )

    -- a new place goes before the first
    pub path-lead : (ps : List ℕ) (n : ℕ) → (IsIn n ps → ⊥) → AreDistinct ps
        → ((x : ℕ) → x ≢ n → forth' (Some x) ≡ forth (Some x)) → forth' (Some n) ≡ first_of ps → forth' None ≡ Some n
        → ((x : Option ℕ) → x ≢ first_of ps → x ≢ Some n → back' x ≡ back x) → back' (first_of ps) ≡ Some n → back' (Some n) ≡ None
        → IsPath forth back None ps → IsPath forth' back' None (n ∷ ps)
    path-lead [] n absent distinct keeps_forth ahead top keeps_back first before path = (top, before, (ahead, first))
    path-lead (p ∷ ps) n absent distinct keeps_forth ahead top keeps_back first before path = (
      top,
      before,
      (
        ahead,
        first,
        path-agree (Some p) ps
            (keeps_forth p (λ e. absent (inl (sym e))))
            (keeps_back None (λ e. cc) (λ e. cc))
            (λ x i. (
              keeps_forth x (λ e. absent (inr (subst (λ y. IsIn y ps) e i))),
              keeps_back (Some x)
                  (λ e. distinct.0 (subst (λ y. IsIn y ps) (same_place x p e) i))
                  (λ e. absent (inr (subst (λ y. IsIn y ps) (same_place x n e) i))),
            ))
            path.2,
      ),
    )

    -- the places beside `r` are tied to each other
    pub path-remove : (a : Option ℕ) (xs : List ℕ) (r : ℕ) (ys : List ℕ) → IsAway a (xs ++ r ∷ ys) → AreDistinct (xs ++ r ∷ ys)
        → IsMoved forth forth' (last_or a xs) (first_of ys) → IsMoved back back' (first_of ys) (last_or a xs)
        → IsPath forth back a (xs ++ r ∷ ys) → IsPath forth' back' a (xs ++ ys)
    path-remove a [] r [] away distinct forward backward path = (forward.moved, backward.moved)
    path-remove a [] r (q ∷ qs) away distinct forward backward path = (
      forward.moved,
      backward.moved,
      path-agree (Some q) qs
          (forward.kept (Some q) (λ e. away q (inr (inl refl)) (sym e)))
          (backward.kept None (λ e. cc))
          (λ x i. (
            forward.kept (Some x) (λ e. away x (inr (inr i)) (sym e)),
            backward.kept (Some x)
                (λ e. distinct.1.0 (subst (λ y. IsIn y qs) (same_place x q e) i)),
          ))
          path.2.2,
    )
    path-remove a (x ∷ xs) r ys away distinct forward backward path = (
      forward.kept a (last_differs a x xs (λ y i. away y (IsIn-left y (x ∷ xs) (r ∷ ys) i))) ∙ path.0,
      backward.kept (Some x) (first_differs x ys (λ i. distinct.0 (IsIn-right x xs (r ∷ ys) (inr i)))) ∙ path.1,
      path-remove (Some x) xs r ys (away_rest x (xs ++ r ∷ ys) distinct.0) distinct.1 forward backward path.2,
    )
