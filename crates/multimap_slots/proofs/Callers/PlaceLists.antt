-- Facts on the words for lists, for callers too.
use Rattle.std.proofs.Common.{◌≡◌, ◌≢◌, ◌⊎◌, ℕ, Bool, true, false, cond, List, [], ◌∷◌, ◌++◌, filter, reverse, None, refl, sym, ap, subst}
use Rattle.std.proofs.Common.{◌∙◌, inl, inr, append_assoc}
use Rattle.std.proofs.lemmas.Bool.{cases_eq, eq-eqb, ne_eqb}
use Rattle.std.proofs.lemmas.List.{append-nil, reverse-append}
use Rattle.std.specs.List.{last_or}
use Rattle.multimap_slots.specs.Lists.{IsIn, AreDistinct, first_of, last_of, next_of, previous_of, without}

-- a list with x between a front and a back
pub record Split {X : Type 0} (x : X) (xs : List X) : Type 0 where
  pub front : List X
  pub back : List X
  pub is : xs ≡ front ++ x ∷ back

module _ {X : Type 0} where
  pub IsIn-append : (x : X) (xs ys : List X) → IsIn x (xs ++ ys) → IsIn x xs ⊎ IsIn x ys
  IsIn-append x [] ys i = inr i
  IsIn-append x (y ∷ xs) ys (inl e) = inl (inl e)
  IsIn-append x (y ∷ xs) ys (inr i) = elim (IsIn-append x xs ys i) [ inl a ↦ inl (inr a) | inr b ↦ inr b ]

  pub IsIn-left : (x : X) (xs ys : List X) → IsIn x xs → IsIn x (xs ++ ys)
  IsIn-left x [] ys i = absurd i
  IsIn-left x (y ∷ xs) ys (inl e) = inl e
  IsIn-left x (y ∷ xs) ys (inr i) = inr (IsIn-left x xs ys i)

  pub IsIn-right : (x : X) (xs ys : List X) → IsIn x ys → IsIn x (xs ++ ys)
  IsIn-right x [] ys i = i
  IsIn-right x (y ∷ xs) ys i = inr (IsIn-right x xs ys i)

  pub IsIn-split : (x : X) (xs : List X) → IsIn x xs → Split x xs
  IsIn-split x [] i = absurd i
  IsIn-split x (y ∷ ys) (inl e) = record { front = []; back = ys; is = ap (λ z. z ∷ ys) (sym e) }
  IsIn-split x (y ∷ ys) (inr i) =
      let s = IsIn-split x ys i in
      record { front = y ∷ s.front; back = s.back; is = ap (λ zs. y ∷ zs) s.is }

  -- what a filter keeps is a member that passes
  pub IsIn-kept : (test : X → Bool) (x : X) (xs : List X) → IsIn x (filter test xs) → IsIn x xs × (test x ≡ true)
  IsIn-kept test x [] i = absurd i
  IsIn-kept test x (y ∷ xs) i =
      let P : Bool → Type 0 = λ b. test y ≡ b → IsIn x (cond b (y ∷ filter test xs) (filter test xs)) → IsIn x (y ∷ xs) × (test x ≡ true) in
      elim (test y) as P [
        | true ↦ λ e among. elim among [
          | inl here ↦ (inl here, ap test here ∙ e)
          | inr later ↦ let rest = IsIn-kept test x xs later in (inr rest.0, rest.1)
        ]
        | false ↦ λ e among. let rest = IsIn-kept test x xs among in (inr rest.0, rest.1)
      ] refl i

  pub AreDistinct-push : (xs : List X) (x : X) → (IsIn x xs → ⊥) → AreDistinct xs → AreDistinct (xs ++ x ∷ [])
  AreDistinct-push [] x absent distinct = (λ i. i, tt)
  AreDistinct-push (y ∷ ys) x absent distinct = (
    λ i. elim (IsIn-append y ys (x ∷ []) i) [ inl a ↦ distinct.0 a | inr b ↦ elim b [ inl e ↦ absent (inl (sym e)) | inr none ↦ none ] ],
    AreDistinct-push ys x (λ i. absent (inr i)) distinct.1,
  )

  pub AreDistinct-remove : (xs : List X) (x : X) (ys : List X) → AreDistinct (xs ++ x ∷ ys) → AreDistinct (xs ++ ys)
  AreDistinct-remove [] x ys distinct = distinct.1
  AreDistinct-remove (y ∷ xs) x ys distinct = (
    λ i. distinct.0 (elim (IsIn-append y xs ys i) [ inl a ↦ IsIn-left y xs (x ∷ ys) a | inr b ↦ IsIn-right y xs (x ∷ ys) (inr b) ]),
    AreDistinct-remove xs x ys distinct.1,
  )

  -- an item that was taken out is gone
  pub AreDistinct-gone : (xs : List X) (x : X) (ys : List X) → AreDistinct (xs ++ x ∷ ys) → IsIn x (xs ++ ys) → ⊥
  AreDistinct-gone [] x ys distinct i = distinct.0 i
  AreDistinct-gone (y ∷ xs) x ys distinct (inl e) =
      distinct.0 (subst (λ z. IsIn z (xs ++ x ∷ ys)) e (IsIn-right x xs (x ∷ ys) (inl refl)))
  AreDistinct-gone (y ∷ xs) x ys distinct (inr i) = AreDistinct-gone xs x ys distinct.1 i

  -- where one item is taken out, no item comes
  pub IsIn-was : (x : X) (xs : List X) (y : X) (ys : List X) → IsIn x (xs ++ ys) → IsIn x (xs ++ y ∷ ys)
  IsIn-was x xs y ys i = elim (IsIn-append x xs ys i) [ inl a ↦ IsIn-left x xs (y ∷ ys) a | inr b ↦ IsIn-right x xs (y ∷ ys) (inr b) ]

  -- and every other item stays
  pub IsIn-besides : (x : X) (xs : List X) (y : X) (ys : List X) → x ≢ y → IsIn x (xs ++ y ∷ ys) → IsIn x (xs ++ ys)
  IsIn-besides x xs y ys differs i = elim (IsIn-append x xs (y ∷ ys) i) [
    | inl a ↦ IsIn-left x xs ys a
    | inr b ↦ elim b [ inl e ↦ absurd (differs e) | inr c ↦ IsIn-right x xs ys c ]
  ]

  reverse-cons : (x : X) (xs : List X) → reverse (x ∷ xs) ≡ reverse xs ++ x ∷ []
  reverse-cons x xs = reverse-append (x ∷ []) xs

  first_of-reverse_append : (xs ys : List X) → first_of (reverse xs ++ ys) ≡ last_or (first_of ys) xs
  first_of-reverse_append [] ys = refl
  first_of-reverse_append (x ∷ xs) ys =
      ap (λ zs. first_of (zs ++ ys)) (reverse-cons x xs)
      ∙ ap first_of (append_assoc (reverse xs) (x ∷ []) ys)
      ∙ first_of-reverse_append xs (x ∷ ys)

  pub first_of-reverse : (xs : List X) → first_of (reverse xs) ≡ last_of xs
  first_of-reverse xs = ap first_of (sym (append-nil (reverse xs))) ∙ first_of-reverse_append xs []

  pub IsIn-reverse : (x : X) (xs : List X) → IsIn x (reverse xs) → IsIn x xs
  IsIn-reverse x [] i = i
  IsIn-reverse x (y ∷ ys) i =
      elim (IsIn-append x (reverse ys) (y ∷ []) (subst (IsIn x) (reverse-cons y ys) i)) [
        | inl a ↦ inr (IsIn-reverse x ys a)
        | inr b ↦ elim b [ inl e ↦ inl e | inr none ↦ absurd none ]
      ]

  pub reverse-split : (xs : List X) (x : X) (ys : List X) → reverse (xs ++ x ∷ ys) ≡ reverse ys ++ x ∷ reverse xs
  reverse-split xs x ys =
      reverse-append xs (x ∷ ys) ∙ ap (λ zs. zs ++ reverse xs) (reverse-cons x ys)
      ∙ append_assoc (reverse ys) (x ∷ []) (reverse xs)

pub next_of-split : (xs : List ℕ) (p : ℕ) (ys : List ℕ) → (IsIn p xs → ⊥) → next_of (xs ++ p ∷ ys) p ≡ first_of ys
next_of-split [] p ys absent = rw (eq-eqb p p refl)
next_of-split (x ∷ xs) p ys absent =
    rw (ne_eqb x p (λ e. absent (inl (sym e)))) (next_of-split xs p ys (λ i. absent (inr i)))

pub next_of-absent : (ps : List ℕ) (p : ℕ) → (IsIn p ps → ⊥) → next_of ps p ≡ None
next_of-absent [] p absent = refl
next_of-absent (q ∷ qs) p absent =
    rw (ne_eqb q p (λ e. absent (inl (sym e)))) (next_of-absent qs p (λ i. absent (inr i)))

pub previous_of-split : (xs : List ℕ) (p : ℕ) (ys : List ℕ) → (IsIn p ys → ⊥) → previous_of (xs ++ p ∷ ys) p ≡ last_of xs
previous_of-split xs p ys absent =
    ap (λ zs. next_of zs p) (reverse-split xs p ys)
    ∙ next_of-split (reverse ys) p (reverse xs) (λ i. absent (IsIn-reverse p ys i))
    ∙ first_of-reverse xs

pub previous_of-absent : (ps : List ℕ) (p : ℕ) → (IsIn p ps → ⊥) → previous_of ps p ≡ None
previous_of-absent ps p absent = next_of-absent (reverse ps) p (λ i. absent (IsIn-reverse p ps i))

pub without-absent : (ps : List ℕ) (p : ℕ) → (IsIn p ps → ⊥) → without ps p ≡ ps
without-absent [] p absent = refl
without-absent (q ∷ qs) p absent =
    rw (ne_eqb q p (λ e. absent (inl (sym e)))) (ap (λ xs. q ∷ xs) (without-absent qs p (λ i. absent (inr i))))

pub without-split : (xs : List ℕ) (p : ℕ) (ys : List ℕ) → (IsIn p (xs ++ ys) → ⊥) → without (xs ++ p ∷ ys) p ≡ xs ++ ys
without-split [] p ys absent = rw (eq-eqb p p refl) (without-absent ys p absent)
without-split (x ∷ xs) p ys absent =
    rw (ne_eqb x p (λ e. absent (inl (sym e)))) (ap (λ zs. x ∷ zs) (without-split xs p ys (λ i. absent (inr i))))

-- what is left is another place, and was there
pub IsIn-without : (q : ℕ) (ps : List ℕ) (p : ℕ) → IsIn q (without ps p) → IsIn q ps × (q ≢ p)
IsIn-without q [] p i = absurd i
IsIn-without q (x ∷ ps) p i = elim (cases_eq x p) [
  | inl same ↦
      let rest = IsIn-without q ps p (rw (eq-eqb x p same) at i) in
      (inr rest.0, rest.1)
  | inr differs ↦ elim (rw (ne_eqb x p differs) at i) [
    | inl e ↦ (inl e, λ same. differs (sym e ∙ same))
    | inr later ↦ let rest = IsIn-without q ps p later in (inr rest.0, rest.1)
  ]
]

-- and every other place is left
pub IsIn-stays : (q : ℕ) (ps : List ℕ) (p : ℕ) → q ≢ p → IsIn q ps → IsIn q (without ps p)
IsIn-stays q [] p differs i = i
IsIn-stays q (x ∷ ps) p differs (inl e) = rw (ne_eqb x p (λ same. differs (e ∙ same))) (inl e)
IsIn-stays q (x ∷ ps) p differs (inr later) =
    let rest = IsIn-stays q ps p differs later in
    elim (cases_eq x p) [
      | inl same ↦ rw (eq-eqb x p same) rest
      | inr other ↦ rw (ne_eqb x p other) (inr rest)
    ]
