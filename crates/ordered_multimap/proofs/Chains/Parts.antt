-- A place in the chain of its key: what stands before it and behind it, and the chain without it.
use Rattle.std.proofs.Common.{◌≡◌, ◌≢◌, ◌==◌, ◌<◌, ℕ, Bool, true, false, cond, List, [], ◌∷◌, ◌++◌, reverse, length, filter, Option, Some}
use Rattle.std.proofs.Common.{None, refl, sym, ap, ◌∙◌, subst, inl, inr, arith, append_assoc, length-append}
use Rattle.std.proofs.lemmas.Bool.{cases_eq, eq-eqb, ne_eqb}
use Rattle.std.proofs.lemmas.List.{append-nil, reverse-append}
use Rattle.std.specs.List.{last_or}
use Rattle.multimap_slots.specs.Lists.{IsIn, AreDistinct, first_of, last_of, next_of, previous_of}
use Rattle.multimap_slots.specs.Slots.{Slots, IsSound, link_at}
use Rattle.multimap_slots.proofs.Callers.PlaceLists.{AreDistinct-gone, IsIn-kept, IsIn-left, IsIn-right, IsIn-split, Split, next_of-split}
use Rattle.multimap_slots.proofs.Callers.PlaceLists.{previous_of-split}
use Rattle.multimap_slots.proofs.Callers.PlaceLists.{reverse-split}
use Rattle.multimap_walks.specs.declared.links.KeyLink.{KeyLink}
use Rattle.multimap_walks.specs.declared.links.ValueLink.{ValueLink}
use Rattle.multimap_walks.specs.Chained.{IsChained, is_value_of, chain_of}
use Rattle.ordered_multimap.specs.Private.RemoveOne.{end_left}
use Rattle.ordered_multimap.proofs.Callers.Members.{IsIn-filter}
use Rattle.ordered_multimap.proofs.Callers.Places.{begins, ends, AreDistinct-filter, last_of-member}
use Rattle.ordered_multimap.proofs.Chains.LongerLists.{cases_some, last_or-push}
use Rattle.ordered_multimap.proofs.Chains.Neighbours.{first_of-member}
use Rattle.ordered_multimap.proofs.Agreement.Agreed.{is_value_of-is}

-- two tests in either order
pub filter-commute : {X : Type 0} (f g : X → Bool) (xs : List X) → filter f (filter g xs) ≡ filter g (filter f xs)
filter-commute f g [] = refl
filter-commute f g (x ∷ xs) = cases (f x) (g x) refl refl (filter-commute f g xs)
  where
    cases : (b c : Bool) → f x ≡ b → g x ≡ c → filter f (filter g xs) ≡ filter g (filter f xs)
        → filter f (cond (g x) (x ∷ filter g xs) (filter g xs)) ≡ filter g (cond (f x) (x ∷ filter f xs) (filter f xs))
    cases true true e d rest = rw (d, e, d) (ap (λ ys. x ∷ ys) rest)
    cases true false e d rest = rw (d, e, d) rest
    cases false true e d rest = rw (d, e) rest
    cases false false e d rest = rw (d, e) rest

-- no item stands in both parts
disjoint : (xs ys : List ℕ) (q : ℕ) → AreDistinct (xs ++ ys) → IsIn q xs → IsIn q ys → ⊥
disjoint [] ys q distinct i j = i
disjoint (x ∷ xs) ys q distinct (inl e) j = distinct.0 (subst (λ z. IsIn z (xs ++ ys)) e (IsIn-right q xs ys j))
disjoint (x ∷ xs) ys q distinct (inr i) j = disjoint xs ys q distinct.1 i j

-- a list with an item has a last one
some_last : (xs : List ℕ) (x : ℕ) → (q : ℕ) × (last_or (Some x) xs ≡ Some q)
some_last [] x = (x, refl)
some_last (y ∷ ys) x = some_last ys y

last_or-behind : (o : Option ℕ) (xs : List ℕ) (y : ℕ) (ys : List ℕ) → last_or o (xs ++ y ∷ ys) ≡ last_or (Some y) ys
last_or-behind o [] y ys = refl
last_or-behind o (x ∷ xs) y ys = last_or-behind (Some x) xs y ys

last_of-reverse : (xs : List ℕ) → last_of (reverse xs) ≡ first_of xs
last_of-reverse [] = refl
last_of-reverse (x ∷ xs) = ap last_of (reverse-split [] x xs) ∙ last_or-push None (reverse xs) x

-- where a place leaves, the others keep what is behind them, but for the one before it
pub next_of-skip : (xs : List ℕ) (p : ℕ) (ys : List ℕ) (q : ℕ) → q ≢ p → last_of xs ≢ Some q
    → next_of (xs ++ ys) q ≡ next_of (xs ++ p ∷ ys) q
next_of-skip [] p ys q differs not_last = rw (ne_eqb p q (λ e. differs (sym e))) refl
next_of-skip (x ∷ []) p ys q differs not_last = rw (ne_eqb x q (λ e. not_last (ap Some e)), ne_eqb p q (λ e. differs (sym e))) refl
next_of-skip (x ∷ y ∷ xs) p ys q differs not_last = elim (cases_eq x q) [
  | inl same ↦ rw (eq-eqb x q same) refl
  | inr other ↦ rw (ne_eqb x q other) (next_of-skip (y ∷ xs) p ys q differs not_last)
]

-- and what is before them, but for the one behind it
pub previous_of-skip : (xs : List ℕ) (p : ℕ) (ys : List ℕ) (q : ℕ) → q ≢ p → first_of ys ≢ Some q
    → previous_of (xs ++ ys) q ≡ previous_of (xs ++ p ∷ ys) q
previous_of-skip xs p ys q differs not_first =
    ap (λ zs. next_of zs q) (reverse-append xs ys)
    ∙ next_of-skip (reverse ys) p (reverse xs) q differs (λ e. not_first (sym (last_of-reverse ys) ∙ e))
    ∙ ap (λ zs. next_of zs q) (sym (reverse-split xs p ys))

-- what is behind a place that stays is named by a link that is mended where it was the one before
module _ (front back : List ℕ) (place q : ℕ) (distinct : AreDistinct (front ++ back)) (other : q ≢ place) {before behind : Option ℕ}
    (last_is : last_of front ≡ before) (first_is : first_of back ≡ behind) where
  pub next_left : {next now : Option ℕ} → next_of (front ++ place ∷ back) q ≡ next
      → (before ≡ Some q → now ≡ behind) → (before ≢ Some q → now ≡ next) → next_of (front ++ back) q ≡ now
  next_left was relinked same = elim (cases_some before q) [
    | inl here ↦
        let e = ends front q (last_is ∙ here) in
        let whole : front ++ back ≡ e.front ++ q ∷ back = ap (λ ps. ps ++ back) e.is ∙ append_assoc e.front (q ∷ []) back in
        let gone = AreDistinct-gone e.front q back (subst AreDistinct whole distinct) in
        ap (λ ps. next_of ps q) whole ∙ next_of-split e.front q back (λ i. gone (IsIn-left q e.front back i))
        ∙ first_is ∙ sym (relinked here)
    | inr there ↦ next_of-skip front place back q other (λ e. there (sym last_is ∙ e)) ∙ was ∙ sym (same there)
  ]

  -- and what is before it, where it was the one behind
  pub previous_left : {previous now : Option ℕ} → previous_of (front ++ place ∷ back) q ≡ previous
      → (behind ≡ Some q → now ≡ before) → (behind ≢ Some q → now ≡ previous) → previous_of (front ++ back) q ≡ now
  previous_left was relinked same = elim (cases_some behind q) [
    | inl here ↦
        let b = begins back q (first_is ∙ here) in
        let whole : front ++ back ≡ front ++ q ∷ b.rest = ap (λ ps. front ++ ps) b.is in
        let gone = AreDistinct-gone front q b.rest (subst AreDistinct whole distinct) in
        ap (λ ps. previous_of ps q) whole ∙ previous_of-split front q b.rest (λ i. gone (IsIn-right q front b.rest i))
        ∙ last_is ∙ sym (relinked here)
    | inr there ↦ previous_of-skip front place back q other (λ e. there (sym first_is ∙ e)) ∙ was ∙ sym (same there)
  ]

-- the ends of what is left
pub head_left : (front back : List ℕ) (place : ℕ) (before behind : Option ℕ) (head : ℕ) → last_of front ≡ before → first_of back ≡ behind
    → 1 < length (front ++ place ∷ back)
    → first_of (front ++ place ∷ back) ≡ Some head → first_of (front ++ back) ≡ Some (end_left before behind head)
head_left [] [] place before behind head last first more e = absurd (omega (arith, more))
head_left [] (b ∷ back) place before behind head last first more e = λ i. Some (end_left (last i) (first i) head)
head_left (f ∷ front) back place before behind head last first more e =
    let l = some_last front f in
    e ∙ (λ i. Some (end_left ((sym l.1 ∙ last) i) behind head))

pub tail_left : (front back : List ℕ) (place : ℕ) (before behind : Option ℕ) (tail : ℕ) → last_of front ≡ before → first_of back ≡ behind
    → 1 < length (front ++ place ∷ back)
    → last_of (front ++ place ∷ back) ≡ Some tail → last_of (front ++ back) ≡ Some (end_left behind before tail)
tail_left [] [] place before behind tail last first more e = absurd (omega (arith, more))
tail_left (f ∷ front) [] place before behind tail last first more e =
    let l = some_last front f in
    ap last_of (append-nil (f ∷ front)) ∙ l.1 ∙ (λ i. Some (end_left (first i) ((sym l.1 ∙ last) i) tail))
tail_left front (b ∷ back) place before behind tail last first more e =
    last_or-behind None front b back ∙ sym (last_or-behind None front place (b ∷ back)) ∙ e ∙ (λ i. Some (end_left (first i) before tail))

-- the link of the key that a value's link names
pub key_link_at : {K V : Type 0} (keys : Slots K KeyLink) (values : Slots V ValueLink) (place : ℕ) {l : ValueLink} {k : KeyLink}
    → link_at values place ≡ Some l → link_at keys l.key ≡ Some k
    → (m : ValueLink) → link_at values place ≡ Some m → link_at keys m.key ≡ Some k
key_link_at keys values place {l = l} is key_is m is_m =
    let both : Some m ≡ Some l = sym is_m ∙ is in
    let same : m ≡ l = cc in
    ap (λ (v : ValueLink). link_at keys v.key) same ∙ key_is

module _ {K V : Type 0} {keys : Slots K KeyLink} {values : Slots V ValueLink} (sound : IsSound values) (chained : IsChained keys values)
    (place : ℕ) (link : ValueLink) (listed : IsIn place values.order) (link_is : link_at values place ≡ Some link) where
  pub own : is_value_of values link.key place ≡ true
  own = is_value_of-is keys values link.key place link link_is ∙ eq-eqb link.key link.key refl

  -- what stands before the place and behind it
  pub parts : Split place (chain_of values link.key)
  parts = IsIn-split place (chain_of values link.key) (IsIn-filter (is_value_of values link.key) place values.order own listed)

  pub parts_distinct : AreDistinct (parts.front ++ place ∷ parts.back)
  parts_distinct = subst AreDistinct parts.is (AreDistinct-filter (is_value_of values link.key) values.order sound.distinct)

  pub apart : IsIn place (parts.front ++ parts.back) → ⊥
  apart = AreDistinct-gone parts.front place parts.back parts_distinct

  -- its link names its neighbours
  pub last_before : last_of parts.front ≡ link.previous
  last_before =
      sym (ap (λ ps. previous_of ps place) parts.is
      ∙ previous_of-split parts.front place parts.back (λ i. apart (IsIn-right place parts.front parts.back i)))
      ∙ chained.previous place link listed link_is

  pub first_behind : first_of parts.back ≡ link.next
  first_behind =
      sym (ap (λ ps. next_of ps place) parts.is ∙ next_of-split parts.front place parts.back
      (λ i. apart (IsIn-left place parts.front parts.back i)))
      ∙ chained.next place link listed link_is

  in_front : (q : ℕ) → link.previous ≡ Some q → IsIn q parts.front
  in_front q e = last_of-member parts.front q (last_before ∙ e)

  in_back : (q : ℕ) → link.next ≡ Some q → IsIn q parts.back
  in_back q e = first_of-member parts.back q (first_behind ∙ e)

  -- which are listed values of the same key
  pub before_own : (q : ℕ) → link.previous ≡ Some q → IsIn q values.order × (is_value_of values link.key q ≡ true)
  before_own q e = IsIn-kept (is_value_of values link.key) q values.order
      (subst (IsIn q) (sym parts.is) (IsIn-left q parts.front (place ∷ parts.back) (in_front q e)))

  pub behind_own : (q : ℕ) → link.next ≡ Some q → IsIn q values.order × (is_value_of values link.key q ≡ true)
  behind_own q e = IsIn-kept (is_value_of values link.key) q values.order
      (subst (IsIn q) (sym parts.is) (IsIn-right q parts.front (place ∷ parts.back) (inr (in_back q e))))

  -- the neighbours of a place are other places
  pub before_other : (q : ℕ) → link.previous ≡ Some q → q ≢ place
  before_other q e same = apart (IsIn-left place parts.front parts.back (subst (λ p. IsIn p parts.front) same (in_front q e)))

  pub behind_other : (q : ℕ) → link.next ≡ Some q → q ≢ place
  behind_other q e same = apart (IsIn-right place parts.front parts.back (subst (λ p. IsIn p parts.back) same (in_back q e)))

  pub neighbours_differ : (q : ℕ) → link.previous ≡ Some q → link.next ≢ Some q
  neighbours_differ q before behind = disjoint parts.front (place ∷ parts.back) q parts_distinct (in_front q before)
      (inr (in_back q behind))

  -- the only value of its key
  module _ (only : length (chain_of values link.key) ≡ 1) where
    pub chain-only : chain_of values link.key ≡ place ∷ []
    chain-only = alone parts.front parts.back parts.is
      where
        alone : (front back : List ℕ) → chain_of values link.key ≡ front ++ place ∷ back → chain_of values link.key ≡ place ∷ []
        alone [] [] is = is
        alone [] (b ∷ back) is = absurd (omega (arith, only, ap length is))
        alone (f ∷ front) back is = absurd (omega (arith, only, ap length is, length-append front (place ∷ back)))

    pub own-only : (q : ℕ) → IsIn q values.order → is_value_of values link.key q ≡ (q == place)
    own-only q i = elim (cases_eq q place) [
      | inl same ↦ ap (is_value_of values link.key) same ∙ own ∙ sym (eq-eqb q place same)
      | inr differs ↦ other (is_value_of values link.key q) refl differs ∙ sym (ne_eqb q place differs)
    ]
      where
        other : (b : Bool) → is_value_of values link.key q ≡ b → q ≢ place → is_value_of values link.key q ≡ false
        other false e differs = e
        other true e differs = elim (subst (IsIn q) chain-only
            (IsIn-filter (is_value_of values link.key) q values.order e i)) [ inl same ↦ absurd (differs same) | inr never ↦ absurd never ]
