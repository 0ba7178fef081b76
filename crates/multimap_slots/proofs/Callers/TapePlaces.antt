-- The places of a tape's items, read off its runs, and how each change of the runs changes them.
use Rattle.std.proofs.Common.{◌≡◌, ℕ, zero, suc, ◌+◌, ◌<◌, ◌≤◌, List, [], ◌∷◌, ◌++◌, length, get_or, set, take, Option, Some, None}
use Rattle.std.proofs.Common.{append_assoc, refl, sym, ap, subst, ◌∙◌, inl, inr, arith}
use Rattle.std.proofs.lemmas.Bool.{eq-eqb, ne_eqb}
use Rattle.multimap_slots.specs.Lists.{IsIn, AreDistinct, Rises, first_of, last_of, next_of, previous_of, without, IsRelocated}
use Rattle.multimap_slots.specs.Private.Runs.{places_from}
use Rattle.multimap_slots.proofs.Callers.PlaceLists.{without-absent, IsIn-split, IsIn-left, IsIn-right, AreDistinct-gone, next_of-split}
use Rattle.multimap_slots.proofs.Callers.PlaceLists.{previous_of-split}
use Rattle.std.specs.List.{last_or}

-- the last of a list with one more item behind it
last_or-push : {X : Type 0} (o : Option X) (xs : List X) (x : X) → last_or o (xs ++ x ∷ []) ≡ Some x
last_or-push o [] x = refl
last_or-push o (y ∷ ys) x = last_or-push (Some y) ys x

last_of-push : (xs : List ℕ) (x : ℕ) → last_of (xs ++ x ∷ []) ≡ Some x
last_of-push xs x = last_or-push None xs x

-- no place is lower than the one where the list begins
pub places-above : (at : ℕ) (runs : List ℕ) (p : ℕ) → IsIn p (places_from at runs) → at ≤ p
places-above at [] p i = absurd i
places-above at (zero ∷ runs) p (inl e) = omega (arith, e)
places-above at (zero ∷ runs) p (inr i) = omega (arith, places-above (suc at) runs p i)
places-above at (suc n ∷ runs) p i = omega (arith, places-above (suc at) runs p i)

pub places-distinct : (at : ℕ) (runs : List ℕ) → AreDistinct (places_from at runs)
places-distinct at [] = tt
places-distinct at (zero ∷ runs) = (λ i. omega (arith, places-above (suc at) runs at i), places-distinct (suc at) runs)
places-distinct at (suc n ∷ runs) = places-distinct (suc at) runs

pub places-rise : (at : ℕ) (runs : List ℕ) → Rises (places_from at runs)
places-rise at [] = tt
places-rise at (zero ∷ runs) = (λ q i. omega (arith, places-above (suc at) runs q i), places-rise (suc at) runs)
places-rise at (suc n ∷ runs) = places-rise (suc at) runs

-- a place with 0 is listed
pub places-listed : (at : ℕ) (runs : List ℕ) (i : ℕ) → get_or runs i 1 ≡ 0 → IsIn (at + i) (places_from at runs)
places-listed at [] i e = absurd (omega (arith, e))
places-listed at (zero ∷ runs) zero e = inl (omega arith)
places-listed at (zero ∷ runs) (suc i) e = inr (subst (λ p. IsIn p (places_from (suc at) runs)) (omega arith)
    (places-listed (suc at) runs i e))
places-listed at (suc n ∷ runs) zero e = absurd (omega (arith, e))
places-listed at (suc n ∷ runs) (suc i) e = subst (λ p. IsIn p (places_from (suc at) runs)) (omega arith) (places-listed (suc at) runs i e)

-- a place with another number than 0 is not listed
pub places-zero : (at : ℕ) (runs : List ℕ) (i : ℕ) → IsIn (at + i) (places_from at runs) → get_or runs i 1 ≡ 0
places-zero at [] i e = absurd e
places-zero at (zero ∷ runs) zero e = refl
places-zero at (zero ∷ runs) (suc i) (inl e) = absurd (omega (arith, e))
places-zero at (zero ∷ runs) (suc i) (inr e) = places-zero (suc at) runs i (subst (λ p. IsIn p (places_from (suc at) runs)) (omega arith) e)
places-zero at (suc n ∷ runs) zero e = absurd (omega (arith, places-above (suc at) runs (at + 0) e))
places-zero at (suc n ∷ runs) (suc i) e = places-zero (suc at) runs i (subst (λ p. IsIn p (places_from (suc at) runs)) (omega arith) e)

-- no more places than numbers
pub places-length : (at : ℕ) (runs : List ℕ) → length (places_from at runs) ≤ length runs
places-length at [] = omega arith
places-length at (zero ∷ runs) = omega (arith, places-length (suc at) runs)
places-length at (suc n ∷ runs) = omega (arith, places-length (suc at) runs)

-- an item goes behind all
pub places-push : (at : ℕ) (runs : List ℕ) → places_from at (runs ++ 0 ∷ []) ≡ places_from at runs ++ (at + length runs) ∷ []
places-push at [] = ap (λ p. p ∷ []) (omega arith)
places-push at (zero ∷ runs) = ap (λ ps. at ∷ ps) (places-push (suc at) runs ∙ ap (λ p. places_from (suc at) runs ++ p ∷ []) (omega arith))
places-push at (suc n ∷ runs) = places-push (suc at) runs ∙ ap (λ p. places_from (suc at) runs ++ p ∷ []) (omega arith)

-- another number at a hole
pub places-hole : (at : ℕ) (runs : List ℕ) (i n : ℕ) → 0 < get_or runs i 0 → 0 < n → places_from at (set runs i n) ≡ places_from at runs
places-hole at [] i n hole some = refl
places-hole at (zero ∷ runs) zero n hole some = absurd (omega (arith, hole))
places-hole at (suc m ∷ runs) zero zero hole some = absurd (omega (arith, some))
places-hole at (suc m ∷ runs) zero (suc n) hole some = refl
places-hole at (zero ∷ runs) (suc i) n hole some = ap (λ ps. at ∷ ps) (places-hole (suc at) runs i n hole some)
places-hole at (suc m ∷ runs) (suc i) n hole some = places-hole (suc at) runs i n hole some

-- an item becomes a hole
pub places-remove : (at : ℕ) (runs : List ℕ) (i n : ℕ) → get_or runs i 1 ≡ 0 → 0 < n
    → places_from at (set runs i n) ≡ without (places_from at runs) (at + i)
places-remove at [] i n item some = refl
places-remove at (zero ∷ runs) zero zero item some = absurd (omega (arith, some))
places-remove at (zero ∷ runs) zero (suc n) item some =
    rw (eq-eqb at (at + 0) (omega arith)) (sym (without-absent (places_from (suc at) runs) (at + 0)
    (λ i. omega (arith, places-above (suc at) runs (at + 0) i))))
places-remove at (suc m ∷ runs) zero n item some = absurd (omega (arith, item))
places-remove at (zero ∷ runs) (suc i) n item some =
    rw (ne_eqb at (at + suc i) (λ e. omega (arith, e)))
    (ap (λ ps. at ∷ ps) (places-remove (suc at) runs i n item some ∙ ap (without (places_from (suc at) runs)) (omega arith)))
places-remove at (suc m ∷ runs) (suc i) n item some = places-remove (suc at) runs i n item some
    ∙ ap (without (places_from (suc at) runs)) (omega arith)

-- one place less
pub places-shorter : (at : ℕ) (runs : List ℕ) (i n : ℕ) → get_or runs i 1 ≡ 0 → 0 < n
    → length (places_from at (set runs i n)) + 1 ≡ length (places_from at runs)
places-shorter at [] i n item some = absurd (omega (arith, item))
places-shorter at (zero ∷ runs) zero zero item some = absurd (omega (arith, some))
places-shorter at (zero ∷ runs) zero (suc n) item some = omega arith
places-shorter at (suc m ∷ runs) zero n item some = absurd (omega (arith, item))
places-shorter at (zero ∷ runs) (suc i) n item some = omega (arith, places-shorter (suc at) runs i n item some)
places-shorter at (suc m ∷ runs) (suc i) n item some = places-shorter (suc at) runs i n item some

-- the first place behind a run of holes, if any
pub places-first : (at : ℕ) (runs : List ℕ) (i : ℕ) → ((q : ℕ) → q < i → 0 < get_or runs q 0) → get_or runs i 1 ≡ 0
    → (rest : List ℕ) × (places_from at runs ≡ (at + i) ∷ rest) × ((n : ℕ) → 0 < n → places_from at (set runs i n) ≡ rest)
places-first at [] i holes item = absurd (omega (arith, item))
places-first at (zero ∷ runs) zero holes item = (places_from (suc at) runs, ap (λ p. p ∷ places_from (suc at) runs) (omega arith), written)
  where
    written : (n : ℕ) → 0 < n → places_from at (n ∷ runs) ≡ places_from (suc at) runs
    written zero some = absurd (omega (arith, some))
    written (suc n) some = refl
places-first at (zero ∷ runs) (suc i) holes item = absurd (omega (arith, holes 0 (omega arith)))
places-first at (suc m ∷ runs) zero holes item = absurd (omega (arith, item))
places-first at (suc m ∷ runs) (suc i) holes item =
    let r = places-first (suc at) runs i (λ q below. holes (suc q) (omega (arith, below))) item in
    (r.0, r.1 ∙ ap (λ p. p ∷ r.0) (omega arith), r.2)

-- holes alone
pub places-none : (at : ℕ) (runs : List ℕ) → ((q : ℕ) → q < length runs → 0 < get_or runs q 0) → places_from at runs ≡ []
places-none at [] holes = refl
places-none at (zero ∷ runs) holes = absurd (omega (arith, holes 0 (omega arith)))
places-none at (suc n ∷ runs) holes = places-none (suc at) runs (λ q below. holes (suc q) (omega (arith, below)))

-- an item goes down over holes
pub places-move : (at : ℕ) (runs : List ℕ) (to from n : ℕ) → to < from → ((q : ℕ) → to ≤ q → q < from → 0 < get_or runs q 0)
    → get_or runs from 1 ≡ 0 → 0 < n
    → IsRelocated (places_from at runs) (places_from at (set (set runs to 0) from n)) (at + from) (at + to)
places-move at [] to from n down holes item some = absurd (omega (arith, item))
places-move at (r ∷ runs) to zero n down holes item some = absurd (omega (arith, down))
places-move at (zero ∷ runs) zero (suc from) n down holes item some = absurd (omega (arith, holes 0 (omega arith) (omega arith)))
places-move at (suc r ∷ runs) zero (suc from) n down holes item some =
    let f = places-first (suc at) runs from (λ q below. holes (suc q) (omega arith) (omega (arith, below))) item in
    record {
      front = [];
      back = f.0;
      was = f.1 ∙ ap (λ p. p ∷ f.0) (omega arith);
      is = ap (λ ps. at ∷ ps) (f.2 n some) ∙ ap (λ p. p ∷ f.0) (omega arith);
    }
places-move at (zero ∷ runs) (suc to) (suc from) n down holes item some =
    let m = places-move (suc at) runs to from n (omega (arith, down))
    (λ q above below. holes (suc q) (omega (arith, above)) (omega (arith, below))) item some in
    record {
      front = at ∷ m.front;
      back = m.back;
      was = ap (λ ps. at ∷ ps) (m.was ∙ ap (λ p. m.front ++ p ∷ m.back) (omega arith));
      is = ap (λ ps. at ∷ ps) (m.is ∙ ap (λ p. m.front ++ p ∷ m.back) (omega arith));
    }
places-move at (suc r ∷ runs) (suc to) (suc from) n down holes item some =
    let m = places-move (suc at) runs to from n (omega (arith, down))
    (λ q above below. holes (suc q) (omega (arith, above)) (omega (arith, below))) item some in
    record {
      front = m.front;
      back = m.back;
      was = m.was ∙ ap (λ p. m.front ++ p ∷ m.back) (omega arith);
      is = m.is ∙ ap (λ p. m.front ++ p ∷ m.back) (omega arith);
    }

-- the neighbours of a place
pub places-next : (at : ℕ) (runs : List ℕ) (p q : ℕ) → p < q → get_or runs p 1 ≡ 0 → ((h : ℕ) → p < h → h < q → 0 < get_or runs h 0)
    → get_or runs q 1 ≡ 0
    → next_of (places_from at runs) (at + p) ≡ Some (at + q)
places-next at [] p q rises item holes following = absurd (omega (arith, item))
places-next at (r ∷ runs) p zero rises item holes following = absurd (omega (arith, rises))
places-next at (suc m ∷ runs) zero (suc q) rises item holes following = absurd (omega (arith, item))
places-next at (zero ∷ runs) zero (suc q) rises item holes following =
    let f = places-first (suc at) runs q (λ h below. holes (suc h) (omega arith) (omega (arith, below))) following in
    rw (eq-eqb at (at + 0) (omega arith), f.1) (ap Some (omega arith))
places-next at (zero ∷ runs) (suc p) (suc q) rises item holes following =
    rw (ne_eqb at (at + suc p) (λ e. omega (arith, e)))
    (ap (next_of (places_from (suc at) runs)) (omega arith)
    ∙ places-next (suc at) runs p q (omega (arith, rises)) item
    (λ h above below. holes (suc h) (omega (arith, above)) (omega (arith, below))) following ∙ ap Some (omega arith))
places-next at (suc m ∷ runs) (suc p) (suc q) rises item holes following =
    ap (next_of (places_from (suc at) runs)) (omega arith)
    ∙ places-next (suc at) runs p q (omega (arith, rises)) item
    (λ h above below. holes (suc h) (omega (arith, above)) (omega (arith, below))) following ∙ ap Some (omega arith)

pub places-last : (at : ℕ) (runs : List ℕ) (p : ℕ) → get_or runs p 1 ≡ 0 → ((h : ℕ) → p < h → h < length runs → 0 < get_or runs h 0)
    → next_of (places_from at runs) (at + p) ≡ None
places-last at [] p item holes = absurd (omega (arith, item))
places-last at (suc m ∷ runs) zero item holes = absurd (omega (arith, item))
places-last at (zero ∷ runs) zero item holes =
    rw (eq-eqb at (at + 0) (omega arith), places-none (suc at) runs (λ h below. holes (suc h) (omega arith) (omega (arith, below)))) refl
places-last at (zero ∷ runs) (suc p) item holes =
    rw (ne_eqb at (at + suc p) (λ e. omega (arith, e)))
    (ap (next_of (places_from (suc at) runs)) (omega arith)
    ∙ places-last (suc at) runs p item (λ h above below. holes (suc h) (omega (arith, above)) (omega (arith, below))))
places-last at (suc m ∷ runs) (suc p) item holes =
    ap (next_of (places_from (suc at) runs)) (omega arith)
    ∙ places-last (suc at) runs p item (λ h above below. holes (suc h) (omega (arith, above)) (omega (arith, below)))

-- what comes before a place, from what comes behind others
first_is : (p : ℕ) (ps : List ℕ) → first_of ps ≡ Some p → (rest : List ℕ) × (ps ≡ p ∷ rest)
first_is p [] e = absurd (let bad = e in cc)
first_is p (q ∷ qs) e = (qs, ap (λ x. x ∷ qs) (same q e))
  where
    same : (q : ℕ) → Some q ≡ Some p → q ≡ p
    same q e = cc

first_none : (ps : List ℕ) → first_of ps ≡ None → ps ≡ []
first_none [] e = refl
first_none (q ∷ qs) e = absurd (let bad = e in cc)

pub previous_of-next : (ps : List ℕ) (p q : ℕ) → AreDistinct ps → IsIn q ps → next_of ps q ≡ Some p → previous_of ps p ≡ Some q
previous_of-next ps p q distinct i follows =
    let s = IsIn-split q ps i in
    let apart = subst AreDistinct s.is distinct in
    let behind = first_is p s.back (sym (next_of-split s.front q s.back
    (λ j. AreDistinct-gone s.front q s.back apart (IsIn-left q s.front s.back j))) ∙ ap (λ xs. next_of xs q) (sym s.is) ∙ follows) in
    let is : ps ≡ (s.front ++ q ∷ []) ++ p ∷ behind.0 = s.is ∙ ap (λ xs. s.front ++ q ∷ xs) behind.1
    ∙ sym (append_assoc s.front (q ∷ []) (p ∷ behind.0)) in
    ap (λ xs. previous_of xs p) is
    ∙ previous_of-split (s.front ++ q ∷ []) p behind.0
    (λ j. AreDistinct-gone (s.front ++ q ∷ []) p behind.0 (subst AreDistinct is distinct) (IsIn-right p (s.front ++ q ∷ []) behind.0 j))
    ∙ last_of-push s.front q

pub previous_of-first : (ps : List ℕ) (p : ℕ) → AreDistinct ps → first_of ps ≡ Some p → previous_of ps p ≡ None
previous_of-first ps p distinct e =
    let f = first_is p ps e in
    ap (λ xs. previous_of xs p) f.1 ∙ previous_of-split [] p f.0 (subst AreDistinct f.1 distinct).0

pub last_of-next : (ps : List ℕ) (q : ℕ) → AreDistinct ps → IsIn q ps → next_of ps q ≡ None → last_of ps ≡ Some q
last_of-next ps q distinct i none =
    let s = IsIn-split q ps i in
    let apart = subst AreDistinct s.is distinct in
    let behind = first_none s.back (sym (next_of-split s.front q s.back
    (λ j. AreDistinct-gone s.front q s.back apart (IsIn-left q s.front s.back j))) ∙ ap (λ xs. next_of xs q) (sym s.is) ∙ none) in
    ap last_of (s.is ∙ ap (λ xs. s.front ++ q ∷ xs) behind) ∙ last_of-push s.front q

-- what stands behind the first numbers, all holes, gives no place
pub places-take : (at : ℕ) (runs : List ℕ) (n : ℕ) → ((h : ℕ) → n ≤ h → h < length runs → 0 < get_or runs h 0)
    → places_from at (take n runs) ≡ places_from at runs
places-take at [] zero holes = refl
places-take at [] (suc n) holes = refl
places-take at (r ∷ runs) zero holes = sym (places-none at (r ∷ runs) (λ h below. holes h (omega arith) below))
places-take at (zero ∷ runs) (suc n) holes = ap (λ ps. at ∷ ps)
    (places-take (suc at) runs n (λ h above below. holes (suc h) (omega (arith, above)) (omega (arith, below))))
places-take at (suc m ∷ runs) (suc n) holes = places-take (suc at) runs n
    (λ h above below. holes (suc h) (omega (arith, above)) (omega (arith, below)))
