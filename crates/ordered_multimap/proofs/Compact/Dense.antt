-- The values come to the lowest places, one after the other, and relocations in a row are one relocation.
use Rattle.std.proofs.Common.{◌≡◌, ℕ, zero, suc, ◌<◌, ◌≤◌, ◌-◌, List, [], ◌∷◌, ◌++◌, map, length, Option, Some, None, IsSome, option_map}
use Rattle.std.proofs.Common.{unwrap_or, refl, sym, ap}
use Rattle.std.proofs.Common.{◌∙◌, subst, inl, inr, arith, length-append, append_assoc}
use Rattle.std.proofs.lemmas.List.{length-map, map-append, append-nil}
use Rattle.multimap_slots.specs.Lists.{IsIn, Rises, first_of, next_of, end_of, places_below}
use Rattle.multimap_slots.specs.Slots.{Slots, IsSound, KeepsItems}
use Rattle.multimap_slots.specs.Tapes.{Taped, CutsEnd, KeepsTape}
use Rattle.multimap_slots.proofs.Callers.DensePlaces.{below-less, length-below}
use Rattle.multimap_slots.proofs.Callers.PlaceLists.{IsIn-append, next_of-split}
use Rattle.multimap_walks.specs.declared.links.KeyLink.{KeyLink}
use Rattle.multimap_walks.specs.declared.links.ValueLink.{ValueLink}
use Rattle.ordered_multimap.specs.Private.Relocations.{AreRelocated, AreDense, FollowsDense, Relocates, relocated}
use Rattle.ordered_multimap.proofs.Chains.LongerLists.{last_or-push}
use Rattle.ordered_multimap.proofs.Compact.OneMove.{relocated-from, relocated-none}

-- what rises around a place
record Around (xs : List ℕ) (p : ℕ) (ys : List ℕ) : Type 0 where
  low : (q : ℕ) → IsIn q xs → q < p
  high : (q : ℕ) → IsIn q ys → p < q

rises_around : (xs : List ℕ) (p : ℕ) (ys : List ℕ) → Rises (xs ++ p ∷ ys) → Around xs p ys
rises_around [] p ys r = record { low = λ q i. absurd i; high = r.0 }
rises_around (x ∷ xs) p ys r =
    let rest = rises_around xs p ys r.1 in
    record { low = λ q i. elim i [ inl e ↦ rw e (r.0 p (in_middle xs)) | inr later ↦ rest.low q later ]; high = rest.high }
  where
    in_middle : (zs : List ℕ) → IsIn p (zs ++ p ∷ ys)
    in_middle [] = inl refl
    in_middle (z ∷ zs) = inr (in_middle zs)

in_middle : (xs : List ℕ) (p : ℕ) (ys : List ℕ) → IsIn p (xs ++ p ∷ ys)
in_middle [] p ys = inl refl
in_middle (x ∷ xs) p ys = inr (in_middle xs p ys)

pub dense-start : (order : List ℕ) → AreDense order 0
dense-start order = record { rest = order; parts = refl }

-- the last of the first places, where there is one
module _ (order : List ℕ) (m : ℕ) (s : AreDense order (suc m)) where
  last-parts : order ≡ places_below m ++ m ∷ s.rest
  last-parts = s.parts ∙ append_assoc (places_below m) (m ∷ []) s.rest

  last-listed : IsIn m order
  last-listed = subst (IsIn m) (sym last-parts) (in_middle (places_below m) m s.rest)

  last-next : next_of order m ≡ first_of s.rest
  last-next = ap (λ ps. next_of ps m) last-parts
      ∙ next_of-split (places_below m) m s.rest (λ i. omega (arith, below-less m m i))

module _ (order : List ℕ) where
  pub dense-listed : (n : ℕ) → AreDense order n → ¬ (n ≡ 0) → IsIn (n - 1) order
  dense-listed zero s some = absurd (some refl)
  dense-listed (suc m) s some =
      let less : m ≡ suc m - 1 = omega arith in
      subst (λ p. IsIn p order) less (last-listed order m s)

  pub dense-next : (n : ℕ) (s : AreDense order n) → ¬ (n ≡ 0) → next_of order (n - 1) ≡ first_of s.rest
  dense-next zero s some = absurd (some refl)
  dense-next (suc m) s some =
      let less : suc m - 1 ≡ m = omega arith in
      ap (next_of order) less ∙ last-next order m s

  -- the place behind the first n is found
  module _ (n : ℕ) (s : AreDense order n) (more : n < length order) where
    more-rest : ¬ (s.rest ≡ [])
    more-rest none = omega (arith, more, ap length s.parts, length-append (places_below n) s.rest, length-below n, ap length none)

    pub rest-some : IsSome (first_of s.rest)
    rest-some = go s.rest more-rest
      where
        go : (rest : List ℕ) → ¬ (rest ≡ []) → IsSome (first_of rest)
        go [] some = absurd (some refl)
        go (p ∷ ps) some = refl

    pub follows-dense : Rises order → (place : ℕ) → place ≡ unwrap_or (first_of s.rest) 0 → FollowsDense order n place
    follows-dense rises place is = go s.rest more-rest s.parts is
      where
        at_least : (m from : ℕ) → ((q : ℕ) → IsIn q (places_below m) → q < from) → m ≤ from
        at_least zero from low = omega arith
        at_least (suc m) from low = omega (arith, low m (in_middle (places_below m) m []))

        go : (rest : List ℕ) → ¬ (rest ≡ []) → order ≡ places_below n ++ rest → place ≡ unwrap_or (first_of rest) 0
            → FollowsDense order n place
        go [] some parts is = absurd (some refl)
        go (p ∷ ps) some parts is =
            let a = rises_around (places_below n) p ps (subst Rises parts rises) in
            subst (FollowsDense order n) (sym is)
            (record { rest = ps; parts = parts; above = at_least n p a.low; low = a.low; high = a.high })

module _ (order : List ℕ) (n place : ℕ) (x : FollowsDense order n place) where
  pub following-listed : IsIn place order
  following-listed = subst (IsIn place) (sym x.parts) (in_middle (places_below n) place x.rest)

  pub following-holes : (q : ℕ) → n ≤ q → q < place → ¬ IsIn q order
  following-holes q above below i = elim (IsIn-append q (places_below n) (place ∷ x.rest) (subst (IsIn q) x.parts i)) [
    | inl low ↦ omega (arith, below-less n q low, above)
    | inr later ↦ elim later [ inl e ↦ omega (arith, e, below) | inr high ↦ omega (arith, x.high q high, below) ]
  ]

  dense : (now : List ℕ) → now ≡ places_below n ++ n ∷ x.rest → AreDense now (suc n)
  dense now parts = record { rest = x.rest; parts = parts ∙ sym (append_assoc (places_below n) (n ∷ []) x.rest) }

  pub dense-stay : place ≤ n → AreDense order (suc n)
  dense-stay there = dense order (x.parts ∙ ap (λ p. places_below n ++ p ∷ x.rest) (omega (arith, there, x.above)))

  pub dense-move : (now : List ℕ) → now ≡ map (relocated place n) order → AreDense now (suc n)
  dense-move now is =
      dense now (is ∙ ap (map (relocated place n)) x.parts ∙ map-append (relocated place n) (places_below n) (place ∷ x.rest)
      ∙ (λ i. relocated-none place n (places_below n) (λ j. omega (arith, x.low place j)) i
      ++ relocated-from place n place refl i ∷ relocated-none place n x.rest (λ j. omega (arith, x.high place j)) i))

-- at the end the items stand without a hole
pub dense-end : (order : List ℕ) (n : ℕ) → AreDense order n → length order ≡ n → end_of order ≡ n
dense-end order n s count = go s.rest s.parts
  where
    ends_below : (m : ℕ) → end_of (places_below m) ≡ m
    ends_below zero = refl
    ends_below (suc m) = rw (end_of, last_or-push None (places_below m) m) refl

    go : (rest : List ℕ) → order ≡ places_below n ++ rest → end_of order ≡ n
    go [] parts = ap end_of (parts ∙ append-nil (places_below n)) ∙ ends_below n
    go (p ∷ ps) parts = absurd (omega (arith, count, ap length parts, length-append (places_below n) (p ∷ ps), length-below n))

-- which are those below their number
pub dense-all : (order : List ℕ) (n : ℕ) → AreDense order n → length order ≡ n → order ≡ places_below n
dense-all order n s count = go s.rest s.parts
  where
    go : (rest : List ℕ) → order ≡ places_below n ++ rest → order ≡ places_below n
    go [] parts = parts ∙ append-nil (places_below n)
    go (p ∷ ps) parts = absurd (omega (arith, count, ap length parts, length-append (places_below n) (p ∷ ps), length-below n))

-- no place has another name, and only the capacities differ
pub relocated-room : {K V : Type 0} (keys keys_after : Slots K KeyLink) (values values_after : Slots V ValueLink) → IsSound keys
    → IsSound values
    → KeepsItems keys keys_after → KeepsItems values values_after → keys.capacity ≤ keys_after.capacity
    → values.capacity ≤ values_after.capacity
    → AreRelocated keys keys_after values values_after
relocated-room {K} {V} keys keys_after values values_after keys_sound values_sound same_keys same_values key_room value_room =
    let k : Slots K KeyLink = record keys { capacity = keys_after.capacity } in
    let v : Slots V ValueLink = record values { capacity = values_after.capacity } in
    let base : Relocates (λ p. p) keys k values v = record {
      apart = λ p q i j e. e;
      key_order = refl;
      key_items = λ q. refl;
      key_links = λ q l i e. e;
      key_room = omega (arith, keys_sound.fits, key_room);
      order = sym (same_map values.order);
      items = λ q i. refl;
      links = λ q l i e. e ∙ (λ i. Some (record l { previous = same_option l.previous i; next = same_option l.next i }));
      room = omega (arith, values_sound.fits, value_room);
    } in
    record {
      name = λ p. p;
      relocates = subst (λ s. Relocates (λ p. p) keys s values values_after) (sym same_keys)
          (subst (λ s. Relocates (λ p. p) keys k values s) (sym same_values) base);
    }
  where
    same_map : (ps : List ℕ) → map (λ p. p) ps ≡ ps
    same_map [] = refl
    same_map (p ∷ ps) = ap (λ qs. p ∷ qs) (same_map ps)

    same_option : (o : Option ℕ) → o ≡ option_map (λ p. p) o
    same_option None = refl
    same_option (Some p) = refl

-- one renaming after the other
pub relocates-then : {K V : Type 0} (f g : ℕ → ℕ) {keys keys_mid keys_end : Slots K KeyLink} {values values_mid values_end : Slots V
    ValueLink}
    → Relocates f keys keys_mid values values_mid → Relocates g keys_mid keys_end values_mid values_end
    → Relocates (λ p. g (f p)) keys keys_end values values_end
relocates-then f g {keys} {keys_mid} {keys_end} {values} {values_mid} {values_end} a b = record {
  apart = λ p q i j e. a.apart p q i j (b.apart (f p) (f q) (there p i) (there q j) e);
  key_order = b.key_order ∙ a.key_order;
  key_items = λ q. b.key_items q ∙ a.key_items q;
  key_links = λ q l i e. b.key_links q _ (subst (IsIn q) (sym a.key_order) i) (a.key_links q l i e);
  key_room = omega (arith, b.key_room, ap length a.key_order);
  order = b.order ∙ ap (map g) a.order ∙ map-twice values.order;
  items = λ q i. b.items (f q) (there q i) ∙ a.items q i;
  links = λ q l i e.
      b.links (f q) _ (there q i) (a.links q l i e)
      ∙ (λ i. Some (record l { previous = twice l.previous i; next = twice l.next i }));
  room = omega (arith, b.room, ap length a.order, length-map values.order f);
}
  where
    map-twice : (ps : List ℕ) → map g (map f ps) ≡ map (λ p. g (f p)) ps
    map-twice [] = refl
    map-twice (p ∷ ps) = ap (λ qs. g (f p) ∷ qs) (map-twice ps)

    twice : (o : Option ℕ) → option_map g (option_map f o) ≡ option_map (λ p. g (f p)) o
    twice None = refl
    twice (Some p) = refl

    in_map : (q : ℕ) (ps : List ℕ) → IsIn q ps → IsIn (f q) (map f ps)
    in_map q [] i = absurd i
    in_map q (p ∷ ps) (inl e) = inl (ap f e)
    in_map q (p ∷ ps) (inr i) = inr (in_map q ps i)

    there : (q : ℕ) → IsIn q values.order → IsIn (f q) values_mid.order
    there q i = subst (IsIn (f q)) (sym a.order) (in_map q values.order i)

-- the holes at the end are given up
pub relocates-cut : {K V : Type 0} (f : ℕ → ℕ) {keys keys_after : Slots K KeyLink} {values : Slots V ValueLink}
    (mid end : Taped V ValueLink)
    → Relocates f keys keys_after values mid.list → CutsEnd mid end → Relocates f keys keys_after values end.list
relocates-cut f {keys} {keys_after} {values} mid end a cut = record {
  apart = a.apart;
  key_order = a.key_order;
  key_items = a.key_items;
  key_links = a.key_links;
  key_room = a.key_room;
  order = cut.order ∙ a.order;
  items = λ q i. cut.items (f q) (there q i) ∙ a.items q i;
  links = λ q l i e. cut.links (f q) (there q i) ∙ a.links q l i e;
  room = omega (arith, a.room, cut.capacity);
}
  where
    in_map : (q : ℕ) (ps : List ℕ) → IsIn q ps → IsIn (f q) (map f ps)
    in_map q [] i = absurd i
    in_map q (p ∷ ps) (inl e) = inl (ap f e)
    in_map q (p ∷ ps) (inr i) = inr (in_map q ps i)

    there : (q : ℕ) → IsIn q values.order → IsIn (f q) mid.list.order
    there q i = subst (IsIn (f q)) (sym a.order) (in_map q values.order i)

-- no place has another name where the tape only grew, or not even that
pub grown_places : {K V : Type 0} {keys : Slots K KeyLink} {values values_after : Taped V ValueLink} → IsSound keys → IsSound values.list
    → KeepsTape values values_after
    → values.list.capacity ≤ values_after.list.capacity → AreRelocated keys keys values.list values_after.list
grown_places {keys = keys} {values} {values_after} keys_sound values_sound same room =
    relocated-room keys keys values.list values_after.list keys_sound values_sound refl (ap (λ t. t.list) same) (omega arith) room

pub same_places : {K V : Type 0} {keys : Slots K KeyLink} {values : Slots V ValueLink} → IsSound keys → IsSound values
    → AreRelocated keys keys values values
same_places {keys = keys} {values} keys_sound values_sound = relocated-room keys keys values values keys_sound values_sound refl refl
    (omega arith) (omega arith)

-- nor where only the keys' slots grew
pub grown_keys : {K V : Type 0} {keys keys_after : Slots K KeyLink} {values : Slots V ValueLink} → IsSound keys → IsSound values
    → KeepsItems keys keys_after → keys.capacity ≤ keys_after.capacity → AreRelocated keys keys_after values values
grown_keys {keys = keys} {keys_after} {values} keys_sound values_sound same room =
    relocated-room keys keys_after values values keys_sound values_sound same refl room (omega arith)
