-- Places by their index in a chain: the ends, the steps along its links, and a list without one item.
use Rattle.std.proofs.Common.{◌≡◌, ◌+◌, ◌-◌, ◌<◌, ℕ, zero, suc, true, List, [], ◌∷◌, ◌++◌, length, length-append, map, slice_get}
use Rattle.std.proofs.Common.{get_or, Option, option_and_then, unwrap_or, Some, IsSome, refl, sym, ap, ◌∙◌, subst, inl, inr, arith}
use Rattle.std.proofs.lemmas.Bool.{eq-eqb, ne_eqb}
use Rattle.std.proofs.lemmas.List.Edits.{remove-append_right}
use Rattle.std.proofs.lemmas.List.Elements.{filter_map-append}
use Rattle.std.proofs.lemmas.Option.{slice_get_within, slice_get-get_or}
use Rattle.std.specs.List.{filter_map, cons_option, remove}
use Rattle.multimap_slots.specs.Lists.{IsIn, AreDistinct, first_of, next_of, previous_of, without}
use Rattle.multimap_slots.specs.Slots.{Slots, IsSound, link_at}
use Rattle.multimap_slots.proofs.Callers.PlaceLists.{AreDistinct-gone, IsIn-kept, IsIn-left, IsIn-split, without-split}
use Rattle.multimap_walks.specs.declared.links.KeyLink.{KeyLink}
use Rattle.multimap_walks.specs.declared.links.ValueLink.{ValueLink}
use Rattle.multimap_walks.specs.Chained.{IsChained, position_in, is_value_of, chain_of}
use Rattle.ordered_multimap.specs.Private.Relocations.{AreChained}
use Rattle.ordered_multimap.specs.Private.RemoveOne.{HasKeyLink}
use Rattle.ordered_multimap.specs.RemovedAt.{several}
use Rattle.ordered_multimap.proofs.Agreement.Agreed.{value_owner}
use Rattle.ordered_multimap.proofs.Chains.Neighbours.{previous_is}
use Rattle.ordered_multimap.proofs.Callers.Places.{begins, ends, held, length-filter_map, position_in-split}
use Rattle.ordered_multimap.proofs.Remove.ValueByValue.{distinct, onward}

module _ {X : Type 0} where
  -- an item at an index is a member
  pub indexed_member : (xs : List X) (i : ℕ) (x : X) → slice_get xs i ≡ Some x → IsIn x xs
  indexed_member [] i x e = absurd (cc)
  indexed_member (y ∷ xs) zero x e = inl (let same : y ≡ x = cc in sym same)
  indexed_member (y ∷ xs) (suc i) x e = inr (indexed_member xs i x e)

  last_indexed : (xs : List X) (x : X) → slice_get (xs ++ x ∷ []) (length xs) ≡ Some x
  last_indexed [] x = refl
  last_indexed (y ∷ xs) x = last_indexed xs x

  first_indexed : (xs : List X) (x : X) → slice_get xs 0 ≡ Some x → first_of xs ≡ Some x
  first_indexed [] x e = e
  first_indexed (y ∷ xs) x e = e

  -- of two items or more each is one of several
  pub several_all : (xs : List X) → 1 < length xs → several xs ≡ xs
  several_all [] more = refl
  several_all (x ∷ []) more = absurd (omega (arith, more))
  several_all (x ∷ y ∷ xs) more = refl

  pub of_several : (xs : List X) (i : ℕ) (x : X) → slice_get (several xs) i ≡ Some x → slice_get xs i ≡ Some x
  of_several [] i x e = e
  of_several (y ∷ []) i x e = absurd (cc)
  of_several (y ∷ z ∷ xs) i x e = e

  pub several-map : {Y : Type 0} (f : X → Y) (xs : List X) → several (map f xs) ≡ map f (several xs)
  several-map f [] = refl
  several-map f (x ∷ []) = refl
  several-map f (x ∷ y ∷ xs) = refl

  module _ {Y : Type 0} (f : X → Option Y) where
    -- what is made of an item at an index
    pub indexed_shown : (xs : List X) (i : ℕ) → ((x : X) → IsIn x xs → IsSome (f x))
        → slice_get (filter_map f xs) i ≡ option_and_then f (slice_get xs i)
    indexed_shown [] i all = refl
    indexed_shown (x ∷ xs) zero all =
        let h = held (f x) (all x (inl refl)) in
        ap (λ o. slice_get (cons_option o (filter_map f xs)) 0) h.is ∙ sym h.is
    indexed_shown (x ∷ xs) (suc i) all =
        let h = held (f x) (all x (inl refl)) in
        ap (λ o. slice_get (cons_option o (filter_map f xs)) (suc i)) h.is ∙ indexed_shown xs i (λ y j. all y (inr j))

    several-shown : (xs : List X) → ((x : X) → IsIn x xs → IsSome (f x)) → several (filter_map f xs) ≡ filter_map f (several xs)
    several-shown [] all = refl
    several-shown (x ∷ []) all = let h = held (f x) (all x (inl refl)) in ap (λ o. several (cons_option o [])) h.is
    several-shown (x ∷ y ∷ xs) all =
        let h = held (f x) (all x (inl refl)) in
        let k = held (f y) (all y (inr (inl refl))) in
        let rest : List Y = filter_map f xs in
        ap (λ o. several (cons_option o (cons_option (f y) rest))) h.is
        ∙ ap (λ o. several (h.value ∷ cons_option o rest)) k.is
        ∙ sym (ap (λ o. cons_option o (cons_option (f y) rest)) h.is ∙ ap (λ o. h.value ∷ cons_option o rest) k.is)

    pub several_shown : (xs : List X) (i : ℕ) → ((x : X) → IsIn x xs → IsSome (f x))
        → slice_get (several (filter_map f xs)) i ≡ option_and_then f (slice_get (several xs) i)
    several_shown xs i all =
        ap (λ ys. slice_get ys i) (several-shown xs all)
        ∙ indexed_shown (several xs) i (λ x j. all x (among xs x j))
      where
        among : (xs : List X) (x : X) → IsIn x (several xs) → IsIn x xs
        among [] x j = j
        among (y ∷ []) x j = absurd j
        among (y ∷ z ∷ xs) x j = j

-- what the places show without one of them is all that they show without the item at its position
pub shown_without : {X : Type 0} (f : ℕ → Option X) (ps : List ℕ) (p : ℕ) → AreDistinct ps → ((q : ℕ) → IsIn q ps → IsSome (f q))
    → IsIn p ps
    → filter_map f (without ps p) ≡ remove (filter_map f ps) (position_in ps p)
shown_without {X} f ps p apart all member =
    let s = IsIn-split p ps member in
    let gone = AreDistinct-gone s.front p s.back (subst AreDistinct s.is apart) in
    let h = held (f p) (all p member) in
    let front : List X = filter_map f s.front in
    let back : List X = filter_map f s.back in
    let shown : filter_map f ps ≡ front ++ h.value ∷ back =
    ap (filter_map f) s.is ∙ filter_map-append f s.front (p ∷ s.back) ∙ ap (λ o. front ++ cons_option o back) h.is in
    let position : position_in ps p ≡ length front =
    ap (λ qs. position_in qs p) s.is ∙ position_in-split s.front p s.back (λ i. gone (IsIn-left p s.front s.back i))
    ∙ sym (length-filter_map f s.front (λ q i. all q (subst (IsIn q) (sym s.is) (IsIn-left q s.front (p ∷ s.back) i)))) in
    let none : length front - length front ≡ 0 = omega arith in
    ap (λ qs. filter_map f (without qs p)) s.is ∙ ap (filter_map f) (without-split s.front p s.back gone)
    ∙ filter_map-append f s.front s.back
    ∙ sym (ap (remove (filter_map f ps)) position ∙ ap (λ xs. remove xs (length front)) shown
    ∙ remove-append_right front (h.value ∷ back) (length front) (length front) refl (omega arith)
    ∙ ap (λ n. front ++ remove (h.value ∷ back) n) none)

-- the place behind another one is that at the next index
next_along : (ps : List ℕ) → AreDistinct ps → (i p q : ℕ) → slice_get ps i ≡ Some p → slice_get ps (suc i) ≡ Some q → next_of ps p ≡ Some q
next_along [] apart i p q e f = absurd (cc)
next_along (x ∷ ps) apart zero p q e f = let same : x ≡ p = cc in rw (eq-eqb x p same) (first_indexed ps q f)
next_along (x ∷ ps) apart (suc i) p q e f =
    rw (ne_eqb x p (λ same. apart.0 (subst (λ r. IsIn r ps) (sym same) (indexed_member ps i p e)))) (next_along ps apart.1 i p q e f)

-- a place of a chain is listed, and its link names the key
module _ {V : Type 0} (values : Slots V ValueLink) (key i p : ℕ) (at : slice_get (chain_of values key) i ≡ Some p) where
  of_key : IsIn p values.order × (is_value_of values key p ≡ true)
  of_key = IsIn-kept (is_value_of values key) p values.order (indexed_member (chain_of values key) i p at)

  pub indexed_listed : IsIn p values.order
  indexed_listed = of_key.0

  pub indexed_owner : {K : Type 0} (keys : Slots K KeyLink) (m : ValueLink) → link_at values p ≡ Some m → m.key ≡ key
  indexed_owner keys m is = value_owner keys values key p m is of_key.1

  -- the link of its key
  pub indexed_key_link : {K : Type 0} (keys : Slots K KeyLink) (l : KeyLink) → link_at keys key ≡ Some l → AreChained keys values
      → HasKeyLink keys values p l
  indexed_key_link keys l key_is chains = record {
    listed = indexed_listed;
    key_link_is = λ m is. ap (link_at keys) (indexed_owner keys m is) ∙ key_is;
    sound = chains.sound;
    chained = chains.chained;
  }

module _ {K V : Type 0} {keys : Slots K KeyLink} {values : Slots V ValueLink} (sound : IsSound values) (chained : IsChained keys values)
    (key : ℕ) where
  -- the link of a place names the one at the index before
  pub previous_indexed : (i p : ℕ) (m : ValueLink) → slice_get (chain_of values key) (suc i) ≡ Some p → link_at values p ≡ Some m
      → slice_get (chain_of values key) i ≡ Some (unwrap_or m.previous p)
  previous_indexed i p m at is =
      let ps : List ℕ = chain_of values key in
      let q : ℕ = get_or ps i 0 in
      let within = slice_get_within ps (suc i) p at in
      let there : slice_get ps i ≡ Some q = slice_get-get_or ps i 0 (omega (arith, within)) in
      let names : previous_of (chain_of values m.key) p ≡ m.previous = chained.previous p m (indexed_listed values key (suc i) p at) is in
      let named : m.previous ≡ Some q =
      sym names ∙ ap (λ k. previous_of (chain_of values k) p) (indexed_owner values key (suc i) p at keys m is)
      ∙ previous_is ps (distinct sound chained key) q p (next_along ps (distinct sound chained key) i q p there at) in
      there ∙ ap Some (sym (ap (λ o. unwrap_or o p) named))

  module _ (l : KeyLink) (listed : IsIn key keys.order) (link_is : link_at keys key ≡ Some l) where
    -- there is one at each index below its length
    indexed : (i : ℕ) → i < l.length → slice_get (chain_of values key) i ≡ Some (get_or (chain_of values key) i 0)
    indexed i less = slice_get-get_or (chain_of values key) i 0 (omega (arith, less, chained.length key l listed link_is))

    -- the key's link names those at its ends
    pub head_indexed : slice_get (chain_of values key) 0 ≡ Some l.head
    head_indexed = let b = begins (chain_of values key) l.head (chained.head key l listed link_is) in ap (λ ps. slice_get ps 0) b.is

    pub tail_indexed : (i : ℕ) → i + 1 ≡ l.length → slice_get (chain_of values key) i ≡ Some l.tail
    tail_indexed i last =
        let e = ends (chain_of values key) l.tail (chained.tail key l listed link_is) in
        let front : i ≡ length e.front =
        omega (arith, last, chained.length key l listed link_is, ap length e.is, length-append e.front (l.tail ∷ [])) in
        ap (slice_get (chain_of values key)) front ∙ ap (λ ps. slice_get ps (length e.front)) e.is ∙ last_indexed e.front l.tail

    -- the link of a place names the one at the next index
    pub next_indexed : (i p : ℕ) (m : ValueLink) → suc i < l.length → slice_get (chain_of values key) i ≡ Some p → link_at values p ≡ Some m
        → slice_get (chain_of values key) (suc i) ≡ Some (unwrap_or m.next p)
    next_indexed i p m less at is =
        let ps : List ℕ = chain_of values key in
        let q : ℕ = get_or ps (suc i) 0 in
        let there : slice_get ps (suc i) ≡ Some q = indexed (suc i) less in
        let named : m.next ≡ Some q = sym (onward sound chained key p m (indexed_member ps i p at) is)
        ∙ next_along ps (distinct sound chained key) i p q at there in
        there ∙ ap Some (sym (ap (λ o. unwrap_or o p) named))
