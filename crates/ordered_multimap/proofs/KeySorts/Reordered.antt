-- Items that stand in another order: what is read at their places, and how keys in another order still agree.
use Rattle.std.proofs.Common.{◌≡◌, ℕ, Bool, true, false, List, [], ◌∷◌, map, length, Option, Some, IsSome, unwrap_or}
use Rattle.std.proofs.Common.{IfSome, if◌then◌else◌, refl, sym, ap, ◌∙◌, subst, inl, inr, arith, rules, ◌||◌}
use Rattle.std.proofs.lemmas.Bool.{cases_eq, ne_eqb}
use Rattle.std.proofs.lemmas.List.Sorted.{IsPermutation-map, IsPermutation-refl, length_permutation}
use Rattle.std.proofs.lemmas.Map.Keys.{IsDistinct-IsPermutation}
use Rattle.std.specs.Cmp.{IsEquivalence, IsStrictWeakOrder}
use Rattle.std.specs.Borrow.{Bor}
use Rattle.std.specs.FinMap.{FinMap}
use Rattle.std.specs.Fn.{ComparesAs, Mut}
use Rattle.std.specs.Ordering.{nat_cmp}
use Rattle.std.specs.declared.cmp.Ordering.{Ordering}
use Rattle.std.specs.List.Sorted.{IsSortedBy, IsSortedByClosure, IsStableBy, IsStableByClosure, ties}
use Rattle.std.specs.Prelude.{IsPermutation, filter}
use Rattle.std.specs.List.{filter_map, cons_option}
use Rattle.multimap_slots.specs.Lists.{IsIn, first_of}
use Rattle.multimap_slots.specs.Slots.{Slots, item_at, in_order}
use Rattle.multimap_slots.proofs.Callers.Permuted.{permuted_in, permuted_was_in, permuted_distinct}
use Rattle.multimap_walks.specs.declared.links.KeyLink.{KeyLink}
use Rattle.multimap_walks.specs.declared.links.ValueLink.{ValueLink}
use Rattle.ordered_multimap.specs.Agrees.{Agrees, HasKey, items_of}
use Rattle.ordered_multimap.specs.Private.KeySorts.{is_among, item_or}
use Rattle.ordered_multimap.proofs.Callers.Places.{held}
use Rattle.ordered_multimap.proofs.KeySorts.Mapped.{order-mapped, sorted-mapped, stable-mapped}

pub no_places : (ps : List ℕ) → length ps ≡ 0 → ps ≡ []
no_places [] e = refl
no_places (p ∷ ps) e = absurd (omega arith)

among_in : (p : ℕ) (ps : List ℕ) → IsIn p ps → is_among ps p ≡ true
among_in p [] i = absurd i
among_in p (q ∷ ps) (inl e) = search rules
among_in p (q ∷ ps) (inr i) = let rest = among_in p ps i in search rules

in_among : (p : ℕ) (ps : List ℕ) → is_among ps p ≡ true → IsIn p ps
in_among p [] e = absurd (let bad = e in cc)
in_among p (q ∷ ps) e = elim (cases_eq p q) [
  | inl same ↦ inl same
  | inr differs ↦ inr (in_among p ps (ap (λ b. b || is_among ps p) (sym (ne_eqb p q differs)) ∙ e))
]

module _ {X : Type 0} (at : ℕ → Option X) where
  -- what stands at one of the places
  pub item_or-listed : (order : List ℕ) (other : X) (p : ℕ) (x : X) → IsIn p order → at p ≡ Some x → item_or at order other p ≡ x
  item_or-listed order other p x i is =
      ap (λ b. if b then unwrap_or (at p) other else other) (among_in p order i) ∙ ap (λ o. unwrap_or o other) is

  pub item_or-absent : (order : List ℕ) (other : X) (p : ℕ) → (IsIn p order → ⊥) → item_or at order other p ≡ other
  item_or-absent order other p absent = by (is_among order p) refl
    where
      by : (b : Bool) → is_among order p ≡ b → item_or at order other p ≡ other
      by true e = absurd (absent (in_among p order e))
      by false e = ap (λ b. if b then unwrap_or (at p) other else other) e

  module _ (order : List ℕ) (filled : (p : ℕ) → IsIn p order → IsSome (at p)) (other : X) where
    items-mapped : (ps : List ℕ) → ((p : ℕ) → IsIn p ps → IsIn p order) → filter_map at ps ≡ map (item_or at order other) ps
    items-mapped [] listed = refl
    items-mapped (p ∷ ps) listed =
        let h = held (at p) (filled p (listed p (inl refl))) in
        ap (λ o. cons_option o (filter_map at ps)) h.is
        ∙ (λ i. sym (item_or-listed order other p h.value (listed p (inl refl)) h.is) i ∷ items-mapped ps (λ q j. listed q (inr j)) i)

    module _ {places : List ℕ} (same : IsPermutation order places) where
      items-before : filter_map at order ≡ map (item_or at order other) order
      items-before = items-mapped order (λ p i. i)

      items-after : filter_map at places ≡ map (item_or at order other) places
      items-after = items-mapped places (λ p i. permuted_was_in same p i)

      -- places that are sorted by the items there leave the items sorted
      pub sorted-places : (lt : X → X → Bool) → IsSortedBy (λ p q. lt (item_or at order other p) (item_or at order other q)) places
          → IsSortedBy lt (filter_map at places)
      sorted-places lt sorted = subst (IsSortedBy lt) (sym items-after) (sorted-mapped (item_or at order other) lt places sorted)

      pub stable-places : (lt : X → X → Bool) → IsStrictWeakOrder lt
          → IsStableBy (λ p q. lt (item_or at order other p) (item_or at order other q)) order places
          → IsStableBy lt (filter_map at order) (filter_map at places)
      stable-places lt o stable y =
          let mapped = stable-mapped (item_or at order other) lt o order places stable y in
          ap (filter (ties lt y)) items-after ∙ mapped ∙ sym (ap (filter (ties lt y)) items-before)

      -- the same of places that a sort by a closure leaves
      pub closure-places : {F : Type 0} {g : Mut F (Bor ℕ × (Bor ℕ × Unit {0})) Ordering} {f : F} → IsSortedByClosure g f places
          → IsStableByClosure g f order places → (lt : X → X → Bool) → IsStrictWeakOrder lt
          → ComparesAs g (λ p q. lt (item_or at order other p) (item_or at order other q)) f
          → IsSortedBy lt (filter_map at places) × IsStableBy lt (filter_map at order) (filter_map at places)
      closure-places sorted stable lt o by =
          let near = order-mapped (item_or at order other) lt o in (
            sorted-places lt (sorted (λ p q. lt (item_or at order other p) (item_or at order other q)) near by),
            stable-places lt o (stable (λ p q. lt (item_or at order other p) (item_or at order other q)) near by),
          )

      permuted-items : IsPermutation (filter_map at order) (filter_map at places)
      permuted-items = rw (items-before, items-after) (IsPermutation-map (item_or at order other) order places same)

  -- the items are the same
  pub permuted-found : (order : List ℕ) → ((p : ℕ) → IsIn p order → IsSome (at p)) → {places : List ℕ} → IsPermutation order places
      → IsPermutation (filter_map at order) (filter_map at places)
  permuted-found [] filled {places} same =
      let still : places ≡ [] = no_places places (length_permutation [] places same) in
      rw still (IsPermutation-refl [])
  permuted-found (p ∷ ps) filled same = permuted-items (p ∷ ps) filled (held (at p) (filled p (inl refl))).value same

-- what the map keeps
module _ {K V : Type 0} {eq : K → K → Bool} {hash : K → ℕ} {keys : Slots K KeyLink} {rows : FinMap nat_cmp ℕ} {values : Slots V ValueLink}
    (laws : IsEquivalence eq) (a : Agrees eq hash keys rows values) where
  pub agrees-in_order : (places : List ℕ) → IsPermutation keys.order places → Agrees eq hash (in_order keys places) rows values
  agrees-in_order places same = record {
    keys_sound = record {
      distinct = permuted_distinct same a.keys_sound.distinct;
      filled = λ p i. a.keys_sound.filled p (permuted_was_in same p i);
      linked = λ p i. a.keys_sound.linked p (permuted_was_in same p i);
      fits = omega (arith, a.keys_sound.fits, length_permutation keys.order places same);
    };
    values_sound = a.values_sound;
    chained = record {
      owned = λ p l i e. permuted_in same l.key (a.chained.owned p l i e);
      head = λ p l i. a.chained.head p l (permuted_was_in same p i);
      tail = λ p l i. a.chained.tail p l (permuted_was_in same p i);
      length = λ p l i. a.chained.length p l (permuted_was_in same p i);
      previous = a.chained.previous;
      next = a.chained.next;
    };
    distinct = IsDistinct-IsPermutation eq laws.symm (items_of keys) (items_of (in_order keys places))
        (permuted-found (item_at keys) keys.order a.keys_sound.filled same) a.distinct;
    hashed = λ p k l i. a.hashed p k l (permuted_was_in same p i);
    in_table = λ p l i. a.in_table p l (permuted_was_in same p i);
    listed = λ p h e. permuted_in same p (a.listed p h e);
    counted = a.counted ∙ sym (length_permutation keys.order places same);
  }

pub same_item : {X : Type 0} {o : Option X} {x y : X} → o ≡ Some x → o ≡ Some y → x ≡ y
same_item e f = let both = sym e ∙ f in cc

-- a key that is listed stands at its place
pub has-key : {K : Type 0} {eq : K → K → Bool} → IsEquivalence eq → {keys : Slots K KeyLink} {place : ℕ} {k : K} → IsIn place keys.order
    → item_at keys place ≡ Some k → HasKey eq keys k place
has-key laws {k = k} listed is = record { listed = listed; stored = k; item_is = is; equal = laws.refl k }

-- the first place, beside what is so anyway
pub first-listed : {X : Type 0} (ps : List ℕ) → X → IfSome (first_of ps) (λ p. IsIn p ps × X)
first-listed [] x = tt
first-listed (p ∷ ps) x = (inl refl, x)
