-- Another value at a listed place: the map stays one, and its lists have that value there.
use Rattle.std.proofs.Common.{◌≡◌, ◌≢◌, ◌==◌, ℕ, suc, ◌-◌, Bool, List, [], ◌∷◌, length, length-append, arith, slice_get, Option, option_map}
use Rattle.std.proofs.Common.{unwrap_or, Some, None, IsSome, refl, sym, ap, ◌∙◌, subst, inl, inr, if◌then◌else◌}
use Rattle.std.proofs.lemmas.Bool.{cases_eq, eq-eqb, ne_eqb}
use Rattle.std.specs.List.{filter_map, cons_option}
use Rattle.std.specs.Cmp.{IsEquivalence}
use Rattle.std.specs.Ordering.{nat_cmp}
use Rattle.std.specs.FinMap.{FinMap}
use Rattle.multimap_slots.specs.Lists.{IsIn, AreDistinct}
use Rattle.multimap_slots.specs.Slots.{Slots, IsSound, item_at, link_at, with_item}
use Rattle.multimap_slots.specs.Tapes.{Taped, with_list}
use Rattle.multimap_slots.proofs.Callers.PlaceLists.{AreDistinct-gone, IsIn-left}
use Rattle.multimap_slots.proofs.Callers.SlotChanges.{item_at-with_item, KeepsOthers-with_item}
use Rattle.multimap_walks.specs.declared.End.{End}
use Rattle.multimap_walks.specs.declared.End.TheVariants.{Front, Back}
use Rattle.multimap_walks.specs.declared.links.ChainEnds.{ChainEnds}
use Rattle.multimap_walks.specs.declared.links.KeyLink.{KeyLink}
use Rattle.multimap_walks.specs.declared.links.ValueLink.{ValueLink}
use Rattle.multimap_walks.specs.Walk.{end_item}
use Rattle.multimap_walks.specs.Chained.{IsChained, position_in, chain_of, positions_at, pair_at, pairs_of}
use Rattle.ordered_multimap.specs.Agrees.{Agrees, IsMap, HasKey, items_of, lists_of}
use Rattle.ordered_multimap.specs.Changes.{first_written, first_written_where}
use Rattle.ordered_multimap.specs.Lists.{Lists, lists}
use Rattle.ordered_multimap.specs.Multimap.{Multimap, multimap}
use Rattle.ordered_multimap.specs.TapeNumbers.{TapeNumbers}
use Rattle.ordered_multimap.specs.Writes.{head_at, with_value, with_end}
use Rattle.ordered_multimap.specs.Private.RemoveOne.{end_of_list}
use Rattle.ordered_multimap.specs.Pairs.{values_of, values_where, positions_of, positions_where, with_value_at, with_first_value}
use Rattle.ordered_multimap.specs.Pairs.{end_position}
use Rattle.ordered_multimap.proofs.Agreement.Agreed.{pair_in, pair_at-is}
use Rattle.ordered_multimap.proofs.Callers.Places.{filter_map-agree, begins, ends, position_in-split}
use Rattle.ordered_multimap.proofs.Callers.Laws.{end_item-push}
use Rattle.ordered_multimap.proofs.Agreement.LookUps.{positions_of-chain, length-positions_where}

-- links and order are the same
pub IsChained-with_item : {K V : Type 0} {keys : Slots K KeyLink} {values : Slots V ValueLink} → IsChained keys values → (place : ℕ) (w : V)
    → IsChained keys (with_item values place w)
IsChained-with_item chained place w = record {
  owned = chained.owned;
  head = chained.head;
  tail = chained.tail;
  length = chained.length;
  previous = chained.previous;
  next = chained.next;
}

pub IsSound-with_item : {V : Type 0} {values : Slots V ValueLink} → IsSound values → (place : ℕ) → IsIn place values.order → (w : V)
    → IsSound (with_item values place w)
IsSound-with_item {values = values} sound place listed w = record {
  distinct = sound.distinct;
  filled = λ q i. elim (cases_eq q place) [
    | inl same ↦ subst (λ p. IsSome (item_at (with_item values place w) p)) (sym same)
        (subst IsSome (sym (item_at-with_item values place w (sound.filled place listed))) refl)
    | inr differs ↦ subst IsSome (sym ((KeepsOthers-with_item values place w).items q differs)) (sound.filled q i)
  ];
  linked = sound.linked;
  fits = sound.fits;
}

module _ {K V : Type 0} {eq : K → K → Bool} {hash : K → ℕ} {keys : Slots K KeyLink} {rows : FinMap nat_cmp ℕ} {values : Slots V ValueLink}
    (agrees : Agrees eq hash keys rows values) (place : ℕ) (listed : IsIn place values.order) (w : V) where
  abbrev written : Slots V ValueLink
  written = with_item values place w

  item_here : item_at written place ≡ Some w
  item_here = item_at-with_item values place w (agrees.values_sound.filled place listed)

  -- so keys, table and values agree as before
  pub Agrees-with_item : Agrees eq hash keys rows (with_item values place w)
  Agrees-with_item = record {
    keys_sound = agrees.keys_sound;
    values_sound = IsSound-with_item agrees.values_sound place listed w;
    chained = IsChained-with_item agrees.chained place w;
    distinct = agrees.distinct;
    hashed = agrees.hashed;
    in_table = agrees.in_table;
    listed = agrees.listed;
    counted = agrees.counted;
  }

  -- the pair at the place has the value, and each other pair is as it was
  pub pair_here : (k : K) (v : V) → pair_at keys values place ≡ Some (k, v) → pair_at keys (with_item values place w) place ≡ Some (k, w)
  pair_here k v is =
      let p = pair_in agrees place listed in
      let one : Some (p.key, p.value) ≡ Some (k, v) = sym p.pair_is ∙ is in
      let both : (p.key, p.value) ≡ (k, v) = cc in
      pair_at-is keys written place p.link p.key w p.link_is p.key_is item_here ∙ ap (λ (e : K × V). Some (e.0, w)) both

  pub pair_other : (q : ℕ) → IsIn q values.order → q ≢ place → pair_at keys written q ≡ pair_at keys values q
  pair_other q i differs =
      let p = pair_in agrees q i in
      pair_at-is keys written q p.link p.key p.value p.link_is p.key_is
      ((KeepsOthers-with_item values place w).items q differs ∙ p.value_is) ∙ sym p.pair_is

  pairs_along : (qs : List ℕ) → AreDistinct qs → ((q : ℕ) → IsIn q qs → IsIn q values.order) → IsIn place qs
      → filter_map (pair_at keys written) qs ≡ with_value_at (filter_map (pair_at keys values) qs) (position_in qs place) w
  pairs_along [] distinct among member = absurd member
  pairs_along (q ∷ qs) distinct among member =
      let p = pair_in agrees q (among q (inl refl)) in
      let old : List (K × V) = filter_map (pair_at keys values) qs in
      let new : List (K × V) = filter_map (pair_at keys written) qs in
      let at : ℕ → List (K × V) = λ n. with_value_at (cons_option (pair_at keys values q) old) n w in
      let Here : Type 0 = cons_option (pair_at keys written q) new ≡ at (if q == place then 0 else suc (position_in qs place)) in
      elim (cases_eq q place) as (λ _. Here) [
        | inl same ↦
            let rest : new ≡ old = filter_map-agree (pair_at keys written) (pair_at keys values) qs
            (λ r i. pair_other r (among r (inr i)) (λ e. distinct.0 (subst (λ x. IsIn x qs) (e ∙ sym same) i))) in
            let here : item_at written q ≡ Some w = ap (item_at written) same ∙ item_here in
            ap (λ o. cons_option o new) (pair_at-is keys written q p.link p.key w p.link_is p.key_is here) ∙ ap (λ ps. (p.key, w) ∷ ps) rest
            ∙ sym (ap (λ o. with_value_at (cons_option o old) 0 w) p.pair_is)
            ∙ sym (ap (λ b. at (if b then 0 else suc (position_in qs place))) (eq-eqb q place same))
        | inr differs ↦
            let behind : IsIn place qs = elim member as
            (λ _. IsIn place qs) [ inl here ↦ absurd (differs (sym here)) | inr later ↦ later ] in
            let later = pairs_along qs distinct.1 (λ r i. among r (inr i)) behind in
            ap (λ o. cons_option o new) (pair_other q (among q (inl refl)) differs ∙ p.pair_is) ∙ ap (λ ps. (p.key, p.value) ∷ ps) later
            ∙ sym (ap (λ o. with_value_at (cons_option o old) (suc (position_in qs place)) w) p.pair_is)
            ∙ sym (ap (λ b. at (if b then 0 else suc (position_in qs place))) (ne_eqb q place differs))
      ]

  -- the pairs have the value at the position of its place
  pub pairs_of-with_item : pairs_of keys (with_item values place w) ≡ with_value_at (pairs_of keys values)
      (position_in values.order place) w
  pairs_of-with_item = pairs_along values.order agrees.values_sound.distinct (λ q i. i) listed

-- a map with another value at a listed place is a map
pub IsMap-with_item : {K V : Type 0} {eq : K → K → Bool} {hash : K
    → ℕ} {keys : Slots K KeyLink} {rows : FinMap nat_cmp ℕ} {values : Taped V ValueLink}
    → IsMap eq hash keys rows values → (place : ℕ) → IsIn place values.list.order → (w : V)
    → IsMap eq hash keys rows (with_list values (with_item values.list place w))
IsMap-with_item is_map place listed w = record {
  agrees = Agrees-with_item is_map.agrees place listed
      w;
  fits = is_map.fits;
  paid = is_map.paid;
}

-- and what a contract sees of it is the map with the value at that place
pub multimap-with_item : {K V S : Type 0} {eq : K → K → Bool} {hash : K
    → ℕ} {keys : Slots K KeyLink} {rows : FinMap nat_cmp ℕ} {values : Slots V ValueLink}
    → Agrees eq hash keys rows values → (place : ℕ) → IsIn place values.order
    → (key_room value_room : ℕ) (state : S) (tape : TapeNumbers) (left : ChainEnds) (w : V)
    → multimap (lists_of keys (with_item values place w)) key_room value_room state tape
    (record { keys = keys; values = with_item values place w; left = left })
    ≡ with_value (multimap (lists_of keys values) key_room value_room state tape (record { keys = keys; values = values; left = left }))
    place w
multimap-with_item {keys = keys} {values = values} agrees place listed key_room value_room state tape left w =
    ap (λ pairs. multimap (lists (items_of keys) pairs) key_room value_room state tape
    (record { keys = keys; values = with_item values place w; left = left }))
    (pairs_of-with_item agrees place listed w)

-- the head that a key's link names
pub head_at-is : {K : Type 0} (keys : Slots K KeyLink) (place : ℕ) (l : KeyLink) → link_at keys place ≡ Some l → head_at keys place ≡ l.head
head_at-is keys place l link_is = ap (λ o. unwrap_or (option_map (λ k. k.head) o) 0) link_is

module _ {K V : Type 0} {eq : K → K → Bool} (laws : IsEquivalence eq) {hash : K
    → ℕ} {keys : Slots K KeyLink} {rows : FinMap nat_cmp ℕ} {values : Slots V ValueLink}
    (agrees : Agrees eq hash keys rows values) where
  -- the head of a key's chain stands at the first of its positions
  first_position : (k : K) (place : ℕ) (l : KeyLink) → HasKey eq keys k place → link_at keys place ≡ Some l
      → slice_get (positions_of eq (pairs_of keys values) k) 0 ≡ Some (position_in values.order l.head)
  first_position k place l has link_is =
      let b = begins (chain_of values place) l.head (agrees.chained.head place l has.listed link_is) in
      ap (λ ps. slice_get ps 0) (positions_of-chain laws agrees k place has ∙ ap (positions_at values) b.is)

  -- so another value there is another first value
  pub with_first_value-head_at : (k : K) (place : ℕ) (l : KeyLink) → HasKey eq keys k place → link_at keys place ≡ Some l → (v : V)
      → with_value_at (pairs_of keys values) (position_in values.order (head_at keys place)) v ≡ with_first_value eq
      (pairs_of keys values) k v
  with_first_value-head_at k place l has link_is v =
      let pairs : List (K × V) = pairs_of keys values in
      let put : Option ℕ → List (K × V) = λ o. elim o as (λ _. List (K × V)) [ None ↦ pairs | Some i ↦ with_value_at pairs i v ] in
      ap (λ head. with_value_at pairs (position_in values.order head) v) (head_at-is keys place l link_is)
      ∙ sym (ap put (first_position k place l has link_is))

-- the place at an end has the position of that end
position_in-end : (end : End) (order : List ℕ) (place : ℕ) → AreDistinct order → end_of_list end order ≡ Some place
    → position_in order place ≡ end_position end order
position_in-end Front order place distinct at =
    let b = begins order place at in
    ap (λ ps. position_in ps place) b.is ∙ position_in-split [] place b.rest (λ i. i)
position_in-end Back order place distinct at =
    let b = ends order place at in
    let absent = λ (i : IsIn place b.front). AreDistinct-gone b.front place [] (subst AreDistinct b.is distinct)
    (IsIn-left place b.front [] i) in
    ap (λ ps. position_in ps place) b.is ∙ position_in-split b.front place [] absent
    ∙ omega (arith, length-append b.front (place ∷ []), ap length b.is)

-- lists of one length have their ends at the same positions
end_position-length : {X Y : Type 0} (end : End) (xs : List X) (ys : List Y) → length xs ≡ length ys
    → end_position end xs ≡ end_position end ys
end_position-length Front xs ys e = refl
end_position-length Back xs ys e = ap (λ n. n - 1) e

-- the item at an end, by either word
item_at_end : (end : End) (order : List ℕ) (place : ℕ) → end_of_list end order ≡ Some place → end_item end order ≡ Some place
item_at_end Front order place at = let b = begins order place at in ap (end_item Front) b.is
item_at_end Back order place at = let b = ends order place at in ap (end_item Back) b.is ∙ end_item-push b.front place

-- a write at the place at an end is one of the pair there
pub with_value-end : {K V S : Type 0} (m : Multimap K V S) (end : End) (place : ℕ) → AreDistinct m.slots.values.order
    → length m.lists.pairs ≡ length m.slots.values.order
    → end_of_list end m.slots.values.order ≡ Some place → (w : V) → with_value m place w ≡ with_end end m w
with_value-end {K} {V} {S} m end place distinct long at w =
    let put : ℕ → ℕ → Multimap K V S = λ n p. record m {
      lists = lists m.lists.keys
          (with_value_at m.lists.pairs n w);
      slots = record m.slots { values = with_item m.slots.values p w };
    } in
    let position = position_in-end end m.slots.values.order place distinct at
    ∙ end_position-length end m.slots.values.order m.lists.pairs (sym long) in
    ap (λ n. put n place) position ∙ ap (put (end_position end m.lists.pairs))
    (sym (ap (λ o. unwrap_or o 0) (item_at_end end m.slots.values.order place at)))

-- keys without a value have no first one, and a write leaves the lists
no_first : {X Y : Type 0} (xs : List X) (ys : List Y) → length ys ≡ length xs → slice_get xs 0 ≡ None → slice_get ys 0 ≡ None
no_first xs [] same none = refl
no_first [] (y ∷ ys) same none = absurd (omega (arith, same))
no_first (x ∷ xs) (y ∷ ys) same none = absurd (let bad = none in cc)

pub first_written-none : {K V : Type 0} (accepts : K → Bool) (m : Lists K V) (v : V) → slice_get (values_where accepts m.pairs) 0 ≡ None
    → first_written_where accepts m v ≡ m
first_written-none {K} {V} accepts m v none =
    ap (λ (o : Option ℕ). lists m.keys (elim o as (λ _. List (K × V)) [ None ↦ m.pairs | Some i ↦ with_value_at m.pairs i v ]))
    (no_first (values_where accepts m.pairs) (positions_where accepts m.pairs) (length-positions_where accepts 0 m.pairs) none)

pub first_written-absent : {K V : Type 0} (eq : K → K → Bool) (m : Lists K V) (k : K) (v : V) → slice_get (values_of eq m.pairs k) 0 ≡ None
    → first_written eq m k v ≡ m
first_written-absent eq m k v none = first_written-none (eq k) m v none
