-- Where a key moves to an end of the keys, key list, table and values agree as before.
use Rattle.std.proofs.Common.{◌≡◌, ℕ, Bool, true, false, not, List, [], ◌∷◌, ◌++◌, cond, filter, refl, sym, ap, ◌∙◌, subst, inl, inr}
use Rattle.std.proofs.Common.{arith, true≢false}
use Rattle.std.proofs.lemmas.List.{append-nil}
use Rattle.std.proofs.lemmas.List.Elements.{filter_map-append}
use Rattle.std.proofs.lemmas.Map.Keys.{IsDistinct-push}
use Rattle.std.specs.Cmp.{IsEquivalence}
use Rattle.std.specs.List.{filter_map, cons_option, AllByRecursion, IsDistinct}
use Rattle.std.specs.Ordering.{nat_cmp}
use Rattle.std.specs.FinMap.{FinMap}
use Rattle.multimap_slots.specs.Lists.{IsIn, without, moved_last, moved_first}
use Rattle.multimap_slots.specs.Slots.{Slots, item_at}
use Rattle.multimap_slots.proofs.Callers.MovedPlaces.{IsReordered, moved_last-reordered, moved_first-reordered}
use Rattle.multimap_walks.specs.declared.End.{End}
use Rattle.multimap_walks.specs.declared.End.TheVariants.{Front, Back}
use Rattle.multimap_walks.specs.declared.links.KeyLink.{KeyLink}
use Rattle.multimap_walks.specs.declared.links.ValueLink.{ValueLink}
use Rattle.ordered_multimap.specs.Agrees.{Agrees, HasKey, LacksWhere, items_of, lists_of}
use Rattle.ordered_multimap.specs.Keys.{is_listed}
use Rattle.ordered_multimap.specs.KeyMoves.{moved_to_back_where, moved_to_front_where}
use Rattle.ordered_multimap.specs.Lists.{Lists, lists}
use Rattle.ordered_multimap.specs.Private.KeyMoves.{moved_place, moved_to_end}
use Rattle.ordered_multimap.proofs.Agreement.Kept.{is_listed-equal}
use Rattle.ordered_multimap.proofs.Callers.ListedKeys.{any_member, apart_member, IsDistinct-filter}
use Rattle.ordered_multimap.proofs.Callers.Members.{filter-all, filter-none}
use Rattle.ordered_multimap.proofs.Callers.Places.{IsIn-filter_map}
use Rattle.ordered_multimap.proofs.Remove.WholeKeys.{items_besides}

module _ {K : Type 0} {eq : K → K → Bool} (laws : IsEquivalence eq) where
  -- of distinct keys just one is equal
  only_equal : (k j : K) (keys : List K) → IsDistinct eq keys → IsIn j keys → eq k j ≡ true → filter (eq k) keys ≡ j ∷ []
  unfolding IsDistinct
  only_equal k j [] distinct member e = absurd member
  only_equal k j (i ∷ keys) distinct (inl here) e =
      rw (← here, e) (ap (λ js. j ∷ js) (filter-none (eq k) keys
      (λ x later. laws.congr k j x e ∙ ap (λ y. eq y x) here ∙ apart_member laws i x keys distinct.0 later)))
  only_equal k j (i ∷ keys) distinct (inr later) e =
      let P : Bool → Type 0 = λ b. eq k i ≡ b → cond b (i ∷ filter (eq k) keys) (filter (eq k) keys) ≡ j ∷ [] in
      elim (eq k i) as P [
        | true ↦ λ y. absurd (true≢false (sym e ∙ laws.congr k i j y ∙ apart_member laws i j keys distinct.0 later))
        | false ↦ λ _. only_equal k j keys distinct.1 later e
      ] refl

  -- a key that none of the others equals goes before them
  unequal : (k : K) (keys : List K) → is_listed eq keys k ≡ false → AllByRecursion (λ y. eq k y ≡ false) keys
  unequal k [] none = tt
  unequal k (j ∷ keys) none =
      let P : Bool → Type 0 = λ b. eq k j ≡ b → AllByRecursion (λ y. eq k y ≡ false) (j ∷ keys) in
      elim (eq k j) as P [
        | true ↦ λ e. absurd (true≢false (let bad = none in rw e at bad))
        | false ↦ λ e. (e, unequal k keys (rw e at none))
      ] refl

  IsDistinct-first : (k : K) (keys : List K) → is_listed eq keys k ≡ false → IsDistinct eq keys → IsDistinct eq (k ∷ keys)
  unfolding IsDistinct
  IsDistinct-first k keys none distinct = (unequal k keys none, distinct)

module _ {K V : Type 0} {eq : K → K → Bool} (laws : IsEquivalence eq) {hash : K → ℕ} (keys : Slots K KeyLink) {rows : FinMap nat_cmp ℕ}
    {values : Slots V ValueLink} (agrees : Agrees eq hash keys rows values) where
  -- the same keys in another order, of which no two are equal
  Agrees-reordered : (order : List ℕ) → IsReordered keys.order order → IsDistinct eq (filter_map (item_at keys) order)
      → Agrees eq hash (record keys { order = order }) rows values
  Agrees-reordered order same distinct = record {
    keys_sound = record {
      distinct = same.distinct;
      filled = λ p i. agrees.keys_sound.filled p (same.into p i);
      linked = λ p i. agrees.keys_sound.linked p (same.into p i);
      fits = omega (arith, agrees.keys_sound.fits, same.same_length);
    };
    values_sound = agrees.values_sound;
    chained = record {
      owned = λ p l i e. same.out_of l.key (agrees.chained.owned p l i e);
      head = λ p l i e. agrees.chained.head p l (same.into p i) e;
      tail = λ p l i e. agrees.chained.tail p l (same.into p i) e;
      length = λ p l i e. agrees.chained.length p l (same.into p i) e;
      previous = agrees.chained.previous;
      next = agrees.chained.next;
    };
    distinct = distinct;
    hashed = λ p k l i. agrees.hashed p k l (same.into p i);
    in_table = λ p l i. agrees.in_table p l (same.into p i);
    listed = λ p h e. same.out_of p (agrees.listed p h e);
    counted = agrees.counted ∙ sym same.same_length;
  }

  module _ (k : K) (place : ℕ) (has : HasKey eq keys k place) where
    besides : filter_map (item_at keys) (without keys.order place) ≡ filter (λ j. not (eq k j)) (items_of keys)
    besides = items_besides laws agrees.distinct k place has

    one : filter_map (item_at keys) (place ∷ []) ≡ has.stored ∷ []
    one = ap (λ o. cons_option o []) has.item_is

    only : filter (eq k) (items_of keys) ≡ has.stored ∷ []
    only = only_equal laws k has.stored (items_of keys) agrees.distinct
        (IsIn-filter_map (item_at keys) place has.stored keys.order has.listed has.item_is) has.equal

    -- the keys then
    items-last : filter_map (item_at keys) (moved_last keys.order place)
        ≡ filter (λ j. not (eq k j)) (items_of keys) ++ filter (eq k) (items_of keys)
    items-last =
        filter_map-append (item_at keys) (without keys.order place) (place ∷ [])
        ∙ ap (λ js. js ++ filter_map (item_at keys) (place ∷ [])) besides
        ∙ ap (λ js. filter (λ j. not (eq k j)) (items_of keys) ++ js) (one ∙ sym only)

    items-first : filter_map (item_at keys) (moved_first keys.order place)
        ≡ filter (eq k) (items_of keys) ++ filter (λ j. not (eq k j)) (items_of keys)
    items-first =
        filter_map-append (item_at keys) (place ∷ []) (without keys.order place)
        ∙ ap (λ js. js ++ filter_map (item_at keys) (without keys.order place)) (one ∙ sym only)
        ∙ ap (λ js. filter (eq k) (items_of keys) ++ js) besides

    distinct-others : IsDistinct eq (filter (λ j. not (eq k j)) (items_of keys))
    distinct-others = IsDistinct-filter laws (λ j. not (eq k j)) (items_of keys) agrees.distinct

    no_other : is_listed eq (filter (λ j. not (eq k j)) (items_of keys)) has.stored ≡ false
    no_other = is_listed-equal laws k has.stored (items_of keys) has.equal

    Agrees-last : Agrees eq hash (record keys { order = moved_last keys.order place }) rows values
    Agrees-last =
        Agrees-reordered (moved_last keys.order place)
        (moved_last-reordered keys.order place agrees.keys_sound.distinct has.listed)
        (subst (IsDistinct eq) (sym (items-last ∙ ap (λ js. filter (λ j. not (eq k j)) (items_of keys) ++ js) only))
        (IsDistinct-push laws (filter (λ j. not (eq k j)) (items_of keys)) has.stored distinct-others no_other))

    Agrees-first : Agrees eq hash (record keys { order = moved_first keys.order place }) rows values
    Agrees-first =
        Agrees-reordered (moved_first keys.order place)
        (moved_first-reordered keys.order place agrees.keys_sound.distinct has.listed)
        (subst (IsDistinct eq) (sym (items-first ∙ ap (λ js. js ++ filter (λ j. not (eq k j)) (items_of keys)) only))
        (IsDistinct-first laws has.stored (filter (λ j. not (eq k j)) (items_of keys)) no_other distinct-others))

    lists_of-last : lists_of (record keys { order = moved_last keys.order place }) values
        ≡ moved_to_back_where (eq k) (lists_of keys values)
    lists_of-last = ap (λ ks. lists ks (lists_of keys values).pairs) items-last

    lists_of-first : lists_of (record keys { order = moved_first keys.order place }) values
        ≡ moved_to_front_where (eq k) (lists_of keys values)
    lists_of-first = ap (λ ks. lists ks (lists_of keys values).pairs) items-first

    pub Agrees-moved : (end : End) → Agrees eq hash (record keys { order = moved_place end keys.order place }) rows values
    Agrees-moved Front = Agrees-first
    Agrees-moved Back = Agrees-last

    pub lists_of-moved : (end : End)
        → lists_of (record keys { order = moved_place end keys.order place }) values ≡ moved_to_end end (eq k) (lists_of keys values)
    lists_of-moved Front = lists_of-first
    lists_of-moved Back = lists_of-last

-- keys that the lists lack move nowhere
module _ {K V : Type 0} {eq : K → K → Bool} (accepts : K → Bool) (m : Lists K V) (lacks : LacksWhere accepts eq m) where
  refused : (k : K) → IsIn k m.keys → accepts k ≡ false
  refused k member =
      let P : Bool → Type 0 = λ b. accepts k ≡ b → b ≡ false in
      elim (accepts k) as P [
        | true ↦ λ e. absurd (true≢false (sym (any_member accepts k m.keys member e) ∙ lacks.unlisted))
        | false ↦ λ _. refl
      ] refl

  no_accepted : filter accepts m.keys ≡ []
  no_accepted = filter-none accepts m.keys refused

  all_others : filter (λ k. not (accepts k)) m.keys ≡ m.keys
  all_others = filter-all (λ k. not (accepts k)) m.keys (λ k member. ap not (refused k member))

  last-lacking : moved_to_back_where accepts m ≡ m
  last-lacking =
      ap (λ ks. lists (ks ++ filter accepts m.keys) m.pairs) all_others
      ∙ ap (λ ks. lists (m.keys ++ ks) m.pairs) no_accepted ∙ ap (λ ks. lists ks m.pairs) (append-nil m.keys)

  first-lacking : moved_to_front_where accepts m ≡ m
  first-lacking =
      ap (λ ks. lists (ks ++ filter (λ k. not (accepts k)) m.keys) m.pairs) no_accepted
      ∙ ap (λ ks. lists ks m.pairs) all_others

  pub moved-lacking : (end : End) → moved_to_end end accepts m ≡ m
  moved-lacking Front = first-lacking
  moved-lacking Back = last-lacking
