-- A pair that leaves at an end of the map, with its key or without.
use Rattle.std.proofs.Common.{◌≡◌, ◌==◌, ◌/◌, ℕ, Bool, true, false, not, cond, List, [], ◌∷◌, ◌++◌, length, option_map, Option, Some, None}
use Rattle.std.proofs.Common.{refl, sym, ap, ◌∙◌, subst, arith}
use Rattle.std.proofs.lemmas.List.{append-nil}
use Rattle.std.specs.Cmp.{IsEquivalence}
use Rattle.std.specs.List.{filter_map}
use Rattle.std.specs.Map.{keys_of}
use Rattle.std.specs.Ordering.{nat_cmp}
use Rattle.std.specs.FinMap.{FinMap}
use Rattle.multimap_slots.specs.Lists.{IsIn, AreDistinct, last_of, without}
use Rattle.multimap_slots.specs.Slots.{Slots, HasItem, item_at}
use Rattle.multimap_slots.specs.Tapes.{Taped, HasTapeRoomFor, Frees}
use Rattle.multimap_slots.proofs.Callers.PlaceLists.{AreDistinct-gone, without-split}
use Rattle.multimap_walks.specs.declared.End.{End}
use Rattle.multimap_walks.specs.declared.End.TheVariants.{Front, Back}
use Rattle.multimap_walks.specs.Walk.{end_item, end_rest, with_end}
use Rattle.multimap_walks.specs.declared.links.KeyLink.{KeyLink}
use Rattle.multimap_walks.specs.declared.links.ValueLink.{ValueLink}
use Rattle.multimap_walks.specs.Chained.{pair_at, pairs_of}
use Rattle.multimap_walks.proofs.Callers.Ends.{end_rest-with, shows_end}
use Rattle.ordered_multimap.specs.Lists.{Lists, lists}
use Rattle.ordered_multimap.specs.Keys.{is_listed}
use Rattle.ordered_multimap.specs.Pairs.{has_items}
use Rattle.ordered_multimap.specs.Changes.{kept}
use Rattle.ordered_multimap.specs.Popped.{popped, popped_pair}
use Rattle.ordered_multimap.specs.PopAnswers.{IsTaken}
use Rattle.ordered_multimap.specs.Agrees.{Agrees, lists_of}
use Rattle.ordered_multimap.specs.Private.RemoveOne.{TakesLast, TakesPair, TakesByKey, TakesOneOfSeveral, end_of_list}
use Rattle.ordered_multimap.specs.TapeNumbers.{TapeNumbers, TakesOut, numbers_of}
use Rattle.ordered_multimap.specs.declared.list_ordered_multimap.remove.one.Taken.{Taken}
use Rattle.ordered_multimap.specs.declared.list_ordered_multimap.remove.one.TakenKey.{TakenKey}
use Rattle.ordered_multimap.specs.declared.list_ordered_multimap.remove.one.TakenKey.TheVariants.{Kept, Gone}
use Rattle.ordered_multimap.proofs.Callers.Places.{begins, ends, last_of-member, filter_map-agree, filter_shorter}
use Rattle.ordered_multimap.proofs.Chains.Neighbours.{first_of-member}
use Rattle.ordered_multimap.proofs.Agreement.Agreed.{PairAt, pair_in}
use Rattle.ordered_multimap.proofs.Callers.TakenEnds.{end_item-with, has_items-with}
use Rattle.ordered_multimap.proofs.Remove.OnePair.{LeavesAt, beside_at, last_at, last_key_is, no_longer_named, still_named}
use Rattle.ordered_multimap.proofs.Remove.OneValue.{has_item-one}

-- the pairs without that of one place, where the others are the same
pub pairs_of-without : {K V : Type 0} (keys keys_after : Slots K KeyLink) (values values_after : Slots V ValueLink) (place : ℕ)
    → values_after.order ≡ without values.order place
    → ((q : ℕ) → IsIn q values_after.order → pair_at keys_after values_after q ≡ pair_at keys values q)
    → pairs_of keys_after values_after ≡ filter_map (pair_at keys values) (without values.order place)
pairs_of-without keys keys_after values values_after place order same =
    filter_map-agree (pair_at keys_after values_after) (pair_at keys values) values_after.order same
    ∙ ap (filter_map (pair_at keys values)) order

-- the place at an end is listed
pub end_listed : (end : End) (order : List ℕ) (place : ℕ) → end_of_list end order ≡ Some place → IsIn place order
end_listed Front order place e = first_of-member order place e
end_listed Back order place e = last_of-member order place e

-- what is made of the places, and of those without the one at an end
pub record AtEnd {X : Type 0} (end : End) (all rest : List X) (x : X) : Type 0 where
  pub item : end_item end all ≡ Some x
  pub left : rest ≡ end_rest end all
  pub some : has_items all ≡ true

-- the place at an end, and then the others
pub order_at_end : (end : End) (order : List ℕ) (place : ℕ) → AreDistinct order → end_of_list end order ≡ Some place
    → order ≡ with_end end place (without order place)
order_at_end Front order place distinct e =
    let b = begins order place e in
    let left : without order place ≡ b.rest = ap (λ ps. without ps place) b.is
    ∙ without-split [] place b.rest (AreDistinct-gone [] place b.rest (subst AreDistinct b.is distinct)) in
    b.is ∙ ap (λ ps. place ∷ ps) (sym left)
order_at_end Back order place distinct e =
    let b = ends order place e in
    let left : without order place ≡ b.front =
    ap (λ ps. without ps place) b.is ∙ without-split b.front place [] (AreDistinct-gone b.front place [] (subst AreDistinct b.is distinct))
    ∙ append-nil b.front in
    b.is ∙ ap (λ ps. ps ++ place ∷ []) (sym left)

pub at_end : {X : Type 0} (f : ℕ → Option X) (end : End) (order : List ℕ) (place : ℕ) (x : X) → AreDistinct order
    → end_of_list end order ≡ Some place → f place ≡ Some x
    → AtEnd end (filter_map f order) (filter_map f (without order place)) x
at_end f end order place x distinct e is =
    let rest = filter_map f (without order place) in
    let all : filter_map f order ≡ with_end end x rest =
    shows_end f end order place (without order place) x (order_at_end end order place distinct e) is in
    record {
      item = ap (end_item end) all ∙ end_item-with end x rest;
      left = sym (ap (end_rest end) all ∙ end_rest-with end x rest);
      some = ap has_items all ∙ has_items-with end x rest;
    }

-- where there is no place at an end there is no pair
pub none_at_end : {X : Type 0} (f : ℕ → Option X) (end : End) (order : List ℕ) → end_of_list end order ≡ None → filter_map f order ≡ []
none_at_end f end [] e = refl
none_at_end f Front (p ∷ order) e = absurd (let bad = e in cc)
none_at_end f Back (p ∷ order) e = absurd (some order p e)
  where
    some : (ps : List ℕ) (p : ℕ) → last_of (p ∷ ps) ≡ None → ⊥
    some [] p e = absurd (let bad = e in cc)
    some (q ∷ ps) p e = some ps q e

module _ {K V : Type 0} (eq : K → K → Bool) (end : End) where
  pub popped-none : (m : Lists K V) → m.pairs ≡ [] → popped eq end m ≡ m
  popped-none m none = ap (λ b. cond b (kept eq m (end_rest end m.pairs)) m) (ap has_items none)

  pub popped_pair-none : (pairs : List (K × V)) → pairs ≡ [] → popped_pair eq end pairs ≡ None
  popped_pair-none pairs none = ap (popped_pair eq end) none
      ∙ (elim end as (λ (e : End). popped_pair eq {V = V} e [] ≡ None) [ Front ↦ refl | Back ↦ refl ])

-- the pair at an end has left
pub record Leaves {K V : Type 0} (eq : K → K → Bool) (hash : K → ℕ) (end : End) (keys keys_after : Slots K KeyLink)
    (rows_after : FinMap nat_cmp ℕ)
    (values values_after : Slots V ValueLink) (taken : Taken K V) : Type 0 where
  pub agrees : Agrees eq hash keys_after rows_after values_after
  pub lists_are : lists_of keys_after values_after ≡ popped eq end (lists_of keys values)
  pub some : has_items (pairs_of keys values) ≡ true
  pub is_taken : IsTaken keys_after (popped_pair eq end (pairs_of keys values)) (Some taken)

module _ {K V : Type 0} {eq : K → K → Bool} {hash : K → ℕ} {keys : Slots K KeyLink} {rows : FinMap nat_cmp ℕ} {values : Slots V ValueLink}
    (agrees : Agrees eq hash keys rows values) (end : End) (place : ℕ) (at : end_of_list end values.order ≡ Some place) where
  abbrev pair : PairAt keys values place
  pair = pair_in agrees place (end_listed end values.order place at)

  -- the lists, where the pairs that stay are the same
  module _ (keys_after : Slots K KeyLink) (values_after : Slots V ValueLink) (order : values_after.order ≡ without values.order place)
      (same : (q : ℕ) → IsIn q values_after.order → pair_at keys_after values_after q ≡ pair_at keys values q) where
    left_at_end : AtEnd end (pairs_of keys values) (pairs_of keys_after values_after) (pair.key, pair.value)
    left_at_end =
        subst (λ rest. AtEnd end (pairs_of keys values) rest (pair.key, pair.value))
        (sym (pairs_of-without keys keys_after values values_after place order same))
        (at_end (pair_at keys values) end values.order place (pair.key, pair.value) agrees.values_sound.distinct at pair.pair_is)

    popped_is : kept eq (lists_of keys values) (pairs_of keys_after values_after) ≡ popped eq end (lists_of keys values)
    popped_is =
        ap (kept eq (lists_of keys values)) left_at_end.left
        ∙ sym (ap (λ b. cond b (kept eq (lists_of keys values) (end_rest end (pairs_of keys values))) (lists_of keys values))
        left_at_end.some)

    pair_is : (named : Bool) → is_listed eq (keys_of (pairs_of keys_after values_after)) pair.key ≡ named
        → popped_pair eq end (pairs_of keys values) ≡ Some (record { owned = not named; key = pair.key; value = pair.value })
    pair_is named is =
        ap (option_map (λ (p : K × V). record {
          owned = not
              (is_listed eq (keys_of (end_rest end (pairs_of keys values))) p.0);
          key = p.0;
          value = p.1;
        })) left_at_end.item
        ∙ ap (λ b. Some (record { owned = not b; key = pair.key; value = pair.value }))
        (ap (λ ps. is_listed eq (keys_of ps) pair.key) (sym left_at_end.left) ∙ is)

  -- what is taken is owned where no pair that is left names its key
  leaves_naming : {keys_after : Slots K KeyLink} {rows_after : FinMap nat_cmp ℕ} {values_after : Slots V ValueLink} (taken : Taken K V)
      → LeavesAt eq hash keys keys_after rows_after values values_after place → (named : Bool)
      → is_listed eq (keys_of (pairs_of keys_after values_after)) pair.key ≡ named
      → IsTaken keys_after (Some (record { owned = not named; key = pair.key; value = pair.value })) (Some taken)
      → Leaves eq hash end keys keys_after rows_after values values_after taken
  leaves_naming {keys_after} {values_after = values_after} taken left named named_is is = record {
    agrees = left.agrees;
    lists_are = ap (λ ks. lists ks (pairs_of keys_after values_after)) left.keys_are
        ∙ popped_is keys_after values_after left.order left.same;
    some = (left_at_end keys_after values_after left.order left.same).some;
    is_taken = subst (λ p. IsTaken keys_after p (Some taken))
        (sym (pair_is keys_after values_after left.order left.same named named_is)) is;
  }

module _ {K V : Type 0} {eq : K → K → Bool} (laws : IsEquivalence eq) {hash : K
    → ℕ} {keys keys_after : Slots K KeyLink} {rows rows_after : FinMap nat_cmp ℕ} {values values_after : Slots V ValueLink}
    (agrees : Agrees eq hash keys rows values) (end : End) (place : ℕ) (at : end_of_list end values.order ≡ Some place) {v : V} where
  -- the key has other values, and stays
  leaves_beside : (key : ℕ) → TakesOneOfSeveral keys keys_after rows rows_after values values_after place v key
      → Leaves eq hash end keys keys_after rows_after values values_after (record { key = Kept key; value = v })
  leaves_beside key beside =
      let listed = end_listed end values.order place at in
      let its = pair agrees end place at in
      let link_is : Some beside.one.link ≡ Some its.link = sym beside.one.link_is ∙ its.link_is in
      let link : beside.one.link ≡ its.link = cc in
      let own : item_at keys beside.one.link.key ≡ Some its.key = ap (λ (l : ValueLink). item_at keys l.key) link ∙ its.key_is in
      let value_is : Some v ≡ Some its.value = sym beside.one.had ∙ its.value_is in
      let value : v ≡ its.value = cc in
      leaves_naming agrees end place at (record { key = Kept key; value = v }) (beside_at laws agrees place listed v key beside) true
      (still_named laws agrees place listed beside.one its.key own) (
        value,
        (refl, subst (λ q. HasItem keys_after q its.key) beside.key_is (has_item-one agrees place listed beside.one its.key own)),
      )

  -- it was the key's only value, and the key goes too
  leaves_last : (key : K) → TakesLast keys keys_after rows rows_after values values_after place key v
      → Leaves eq hash end keys keys_after rows_after values values_after (record { key = Gone key; value = v })
  leaves_last key last =
      let listed = end_listed end values.order place at in
      let its = pair agrees end place at in
      let key_is : Some key ≡ Some its.key = sym last.entry.removed.had ∙ last_key_is agrees place listed v key last in
      let stored : key ≡ its.key = cc in
      let value_is : Some v ≡ Some its.value = sym last.had ∙ its.value_is in
      let value : v ≡ its.value = cc in
      leaves_naming agrees end place at (record { key = Gone key; value = v }) (last_at laws agrees place listed v key last) false
      (no_longer_named laws agrees place listed v key last) (value, (refl, stored))

  leaves_by : (key : TakenKey K) → TakesByKey keys keys_after rows rows_after values values_after place v key
      → Leaves eq hash end keys keys_after rows_after values values_after (record { key = key; value = v })
  leaves_by (Kept key) beside = leaves_beside key beside
  leaves_by (Gone key) last = leaves_last key last

pub leaves : {K V : Type 0} {eq : K → K → Bool}
    (laws : IsEquivalence eq) {hash : K → ℕ} {keys keys_after : Slots K KeyLink} {rows rows_after : FinMap nat_cmp ℕ} {values
    values_after : Slots V ValueLink}
    → Agrees eq hash keys rows values → (end : End) (place : ℕ) → end_of_list end values.order ≡ Some place
    → (taken : Taken K V) → TakesPair keys keys_after rows rows_after values values_after place taken
    → Leaves eq hash end keys keys_after rows_after values values_after taken
leaves laws agrees end place at taken takes = leaves_by laws agrees end place at taken.key takes

-- one value fewer: the rest fits, and the numbers count it
pub fits-freed : {V : Type 0} (values values_after : Taped V ValueLink) (place : ℕ)
    → values_after.list.order ≡ without values.list.order place
    → values_after.list.capacity ≡ values.list.capacity → HasTapeRoomFor values 0 → HasTapeRoomFor values_after 0
fits-freed values values_after place order room fits =
    omega (arith, fits, ap (λ n. n / 2) room, ap length order, filter_shorter (λ q. not (q == place)) values.list.order)

pub takes_one_out : {V : Type 0} (values values_after : Taped V ValueLink) → Frees values values_after → (some : Bool) → some ≡ true
    → TakesOut (cond some 1 0) (numbers_of values) (numbers_of values_after)
takes_one_out values values_after frees some is =
    subst (λ b. TakesOut (cond b 1 0) (numbers_of values) (numbers_of values_after)) (sym is)
    (record { freed = frees.freed; paid = omega (arith, frees.moved, frees.holes) })

pub takes_none_out : (t : TapeNumbers) (some : Bool) → some ≡ false → TakesOut (cond some 1 0) t t
takes_none_out t some is = subst (λ b. TakesOut (cond b 1 0) t t) (sym is) (record { freed = omega arith; paid = omega arith })

pub fits-pair : {K V : Type 0} (keys keys_after : Slots K KeyLink) (rows rows_after : FinMap nat_cmp ℕ)
    (values values_after : Taped V ValueLink) (place : ℕ) (taken : Taken K V)
    → TakesPair keys keys_after rows rows_after values.list values_after.list place taken
    → values_after.list.capacity ≡ values.list.capacity → HasTapeRoomFor values 0 → HasTapeRoomFor values_after 0
fits-pair {K} {V} keys keys_after rows rows_after values values_after place taken takes room fits = fits-freed values values_after place
    (order taken.key takes) room fits
  where
    order : (key : TakenKey K) → TakesByKey keys keys_after rows rows_after values.list values_after.list place taken.value key
        → values_after.list.order ≡ without values.list.order place
    order (Kept key) beside = beside.one.order
    order (Gone key) last = last.order
