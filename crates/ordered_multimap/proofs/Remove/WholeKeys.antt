-- Where a key goes with all its values, key list, table and values agree, and the lists are without its pairs.
use Rattle.std.proofs.Common.{◌≡◌, ◌≢◌, ◌==◌, ◌-◌, ◌/◌, ℕ, Bool, true, false, not, cond, length, filter, slice_get, option_map, Some}
use Rattle.std.proofs.Common.{None, IsSome, is_some, refl, sym, ap, ◌∙◌, subst, inl, inr, true≢false, arith}
use Rattle.std.proofs.lemmas.Bool.{cases_eq, eq-eqb, ne_eqb}
use Rattle.std.specs.Cmp.{IsEquivalence, nat_cmp_total, unsigned_tied}
use Rattle.std.specs.List.{filter_map, list_any, IsDistinct}
use Rattle.std.specs.Map.{keys_of}
use Rattle.std.specs.Ordering.{nat_cmp}
use Rattle.std.specs.FinMap.{FinMap, get, remove, len, contains_key, get-remove, len-remove}
use Rattle.multimap_slots.specs.Lists.{IsIn, first_of, last_of, next_of, previous_of, without}
use Rattle.multimap_slots.specs.Slots.{Slots, IsSound, Removes, item_at, link_at}
use Rattle.multimap_slots.specs.Tapes.{Taped, HasTapeRoomFor}
use Rattle.multimap_slots.proofs.Callers.PlaceLists.{IsIn-kept}
use Rattle.multimap_walks.specs.declared.links.KeyLink.{KeyLink}
use Rattle.multimap_walks.specs.declared.links.ValueLink.{ValueLink}
use Rattle.multimap_walks.specs.Chained.{IsChained, is_value_of, chain_of, pair_at, pairs_of}
use Rattle.ordered_multimap.specs.Lists.{Lists, lists, IsWellFormed}
use Rattle.ordered_multimap.specs.Keys.{is_listed, stored_key}
use Rattle.ordered_multimap.specs.Pairs.{pairs_without, values_of}
use Rattle.ordered_multimap.specs.Changes.{removed, removed_where, kept}
use Rattle.ordered_multimap.specs.Agrees.{Agrees, HasKey, items_of, lists_of}
use Rattle.ordered_multimap.specs.Private.Remove.{TakesValues}
use Rattle.ordered_multimap.proofs.Callers.Members.{IsIn-filter, filter-all}
use Rattle.ordered_multimap.proofs.Agreement.Kept.{filter-among, filter_map-filter, keys_of-without, is_listed-equal}
use Rattle.ordered_multimap.proofs.Callers.Places.{begins, held, pair_named, IsIn-filter_map, AreDistinct-filter, filter-agree}
use Rattle.ordered_multimap.proofs.Callers.Places.{filter_shorter}
use Rattle.ordered_multimap.proofs.Callers.Places.{filter_map-agree}
use Rattle.ordered_multimap.proofs.Callers.ListedKeys.{any_member, stored_key_only, is_listed-self, IsDistinct-filter}
use Rattle.ordered_multimap.proofs.Agreement.Agreed.{value_owner, well_formed, pair_in, pair_at-is, is_value_of-is}
use Rattle.ordered_multimap.proofs.Agreement.LookUps.{owns, same_place, first_value, count_of_values}
use Rattle.ordered_multimap.proofs.Callers.Laws.{is_listed-others}
use Rattle.ordered_multimap.proofs.Callers.WellFormed.{same_keys}

pub not_true : (b : Bool) → not b ≡ true → b ≡ false
not_true true e = absurd (true≢false (sym e))
not_true false e = refl

-- values leave
module _ {V : Type 0} {gone : ℕ → Bool} {values values_after : Slots V ValueLink} (takes : TakesValues gone values values_after) where
  pub still_listed : (q : ℕ) → IsIn q values_after.order → IsIn q values.order × (gone q ≡ false)
  still_listed q listed =
      let found = IsIn-kept (λ p. not (gone p)) q values.order (subst (IsIn q) takes.order listed) in
      (found.0, not_true (gone q) found.1)

  pub values_sound-taken : IsSound values → IsSound values_after
  values_sound-taken sound = record {
    distinct = rw takes.order (AreDistinct-filter (λ p. not (gone p)) values.order sound.distinct);
    filled = λ q i. let old = still_listed q i in subst IsSome (sym (takes.items q old.1)) (sound.filled q old.0);
    linked = λ q i. let old = still_listed q i in subst IsSome (sym (takes.links q old.1)) (sound.linked q old.0);
    fits = omega (arith, sound.fits, takes.capacity, ap length takes.order, filter_shorter (λ p. not (gone p)) values.order);
  }

  same_owner : (key q : ℕ) → IsIn q values_after.order → is_value_of values_after key q ≡ is_value_of values key q
  same_owner key q listed = let old = still_listed q listed in rw (takes.links q old.1) refl

  -- a chain loses just those that leave
  pub chain_of-taken : (key : ℕ) → chain_of values_after key ≡ filter (is_value_of values key) (filter (λ p. not (gone p)) values.order)
  chain_of-taken key =
      filter-agree (is_value_of values_after key) (is_value_of values key) values_after.order (same_owner key)
      ∙ ap (filter (is_value_of values key)) takes.order

-- a key leaves
module _ {K : Type 0} {keys keys_after : Slots K KeyLink} {place : ℕ} {stored : K} (removes : Removes keys keys_after place stored) where
  pub key_still_listed : (q : ℕ) → IsIn q keys_after.order → IsIn q keys.order × (q ≢ place)
  key_still_listed q listed =
      let found = IsIn-kept (λ p. not (p == place)) q keys.order (subst (IsIn q) removes.order listed) in
      (found.0, λ same. true≢false (sym (eq-eqb q place same) ∙ not_true (q == place) found.1))

  pub key_stays : (q : ℕ) → IsIn q keys.order → q ≢ place → IsIn q keys_after.order
  key_stays q listed differs = subst (IsIn q) (sym removes.order)
      (IsIn-filter (λ p. not (p == place)) q keys.order (ap not (ne_eqb q place differs)) listed)

  pub keys_sound-removed : IsSound keys → IsSound keys_after
  keys_sound-removed sound = record {
    distinct = rw removes.order (AreDistinct-filter (λ p. not (p == place)) keys.order sound.distinct);
    filled = λ q i. let old = key_still_listed q i in subst IsSome (sym (removes.others.items q old.1)) (sound.filled q old.0);
    linked = λ q i. let old = key_still_listed q i in subst IsSome (sym (removes.others.links q old.1)) (sound.linked q old.0);
    fits = omega (arith, sound.fits, removes.capacity, removes.shorter);
  }

-- the keys at the other places are those that aren't equal
module _ {K : Type 0} {eq : K → K → Bool} (laws : IsEquivalence eq) {keys : Slots K KeyLink} (distinct : IsDistinct eq (items_of keys))
    (k : K) (place : ℕ) (has : HasKey eq keys k place) where
  -- a key is equal exactly at the place
  pub own_place : (q : ℕ) → IsIn q keys.order → (j : K) → item_at keys q ≡ Some j → (q == place) ≡ eq k j
  own_place q listed j is = elim (cases_eq q place) [
    | inl same ↦
        let one : Some has.stored ≡ Some j = sym has.item_is ∙ ap (item_at keys) (sym same) ∙ is in
        let is_stored : has.stored ≡ j = cc in
        eq-eqb q place same ∙ sym (ap (eq k) (sym is_stored) ∙ has.equal)
    | inr differs ↦
        let P : Bool → Type 0 = λ b. eq k j ≡ b → false ≡ b in
        ne_eqb q place differs ∙ elim (eq k j) as P [
          | true ↦ λ e. absurd (differs (sym (same_place laws keys keys.order distinct place q has.stored j has.listed listed has.item_is is
              (sym (laws.congr k has.stored j has.equal) ∙ e))))
          | false ↦ λ _. refl
        ] refl
  ]

  pub items_besides : filter_map (item_at keys) (without keys.order place) ≡ filter (λ j. not (eq k j)) (items_of keys)
  items_besides =
      filter_map-filter (item_at keys) (λ q. not (q == place)) (λ j. not (eq k j)) keys.order
      (λ q listed j is. ap not (own_place q listed j is))

-- a key leaves with all its values
module _ {K V : Type 0} {eq : K → K → Bool} (laws : IsEquivalence eq) {hash : K
    → ℕ} {keys keys_after : Slots K KeyLink} {rows : FinMap nat_cmp ℕ} {values values_after : Slots V ValueLink}
    (agrees : Agrees eq hash keys rows values) (k : K) (place : ℕ) (has : HasKey eq keys k place) {stored : K}
    (takes : TakesValues (is_value_of values place) values values_after) (removes : Removes keys keys_after place stored) where
  -- the keys of the values that stay are others
  other_key : (q : ℕ) (l : ValueLink) → IsIn q values_after.order → link_at values q ≡ Some l → l.key ≢ place
  other_key q l listed is same =
      let old = still_listed takes q listed in
      true≢false (sym (is_value_of-is keys values place q l is ∙ eq-eqb l.key place same) ∙ old.1)

  same_chain : (key : ℕ) → key ≢ place → chain_of values_after key ≡ chain_of values key
  same_chain key differs =
      chain_of-taken takes key
      ∙ filter-among (is_value_of values key) (λ p. not (is_value_of values place p)) values.order (λ q listed own.
      let l = held (link_at values q) (agrees.values_sound.linked q listed) in
      let is_key : l.value.key ≡ key = value_owner keys values key q l.value l.is own in
      ap not (is_value_of-is keys values place q l.value l.is ∙ ne_eqb l.value.key place (λ same. differs (sym is_key ∙ same))))

  pub chained-taken : IsChained keys_after values_after
  chained-taken = record {
    owned = λ q l listed is.
        let old = still_listed takes q listed in
        let was = sym (takes.links q old.1) ∙ is in
        key_stays removes l.key (agrees.chained.owned q l old.0 was) (other_key q l listed was);
    head = λ key l listed is. let old = key_still_listed removes key listed in
        ap first_of (same_chain key old.1) ∙ agrees.chained.head key l old.0 (sym (removes.others.links key old.1) ∙ is);
    tail = λ key l listed is. let old = key_still_listed removes key listed in
        ap last_of (same_chain key old.1) ∙ agrees.chained.tail key l old.0 (sym (removes.others.links key old.1) ∙ is);
    length = λ key l listed is. let old = key_still_listed removes key listed in
        ap length (same_chain key old.1) ∙ agrees.chained.length key l old.0 (sym (removes.others.links key old.1) ∙ is);
    previous = λ q l listed is.
        let old = still_listed takes q listed in
        let was = sym (takes.links q old.1) ∙ is in
        ap (λ c. previous_of c q) (same_chain l.key (other_key q l listed was)) ∙ agrees.chained.previous q l old.0 was;
    next = λ q l listed is.
        let old = still_listed takes q listed in
        let was = sym (takes.links q old.1) ∙ is in
        ap (λ c. next_of c q) (same_chain l.key (other_key q l listed was)) ∙ agrees.chained.next q l old.0 was;
  }

  -- the keys that stay are those that aren't equal
  pub items_of-removed : items_of keys_after ≡ filter (λ j. not (eq k j)) (items_of keys)
  items_of-removed =
      ap (filter_map (item_at keys_after)) removes.order
      ∙ filter_map-agree (item_at keys_after) (item_at keys) (without keys.order place)
      (λ q i. removes.others.items q (key_still_listed removes q (subst (IsIn q) (sym removes.order) i)).1)
      ∙ items_besides laws agrees.distinct k place has

  -- a pair that stays is the same
  pub pair_at-taken : (q : ℕ) → IsIn q values_after.order → pair_at keys_after values_after q ≡ pair_at keys values q
  pair_at-taken q listed =
      let old = still_listed takes q listed in
      let p = pair_in agrees q old.0 in
      let differs = other_key q p.link listed p.link_is in
      pair_at-is keys_after values_after q p.link p.key p.value (takes.links q old.1 ∙ p.link_is)
      (removes.others.items p.link.key differs ∙ p.key_is) (takes.items q old.1 ∙ p.value_is)
      ∙ sym p.pair_is

  -- the pairs that stay are those of the other keys
  pub pairs_of-taken : pairs_of keys_after values_after ≡ pairs_without eq (pairs_of keys values) k
  pairs_of-taken =
      filter_map-agree (pair_at keys_after values_after) (pair_at keys values) values_after.order pair_at-taken
      ∙ ap (filter_map (pair_at keys values)) takes.order
      ∙ filter_map-filter (pair_at keys values) (λ q. not (is_value_of values place q)) (λ p. not (eq k p.0)) values.order (λ q listed p is.
      let pair = pair_in agrees q listed in
      let one : Some (pair.key, pair.value) ≡ Some p = sym pair.pair_is ∙ is in
      let is_pair : (pair.key, pair.value) ≡ p = cc in
      ap not (owns laws agrees k place has q pair ∙ ap (λ (e : K × V). eq k e.0) is_pair))

  module _ (rows_after : FinMap nat_cmp ℕ) (rows_are : rows_after ≡ remove rows place) where
    row_of : (q : ℕ) → get rows_after q ≡ cond (q == place) None (get rows q)
    row_of q = ap (λ m. get m q) rows_are ∙ get-remove nat_cmp_total rows place q
        ∙ ap (λ b. cond b None (get rows q)) (unsigned_tied q place)

    row_elsewhere : (q : ℕ) → q ≢ place → get rows_after q ≡ get rows q
    row_elsewhere q differs = row_of q ∙ ap (λ b. cond b None (get rows q)) (ne_eqb q place differs)

    had_row : contains_key rows place ≡ true
    had_row =
        let l = held (link_at keys place) (agrees.keys_sound.linked place has.listed) in
        ap is_some (agrees.in_table place l.value has.listed l.is)

    pub agrees-taken : Agrees eq hash keys_after rows_after values_after
    agrees-taken = record {
      keys_sound = keys_sound-removed removes agrees.keys_sound;
      values_sound = values_sound-taken takes agrees.values_sound;
      chained = chained-taken;
      distinct = subst (IsDistinct eq) (sym items_of-removed) (IsDistinct-filter laws (λ j. not (eq k j)) (items_of keys) agrees.distinct);
      hashed = λ q j l listed item is. let old = key_still_listed removes q listed in
          agrees.hashed q j l old.0 (sym (removes.others.items q old.1) ∙ item) (sym (removes.others.links q old.1) ∙ is);
      in_table = λ q l listed is. let old = key_still_listed removes q listed in
          row_elsewhere q old.1 ∙ agrees.in_table q l old.0 (sym (removes.others.links q old.1) ∙ is);
      listed = λ q h is. elim (cases_eq q place) [
        | inl same ↦ absurd (let gone : None ≡ Some h = sym (row_of q ∙ ap (λ b. cond b None (get rows q)) (eq-eqb q place same)) ∙ is in
            cc)
        | inr differs ↦ key_stays removes q (agrees.listed q h (sym (row_elsewhere q differs) ∙ is)) differs
      ];
      counted =
          ap len rows_are ∙ len-remove nat_cmp_total rows place ∙ ap (λ b. cond b (len rows - 1) (len rows)) had_row
          ∙ (let c = agrees.counted in let s = removes.shorter in omega (arith, c, s));
    }

    -- the lists are without the key and its pairs
    pub lists_of-taken : lists_of keys_after values_after ≡ removed eq (lists_of keys values) k
    lists_of-taken =
        (λ i. lists (items_of-removed i) (pairs_of-taken i))
        ∙ ap (λ js. lists js (pairs_without eq (pairs_of keys values) k))
        (filter-agree (λ j. not (eq k j)) (is_listed eq (keys_of (pairs_without eq (pairs_of keys values) k))) (items_of keys) named)
      where
        named : (j : K) → IsIn j (items_of keys) → not (eq k j) ≡ is_listed eq (keys_of (pairs_without eq (pairs_of keys values) k)) j
        named j listed =
            let there : is_listed eq (keys_of (pairs_of keys values)) j ≡ true =
            same_keys laws (lists_of keys values) j (well_formed agrees) ∙ is_listed-self laws j (items_of keys) listed in
            let P : Bool → Type 0 = λ b. eq k j ≡ b → not b ≡ is_listed eq (keys_of (pairs_without eq (pairs_of keys values) k)) j in
            elim (eq k j) as P [
              | true ↦ λ e. sym (ap (λ js. is_listed eq js j) (keys_of-without eq k (pairs_of keys values))
                  ∙ is_listed-equal laws k j (keys_of (pairs_of keys values)) e)
              | false ↦ λ n. sym (ap (λ js. is_listed eq js j) (keys_of-without eq k (pairs_of keys values))
                  ∙ is_listed-others laws k j (keys_of (pairs_of keys values)) (laws.symm j k ∙ n) ∙ there)
            ] refl

-- the key that left was the stored one
pub removed_key : {K V : Type 0} {eq : K → K → Bool}
    (laws : IsEquivalence eq) {hash : K → ℕ} {keys keys_after : Slots K KeyLink} {rows : FinMap nat_cmp ℕ} {values : Slots V ValueLink}
    (agrees : Agrees eq hash keys rows values) (k : K) (place : ℕ) (has : HasKey eq keys k place) {stored : K}
    → Removes keys keys_after place stored → stored_key eq (items_of keys) k ≡ stored
removed_key laws {keys = keys} agrees k place has {stored} removes =
    let one : Some has.stored ≡ Some stored = sym has.item_is ∙ removes.had in
    let same : has.stored ≡ stored = cc in
    stored_key_only laws k has.stored (items_of keys) agrees.distinct
    (IsIn-filter_map (item_at keys) place has.stored keys.order has.listed has.item_is) has.equal ∙ same

-- what a whole entry was
module _ {K V : Type 0} {eq : K → K → Bool} (laws : IsEquivalence eq) {hash : K → ℕ} {keys keys_after : Slots K KeyLink}
    {rows : FinMap nat_cmp ℕ} {values : Slots V ValueLink}
    (agrees : Agrees eq hash keys rows values) (k : K) (place : ℕ) (has : HasKey eq keys k place) {stored : K} {v : V}
    (removes : Removes keys keys_after place stored)
    (given : (l : KeyLink) (u : V) → link_at keys place ≡ Some l → item_at values l.head ≡ Some u → v ≡ u) where
  pub entry_is : option_map {U = K × V} (λ x. (stored_key eq (items_of keys) k, x))
      (slice_get (values_of eq (pairs_of keys values) k) 0) ≡ Some (stored, v)
  entry_is =
      let l = held (link_at keys place) (agrees.keys_sound.linked place has.listed) in
      let b = begins (chain_of values place) l.value.head (agrees.chained.head place l.value has.listed l.is) in
      let i = IsIn-kept (is_value_of values place) l.value.head values.order (subst (IsIn l.value.head) (sym b.is) (inl refl)) in
      let item = held (item_at values l.value.head) (agrees.values_sound.filled l.value.head i.0) in
      let own : stored_key eq (items_of keys) k ≡ stored = removed_key laws agrees k place has removes in
      ap (option_map {U = K × V} (λ x. (stored_key eq (items_of keys) k, x)))
      (first_value laws agrees k place l.value v has l.is (item.is ∙ ap Some (sym (given l.value item.value l.is item.is))))
      ∙ ap (λ j. Some (j, v)) own

-- how many values it has
pub entry_count : {K V : Type 0} {eq : K → K → Bool} (laws : IsEquivalence eq) {hash : K → ℕ} {keys : Slots K KeyLink}
    {rows : FinMap nat_cmp ℕ} {values : Slots V ValueLink}
    (agrees : Agrees eq hash keys rows values) (k : K) (place : ℕ) (has : HasKey eq keys k place)
    → length (values_of eq (pairs_of keys values) k) ≡ length (chain_of values place)
entry_count laws {keys = keys} agrees k place has =
    let l = held (link_at keys place) (agrees.keys_sound.linked place has.listed) in
    count_of_values laws agrees k place l.value has l.is ∙ sym (agrees.chained.length place l.value has.listed l.is)

-- fewer values fit as well
pub fits-taken : {V : Type 0} {gone : ℕ → Bool} (values values_after : Taped V ValueLink) → TakesValues gone values.list values_after.list
    → HasTapeRoomFor values 0 → HasTapeRoomFor values_after 0
fits-taken {gone = gone} values values_after takes fits =
    omega (arith, fits, ap (λ n. n / 2) takes.capacity, ap length takes.order, filter_shorter (λ p. not (gone p)) values.list.order)

-- where a test accepts no key, nothing is to be removed
module _ {K V : Type 0} {eq : K → K → Bool} (laws : IsEquivalence eq) (m : Lists K V) (accepts : K → Bool) (formed : IsWellFormed eq m)
    (unlisted : list_any accepts m.keys ≡ false) where
  pub apart : (p : K × V) → IsIn p m.pairs → accepts p.0 ≡ false
  apart p i =
      let P : Bool → Type 0 = λ b. accepts p.0 ≡ b → b ≡ false in
      elim (accepts p.0) as P [
        | true ↦ λ e. sym (any_member accepts p.0 m.keys (formed.listed p.0 (pair_named p.0 p.1 m.pairs i)) e) ∙ unlisted
        | false ↦ λ _. refl
      ] refl

  pub removed-absent : removed_where eq accepts m ≡ m
  removed-absent =
      ap (λ ps. kept eq m ps) (filter-all (λ p. not (accepts p.0)) m.pairs (λ p i. ap not (apart p i)))
      ∙ ap (λ ks. lists ks m.pairs) (filter-all (is_listed eq (keys_of m.pairs)) m.keys
      (λ j i. same_keys laws m j formed ∙ is_listed-self laws j m.keys i))
