-- Where another key stands at a place, key list, table and values agree, and the lists have the new key.
use Rattle.std.proofs.Common.{◌≡◌, ◌≢◌, ◌==◌, ◌&&◌, ℕ, ◌-◌, ◌+◌, ◌<◌, Bool, true, false, not, List, [], ◌∷◌, cond, map, length, refl, sym}
use Rattle.std.proofs.Common.{ap}
use Rattle.std.proofs.Common.{Option, Some, None, IsSome, is_some, option_map, ◌∙◌, subst, inl, inr, arith, true≢false}
use Rattle.std.proofs.lemmas.Bool.{cases_eq, eq-eqb, ne_eqb}
use Rattle.std.specs.Cmp.{IsEquivalence, nat_cmp_total, unsigned_tied}
use Rattle.std.specs.List.{filter_map, cons_option, AllByRecursion, IsDistinct}
use Rattle.std.specs.Ordering.{nat_cmp}
use Rattle.std.specs.FinMap.{FinMap, get, remove, len, contains_key, get-insert, get-remove, len-insert, len-remove}
use Rattle.multimap_slots.specs.Lists.{IsIn}
use Rattle.multimap_slots.specs.Slots.{Slots, IsSound, item_at, link_at, with_item, with_link}
use Rattle.multimap_slots.proofs.Callers.SlotChanges.{KeepsOthers-with_item, KeepsOthers-with_link, item_at-with_item, link_at-with_link}
use Rattle.multimap_walks.specs.declared.links.KeyLink.{KeyLink}
use Rattle.multimap_walks.specs.declared.links.ValueLink.{ValueLink}
use Rattle.multimap_walks.specs.Chained.{pair_at, pairs_of}
use Rattle.ordered_multimap.specs.Agrees.{Agrees, HasKey, items_of, lists_of}
use Rattle.ordered_multimap.specs.Lists.{lists}
use Rattle.ordered_multimap.specs.Private.Renames.{ReplacesKey}
use Rattle.ordered_multimap.specs.Renames.{is_taken, renamed_key, renamed_where}
use Rattle.ordered_multimap.proofs.Agreement.Agreed.{pair_in, pair_at-is, is_value_of-is}
use Rattle.ordered_multimap.proofs.Agreement.LookUps.{owns}
use Rattle.ordered_multimap.proofs.Callers.ListedKeys.{any_member, apart_member}
use Rattle.ordered_multimap.proofs.Callers.Places.{held}
use Rattle.ordered_multimap.proofs.Remove.WholeKeys.{own_place}

-- a list with an item isn't empty
pub some_length : {X : Type 0} (x : X) (xs : List X) → IsIn x xs → 0 < length xs
some_length x [] member = absurd member
some_length x (y ∷ ys) member = omega arith

-- what is made of items that were made, one by one
filter_map-map : {X Y Z : Type 0} (f : X → Option Y) (made : X → Option Z) (g : Y → Z) (xs : List X)
    → ((x : X) → IsIn x xs → made x ≡ option_map g (f x)) → filter_map made xs ≡ map g (filter_map f xs)
filter_map-map f made g [] same = refl
filter_map-map {X} {Y} {Z} f made g (x ∷ xs) same =
    let later = filter_map-map f made g xs (λ y i. same y (inr i)) in
    let P : Option Y → Type 0 = λ o. cons_option (option_map g o) (map g (filter_map f xs)) ≡ map g (cons_option o (filter_map f xs)) in
    ap (λ o. cons_option o (filter_map made xs)) (same x (inl refl)) ∙ ap (cons_option (option_map g (f x))) later
    ∙ elim (f x) as P [ None ↦ refl | Some y ↦ refl ]

AllByRecursion-map : {X Y : Type 0} (P : Y → Type 0) (g : X → Y) (xs : List X) → ((x : X) → IsIn x xs → P (g x))
    → AllByRecursion P (map g xs)
AllByRecursion-map P g [] each = tt
AllByRecursion-map P g (x ∷ xs) each = (each x (inl refl), AllByRecursion-map P g xs (λ y i. each y (inr i)))

module _ {K : Type 0} {eq : K → K → Bool} (laws : IsEquivalence eq) (k new : K) where
  -- no other key is equal to the new one
  abbrev pub IsUntaken : List K → Type 0
  IsUntaken keys = (j : K) → IsIn j keys → eq k j ≡ false → eq new j ≡ false

  -- two keys of distinct ones stay so, where the equal one becomes the new one
  apart_renamed : (i j : K) → eq i j ≡ false → (eq k i ≡ false → eq new i ≡ false) → (eq k j ≡ false → eq new j ≡ false)
      → eq (renamed_key (eq k) new i) (renamed_key (eq k) new j) ≡ false
  apart_renamed i j differ free_i free_j =
      let P : Bool → Bool → Type 0 = λ b d. eq k i ≡ b → eq k j ≡ d → eq (cond b new i) (cond d new j) ≡ false in
      elim (eq k i) as (λ b. P b (eq k j)) [
        | true ↦ elim (eq k j) as (P true) [
          | true ↦ λ e f. absurd (true≢false (sym f ∙ laws.congr k i j e ∙ differ))
          | false ↦ λ e f. free_j f
        ]
        | false ↦ elim (eq k j) as (P false) [
          | true ↦ λ e f. laws.symm i new ∙ free_i e
          | false ↦ λ e f. differ
        ]
      ] refl refl

  IsDistinct-renamed : (keys : List K) → IsDistinct eq keys → IsUntaken keys → IsDistinct eq (map (renamed_key (eq k) new) keys)
  unfolding IsDistinct
  IsDistinct-renamed [] distinct free = tt
  IsDistinct-renamed (i ∷ keys) distinct free = (
    AllByRecursion-map (λ y. eq (renamed_key (eq k) new i) y ≡ false) (renamed_key (eq k) new) keys
        (λ j member. apart_renamed i j (apart_member laws i j keys distinct.0 member) (free i (inl refl)) (free j (inr member))),
    IsDistinct-renamed keys distinct.1 (λ j member. free j (inr member)),
  )

  -- what the test for a taken key says
  pub untaken : (keys : List K) → is_taken eq (eq k) new keys ≡ false → IsUntaken keys
  untaken keys none j member other =
      let P : Bool → Type 0 = λ b. eq new j ≡ b → b ≡ false in
      elim (eq new j) as P [
        | true ↦ λ e. absurd (true≢false (sym (any_member (λ i. eq new i && not (eq k i)) j keys member
            (ap (λ b. b && not (eq k j)) e ∙ ap not other)) ∙ none))
        | false ↦ λ _. refl
      ] refl

module _ {K V : Type 0} {eq : K → K → Bool} (laws : IsEquivalence eq) {hash : K → ℕ} {keys keys_after : Slots K KeyLink}
    {rows rows_after : FinMap nat_cmp ℕ} {values : Slots V ValueLink} (agrees : Agrees eq hash keys rows values) (k : K) (place : ℕ)
    (has : HasKey eq keys k place) {h : ℕ} {new old : K} (r : ReplacesKey keys keys_after rows rows_after place h new old) where
  written : Slots K KeyLink
  written = with_item (with_link keys place (record r.link { hash = h })) place new

  item_here : item_at keys_after place ≡ Some new
  item_here =
      ap (λ s. item_at s place) r.slots
      ∙ item_at-with_item (with_link keys place (record r.link { hash = h })) place new (agrees.keys_sound.filled place r.listed)

  item_elsewhere : (q : ℕ) → q ≢ place → item_at keys_after q ≡ item_at keys q
  item_elsewhere q differs =
      ap (λ s. item_at s q) r.slots
      ∙ (KeepsOthers-with_item (with_link keys place (record r.link { hash = h })) place new).items q differs

  link_here : link_at keys_after place ≡ Some (record r.link { hash = h })
  link_here =
      ap (λ s. link_at s place) r.slots
      ∙ link_at-with_link keys place (record r.link { hash = h }) (agrees.keys_sound.linked place r.listed)

  link_elsewhere : (q : ℕ) → q ≢ place → link_at keys_after q ≡ link_at keys q
  link_elsewhere q differs =
      ap (λ s. link_at s q) r.slots ∙ (KeepsOthers-with_link keys place (record r.link { hash = h })).links q differs

  same_order : keys_after.order ≡ keys.order
  same_order = ap (λ s. s.order) r.slots

  listed_before : (q : ℕ) → IsIn q keys_after.order → IsIn q keys.order
  listed_before q i = subst (IsIn q) same_order i

  listed_now : (q : ℕ) → IsIn q keys.order → IsIn q keys_after.order
  listed_now q i = subst (IsIn q) (sym same_order) i

  keys_sound : IsSound keys_after
  keys_sound = record {
    distinct = rw same_order agrees.keys_sound.distinct;
    filled = λ q i. elim (cases_eq q place) [
      | inl same ↦ subst IsSome (sym (ap (item_at keys_after) same ∙ item_here)) refl
      | inr differs ↦ subst IsSome (sym (item_elsewhere q differs)) (agrees.keys_sound.filled q (listed_before q i))
    ];
    linked = λ q i. elim (cases_eq q place) [
      | inl same ↦ subst IsSome (sym (ap (link_at keys_after) same ∙ link_here)) refl
      | inr differs ↦ subst IsSome (sym (link_elsewhere q differs)) (agrees.keys_sound.linked q (listed_before q i))
    ];
    fits = omega (arith, agrees.keys_sound.fits, ap length same_order, ap (λ s. s.capacity) r.slots);
  }

  -- a link of the keys then, and the one of that place before, which has the same ends
  record WasLinked (q : ℕ) (l : KeyLink) : Type 0 where
    was : KeyLink
    was_is : link_at keys q ≡ Some was
    head : l.head ≡ was.head
    tail : l.tail ≡ was.tail
    length_is : l.length ≡ was.length

  was_linked : (q : ℕ) (l : KeyLink) → link_at keys_after q ≡ Some l → WasLinked q l
  was_linked q l is = elim (cases_eq q place) [
    | inl same ↦
        let one : Some (record r.link { hash = h }) ≡ Some l = sym link_here ∙ ap (link_at keys_after) (sym same) ∙ is in
        let e : record r.link { hash = h } ≡ l = cc in
        record {
          was = r.link;
          was_is = ap (link_at keys) same ∙ r.link_is;
          head = sym (ap (λ (m : KeyLink). m.head) e);
          tail = sym (ap (λ (m : KeyLink). m.tail) e);
          length_is = sym (ap (λ (m : KeyLink). m.length) e);
        }
    | inr differs ↦ record {
      was = l;
      was_is = sym (link_elsewhere q differs) ∙ is;
      head = refl;
      tail = refl;
      length_is = refl;
    }
  ]

  -- the rows then
  row_of : (q : ℕ) → get rows_after q ≡ cond (q == place) (Some h) (cond (q == place) None (get rows q))
  row_of q =
      ap (λ m. get m q) r.rows_are ∙ get-insert nat_cmp_total (remove rows place) place h q
      ∙ ap (λ b. cond b (Some h) (get (remove rows place) q)) (unsigned_tied q place)
      ∙ ap (cond (q == place) (Some h)) (get-remove nat_cmp_total rows place q
      ∙ ap (λ b. cond b None (get rows q)) (unsigned_tied q place))

  row_here : get rows_after place ≡ Some h
  row_here = row_of place ∙ ap (λ b. cond b (Some h) (cond b None (get rows place))) (eq-eqb place place refl)

  row_elsewhere : (q : ℕ) → q ≢ place → get rows_after q ≡ get rows q
  row_elsewhere q differs = row_of q ∙ ap (λ b. cond b (Some h) (cond b None (get rows q))) (ne_eqb q place differs)

  as_many_rows : len rows_after ≡ len rows
  as_many_rows =
      let had : contains_key rows place ≡ true = ap is_some (agrees.in_table place r.link r.listed r.link_is) in
      let gone : contains_key (remove rows place) place ≡ false = ap is_some (get-remove nat_cmp_total rows place place
      ∙ ap (λ b. cond b None (get rows place)) (unsigned_tied place place ∙ eq-eqb place place refl)) in
      let fewer = len-remove nat_cmp_total rows place ∙ ap (λ b. cond b (len rows - 1) (len rows)) had in
      let more = ap len r.rows_are ∙ len-insert nat_cmp_total (remove rows place) place h
      ∙ ap (λ b. cond b (len (remove rows place)) (len (remove rows place) + 1)) gone in
      omega (arith, fewer, more, agrees.counted, some_length place keys.order r.listed)

  -- the keys then
  pub items_of-renamed : items_of keys_after ≡ map (renamed_key (eq k) new) (items_of keys)
  items_of-renamed =
      ap (filter_map (item_at keys_after)) same_order
      ∙ filter_map-map (item_at keys) (item_at keys_after) (renamed_key (eq k) new) keys.order item_then
    where
      item_then : (q : ℕ) → IsIn q keys.order → item_at keys_after q ≡ option_map (renamed_key (eq k) new) (item_at keys q)
      item_then q listed =
          let j = held (item_at keys q) (agrees.keys_sound.filled q listed) in
          let own = own_place laws agrees.distinct k place has q listed j.value j.is in
          elim (cases_eq q place) [
            | inl same ↦ ap (item_at keys_after) same ∙ item_here
                ∙ sym (ap (option_map (renamed_key (eq k) new)) j.is
                ∙ ap (λ b. Some (cond b new j.value)) (sym own ∙ eq-eqb q place same))
            | inr differs ↦ item_elsewhere q differs ∙ j.is
                ∙ sym (ap (option_map (renamed_key (eq k) new)) j.is
                ∙ ap (λ b. Some (cond b new j.value)) (sym own ∙ ne_eqb q place differs))
          ]

  -- the pairs then
  pairs_of-renamed : pairs_of keys_after values ≡ map (λ p. (renamed_key (eq k) new p.0, p.1)) (pairs_of keys values)
  pairs_of-renamed =
      filter_map-map (pair_at keys values) (pair_at keys_after values) (λ p. (renamed_key (eq k) new p.0, p.1)) values.order pair_then
    where
      pair_then : (q : ℕ) → IsIn q values.order
          → pair_at keys_after values q ≡ option_map (λ p. (renamed_key (eq k) new p.0, p.1)) (pair_at keys values q)
      pair_then q listed =
          let p = pair_in agrees q listed in
          let own = sym (owns laws agrees k place has q p) ∙ is_value_of-is keys values place q p.link p.link_is in
          elim (cases_eq p.link.key place) [
            | inl same ↦
                pair_at-is keys_after values q p.link new p.value p.link_is (ap (item_at keys_after) same ∙ item_here) p.value_is
                ∙ sym (ap (option_map (λ (e : K × V). (renamed_key (eq k) new e.0, e.1))) p.pair_is
                ∙ ap (λ b. Some (cond b new p.key, p.value)) (own ∙ eq-eqb p.link.key place same))
            | inr differs ↦
                pair_at-is keys_after values q p.link p.key p.value p.link_is (item_elsewhere p.link.key differs ∙ p.key_is) p.value_is
                ∙ sym (ap (option_map (λ (e : K × V). (renamed_key (eq k) new e.0, e.1))) p.pair_is
                ∙ ap (λ b. Some (cond b new p.key, p.value)) (own ∙ ne_eqb p.link.key place differs))
          ]

  pub lists_of-renamed : lists_of keys_after values ≡ renamed_where (eq k) new (lists_of keys values)
  lists_of-renamed = (λ i. lists (items_of-renamed i) (pairs_of-renamed i))

  pub Agrees-renamed : h ≡ hash new → is_taken eq (eq k) new (items_of keys) ≡ false → Agrees eq hash keys_after rows_after values
  Agrees-renamed hash_is free = record {
    keys_sound = keys_sound;
    values_sound = agrees.values_sound;
    chained = record {
      owned = λ q l i is. listed_now l.key (agrees.chained.owned q l i is);
      head = λ q l i is. let w = was_linked q l is in
          agrees.chained.head q w.was (listed_before q i) w.was_is ∙ ap Some (sym w.head);
      tail = λ q l i is. let w = was_linked q l is in
          agrees.chained.tail q w.was (listed_before q i) w.was_is ∙ ap Some (sym w.tail);
      length = λ q l i is. let w = was_linked q l is in
          agrees.chained.length q w.was (listed_before q i) w.was_is ∙ sym w.length_is;
      previous = agrees.chained.previous;
      next = agrees.chained.next;
    };
    distinct = subst (IsDistinct eq) (sym items_of-renamed)
        (IsDistinct-renamed laws k new (items_of keys) agrees.distinct (untaken laws k new (items_of keys) free));
    hashed = λ q j l i item is. elim (cases_eq q place) [
      | inl same ↦
          let one : Some (record r.link { hash = h }) ≡ Some l = sym link_here ∙ ap (link_at keys_after) (sym same) ∙ is in
          let is_link : record r.link { hash = h } ≡ l = cc in
          let both : Some new ≡ Some j = sym item_here ∙ ap (item_at keys_after) (sym same) ∙ item in
          let is_key : new ≡ j = cc in
          ap (λ (m : KeyLink). m.hash) (sym is_link) ∙ hash_is ∙ ap hash is_key
      | inr differs ↦ agrees.hashed q j l (listed_before q i) (sym (item_elsewhere q differs) ∙ item) (sym (link_elsewhere q differs) ∙ is)
    ];
    in_table = λ q l i is. elim (cases_eq q place) [
      | inl same ↦
          let one : Some (record r.link { hash = h }) ≡ Some l = sym link_here ∙ ap (link_at keys_after) (sym same) ∙ is in
          let is_link : record r.link { hash = h } ≡ l = cc in
          ap (get rows_after) same ∙ row_here ∙ ap (λ (m : KeyLink). Some m.hash) is_link
      | inr differs ↦ row_elsewhere q differs ∙ agrees.in_table q l (listed_before q i) (sym (link_elsewhere q differs) ∙ is)
    ];
    listed = λ q x is. elim (cases_eq q place) [
      | inl same ↦ listed_now q (subst (λ p. IsIn p keys.order) (sym same) r.listed)
      | inr differs ↦ listed_now q (agrees.listed q x (sym (row_elsewhere q differs) ∙ is))
    ];
    counted = as_many_rows ∙ agrees.counted ∙ sym (ap length same_order);
  }
