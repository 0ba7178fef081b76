-- The step from the pair at the front of another map to the next one.
use Rattle.std.proofs.Common.{◌≡◌, ◌≢◌, ◌+◌, ℕ, Bool, true, List, [], ◌∷◌, ◌++◌, filter, length, length-append}
use Rattle.std.proofs.Common.{Some, refl, sym, ap, ◌∙◌, subst, inl, inr, arith, append_assoc}
use Rattle.std.proofs.lemmas.List.Elements.{filter-append, filter_map-append}
use Rattle.std.specs.Cmp.{IsEquivalence}
use Rattle.std.specs.FinMap.{FinMap}
use Rattle.std.specs.List.{filter_map, cons_option}
use Rattle.std.specs.Ordering.{nat_cmp}
use Rattle.multimap_slots.specs.Lists.{IsIn, first_of}
use Rattle.multimap_slots.specs.Slots.{Slots, Removes, item_at, link_at}
use Rattle.multimap_slots.specs.Tapes.{Taped, Frees}
use Rattle.multimap_slots.proofs.Callers.PlaceLists.{IsIn-append, IsIn-left, IsIn-right}
use Rattle.multimap_walks.specs.declared.links.KeyLink.{KeyLink}
use Rattle.multimap_walks.specs.declared.links.ValueLink.{ValueLink}
use Rattle.multimap_walks.specs.Chained.{is_value_of, pair_at, values_at}
use Rattle.ordered_multimap.specs.Agrees.{Agrees, HasKey}
use Rattle.ordered_multimap.specs.Multimap.{Multimap}
use Rattle.ordered_multimap.specs.Pairs.{has_items, values_of}
use Rattle.ordered_multimap.specs.Private.AppendMap.{PutsKeyAt, PutsTaken, all_put, count_for, put}
use Rattle.ordered_multimap.specs.Private.Relocations.{AreChained, WritesLink}
use Rattle.ordered_multimap.proofs.Agreement.Agreed.{PairAt}
use Rattle.ordered_multimap.proofs.Agreement.LookUps.{values_along}
use Rattle.ordered_multimap.proofs.Append.Merged.{all_put-first, all_put-later, length-put}
use Rattle.ordered_multimap.proofs.Append.OtherFront as front_pair
use Rattle.ordered_multimap.proofs.Append.OtherFront.{PutsPair, same_some}
use Rattle.ordered_multimap.proofs.Append.OtherLinks as links
use Rattle.ordered_multimap.proofs.Callers.Places.{IsIn-filter_map, held}
use Rattle.ordered_multimap.proofs.Chains.Named.{by_next, by_previous}
use Rattle.ordered_multimap.proofs.Append.OtherMap.{HasLinkLeft, IsMoving}
use Rattle.ordered_multimap.proofs.Remove.OnePair.{are_chained}

some_items : {X : Type 0} (x : X) (xs : List X) → IsIn x xs → has_items xs ≡ true
some_items x [] i = absurd i
some_items x (y ∷ xs) i = refl

no_parts : {X : Type 0} (xs ys : List X) → xs ++ ys ≡ [] → (xs ≡ []) × (ys ≡ [])
no_parts [] ys e = (refl, e)
no_parts (x ∷ xs) ys e = absurd (let bad = e in cc)

-- the value was taken out and put last, and the next one of its key names the key's place
module _ {K V S : Type 0} {eq : K → K → Bool} (laws : IsEquivalence eq) {replaces : Bool} {hash : K → ℕ} {old : Multimap K V S}
    {keys : Slots K KeyLink} {rows : FinMap nat_cmp ℕ} {values : Taped V ValueLink}
    (agrees : Agrees eq hash keys rows values.list) {now : Multimap K V S} {keys_now : Slots K KeyLink} {values_now : Taped V ValueLink}
    (w : IsMoving eq replaces old now keys keys_now values values_now) (p : ℕ) (front : first_of values_now.list.order ≡ Some p)
    (link : ValueLink) (link_is : link_at values_now.list p ≡ Some link)
    (value : V) (new : Multimap K V S) (keys_new : Slots K KeyLink) (place : ℕ)
    (done : PutsTaken eq replaces value link now new keys_now keys_new place) {mid after : Taped V ValueLink}
    (removed : Removes values_now.list mid.list p value) (frees : Frees values_now mid)
    (writes : WritesLink mid after link.next (λ l. record l { key = place })) where
  abbrev chains : AreChained keys values.list
  chains = are_chained agrees

  abbrev rest : List ℕ
  rest = front_pair.rest chains w p front

  abbrev at : PairAt keys values.list p
  at = front_pair.at chains w p front

  order : values.list.order ≡ w.taken ++ p ∷ rest
  order = front_pair.order chains w p front

  same_next : link.next ≡ at.link.next
  same_next = front_pair.same_next chains w p front link link_is

  done_pair : PutsPair chains w p front link link_is value new keys_new place
  done_pair = front_pair.puts_pair chains w p front link link_is value new keys_new place done

  abbrev pair : PutsKeyAt eq done_pair.replaced at.key value now new place
  pair = done_pair.pair

  order_after : after.list.order ≡ rest
  order_after = ap (λ (t : Taped V ValueLink). t.list.order) writes.rest ∙ front_pair.rest_left chains w p front removed

  link_mid : (q : ℕ) → IsIn q rest → link_at mid.list q ≡ link_at values_now.list q
  link_mid q i = removed.others.links q (links.behind_other chains w.taken p rest order q i)

  -- the link of a value that isn't the next one is as it was
  link_kept : (q : ℕ) (l : ValueLink) → IsIn q rest → link_at values.list q ≡ Some l → l.previous ≢ Some p
      → link_at after.list q ≡ link_at values_now.list q
  link_kept q l i is other =
      writes.others q (λ e. other (by_next chains.sound chains.chained p q at.link l (links.listed_here chains w.taken p rest order) at.link_is
      (sym same_next ∙ e) is).0)
      ∙ link_mid q i

  links_after : (q : ℕ) (l : ValueLink) → IsIn q rest → link_at values.list q ≡ Some l
      → HasLinkLeft eq new keys after.list (w.taken ++ p ∷ []) q l
  links_after q l i is =
      let was = w.links q l (front_pair.was_listed chains w p front q i) is in
      record {
        waits = λ none.
            link_kept q l i is (λ e. none p e (IsIn-right p w.taken (p ∷ []) (inl refl)))
            ∙ was.waits (λ r e j. none r e (IsIn-left r w.taken (p ∷ []) j));
        handed_on = λ r e j. elim (IsIn-append r w.taken (p ∷ []) j) [
          | inl earlier ↦
              let on = was.handed_on r e earlier in
              record {
                place = on.place;
                link_is =
                    link_kept q l i is
                    (λ here. links.taken_other chains w.taken p rest order r earlier (same_some r p (sym e ∙ here)))
                    ∙ on.link_is;
                stands = λ k key_is. pair.pair.places k on.place (on.stands k key_is);
              }
          | inr last ↦ elim last [
            | inl here ↦
                let previous : l.previous ≡ Some p = e ∙ ap Some here in
                let next = by_previous chains.sound chains.chained q p l at.link (links.listed_behind chains w.taken p rest order q i) is
                previous at.link_is in
                record {
                  place = place;
                  link_is = writes.here q l (same_next ∙ next.0) (link_mid q i ∙ was.waits (λ s some taken.
                      links.taken_other chains w.taken p rest order s taken (same_some s p (sym some ∙ previous))));
                  stands = λ k key_is. subst (λ j. HasKey eq new.slots.keys j place)
                      (same_some at.key k (sym at.key_is ∙ ap (item_at keys) next.1 ∙ key_is)) pair.found;
                }
            | inr none ↦ absurd none
          ]
        ];
      }

  -- keys of other values are left
  keys_after : (q : ℕ) → IsIn q keys.order → filter (is_value_of values.list q) (w.taken ++ p ∷ []) ≡ []
      → IsIn q keys_new.order × (item_at keys_new q ≡ item_at keys q)
  keys_after q listed none =
      let parts = no_parts (filter (is_value_of values.list q) w.taken) (filter (is_value_of values.list q) (p ∷ []))
      (sym (filter-append (is_value_of values.list q) w.taken (p ∷ [])) ∙ none) in
      let was = w.keys_left q listed parts.0 in
      let now_left = done_pair.others q (λ same. front_pair.not_own chains w p front q same parts.1) was.0 in
      (now_left.0, now_left.1 ∙ was.1)

  value_is : value ≡ at.value
  value_is = same_some value at.value (sym removed.had ∙ w.items p (front_pair.front_listed chains w p front) ∙ at.value_is)

  abbrev pairs : List (K × V)
  pairs = filter_map (pair_at keys values.list) w.taken

  -- whether a pair of its key has come is told by the values before it
  own_values : values_of eq pairs at.key ≡ values_at values.list (filter (is_value_of values.list at.link.key) w.taken)
  own_values = values_along laws agrees at.key at.link.key
      (record { listed = at.key_listed; stored = at.key; item_is = at.key_is; equal = laws.refl at.key }) w.taken
      (λ q i. subst (IsIn q) (sym order) (IsIn-left q w.taken (p ∷ rest) i))

  with_one : all_put eq replaces old.lists (pairs ++ (at.key, value) ∷ [])
      ≡ put eq done_pair.replaced (all_put eq replaces old.lists pairs) at.key value
  with_one = elim (front_pair.first_or_later chains w p front link link_is) [
    | inl first ↦
        let none = links.none_before chains w.taken p rest order at.link at.link_is first.none in
        all_put-first laws replaces old.lists pairs at.key value (ap has_items (own_values ∙ ap (values_at values.list) none))
        ∙ ap (λ b. put eq b (all_put eq replaces old.lists pairs) at.key value) (sym (done_pair.first first))
    | inr later ↦
        let q = later.previous in
        let own = links.before_own chains w.taken p rest order at.link at.link_is q later.some in
        let before = links.before chains w.taken p rest order at.link at.link_is q later.some in
        let item = held (item_at values.list q) (agrees.values_sound.filled q (subst (IsIn q) (sym order)
        (IsIn-left q w.taken (p ∷ rest) before))) in
        all_put-later laws replaces old.lists pairs at.key value (ap has_items own_values
        ∙ some_items item.value _ (IsIn-filter_map (item_at values.list) q item.value _ own item.is))
        ∙ ap (λ b. put eq b (all_put eq replaces old.lists pairs) at.key value) (sym (done_pair.later later))
  ]

  lists_after : new.lists ≡ all_put eq replaces old.lists (filter_map (pair_at keys values.list) (w.taken ++ p ∷ []))
  lists_after =
      pair.pair.lists
      ∙ ap (λ m. put eq done_pair.replaced m at.key value) w.lists
      ∙ sym with_one
      ∙ ap (λ v. all_put eq replaces old.lists (pairs ++ (at.key, v) ∷ [])) value_is
      ∙ ap (λ o. all_put eq replaces old.lists (pairs ++ cons_option o [])) (sym at.pair_is)
      ∙ ap (all_put eq replaces old.lists) (sym (filter_map-append (pair_at keys values.list) w.taken (p ∷ [])))

  pub moving-step : IsMoving eq replaces old new keys keys_new values after
  moving-step =
      let rooms = pair.pair.rooms in
      record {
        taken = w.taken ++ p ∷ [];
        order = order ∙ sym (append_assoc w.taken (p ∷ []) rest) ∙ ap (λ ps. (w.taken ++ p ∷ []) ++ ps) (sym order_after);
        lists = lists_after;
        rooms = record {
          keys = rooms.keys ∙ w.rooms.keys;
          values = rooms.values ∙ w.rooms.values;
          slots = rooms.slots ∙ w.rooms.slots;
          hasher = rooms.hasher ∙ w.rooms.hasher;
        };
        gone = w.gone + count_for eq done_pair.replaced now.lists at.key;
        counted = omega (
          arith,
          ap (λ m. length m.pairs) pair.pair.lists,
          length-put eq done_pair.replaced now.lists at.key value,
          w.counted,
          length-append w.taken (p ∷ []),
        );
        tape = record {
          freed = omega (arith, pair.pair.taken.freed, w.tape.freed);
          paid = omega (arith, pair.pair.taken.paid, w.tape.paid);
        };
        key_room = omega (arith, done_pair.key_room, w.key_room, rooms.keys);
        value_room = omega (
          arith,
          ap (λ m. length m.pairs) pair.pair.lists,
          length-put eq done_pair.replaced now.lists at.key value,
          w.value_room,
          ap length order_after,
          ap length (front_pair.rest_is chains w p front),
          rooms.values,
        );
        items = λ q i.
            let behind = subst (IsIn q) order_after i in
            ap (λ (t : Taped V ValueLink). item_at t.list q) writes.rest
            ∙ removed.others.items q (links.behind_other chains w.taken p rest order q behind)
            ∙ w.items q (front_pair.was_listed chains w p front q behind);
        links = λ q l i is. links_after q l (subst (IsIn q) order_after i) is;
        keys_left = keys_after;
        keys_capacity = done_pair.capacity ∙ w.keys_capacity;
        capacity = ap (λ (t : Taped V ValueLink). t.list.capacity) writes.rest ∙ removed.capacity ∙ w.capacity;
        moved = ap (λ (t : Taped V ValueLink). t.moved) writes.rest ∙ frees.moved ∙ w.moved;
        freed = omega (
          arith,
          ap (λ (t : Taped V ValueLink). t.freed) writes.rest,
          frees.freed,
          w.freed,
          ap length order_after,
          ap length (front_pair.rest_is chains w p front),
        );
      }
