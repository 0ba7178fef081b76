-- One value that goes down to a hole, with the links that name it, is a renaming of one place.
use Rattle.std.proofs.Common.{◌≡◌, ◌≢◌, ◌⊎◌, ℕ, List, [], ◌∷◌, ◌++◌, map, Option, Some, None, option_map, refl, sym, ap, ◌∙◌, subst, inl}
use Rattle.std.proofs.Common.{inr, true≢false, length, ◌≤◌}
use Rattle.std.proofs.lemmas.Bool.{cases_eq, eq-eqb, ne_eqb}
use Rattle.std.proofs.lemmas.List.{map-append}
use Rattle.multimap_slots.specs.Lists.{IsIn, AreDistinct, next_of, previous_of, IsRelocated}
use Rattle.multimap_slots.specs.Slots.{Slots, IsSound, item_at, link_at}
use Rattle.multimap_slots.proofs.Callers.PlaceLists.{AreDistinct-gone, IsIn-kept, IsIn-left, IsIn-right}
use Rattle.multimap_walks.specs.declared.links.KeyLink.{KeyLink}
use Rattle.multimap_walks.specs.declared.links.ValueLink.{ValueLink}
use Rattle.multimap_walks.specs.Chained.{IsChained, is_value_of, chain_of}
use Rattle.ordered_multimap.specs.Private.Relocations.{Relocates, relocated, relocated_value, relocated_key}
use Rattle.ordered_multimap.proofs.Callers.Places.{begins, AreDistinct-filter, last_of-member}
use Rattle.ordered_multimap.proofs.Agreement.Agreed.{is_value_of-is}
use Rattle.ordered_multimap.proofs.Chains.LongerLists.{cases_some}
use Rattle.ordered_multimap.proofs.Chains.Named.{by_next, by_previous}
use Rattle.ordered_multimap.proofs.Chains.Neighbours.{next_is, no_cycle}

-- the value at a place has gone to another, and the links that named its place name the new one
pub record MovesValue {K V : Type 0} (keys keys_after : Slots K KeyLink)
    (values values_after : Slots V ValueLink) (from to : ℕ) (l : ValueLink) : Type 0 where
  pub was_absent : ¬ IsIn to values.order
  pub was_listed : IsIn from values.order
  pub had : link_at values from ≡ Some l
  pub order : IsRelocated values.order values_after.order from to
  pub room : length values.order ≤ values_after.capacity
  pub item_is : item_at values_after to ≡ item_at values from
  pub items : (q : ℕ) → q ≢ from → q ≢ to → item_at values_after q ≡ item_at values q
  pub link_is : link_at values_after to ≡ Some l
  pub before : (q : ℕ) (m : ValueLink) → l.previous ≡ Some q → link_at values q ≡ Some m
      → link_at values_after q ≡ Some (record m { next = Some to })
  pub behind : (q : ℕ) (m : ValueLink) → l.next ≡ Some q → link_at values q ≡ Some m
      → link_at values_after q ≡ Some (record m { previous = Some to })
  pub others : (q : ℕ) → q ≢ from → q ≢ to → l.previous ≢ Some q → l.next ≢ Some q
      → link_at values_after q ≡ link_at values q
  pub key_order : keys_after.order ≡ keys.order
  pub key_items : (q : ℕ) → item_at keys_after q ≡ item_at keys q
  pub key_link : (k : KeyLink) → link_at keys l.key ≡ Some k
      → link_at keys_after l.key ≡ Some (relocated_key (relocated from to) k)
  pub key_others : (q : ℕ) → q ≢ l.key → link_at keys_after q ≡ link_at keys q
  pub key_room : length keys.order ≤ keys_after.capacity

module _ (from to : ℕ) where
  pub relocated-from : (q : ℕ) → q ≡ from → relocated from to q ≡ to
  relocated-from q same = rw (eq-eqb q from same) refl

  pub relocated-other : (q : ℕ) → q ≢ from → relocated from to q ≡ q
  relocated-other q differs = rw (ne_eqb q from differs) refl

  relocated-option : (o : Option ℕ) → o ≢ Some from → option_map (relocated from to) o ≡ o
  relocated-option None differs = refl
  relocated-option (Some q) differs = ap Some (relocated-other q (λ e. differs (ap Some e)))

  relocated-option_from : (o : Option ℕ) → o ≡ Some from → option_map (relocated from to) o ≡ Some to
  relocated-option_from o e = ap (option_map (relocated from to)) e ∙ ap Some (relocated-from from refl)

  pub relocated-none : (ps : List ℕ) → (IsIn from ps → ⊥) → map (relocated from to) ps ≡ ps
  relocated-none [] absent = refl
  relocated-none (p ∷ ps) absent = λ i. relocated-other p (λ e. absent (inl (sym e))) i ∷ relocated-none ps (λ j. absent (inr j)) i

-- an order of distinct places in which one has become another
pub order-relocated : {old new : List ℕ} {from to : ℕ} → AreDistinct old → IsRelocated old new from to → new ≡ map (relocated from to) old
order-relocated {old} {new} {from} {to} distinct r =
    let gone = AreDistinct-gone r.front from r.back (subst AreDistinct r.was distinct) in
    r.is ∙ sym (ap (map (relocated from to)) r.was ∙ map-append (relocated from to) r.front (from ∷ r.back)
    ∙ (λ i. relocated-none from to r.front (λ j. gone (IsIn-left from r.front r.back j)) i
    ++ relocated-from from to from refl i ∷ relocated-none from to r.back (λ j. gone (IsIn-right from r.front r.back j)) i))

module _ {K V : Type 0} {keys keys_after : Slots K KeyLink} {values values_after : Slots V ValueLink} {from to : ℕ} {l : ValueLink}
    (keys_sound : IsSound keys) (values_sound : IsSound values) (chained : IsChained keys values)
    (m : MovesValue keys keys_after values values_after from to l) where
  chain_distinct : (key : ℕ) → AreDistinct (chain_of values key)
  chain_distinct key = AreDistinct-filter (is_value_of values key) values.order values_sound.distinct

  -- a place in a chain belongs to its key
  owner : (key q : ℕ) (n : ValueLink) → link_at values q ≡ Some n → IsIn q (chain_of values key) → n.key ≡ key
  owner key q n is i =
      let passes = (IsIn-kept (is_value_of values key) q values.order i).1 in
      elim (cases_eq n.key key) [
        | inl same ↦ same
        | inr differs ↦ absurd (true≢false (sym passes ∙ is_value_of-is keys values key q n is ∙ ne_eqb n.key key differs))
      ]

  to_other : (q : ℕ) → IsIn q values.order → q ≢ to
  to_other q listed e = m.was_absent (subst (λ p. IsIn p values.order) e listed)

  -- the neighbours of the place
  previous_was : previous_of (chain_of values l.key) from ≡ l.previous
  previous_was = chained.previous from l m.was_listed m.had

  next_was : next_of (chain_of values l.key) from ≡ l.next
  next_was = chained.next from l m.was_listed m.had

  -- whose link names the place as the next one stands before it, and so behind
  names_next : (q : ℕ) (n : ValueLink) → IsIn q values.order → link_at values q ≡ Some n → n.next ≡ Some from → l.previous ≡ Some q
  names_next q n listed is e = (by_next values_sound chained q from n l listed is e m.had).0

  names_previous : (q : ℕ) (n : ValueLink) → IsIn q values.order → link_at values q ≡ Some n → n.previous ≡ Some from → l.next ≡ Some q
  names_previous q n listed is e = (by_previous values_sound chained q from n l listed is e m.had).0

  -- and the neighbours' links do name it
  before_names : (q : ℕ) (n : ValueLink) → link_at values q ≡ Some n → l.previous ≡ Some q → n.next ≡ Some from
  before_names q n is e = (by_previous values_sound chained from q l n m.was_listed m.had e is).0

  behind_names : (q : ℕ) (n : ValueLink) → link_at values q ≡ Some n → l.next ≡ Some q → n.previous ≡ Some from
  behind_names q n is e = (by_next values_sound chained from q l n m.was_listed m.had e is).0

  -- no place is behind itself, and no two are behind each other
  not_both : (q : ℕ) → l.previous ≡ Some q → l.next ≢ Some q
  not_both q back forth =
      no_cycle (chain_of values l.key) (chain_distinct l.key) q from
      (next_is (chain_of values l.key) (chain_distinct l.key) q from (previous_was ∙ back)) (next_was ∙ forth)

  not_next : l.next ≢ Some from
  not_next e = let follows = next_was ∙ e in no_cycle (chain_of values l.key) (chain_distinct l.key) from from follows follows

  not_previous : l.previous ≢ Some from
  not_previous e = let follows = next_is (chain_of values l.key) (chain_distinct l.key) from from (previous_was ∙ e) in
      no_cycle (chain_of values l.key) (chain_distinct l.key) from from follows follows

  link_relocated : (q : ℕ) (n : ValueLink) → IsIn q values.order → link_at values q ≡ Some n
      → link_at values_after (relocated from to q) ≡ Some (relocated_value (relocated from to) n)
  link_relocated q n listed is = elim (cases_eq q from) [
    | inl same ↦
        let both : Some n ≡ Some l = sym is ∙ ap (link_at values) same ∙ m.had in
        let own : n ≡ l = cc in
        ap (link_at values_after) (relocated-from from to q same) ∙ m.link_is
        ∙ sym (ap (λ o. Some (record l { previous = o; next = option_map (relocated from to) l.next }))
        (relocated-option from to l.previous not_previous)
        ∙ ap (λ o. Some (record l { next = o })) (relocated-option from to l.next not_next))
        ∙ ap (λ x. Some (relocated_value (relocated from to) x)) (sym own)
    | inr differs ↦ ap (link_at values_after) (relocated-other from to q differs)
        ∙ elsewhere q n listed is differs (cases_some l.previous q) (cases_some l.next q)
  ]
    where
      elsewhere : (q : ℕ) (n : ValueLink) → IsIn q values.order → link_at values q ≡ Some n → q ≢ from
          → (l.previous ≡ Some q) ⊎ (l.previous ≢ Some q) → (l.next ≡ Some q) ⊎ (l.next ≢ Some q)
          → link_at values_after q ≡ Some (relocated_value (relocated from to) n)
      elsewhere q n listed is differs (inl back) (inl forth) = absurd (not_both q back forth)
      elsewhere q n listed is differs (inl back) (inr other) =
          m.before q n back is
          ∙ sym (ap (λ o. Some (record n { previous = o; next = option_map (relocated from to) n.next }))
          (relocated-option from to n.previous (λ e. other (names_previous q n listed is e)))
          ∙ ap (λ o. Some (record n { next = o })) (relocated-option_from from to n.next (before_names q n is back)))
      elsewhere q n listed is differs (inr other) (inl forth) =
          m.behind q n forth is
          ∙ sym (ap (λ o. Some (record n { previous = option_map (relocated from to) n.previous; next = o }))
          (relocated-option from to n.next (λ e. other (names_next q n listed is e)))
          ∙ ap (λ o. Some (record n { previous = o })) (relocated-option_from from to n.previous (behind_names q n is forth)))
      elsewhere q n listed is differs (inr no_back) (inr no_forth) =
          m.others q differs (to_other q listed) no_back no_forth ∙ is
          ∙ sym (ap (λ o. Some (record n { previous = o; next = option_map (relocated from to) n.next }))
          (relocated-option from to n.previous (λ e. no_forth (names_previous q n listed is e)))
          ∙ ap (λ o. Some (record n { next = o })) (relocated-option from to n.next (λ e. no_back (names_next q n listed is e))))

  key_relocated : (q : ℕ) (k : KeyLink) → IsIn q keys.order → link_at keys q ≡ Some k
      → link_at keys_after q ≡ Some (relocated_key (relocated from to) k)
  key_relocated q k listed is = elim (cases_eq q l.key) [
    | inl same ↦ ap (link_at keys_after) same ∙ m.key_link k (ap (link_at keys) (sym same) ∙ is)
    | inr differs ↦
        let b = begins (chain_of values q) k.head (chained.head q k listed is) in
        let head_in : IsIn k.head (chain_of values q) = subst (IsIn k.head) (sym b.is) (inl refl) in
        let tail_in = last_of-member (chain_of values q) k.tail (chained.tail q k listed is) in
        let away : (p : ℕ) → IsIn p (chain_of values q)
        → p ≢ from = λ p i e. differs (sym (owner q from l m.had (subst (λ x. IsIn x (chain_of values q)) e i))) in
        m.key_others q differs ∙ is
        ∙ sym (ap (λ h. Some (record k { head = h; tail = relocated from to k.tail })) (relocated-other from to k.head (away k.head head_in))
        ∙ ap (λ t. Some (record k { tail = t })) (relocated-other from to k.tail (away k.tail tail_in)))
  ]

  pub relocates-moved : Relocates (relocated from to) keys keys_after values values_after
  relocates-moved = record {
    apart = λ p q p_listed q_listed e. elim (cases_eq p from) [
      | inl p_same ↦ elim (cases_eq q from) [
        | inl q_same ↦ p_same ∙ sym q_same
        | inr q_other ↦ absurd (to_other q q_listed (sym (relocated-other from to q q_other) ∙ sym e ∙ relocated-from from to p p_same))
      ]
      | inr p_other ↦ elim (cases_eq q from) [
        | inl q_same ↦ absurd (to_other p p_listed (sym (relocated-other from to p p_other) ∙ e ∙ relocated-from from to q q_same))
        | inr q_other ↦ sym (relocated-other from to p p_other) ∙ e ∙ relocated-other from to q q_other
      ]
    ];
    key_order = m.key_order;
    key_items = m.key_items;
    key_links = key_relocated;
    key_room = m.key_room;
    order = order-relocated values_sound.distinct m.order;
    items = λ q listed. elim (cases_eq q from) [
      | inl same ↦ ap (item_at values_after) (relocated-from from to q same) ∙ m.item_is ∙ ap (item_at values) (sym same)
      | inr differs ↦ ap (item_at values_after) (relocated-other from to q differs) ∙ m.items q differs (to_other q listed)
    ];
    links = link_relocated;
    room = m.room;
  }
