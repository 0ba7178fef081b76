-- An append keeps the links chained, and adds one pair.
use Rattle.std.proofs.Common.{◌≡◌, ◌≢◌, ◌==◌, ℕ, ◌+◌, true, cond, List, [], ◌∷◌, ◌++◌, length, filter, Some, None, refl, sym, ap, ◌∙◌}
use Rattle.std.proofs.Common.{subst, inl, inr, true≢false, length-append}
use Rattle.std.proofs.lemmas.Bool.{cases_eq, eq-eqb, ne_eqb}
use Rattle.std.proofs.lemmas.List.{append-nil}
use Rattle.std.proofs.lemmas.List.Elements.{filter-append, filter_map-append}
use Rattle.std.specs.List.{filter_map, cons_option}
use Rattle.multimap_slots.specs.Lists.{IsIn, first_of, last_of, next_of, previous_of}
use Rattle.multimap_slots.specs.Slots.{Slots, IsSound, item_at, link_at}
use Rattle.multimap_slots.proofs.Callers.PlaceLists.{IsIn-append, IsIn-kept}
use Rattle.multimap_walks.specs.declared.links.KeyLink.{KeyLink}
use Rattle.multimap_walks.specs.declared.links.ValueLink.{ValueLink}
use Rattle.multimap_walks.specs.Chained.{IsChained, is_value_of, chain_of, pair_at, pairs_of}
use Rattle.ordered_multimap.specs.Private.Append.{PushesValue}
use Rattle.ordered_multimap.proofs.Append.Steps.{SetsKey}
use Rattle.ordered_multimap.proofs.Callers.Places.{held, AreDistinct-filter, filter-agree, filter_map-agree, last_of-member}
use Rattle.ordered_multimap.proofs.Agreement.Agreed.{pair_of, pair_at-is, is_value_of-is}
use Rattle.ordered_multimap.proofs.Chains.LongerLists.{cases_some, last_or-push, previous_of-pushed, next_of-pushed, previous_of-push}
use Rattle.ordered_multimap.proofs.Chains.LongerLists.{next_of-push_last, next_of-push}

-- what a key's link says of its chain, and a value's link of its neighbours there
record KeyFacts (chain : List ℕ) (l : KeyLink) : Type 0 where
  head : first_of chain ≡ Some l.head
  tail : last_of chain ≡ Some l.tail
  count : length chain ≡ l.length

record ValueFacts (chain : List ℕ) (place : ℕ) (l : ValueLink) : Type 0 where
  previous : previous_of chain place ≡ l.previous
  next : next_of chain place ≡ l.next

module _ {K V : Type 0} {keys keys_after : Slots K KeyLink} {values values_after : Slots V ValueLink} {place
    last : ℕ} {k : K} {v : V} {link : KeyLink}
    (keys_sound : IsSound keys) (values_sound : IsSound values) (chained : IsChained keys values)
    (sets : SetsKey keys keys_after place k link) (pushes : PushesValue values values_after last v place (last_of (chain_of values place)))
  where
    old_differs : (q : ℕ) → IsIn q values.order → q ≢ last
    old_differs q listed same = pushes.was_absent (subst (λ p. IsIn p values.order) same listed)

    -- an old value's link keeps its key and its previous place, and behind the tail alone the next place is another
    record Kept (q : ℕ) (l : ValueLink) : Type 0 where
      now : ValueLink
      is : link_at values_after q ≡ Some now
      key : now.key ≡ l.key
      previous : now.previous ≡ l.previous
      next_at_tail : last_of (chain_of values place) ≡ Some q → now.next ≡ Some last
      next_elsewhere : last_of (chain_of values place) ≢ Some q → now.next ≡ l.next

    kept : (q : ℕ) (l : ValueLink) → IsIn q values.order → link_at values q ≡ Some l → Kept q l
    kept q l listed is = elim (cases_some (last_of (chain_of values place)) q) [
      | inl tail ↦ record {
        now = record l { next = Some last };
        is = pushes.behind q l tail is;
        key = refl;
        previous = refl;
        next_at_tail = λ e. refl;
        next_elsewhere = λ other. absurd (other tail);
      }
      | inr other ↦ record {
        now = l;
        is = pushes.links q (old_differs q listed) other ∙ is;
        key = refl;
        previous = refl;
        next_at_tail = λ tail. absurd (other tail);
        next_elsewhere = λ e. refl;
      }
    ]

    same_owner : (key q : ℕ) → IsIn q values.order → is_value_of values_after key q ≡ is_value_of values key q
    same_owner key q listed =
        let l = held (link_at values q) (values_sound.linked q listed) in
        let n = kept q l.value listed l.is in
        is_value_of-is keys values_after key q n.now n.is ∙ ap (λ owner. owner == key) n.key
        ∙ sym (is_value_of-is keys values key q l.value l.is)

    chain_with : (key : ℕ) → chain_of values_after key ≡ chain_of values key ++ cond (place == key) (last ∷ []) []
    chain_with key =
        ap (filter (is_value_of values_after key)) pushes.order
        ∙ filter-append (is_value_of values_after key) values.order (last ∷ [])
        ∙ ap (λ qs. qs ++ filter (is_value_of values_after key) (last ∷ []))
        (filter-agree (is_value_of values_after key) (is_value_of values key) values.order (same_owner key))
        ∙ ap (λ b. chain_of values key ++ cond b (last ∷ []) []) (is_value_of-is keys values_after key last _ pushes.link_is)

    chain_longer : chain_of values_after place ≡ chain_of values place ++ last ∷ []
    chain_longer = chain_with place ∙ ap (λ b. chain_of values place ++ cond b (last ∷ []) []) (eq-eqb place place refl)

    chain_same : (key : ℕ) → key ≢ place → chain_of values_after key ≡ chain_of values key
    chain_same key differs =
        chain_with key ∙ ap (λ b. chain_of values key ++ cond b (last ∷ []) []) (ne_eqb place key (λ e. differs (sym e)))
        ∙ append-nil (chain_of values key)

    in_chain : (key q : ℕ) → IsIn q (chain_of values key) → IsIn q values.order × (is_value_of values key q ≡ true)
    in_chain key q = IsIn-kept (is_value_of values key) q values.order

    key_facts : first_of (chain_of values place ++ last ∷ []) ≡ Some link.head → link.tail ≡ last
        → link.length ≡ length (chain_of values place) + 1
        → (r : ℕ) (l : KeyLink) → IsIn r keys_after.order → link_at keys_after r ≡ Some l → KeyFacts (chain_of values_after r) l
    key_facts head tail count r l listed is = elim (cases_eq r place) [
      | inl same ↦
          let both : Some link ≡ Some l = sym sets.link_is ∙ ap (link_at keys_after) (sym same) ∙ is in
          let own : link ≡ l = cc in
          subst (KeyFacts (chain_of values_after r)) own
          (subst (λ ps. KeyFacts ps link) (sym (ap (chain_of values_after) same ∙ chain_longer)) (record {
            head = head;
            tail = last_or-push None (chain_of values place) last ∙ ap Some (sym tail);
            count = length-append (chain_of values place) (last ∷ []) ∙ sym count;
          }))
      | inr differs ↦
          let was_listed = sets.came r differs listed in
          let was = sym (sets.links r differs) ∙ is in
          subst (λ ps. KeyFacts ps l) (sym (chain_same r differs)) (record {
            head = chained.head r l was_listed was;
            tail = chained.tail r l was_listed was;
            count = chained.length r l was_listed was;
          })
    ]

    old_value_facts : (q : ℕ) (l : ValueLink) → IsIn q values.order → link_at values q ≡ Some l → (n : Kept q l)
        → ValueFacts (chain_of values_after n.now.key) q n.now
    old_value_facts q l listed is n = subst (λ key. ValueFacts (chain_of values_after key) q n.now) (sym n.key)
        (elim (cases_eq l.key place) [
          | inl same ↦
              let chain : List ℕ = chain_of values place in
              let here : chain_of values l.key ≡ chain = ap (chain_of values) same in
              subst (λ ps. ValueFacts ps q n.now) (sym (ap (chain_of values_after) same ∙ chain_longer)) (record {
                previous = previous_of-push chain last q (old_differs q listed) ∙ ap (λ ps. previous_of ps q) (sym here)
                    ∙ chained.previous q l listed is ∙ sym n.previous;
                next = elim (cases_some (last_of chain) q) [
                  | inl tail ↦ next_of-push_last chain last q
                      (AreDistinct-filter (is_value_of values place) values.order values_sound.distinct) tail ∙ sym (n.next_at_tail tail)
                  | inr other ↦ next_of-push chain last q (old_differs q listed) other ∙ ap (λ ps. next_of ps q) (sym here)
                      ∙ chained.next q l listed is ∙ sym (n.next_elsewhere other)
                ];
              })
          | inr differs ↦
              let other = λ (tail : last_of (chain_of values place) ≡ Some q). true≢false (
              sym (in_chain place q (last_of-member (chain_of values place) q tail)).1
              ∙ is_value_of-is keys values place q l is ∙ ne_eqb l.key place differs) in
              subst (λ ps. ValueFacts ps q n.now) (sym (chain_same l.key differs)) (record {
                previous = chained.previous q l listed is ∙ sym n.previous;
                next = chained.next q l listed is ∙ sym (n.next_elsewhere other);
              })
        ])

    abbrev fresh : ValueLink
    fresh = record { key = place; previous = last_of (chain_of values place); next = None }

    -- what holds of each old link as it is now, and of the new one, holds of each
    of_each : (P : ℕ → ValueLink → Type 0)
        → ((q : ℕ) (l : ValueLink) (old : IsIn q values.order) (is : link_at values q ≡ Some l) → P q (kept q l old is).now) → P last fresh
        → (q : ℕ) (l : ValueLink) → IsIn q values_after.order → link_at values_after q ≡ Some l → P q l
    of_each P of_old of_new q l listed is = elim (IsIn-append q values.order (last ∷ []) (subst (IsIn q) pushes.order listed)) [
      | inl old ↦
          let was = held (link_at values q) (values_sound.linked q old) in
          let n = kept q was.value old was.is in
          let both : Some n.now ≡ Some l = sym n.is ∙ is in
          let own : n.now ≡ l = cc in
          subst (P q) own (of_old q was.value old was.is)
      | inr new ↦ elim new [
        | inl same ↦
            let both : Some fresh ≡ Some l = sym pushes.link_is ∙ ap (link_at values_after) (sym same) ∙ is in
            let own : fresh ≡ l = cc in
            subst (P q) own (subst (λ p. P p fresh) (sym same) of_new)
        | inr none ↦ absurd none
      ]
    ]

    value_facts : (q : ℕ) (l : ValueLink) → IsIn q values_after.order → link_at values_after q ≡ Some l
        → ValueFacts (chain_of values_after l.key) q l
    value_facts = of_each (λ q l. ValueFacts (chain_of values_after l.key) q l)
        (λ q l old is. old_value_facts q l old is (kept q l old is))
        (subst (λ ps. ValueFacts ps last fresh) (sym chain_longer) (record {
          previous = previous_of-pushed (chain_of values place) last;
          next = next_of-pushed (chain_of values place) last (λ i. pushes.was_absent (in_chain place last i).0);
        }))

    owned : (q : ℕ) (l : ValueLink) → IsIn q values_after.order → link_at values_after q ≡ Some l → IsIn l.key keys_after.order
    owned = of_each (λ q l. IsIn l.key keys_after.order)
        (λ q l old is. subst (λ key. IsIn key keys_after.order) (sym (kept q l old is).key) (sets.kept l.key (chained.owned q l old is)))
        sets.listed

    pub chained-append : first_of (chain_of values place ++ last ∷ []) ≡ Some link.head → link.tail ≡ last
        → link.length ≡ length (chain_of values place) + 1 → IsChained keys_after values_after
    chained-append head tail count = record {
      owned = owned;
      head = λ r l listed is. (key_facts head tail count r l listed is).head;
      tail = λ r l listed is. (key_facts head tail count r l listed is).tail;
      length = λ r l listed is. (key_facts head tail count r l listed is).count;
      previous = λ q l listed is. (value_facts q l listed is).previous;
      next = λ q l listed is. (value_facts q l listed is).next;
    }

    -- the pairs of the old values stay, and the new one comes last
    same_pair : (q : ℕ) → IsIn q values.order → pair_at keys_after values_after q ≡ pair_at keys values q
    same_pair q listed =
        let p = pair_of keys values keys_sound values_sound chained q listed in
        let n = kept q p.link listed p.link_is in
        pair_at-is keys_after values_after q n.now p.key p.value n.is
        (ap (item_at keys_after) n.key ∙ sets.items p.link.key p.key_listed ∙ p.key_is)
        (pushes.items q (old_differs q listed) ∙ p.value_is)
        ∙ sym p.pair_is

    pub pairs_of-append : pairs_of keys_after values_after ≡ pairs_of keys values ++ (k, v) ∷ []
    pairs_of-append =
        ap (filter_map (pair_at keys_after values_after)) pushes.order
        ∙ filter_map-append (pair_at keys_after values_after) values.order (last ∷ [])
        ∙ ap (λ ps. ps ++ filter_map (pair_at keys_after values_after) (last ∷ []))
        (filter_map-agree (pair_at keys_after values_after) (pair_at keys values) values.order same_pair)
        ∙ ap (λ o. pairs_of keys values ++ cons_option o [])
        (pair_at-is keys_after values_after last _ k v pushes.link_is sets.item_is pushes.item_is)
