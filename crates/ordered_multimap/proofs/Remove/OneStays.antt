-- Where one value of a key stays alone, key list, table and values agree, and the lists are without the key's other pairs.
use Rattle.std.proofs.Common.{◌≡◌, ◌≢◌, ◌==◌, ◌≤◌, ℕ, Bool, true, false, not, cond, List, [], ◌∷◌, ◌++◌, length, filter, Some, None, IsSome}
use Rattle.std.proofs.Common.{refl, sym, ap, ◌∙◌, subst, inl, inr, true≢false}
use Rattle.std.proofs.lemmas.Bool.{cases_eq, eq-eqb}
use Rattle.std.proofs.lemmas.List.Elements.{filter-append, filter_map-append}
use Rattle.std.specs.Cmp.{IsEquivalence}
use Rattle.std.specs.List.{filter_map, cons_option}
use Rattle.std.specs.Ordering.{nat_cmp}
use Rattle.std.specs.FinMap.{FinMap}
use Rattle.multimap_slots.specs.Lists.{IsIn, AreDistinct, first_of, last_of, next_of, previous_of}
use Rattle.multimap_slots.specs.Slots.{Slots, IsSound, item_at, link_at, with_link}
use Rattle.multimap_slots.proofs.Callers.PlaceLists.{AreDistinct-gone, IsIn-besides, IsIn-kept, IsIn-left, IsIn-right, IsIn-was}
use Rattle.multimap_walks.specs.declared.links.KeyLink.{KeyLink}
use Rattle.multimap_walks.specs.declared.links.ValueLink.{ValueLink}
use Rattle.multimap_walks.specs.Chained.{IsChained, is_value_of, chain_of, pair_at, pairs_of}
use Rattle.ordered_multimap.specs.Pairs.{pairs_without}
use Rattle.ordered_multimap.specs.Agrees.{Agrees, HasKey, items_of}
use Rattle.ordered_multimap.specs.Private.Remove.{TakesValues, among}
use Rattle.ordered_multimap.proofs.Callers.Members.{IsIn-filter, filter-none}
use Rattle.ordered_multimap.proofs.Agreement.Kept.{filter-among, filter_map-filter}
use Rattle.ordered_multimap.proofs.Callers.Places.{held, filter-agree, filter_map-agree}
use Rattle.ordered_multimap.proofs.Agreement.Agreed.{PairAt, value_owner, pair_in, is_value_of-is}
use Rattle.ordered_multimap.proofs.Agreement.LookUps.{owns}
use Rattle.ordered_multimap.proofs.Remove.OneLink.{Relinks, StaysLinked, same_owner, same_pair, agrees-relinked, chained-relinked}
use Rattle.ordered_multimap.proofs.Remove.OneLink.{stays_linked}
use Rattle.ordered_multimap.proofs.Remove.WholeKeys.{not_true, still_listed, values_sound-taken}
use Rattle.ordered_multimap.proofs.Remove.ValueByValue.{among-none, among_in, distinct}

-- of the values of the key at the place one alone stays, whose link and that of the key name no other
pub record StaysAlone {K V : Type 0} (keys keys_after : Slots K KeyLink) (values values_after : Slots V ValueLink)
    (place stay : ℕ) : Type 0 where
  pub link : KeyLink
  pub link_is : link_at keys place ≡ Some link
  pub before : List ℕ
  pub behind : List ℕ
  pub parts : chain_of values place ≡ before ++ stay ∷ behind
  pub left : Slots V ValueLink
  pub taken : TakesValues (among (before ++ behind)) values left
  pub rest : values_after ≡ record left { links = values_after.links }
  pub alone : (l : ValueLink) → link_at left stay ≡ Some l → link_at values_after stay ≡ Some (record l { previous = None; next = None })
  pub links : (q : ℕ) → q ≢ stay → link_at values_after q ≡ link_at left q
  pub keys_are : keys_after ≡ with_link keys place (record { hash = link.hash; head = stay; tail = stay; length = 1 })

module _ {K V : Type 0} {eq : K → K → Bool} (laws : IsEquivalence eq) {hash : K → ℕ} {keys keys_after : Slots K KeyLink}
    {rows : FinMap nat_cmp ℕ} {values values_after : Slots V ValueLink}
    (agrees : Agrees eq hash keys rows values) (k : K) (place stay : ℕ) (has : HasKey eq keys k place)
    (alone : StaysAlone keys keys_after values values_after place stay) where
  abbrev own : ℕ → Bool
  own = is_value_of values place

  abbrev gone : List ℕ
  gone = alone.before ++ alone.behind

  chain_distinct : AreDistinct (alone.before ++ stay ∷ alone.behind)
  chain_distinct = subst AreDistinct alone.parts (distinct agrees.values_sound agrees.chained place)

  pub stay_own : (IsIn stay values.order) × (own stay ≡ true)
  stay_own = IsIn-kept own stay values.order
      (subst (IsIn stay) (sym alone.parts) (IsIn-right stay alone.before (stay ∷ alone.behind) (inl refl)))

  stay_left : among gone stay ≡ false
  stay_left = among-none gone stay (AreDistinct-gone alone.before stay alone.behind chain_distinct)

  gone_own : (q : ℕ) → IsIn q gone → own q ≡ true
  gone_own q i =
      (IsIn-kept own q values.order (subst (IsIn q) (sym alone.parts) (IsIn-was q alone.before stay alone.behind i))).1

  -- what has left are the other values of the key
  others_gone : (q : ℕ) → IsIn q values.order → q ≢ stay → among gone q ≡ own q
  others_gone q i differs = cases (own q) refl
    where
      cases : (b : Bool) → own q ≡ b → among gone q ≡ b
      cases true e = among_in gone q
          (IsIn-besides q alone.before stay alone.behind differs (subst (IsIn q) alone.parts (IsIn-filter own q values.order e i)))
      cases false e = among-none gone q (λ j. true≢false (sym (gone_own q j) ∙ e))

  -- a place that stays; its link is another one only where it is that of the key
  record StaysAt (q : ℕ) : Type 0 where
    kept : StaysLinked values values_after q
    stays : among gone q ≡ false
    other : q ≢ stay → kept.now ≡ kept.old
    here : q ≡ stay → (kept.now.previous ≡ None) × (kept.now.next ≡ None)

  stays_at : (q : ℕ) → IsIn q values_after.order → StaysAt q
  stays_at q i =
      let left = still_listed alone.taken q (subst (λ (s : Slots V ValueLink). IsIn q s.order) alone.rest i) in
      let l = held (link_at values q) (agrees.values_sound.linked q left.0) in
      let left_is : link_at alone.left q ≡ Some l.value = alone.taken.links q left.1 ∙ l.is in
      let item = ap (λ (s : Slots V ValueLink). item_at s q) alone.rest ∙ alone.taken.items q left.1 in
      let kept = stays_linked q left.0 l.value l.is item in
      elim (cases_eq q stay) [
        | inl same ↦
            let now = alone.alone l.value (ap (link_at alone.left) (sym same) ∙ left_is) in
            record {
              kept = kept (record l.value { previous = None; next = None }) (ap (link_at values_after) same ∙ now) refl;
              stays = left.1;
              other = λ differs. absurd (differs same);
              here = λ _. (refl, refl);
            }
        | inr differs ↦ record {
          kept = kept l.value (alone.links q differs ∙ left_is) refl;
          stays = left.1;
          other = λ _. refl;
          here = λ same. absurd (differs same);
        }
      ]

  abbrev kept_at : (q : ℕ) → IsIn q values_after.order → StaysLinked values values_after q
  kept_at q i = (stays_at q i).kept

  link_now : KeyLink
  link_now = record { hash = alone.link.hash; head = stay; tail = stay; length = 1 }

  relinks : Relinks keys keys_after place alone.link link_now
  unfolding link_now
  relinks = record { listed = has.listed; was_is = alone.link_is; same_hash = refl; keys_are = alone.keys_are }

  owner_stays : (key q : ℕ) → IsIn q values_after.order → is_value_of values_after key q ≡ is_value_of values key q
  owner_stays = same_owner relinks agrees kept_at

  chain_there : (key : ℕ) → key ≢ place → chain_of values_after key ≡ chain_of values key
  chain_there key differs =
      filter-agree (is_value_of values_after key) (is_value_of values key) values_after.order (owner_stays key)
      ∙ ap (filter (is_value_of values key)) (ap (λ (s : Slots V ValueLink). s.order) alone.rest ∙ alone.taken.order)
      ∙ filter-among (is_value_of values key) (λ q. not (among gone q)) values.order (λ q listed e.
      ap not (among-none gone q (λ j.
      let l = held (link_at values q) (agrees.values_sound.linked q listed) in
      differs (sym (value_owner keys values key q l.value l.is e) ∙ value_owner keys values place q l.value l.is (gone_own q j)))))

  -- a value that stays is this one, or one of another key
  other_key : (q : ℕ) (s : StaysAt q) → q ≢ stay → s.kept.old.key ≢ place
  other_key q s differs same =
      let mine : own q ≡ true = is_value_of-is keys values place q s.kept.old s.kept.old_is ∙ eq-eqb s.kept.old.key place same in
      true≢false (sym (others_gone q s.kept.listed differs ∙ mine) ∙ s.stays)

  stay_key : (q : ℕ) → q ≡ stay → (s : StaysAt q) → s.kept.old.key ≡ place
  stay_key q same s = value_owner keys values place q s.kept.old s.kept.old_is (ap own same ∙ stay_own.1)

  values_sound-alone : IsSound values_after
  values_sound-alone =
      let left : IsSound alone.left = values_sound-taken alone.taken agrees.values_sound in
      record {
        distinct = subst (λ (s : Slots V ValueLink). AreDistinct s.order) (sym alone.rest) left.distinct;
        filled = λ q i. let s = kept_at q i in subst IsSome (sym s.item) (agrees.values_sound.filled q s.listed);
        linked = λ q i. let s = kept_at q i in subst IsSome (sym s.now_is) refl;
        fits = subst (λ (s : Slots V ValueLink). length s.order ≤ s.capacity) (sym alone.rest) left.fits;
      }

  -- by the values before it and behind it
  module _ (front back : List ℕ) (order_is : values.order ≡ front ++ stay ∷ back) where
    abbrev others : ℕ → Bool
    others q = not (own q)

    order_distinct : AreDistinct (front ++ stay ∷ back)
    order_distinct = subst AreDistinct order_is agrees.values_sound.distinct

    -- those before and behind differ from it
    around : (q : ℕ) → IsIn q (front ++ back) → not (among gone q) ≡ others q
    around q i = ap not (others_gone q (subst (IsIn q) (sym order_is) (IsIn-was q front stay back i))
        (λ same. AreDistinct-gone front stay back order_distinct (subst (λ x. IsIn x (front ++ back)) same i)))

    order_after : values_after.order ≡ filter others front ++ stay ∷ filter others back
    order_after =
        let stays = λ (q : ℕ). not (among gone q) in
        ap (λ (s : Slots V ValueLink). s.order) alone.rest ∙ alone.taken.order ∙ ap (filter stays) order_is
        ∙ filter-append stays front (stay ∷ back)
        ∙ (λ i. filter stays front ++ cond (not (stay_left i)) (stay ∷ filter stays back) (filter stays back))
        ∙ (λ i. filter-agree stays others front (λ q j. around q (IsIn-left q front back j)) i
        ++ stay ∷ filter-agree stays others back (λ q j. around q (IsIn-right q front back j)) i)

    none_own : (qs : List ℕ) → filter own (filter others qs) ≡ []
    none_own qs = filter-none own (filter others qs) (λ q i. not_true (own q) (IsIn-kept others q qs i).1)

    chain_here : chain_of values_after place ≡ stay ∷ []
    chain_here =
        filter-agree (is_value_of values_after place) own values_after.order (owner_stays place)
        ∙ ap (filter own) order_after ∙ filter-append own (filter others front) (stay ∷ filter others back)
        ∙ (λ i. none_own front i ++ cond (stay_own.1 i) (stay ∷ filter own (filter others back)) (filter own (filter others back)))
        ∙ ap (λ qs. stay ∷ qs) (none_own back)

    chained-alone : IsChained keys_after values_after
    unfolding link_now
    chained-alone = chained-relinked relinks agrees kept_at chain_there (ap first_of chain_here) (ap last_of chain_here)
        (ap length chain_here) before behind
      where
        only : (q : ℕ) → q ≡ stay → (s : StaysAt q) → chain_of values_after s.kept.now.key ≡ stay ∷ []
        only q same s = ap (chain_of values_after) (s.kept.same_key ∙ stay_key q same s) ∙ chain_here

        single : (p q : ℕ) → next_of (p ∷ []) q ≡ None
        single p q = elim (p == q) as (λ b. cond b (first_of {X = ℕ} []) None ≡ None) [ true ↦ refl | false ↦ refl ]

        before : (q : ℕ) (i : IsIn q values_after.order)
            → previous_of (chain_of values_after (kept_at q i).now.key) q ≡ (kept_at q i).now.previous
        before q i =
            let s = stays_at q i in
            elim (cases_eq q stay) [
              | inl same ↦ ap (λ ps. previous_of ps q) (only q same s) ∙ single stay q ∙ sym (s.here same).0
              | inr differs ↦
                  let was = agrees.chained.previous q s.kept.old s.kept.listed s.kept.old_is in
                  subst (λ (m : ValueLink). previous_of (chain_of values_after m.key) q ≡ m.previous) (sym (s.other differs))
                  (ap (λ ps. previous_of ps q) (chain_there s.kept.old.key (other_key q s differs)) ∙ was)
            ]

        behind : (q : ℕ) (i : IsIn q values_after.order)
            → next_of (chain_of values_after (kept_at q i).now.key) q ≡ (kept_at q i).now.next
        behind q i =
            let s = stays_at q i in
            elim (cases_eq q stay) [
              | inl same ↦ ap (λ ps. next_of ps q) (only q same s) ∙ single stay q ∙ sym (s.here same).1
              | inr differs ↦
                  let was = agrees.chained.next q s.kept.old s.kept.listed s.kept.old_is in
                  subst (λ (m : ValueLink). next_of (chain_of values_after m.key) q ≡ m.next) (sym (s.other differs))
                  (ap (λ ps. next_of ps q) (chain_there s.kept.old.key (other_key q s differs)) ∙ was)
            ]

    pub agrees-alone : Agrees eq hash keys_after rows values_after
    agrees-alone = agrees-relinked relinks agrees values_sound-alone chained-alone

    -- the pairs before it, its own, and those behind it
    pub pair : PairAt keys values stay
    pair = pair_in agrees stay stay_own.0

    pub pairs_were : pairs_of keys values
        ≡ filter_map (pair_at keys values) front ++ (pair.key, pair.value) ∷ filter_map (pair_at keys values) back
    pairs_were =
        ap (filter_map (pair_at keys values)) order_is ∙ filter_map-append (pair_at keys values) front (stay ∷ back)
        ∙ ap (λ o. filter_map (pair_at keys values) front ++ cons_option o (filter_map (pair_at keys values) back)) pair.pair_is

    without : (qs : List ℕ) → ((q : ℕ) → IsIn q qs → IsIn q values.order)
        → filter_map (pair_at keys values) (filter others qs) ≡ pairs_without eq (filter_map (pair_at keys values) qs) k
    without qs listed = filter_map-filter (pair_at keys values) others (λ e. not (eq k e.0)) qs (λ q i e at.
        let here = pair_in agrees q (listed q i) in
        let one : Some (here.key, here.value) ≡ Some e = sym here.pair_is ∙ at in
        let is_pair : (here.key, here.value) ≡ e = cc in
        ap not (owns laws agrees k place has q here ∙ ap (λ (x : K × V). eq k x.0) is_pair))

    pub pairs_of-alone : pairs_of keys_after values_after
        ≡ pairs_without eq (filter_map (pair_at keys values) front) k
        ++ (pair.key, pair.value) ∷ pairs_without eq (filter_map (pair_at keys values) back) k
    pairs_of-alone =
        filter_map-agree (pair_at keys_after values_after) (pair_at keys values) values_after.order (same_pair relinks agrees kept_at)
        ∙ ap (filter_map (pair_at keys values)) order_after
        ∙ filter_map-append (pair_at keys values) (filter others front) (stay ∷ filter others back)
        ∙ ap (λ o. filter_map (pair_at keys values) (filter others front)
        ++ cons_option o (filter_map (pair_at keys values) (filter others back)))
        pair.pair_is
        ∙ (λ i. without front (λ q j. subst (IsIn q) (sym order_is) (IsIn-left q front (stay ∷ back) j)) i
        ++ (pair.key, pair.value) ∷ without back (λ q j. subst (IsIn q) (sym order_is) (IsIn-right q front (stay ∷ back) (inr j))) i)

  pub items_of-alone : items_of keys_after ≡ items_of keys
  items_of-alone = ap items_of alone.keys_are
