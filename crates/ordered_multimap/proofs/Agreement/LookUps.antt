-- Look-ups by key, and the ends of the pairs.
use Rattle.std.proofs.Common.{option_map, ◌≡◌, ◌≢◌, ◌⊎◌, ◌==◌, ℕ, suc, ◌+◌, Bool, true, false, cond, List, [], ◌∷◌}
use Rattle.std.proofs.Common.{length, filter, map, slice_get, Option, Some, None, Result, Ok, Err, IfOk, refl, sym, ap, ◌∙◌, subst, inl}
use Rattle.std.proofs.Common.{inr, true≢false, arith}
use Rattle.std.proofs.lemmas.Bool.{cases_eq, eq-eqb, ne_eqb}
use Rattle.std.specs.List.{filter_map, cons_option, enumerate_from, IsDistinct, AllByRecursion}
use Rattle.std.specs.Cmp.{IsEquivalence}
use Rattle.std.specs.Ordering.{nat_cmp}
use Rattle.std.specs.FinMap.{FinMap, get}
use Rattle.std.specs.Borrow.{Bor}
use Rattle.std.specs.Map.Iter.{TakesFirst, TakesLast, deref_pair}
use Rattle.multimap_slots.specs.Lists.{IsIn, AreDistinct}
use Rattle.multimap_slots.specs.Slots.{HasItem, Slots, item_at, link_at, IsSound}
use Rattle.multimap_slots.proofs.Callers.PlaceLists.{IsIn-kept}
use Rattle.multimap_walks.specs.declared.links.KeyLink.{KeyLink}
use Rattle.multimap_walks.specs.declared.links.ValueLink.{ValueLink}
use Rattle.multimap_walks.specs.Walk.{end_item}
use Rattle.multimap_walks.specs.declared.End.TheVariants.{Front, Back}
use Rattle.multimap_walks.specs.Chained.{position_in, is_value_of, chain_of, positions_at, values_at, pair_at, pairs_of}
use Rattle.ordered_multimap.specs.Pairs.{all_positions, values_of, values_where, positions_of, is_present}
use Rattle.ordered_multimap.specs.Keys.{is_listed, stored_key}
use Rattle.ordered_multimap.specs.Agrees.{Agrees, HasKey, items_of, lists_of}
use Rattle.ordered_multimap.specs.Multimap.{Multimap}
use Rattle.ordered_multimap.proofs.Callers.Places.{held, length-filter_map, IsIn-filter_map, begins}
use Rattle.ordered_multimap.proofs.Callers.Laws.{end_item-push}
use Rattle.ordered_multimap.proofs.Callers.ListedKeys.{is_listed-member, stored_key_only}
use Rattle.ordered_multimap.proofs.Callers.WellFormed.{is_present-keys}
use Rattle.ordered_multimap.proofs.Agreement.Agreed.{PairAt, pair_in, is_value_of-is, well_formed}

-- a place that is listed in a map is listed in the storage that the map shows
pub listed_inside : {K V S : Type 0} {shown m : Multimap K V S} (place : ℕ) → shown ≡ m → IsIn place m.slots.keys.order
    → IsIn place shown.slots.keys.order
listed_inside place view_is listed = subst (λ m. IsIn place m.slots.keys.order) (sym view_is) listed

-- the table finds each key by the hash of its link, which is that of the key
pub record AreKeyed {K : Type 0} (eq : K → K → Bool) (hash : K → ℕ) (keys : Slots K KeyLink)
    (rows : FinMap nat_cmp ℕ) : Type 0 where
  pub sound : IsSound keys
  pub hashed : (place : ℕ) (k : K) (l : KeyLink) → IsIn place keys.order
      → item_at keys place ≡ Some k → link_at keys place ≡ Some l → l.hash ≡ hash k
  pub in_table : (place : ℕ) (l : KeyLink) → IsIn place keys.order → link_at keys place ≡ Some l
      → get rows place ≡ Some l.hash
  pub listed : (place h : ℕ) → get rows place ≡ Some h → IsIn place keys.order

module _ {K : Type 0} {eq : K → K → Bool} (laws : IsEquivalence eq) where
  apart_item : (j k : K) (keys : List K) → AllByRecursion (λ y. eq j y ≡ false) keys → IsIn k keys → eq j k ≡ false
  apart_item j k [] apart member = absurd member
  apart_item j k (i ∷ keys) apart (inl here) = ap (eq j) here ∙ apart.0
  apart_item j k (i ∷ keys) apart (inr later) = apart_item j k keys apart.1 later

  -- equal keys of distinct ones stand at one place
  pub same_place : (keys : Slots K KeyLink) (ps : List ℕ) → IsDistinct eq (filter_map (item_at keys) ps) → (p q : ℕ) (j k : K) → IsIn p ps
      → IsIn q ps
      → item_at keys p ≡ Some j → item_at keys q ≡ Some k → eq j k ≡ true → p ≡ q
  unfolding IsDistinct
  same_place keys [] distinct p q j k p_in q_in p_is q_is equal = absurd p_in
  same_place keys (r ∷ ps) distinct p q j k (inl p_here) (inl q_here) p_is q_is equal = p_here ∙ sym q_here
  same_place keys (r ∷ ps) distinct p q j k (inl p_here) (inr q_in) p_is q_is equal =
      let split : IsDistinct eq (j ∷ filter_map (item_at keys) ps) = subst
      (λ o. IsDistinct eq (cons_option o (filter_map (item_at keys) ps))) (sym (ap (item_at keys) p_here) ∙ p_is) distinct in
      absurd (true≢false (sym equal ∙ apart_item j k (filter_map (item_at keys) ps) split.0
      (IsIn-filter_map (item_at keys) q k ps q_in q_is)))
  same_place keys (r ∷ ps) distinct p q j k (inr p_in) (inl q_here) p_is q_is equal =
      let split : IsDistinct eq (k ∷ filter_map (item_at keys) ps) = subst
      (λ o. IsDistinct eq (cons_option o (filter_map (item_at keys) ps))) (sym (ap (item_at keys) q_here) ∙ q_is) distinct in
      absurd (true≢false (sym equal ∙ laws.symm j k
      ∙ apart_item k j (filter_map (item_at keys) ps) split.0 (IsIn-filter_map (item_at keys) p j ps p_in p_is)))
  same_place keys (r ∷ ps) distinct p q j k (inr p_in) (inr q_in) p_is q_is equal =
      let P : Option K → Type 0 = λ o. IsDistinct eq (cons_option o (filter_map (item_at keys) ps))
      → IsDistinct eq (filter_map (item_at keys) ps) in
      let rest : IsDistinct eq (filter_map (item_at keys) ps) = elim (item_at keys r) as P [ None ↦ λ d. d | Some i ↦ λ d. d.1 ] distinct in
      same_place keys ps rest p q j k p_in q_in p_is q_is equal

-- functions that agree on a list
pub map-agree : {X : Type 0} (f g : ℕ → X) (xs : List ℕ) → ((x : ℕ) → IsIn x xs → f x ≡ g x) → map f xs ≡ map g xs
map-agree f g [] same = refl
map-agree f g (x ∷ xs) same = ap (λ y. y ∷ map f xs) (same x (inl refl))
    ∙ ap (λ ys. g x ∷ ys) (map-agree f g xs (λ y later. same y (inr later)))

-- keys that a test accepts have as many positions as values
pub length-positions_where : {K V : Type 0} (accepts : K → Bool) (at : ℕ) (pairs : List (K × V))
    → length (map (λ e. e.0) (filter (λ e. accepts e.1.0) (enumerate_from at pairs))) ≡ length (values_where accepts pairs)
length-positions_where accepts at [] = refl
length-positions_where {K} {V} accepts at (p ∷ pairs) =
    let later = length-positions_where accepts (at + 1) pairs in
    let rest : List (ℕ × (K × V)) = filter (λ e. accepts e.1.0) (enumerate_from (at + 1) pairs) in
    elim (accepts p.0) as (λ b. length (map (λ e. e.0) (cond b ((at, p) ∷ rest) rest)) ≡ length
    (map (λ q. q.1) (cond b (p ∷ filter (λ q. accepts q.0) pairs) (filter (λ q. accepts q.0) pairs)))) [
      | true ↦ ap suc later
      | false ↦ later
    ]

-- a key has as many positions as values
pub length-positions_of : {K V : Type 0} (eq : K → K → Bool) (k : K) (at : ℕ) (pairs : List (K × V))
    → length (map (λ e. e.0) (filter (λ e. eq k e.1.0) (enumerate_from at pairs))) ≡ length (values_of eq pairs k)
length-positions_of eq k at pairs = length-positions_where (eq k) at pairs

module _ {K V : Type 0} {eq : K → K → Bool} (laws : IsEquivalence eq) {hash : K
    → ℕ} {keys : Slots K KeyLink} {rows : FinMap nat_cmp ℕ} {values : Slots V ValueLink} (agrees : Agrees eq hash keys rows values) where
  pub keyed : AreKeyed eq hash keys rows
  keyed = record { sound = agrees.keys_sound; hashed = agrees.hashed; in_table = agrees.in_table; listed = agrees.listed }

  -- whether the key is present
  pub present_if_found : (k : K) (place : ℕ) → HasKey eq keys k place → is_present eq (pairs_of keys values) k ≡ true
  present_if_found k place has =
      is_present-keys laws (lists_of keys values) k (well_formed agrees)
      ∙ is_listed-member laws k has.stored (items_of keys)
      (IsIn-filter_map (item_at keys) place has.stored keys.order has.listed has.item_is) has.equal

  pub absent_if_unlisted : (k : K) → is_listed eq (items_of keys) k ≡ false → is_present eq (pairs_of keys values) k ≡ false
  absent_if_unlisted k none = is_present-keys laws (lists_of keys values) k (well_formed agrees) ∙ none

  -- a value is the key's exactly where its own key is equal
  pub owns : (k : K) (place : ℕ) (has : HasKey eq keys k place) (q : ℕ) (p : PairAt keys values q) → is_value_of values place q ≡ eq k p.key
  owns k place has q p = is_value_of-is keys values place q p.link p.link_is ∙ cases (cases_eq p.link.key place)
    where
      cases : (p.link.key ≡ place) ⊎ (p.link.key ≢ place) → (p.link.key == place) ≡ eq k p.key
      cases (inl same) =
          let one : Some has.stored ≡ Some p.key = sym has.item_is ∙ ap (item_at keys) (sym same) ∙ p.key_is in
          let own : has.stored ≡ p.key = cc in
          eq-eqb p.link.key place same ∙ sym (ap (eq k) (sym own) ∙ has.equal)
      cases (inr differs) =
          let P : Bool → Type 0 = λ b. eq k p.key ≡ b → false ≡ b in
          ne_eqb p.link.key place differs ∙ elim (eq k p.key) as P [
            | true ↦ λ e. absurd (differs (sym (same_place laws keys keys.order agrees.distinct place p.link.key has.stored p.key has.listed
                p.key_listed has.item_is p.key_is
                (sym (laws.congr k has.stored p.key has.equal) ∙ e))))
            | false ↦ λ _. refl
          ] refl

  -- the key's values at some of the places
  pub values_along : (k : K) (place : ℕ) → HasKey eq keys k place → (qs : List ℕ) → ((q : ℕ) → IsIn q qs → IsIn q values.order)
      → values_of eq (filter_map (pair_at keys values) qs) k ≡ values_at values (filter (is_value_of values place) qs)
  values_along k place has [] listed = refl
  values_along k place has (q ∷ qs) listed =
      let p = pair_in agrees q (listed q (inl refl)) in
      let rest : List (K × V) = filter_map (pair_at keys values) qs in
      let kept : List ℕ = filter (is_value_of values place) qs in
      let later = values_along k place has qs (λ r i. listed r (inr i)) in
      let P : Bool → Type 0 = λ b. map (λ e. e.1) (cond b ((p.key, p.value) ∷ filter (λ e. eq k e.0) rest)
      (filter (λ e. eq k e.0) rest)) ≡ filter_map (item_at values) (cond b (q ∷ kept) kept) in
      ap (λ o. values_of eq (cons_option o rest) k) p.pair_is
      ∙ elim (eq k p.key) as P [
        | true ↦ ap (λ vs. p.value ∷ vs) later ∙ sym (ap (λ o. cons_option o (filter_map (item_at values) kept)) p.value_is)
        | false ↦ later
      ]
      ∙ sym (ap (λ b. filter_map (item_at values) (cond b (q ∷ kept) kept)) (owns k place has q p))

  -- the key's values are those of its chain
  pub values_of-chain : (k : K) (place : ℕ) → HasKey eq keys k place
      → values_of eq (pairs_of keys values) k ≡ values_at values (chain_of values place)
  values_of-chain k place has = values_along k place has values.order (λ q i. i)

  positions_along : (k : K) (place : ℕ) → HasKey eq keys k place → (at : ℕ) (qs : List ℕ) → AreDistinct qs
      → ((q : ℕ) → IsIn q qs → IsIn q values.order)
      → map (λ e. e.0) (filter (λ e. eq k e.1.0) (enumerate_from at (filter_map (pair_at keys values) qs))) ≡ map
      (λ q. at + position_in qs q) (filter (is_value_of values place) qs)
  positions_along k place has at [] distinct listed = refl
  positions_along k place has at (q ∷ qs) distinct listed =
      let p = pair_in agrees q (listed q (inl refl)) in
      let rest : List (ℕ × (K × V)) = enumerate_from (at + 1) (filter_map (pair_at keys values) qs) in
      let kept : List ℕ = filter (is_value_of values place) qs in
      let further : ℕ → ℕ = λ r. at + position_in (q ∷ qs) r in
      let behind : (r : ℕ) → IsIn r kept → at + 1 + position_in qs r ≡ further r = λ r member.
      let differs : q ≢ r = λ same. distinct.0 (subst (λ x. IsIn x qs) (sym same) (IsIn-kept (is_value_of values place) r qs member).0) in
      omega (arith, ap (λ b. cond b 0 (suc (position_in qs r))) (ne_eqb q r differs)) in
      let later = positions_along k place has (at + 1) qs distinct.1 (λ r i. listed r (inr i))
      ∙ map-agree (λ r. at + 1 + position_in qs r) further kept behind in
      let here : at ≡ further q = omega (arith, ap (λ b. cond b 0 (suc (position_in qs q))) (eq-eqb q q refl)) in
      let P : Bool → Type 0 = λ b. map (λ e. e.0) (cond b ((at, (p.key, p.value)) ∷ filter (λ e. eq k e.1.0) rest)
      (filter (λ e. eq k e.1.0) rest)) ≡ map further (cond b (q ∷ kept) kept) in
      ap (λ o. map (λ e. e.0) (filter (λ e. eq k e.1.0) (enumerate_from at (cons_option o (filter_map (pair_at keys values) qs)))))
      p.pair_is
      ∙ elim (eq k p.key) as P [
        | true ↦ ap (λ n. n ∷ map (λ e. e.0) (filter (λ e. eq k e.1.0) rest)) here ∙ ap (λ ns. further q ∷ ns) later
        | false ↦ later
      ]
      ∙ sym (ap (λ b. map further (cond b (q ∷ kept) kept)) (owns k place has q p))

  -- and their positions are those of its places
  pub positions_of-chain : (k : K) (place : ℕ) → HasKey eq keys k place
      → positions_of eq (pairs_of keys values) k ≡ positions_at values (chain_of values place)
  positions_of-chain k place has =
      positions_along k place has 0 values.order agrees.values_sound.distinct (λ q i. i)
      ∙ map-agree (λ q. 0 + position_in values.order q) (position_in values.order) (chain_of values place) (λ q member. omega arith)

  all_positions_along : (at : ℕ) (qs : List ℕ) → AreDistinct qs → ((q : ℕ) → IsIn q qs → IsIn q values.order)
      → map (λ e. e.0) (enumerate_from at (filter_map (pair_at keys values) qs)) ≡ map (λ q. at + position_in qs q) qs
  all_positions_along at [] distinct listed = refl
  all_positions_along at (q ∷ qs) distinct listed =
      let p = pair_in agrees q (listed q (inl refl)) in
      let further : ℕ → ℕ = λ r. at + position_in (q ∷ qs) r in
      let behind : (r : ℕ) → IsIn r qs → at + 1 + position_in qs r ≡ further r = λ r member.
      let differs : q ≢ r = λ same. distinct.0 (subst (λ x. IsIn x qs) (sym same) member) in
      omega (arith, ap (λ b. cond b 0 (suc (position_in qs r))) (ne_eqb q r differs)) in
      let later = all_positions_along (at + 1) qs distinct.1 (λ r i. listed r (inr i))
      ∙ map-agree (λ r. at + 1 + position_in qs r) further qs behind in
      let here : at ≡ further q = omega (arith, ap (λ b. cond b 0 (suc (position_in qs q))) (eq-eqb q q refl)) in
      ap (λ o. map (λ e. e.0) (enumerate_from at (cons_option o (filter_map (pair_at keys values) qs)))) p.pair_is
      ∙ (λ i. here i ∷ later i)

  -- all places have all positions
  pub positions_at-all : positions_at values values.order ≡ all_positions (pairs_of keys values)
  positions_at-all =
      map-agree (position_in values.order) (λ q. 0 + position_in values.order q) values.order (λ q member. omega arith)
      ∙ sym (all_positions_along 0 values.order agrees.values_sound.distinct (λ q i. i))

  -- the key at a place is equal to itself
  pub own_key : (place : ℕ) → IsIn place keys.order → (k : K) × HasKey eq keys k place
  own_key place listed =
      let k = held (item_at keys place) (agrees.keys_sound.filled place listed) in
      (k.value, record { listed = listed; stored = k.value; item_is = k.is; equal = laws.refl k.value })

  -- and is the stored one of each that is equal to it
  pub stored_at : (k : K) (place : ℕ) (j : K) → HasKey eq keys k place → item_at keys place ≡ Some j → j ≡ stored_key eq (items_of keys) k
  stored_at k place j has item_is =
      let same : Some has.stored ≡ Some j = sym has.item_is ∙ item_is in
      let own : has.stored ≡ j = cc in
      sym (stored_key_only laws k j (items_of keys) agrees.distinct (IsIn-filter_map (item_at keys) place j keys.order has.listed item_is)
      (ap (eq k) (sym own) ∙ has.equal))

  pub head_listed : (place : ℕ) (l : KeyLink) → IsIn place keys.order → link_at keys place ≡ Some l → IsIn l.head values.order
  head_listed place l listed link_is =
      let b = begins (chain_of values place) l.head (agrees.chained.head place l listed link_is) in
      (IsIn-kept (is_value_of values place) l.head values.order (subst (IsIn l.head) (sym b.is) (inl refl))).0

  pub first_value : (k : K) (place : ℕ) (l : KeyLink) (v : V) → HasKey eq keys k place → link_at keys place ≡ Some l
      → item_at values l.head ≡ Some v
      → slice_get (values_of eq (pairs_of keys values) k) 0 ≡ Some v
  first_value k place l v has link_is item_is =
      let b = begins (chain_of values place) l.head (agrees.chained.head place l has.listed link_is) in
      ap (λ vs. slice_get vs 0) (values_of-chain k place has ∙ ap (values_at values) b.is)
      ∙ ap (λ o. slice_get (cons_option o (values_at values b.rest)) 0) item_is

  pub count_of_values : (k : K) (place : ℕ) (l : KeyLink) → HasKey eq keys k place → link_at keys place ≡ Some l
      → length (values_of eq (pairs_of keys values) k) ≡ l.length
  count_of_values k place l has link_is =
      ap length (values_of-chain k place has)
      ∙ length-filter_map (item_at values) (chain_of values place)
      (λ q i. agrees.values_sound.filled q (IsIn-kept (is_value_of values place) q values.order i).0)
      ∙ agrees.chained.length place l has.listed link_is

-- a key that has come is equal to itself
pub new_key : {K : Type 0} {eq : K → K → Bool} (laws : IsEquivalence eq) (keys : Slots K KeyLink) (k : K) {E : Type 0} (r : Result ℕ E)
    → IfOk r (λ p. HasItem keys p k) → IfOk r (HasKey eq keys k)
new_key laws keys k (Ok place) has = record { listed = has.listed; stored = k; item_is = has.item_is; equal = laws.refl k }
new_key laws keys k (Err e) has = has

-- what a step of a walk over pairs takes is the item at that end of what was left
module _ {K V : Type 0} (s t : List (K × V)) where
  pub first_of_walk : (r : Option (Bor K × Bor V)) → TakesFirst deref_pair s r t → option_map deref_pair r ≡ end_item Front s
  first_of_walk None taken = sym (ap (end_item Front) taken.0)
  first_of_walk (Some x) taken = sym (ap (end_item Front) taken)

  pub last_of_walk : (r : Option (Bor K × Bor V)) → TakesLast deref_pair s r t → option_map deref_pair r ≡ end_item Back s
  last_of_walk None taken = sym (ap (end_item Back) taken.0)
  last_of_walk (Some x) taken = sym (ap (end_item Back) taken ∙ end_item-push t (deref_pair x))
