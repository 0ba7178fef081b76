-- What the agreement of key list, table and values says of the two lists.
use Rattle.std.proofs.Common.{◌≡◌, ◌==◌, ℕ, ◌+◌, ◌<◌, ◌≤◌, min, Bool, true, false, List, [], ◌∷◌, length, Option, Some, None, IsSome}
use Rattle.std.proofs.Common.{option_map, option_and_then, unwrap_or, refl, sym, ap, ◌∙◌, subst, inl, inr, true≢false, arith}
use Rattle.std.proofs.lemmas.Bool.{cases_eq, ne_eqb}
use Rattle.std.specs.List.{filter_map, IsDistinct}
use Rattle.std.specs.Map.{keys_of}
use Rattle.std.specs.Ordering.{nat_cmp}
use Rattle.std.specs.FinMap.{FinMap, get, len, empty, get-empty, len-empty}
use Rattle.multimap_slots.specs.Lists.{IsIn, AreDistinct}
use Rattle.multimap_slots.specs.Slots.{Slots, IsEmpty, IsSound, HasRoomFor, item_at, link_at}
use Rattle.multimap_slots.specs.Tapes.{Taped}
use Rattle.multimap_slots.proofs.Callers.PlaceLists.{IsIn-kept}
use Rattle.multimap_walks.specs.declared.links.KeyLink.{KeyLink}
use Rattle.multimap_walks.specs.declared.links.ValueLink.{ValueLink}
use Rattle.multimap_walks.specs.Chained.{IsChained, is_value_of, chain_of, pair_at, pairs_of}
use Rattle.ordered_multimap.specs.Lists.{lists, empty_lists, IsWellFormed}
use Rattle.ordered_multimap.specs.Agrees.{Agrees, IsMap, items_of, lists_of}
use Rattle.ordered_multimap.proofs.Callers.WellFormed.{empty_well_formed}
use Rattle.ordered_multimap.proofs.Callers.Places.{held, length-filter_map, IsIn-filter_map, origin, begins, named_pair, pair_named}

pair_key : {K V : Type 0} (p q : K × V) → Some p ≡ Some q → p.0 ≡ q.0
pair_key p q e = let same : p ≡ q = cc in ap (λ r. r.0) same

-- the value at a place, with its link and its key
pub record PairAt {K V : Type 0} (keys : Slots K KeyLink) (values : Slots V ValueLink) (place : ℕ) : Type 0 where
  pub link : ValueLink
  pub key : K
  pub value : V
  pub key_listed : IsIn link.key keys.order
  pub link_is : link_at values place ≡ Some link
  pub key_is : item_at keys link.key ≡ Some key
  pub value_is : item_at values place ≡ Some value
  pub pair_is : pair_at keys values place ≡ Some (key, value)

module _ {K V : Type 0} (keys : Slots K KeyLink) (values : Slots V ValueLink) where
  pub pair_at-is : (place : ℕ) (l : ValueLink) (k : K) (v : V) → link_at values place ≡ Some l → item_at keys l.key ≡ Some k
      → item_at values place ≡ Some v
      → pair_at keys values place ≡ Some (k, v)
  pair_at-is place l k v link_is key_is value_is =
      let value_with : Option K → Option (K × V) = option_and_then (λ j. option_map (λ w. (j, w)) (item_at values place)) in
      ap (λ o. value_with (option_and_then (λ m. item_at keys m.key) o)) link_is ∙ ap value_with key_is
      ∙ ap (option_map (λ w. (k, w))) value_is

  pub is_value_of-is : (key place : ℕ) (l : ValueLink) → link_at values place ≡ Some l → is_value_of values key place ≡ (l.key == key)
  is_value_of-is key place l link_is = ap (λ o. unwrap_or (option_map (λ m. m.key == key) o) false) link_is

  -- the key of a value that is told as the key's
  pub value_owner : (key place : ℕ) (l : ValueLink) → link_at values place ≡ Some l → is_value_of values key place ≡ true → l.key ≡ key
  value_owner key place l is own = elim (cases_eq l.key key) [
    | inl same ↦ same
    | inr other ↦ absurd (true≢false (sym own ∙ is_value_of-is key place l is ∙ ne_eqb l.key key other))
  ]

  pub pair_of : IsSound keys → IsSound values → IsChained keys values → (place : ℕ) → IsIn place values.order → PairAt keys values place
  pair_of keys_sound values_sound chained place listed =
      let l = held (link_at values place) (values_sound.linked place listed) in
      let owner = chained.owned place l.value listed l.is in
      let k = held (item_at keys l.value.key) (keys_sound.filled l.value.key owner) in
      let v = held (item_at values place) (values_sound.filled place listed) in
      record {
        link = l.value;
        key = k.value;
        value = v.value;
        key_listed = owner;
        link_is = l.is;
        key_is = k.is;
        value_is = v.is;
        pair_is = pair_at-is place l.value k.value v.value l.is k.is v.is;
      }

module _ {K V : Type 0} {eq : K → K → Bool} {hash : K → ℕ} {keys : Slots K KeyLink} {rows : FinMap nat_cmp ℕ} {values : Slots V ValueLink}
    (agrees : Agrees eq hash keys rows values) where
  pub pair_in : (place : ℕ) → IsIn place values.order → PairAt keys values place
  pair_in = pair_of keys values agrees.keys_sound agrees.values_sound agrees.chained

  pub length-keys : length (items_of keys) ≡ length keys.order
  length-keys = length-filter_map (item_at keys) keys.order agrees.keys_sound.filled

  some_pair : (place : ℕ) → IsIn place values.order → IsSome (pair_at keys values place)
  some_pair place listed = subst IsSome (sym (pair_in place listed).pair_is) refl

  pub length-pairs : length (pairs_of keys values) ≡ length values.order
  length-pairs = length-filter_map (pair_at keys values) values.order some_pair

  -- room for another value, and for another key and its row
  pub value_room : (room : ℕ) → length (pairs_of keys values) < room → length values.order + 1 ≤ room
  value_room room few = omega (arith, few, length-pairs)

  pub key_room : (row_capacity : ℕ) → length (items_of keys) < min keys.capacity row_capacity → HasRoomFor keys 1
  key_room row_capacity few = omega (arith, few, length-keys)

  pub row_room : (row_capacity : ℕ) → length (items_of keys) < min keys.capacity row_capacity → len rows + 1 ≤ row_capacity
  row_room row_capacity few = omega (arith, few, length-keys, agrees.counted)

  -- there is no pair exactly where no value is listed
  pub no_pairs : (values.order ≡ [] → pairs_of keys values ≡ []) × (pairs_of keys values ≡ [] → values.order ≡ [])
  no_pairs = (
    λ none. ap (filter_map (pair_at keys values)) none,
    λ none. no_length values.order (sym length-pairs ∙ ap length none),
  )
    where
      no_length : (ps : List ℕ) → length ps ≡ 0 → ps ≡ []
      no_length [] e = refl
      no_length (p ∷ ps) e = absurd (omega arith)

  -- the first place of a key's chain
  head_of : (place : ℕ) → IsIn place keys.order → (q : ℕ) × IsIn q values.order × (is_value_of values place q ≡ true)
  head_of place listed =
      let l = held (link_at keys place) (agrees.keys_sound.linked place listed) in
      let b = begins (chain_of values place) l.value.head (agrees.chained.head place l.value listed l.is) in
      let found = IsIn-kept (is_value_of values place) l.value.head values.order (subst (IsIn l.value.head) (sym b.is) (inl refl)) in
      (l.value.head, found.0, found.1)

  -- the owner of a value in a key's chain
  pub owner_of : (key place : ℕ) (p : PairAt keys values place) → is_value_of values key place ≡ true → p.link.key ≡ key
  owner_of key place p passes = elim (cases_eq p.link.key key) [
    | inl same ↦ same
    | inr differs ↦ absurd (true≢false (sym passes ∙ is_value_of-is keys values key place p.link p.link_is ∙ ne_eqb p.link.key key differs))
  ]

  pub well_formed : IsWellFormed eq (lists_of keys values)
  well_formed = record {
    distinct = agrees.distinct;
    listed = λ k named.
        let pair = named_pair k (pairs_of keys values) named in
        let o = origin (pair_at keys values) (k, pair.0) values.order pair.1 in
        let p = pair_in o.from o.member in
        let same : p.key ≡ k = pair_key (p.key, p.value) (k, pair.0) (sym p.pair_is ∙ o.gives) in
        subst (λ j. IsIn j (items_of keys)) same (IsIn-filter_map (item_at keys) p.link.key p.key keys.order p.key_listed p.key_is);
    used = λ k member.
        let o = origin (item_at keys) k keys.order member in
        let h = head_of o.from o.member in
        let p = pair_in h.0 h.1 in
        let own : p.link.key ≡ o.from = owner_of o.from h.0 p h.2 in
        let both : Some p.key ≡ Some k = sym p.key_is ∙ ap (item_at keys) own ∙ o.gives in
        let same : p.key ≡ k = cc in
        subst (λ j. IsIn j (keys_of (pairs_of keys values))) same
        (pair_named p.key p.value (pairs_of keys values)
        (IsIn-filter_map (pair_at keys values) h.0 (p.key, p.value) values.order h.1 p.pair_is));
  }

-- empty slots and an empty table
pub empty_sound : {T L : Type 0} (s : Slots T L) → s.order ≡ [] → IsSound s
empty_sound s none = record {
  distinct = subst AreDistinct (sym none) tt;
  filled = λ p i. absurd (subst (IsIn p) none i);
  linked = λ p i. absurd (subst (IsIn p) none i);
  fits = omega (arith, ap length none);
}

pub lists_of-empty : {K V : Type 0} (keys : Slots K KeyLink) (values : Slots V ValueLink) → IsEmpty keys → IsEmpty values
    → lists_of keys values ≡ empty_lists
lists_of-empty keys values no_key no_value =
    ap (λ ps. lists (filter_map (item_at keys) ps) (pairs_of keys values)) no_key.order
    ∙ ap (λ ps. lists [] (filter_map (pair_at keys values) ps)) no_value.order

module _ {K V : Type 0} (keys : Slots K KeyLink) (values : Slots V ValueLink) (no_key : keys.order ≡ []) (no_value : values.order ≡ []) where
  pub agrees_empty : (eq : K → K → Bool) (hash : K → ℕ) (rows : FinMap nat_cmp ℕ) → rows ≡ empty → Agrees eq hash keys rows values
  agrees_empty eq hash rows no_row =
      let no_place = λ (p : ℕ). subst (IsIn p) no_key in
      let no_value_place = λ (p : ℕ). subst (IsIn p) no_value in
      record {
        keys_sound = empty_sound keys no_key;
        values_sound = empty_sound values no_value;
        chained = record {
          owned = λ p l i e. absurd (no_value_place p i);
          head = λ p l i e. absurd (no_place p i);
          tail = λ p l i e. absurd (no_place p i);
          length = λ p l i e. absurd (no_place p i);
          previous = λ p l i e. absurd (no_value_place p i);
          next = λ p l i e. absurd (no_value_place p i);
        };
        distinct = subst (λ ps. IsDistinct eq (filter_map (item_at keys) ps)) (sym no_key) (empty_well_formed {V = V} eq).distinct;
        hashed = λ p k l i. absurd (no_place p i);
        in_table = λ p l i. absurd (no_place p i);
        listed = λ p h e. let bad : None ≡ Some h = sym (ap (λ m. get m p) no_row ∙ get-empty nat_cmp p) ∙ e in absurd (cc);
        counted = ap len no_row ∙ len-empty nat_cmp ℕ ∙ sym (ap length no_key);
      }

-- and an empty tape that has moved nothing
pub empty_map : {K V : Type 0} (eq : K → K → Bool) (hash : K → ℕ) (keys : Slots K KeyLink) (rows : FinMap nat_cmp ℕ)
    (values : Taped V ValueLink)
    → IsEmpty keys → IsEmpty values.list → rows ≡ empty → values.moved ≡ 0 → values.holes ≡ 0 → IsMap eq hash keys rows values
empty_map eq hash keys rows values no_key no_value no_row moved holes = record {
  agrees = agrees_empty keys values.list no_key.order no_value.order eq hash rows no_row;
  fits = omega (arith, ap length no_value.order);
  paid = omega (arith, moved, holes);
}
