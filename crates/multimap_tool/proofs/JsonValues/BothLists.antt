-- JSON values of both lists of a map: what is read of them, and the pairs that stand for the keys.
use Rattle.std.proofs.Common.{◌≡◌, ℕ, zero, suc, ◌<◌, ◌≤◌, ◌&&◌, ◌||◌, Bool, true, false, cond, not, List, [], ◌∷◌, ◌++◌, length, map, take}
use Rattle.std.proofs.Common.{drop, Option, Some, None, IfSome, refl, sym, ap, ap₂, ◌∙◌, subst, arith, inl, inr, true≢false}
use Rattle.std.proofs.lemmas.List.{map-append, append_assoc, take-append-drop}
use Rattle.std.specs.Cmp.{IsEquivalence}
use Rattle.std.specs.List.{IsDistinct, AllByRecursion}
use Rattle.std.specs.Map.{keys_of}
use Rattle.serde_json.specs.Data.{Data, array, item, no_items}
use Rattle.serde_json.specs.View.{items_of}
use Rattle.ordered_multimap.specs.Lists.{Lists, lists, IsIn, IsWellFormed}
use Rattle.ordered_multimap.specs.Keys.{is_listed, stored_key, keys_named_by}
use Rattle.ordered_multimap.specs.End.TheVariants.{Front}
use Rattle.ordered_multimap.specs.Pairs.{has_items, is_present}
use Rattle.ordered_multimap.specs.Changes.{appended, under_listed}
use Rattle.ordered_multimap.specs.Popped.{popped, popped_pair}
use Rattle.ordered_multimap.proofs.Callers.Laws.{under_own}
use Rattle.ordered_multimap.proofs.Callers.ListedKeys.{is_listed-self, stored_key_absent, apart_member}
use Rattle.ordered_multimap.proofs.Callers.ListedKeys.{is_present-is_listed}
use Rattle.ordered_multimap.proofs.Callers.Members.{filter-all, keys_of-append}
use Rattle.multimap_tool.specs.Json.{item_fault, first_fault, pair_json, UnlessMemory}
use Rattle.multimap_tool.specs.JsonLists.{both_arrays, each_item, first_unused, lists_json, IsKeysFault, IsPairsFault}
use Rattle.multimap_tool.specs.JsonLists.{IsListsFault, AreReadLists, IsRead, IsFaultIn, AreAccepted}
use Rattle.multimap_tool.specs.Private.JsonSteps.{is_owned_pop}
use Rattle.multimap_tool.proofs.Callers.JsonParts.{same_items, same_pairs_json, nones, unless_is}
use Rattle.multimap_tool.specs.declared.json.faults.ReadFault.{ReadFault}
use Rattle.multimap_tool.specs.declared.json.faults.ReadFault.TheVariants.{UnusedKey, OutOfMemory}
use Rattle.multimap_tool.proofs.JsonValues.Shapes.{each_item-behind, fault_of_key}

module _ {K : Type 0} {eq : K → K → Bool} (laws : IsEquivalence eq) where
  apart_is_unlisted : (k : K) (keys : List K) → AllByRecursion (λ j. eq k j ≡ false) keys → is_listed eq keys k ≡ false
  apart_is_unlisted k [] apart = refl
  apart_is_unlisted k (j ∷ keys) apart = ap (λ b. b || is_listed eq keys k) apart.0 ∙ apart_is_unlisted k keys apart.1

  -- of distinct keys, one isn't listed among those behind it
  pub distinct_behind : (keys more : List K) (k : K) (i : ℕ) → IsDistinct eq keys → drop i keys ≡ k ∷ more → is_listed eq more k ≡ false
  unfolding IsDistinct
  distinct_behind [] more k i distinct e = absurd (nothing i e)
    where
      nothing : (i : ℕ) → drop i [] ≡ k ∷ more → ⊥
      nothing zero e = grind arith
      nothing (suc i) e = grind arith
  distinct_behind (j ∷ keys) more k zero distinct e =
      subst (λ x. is_listed eq more x ≡ false) (grind arith)
      (subst (λ xs. is_listed eq xs j ≡ false) (grind arith) (apart_is_unlisted j keys distinct.0))
  distinct_behind (j ∷ keys) more k (suc i) distinct e = distinct_behind keys more k i distinct.1 e

  is_listed-append : (keys more : List K) (k : K) → is_listed eq (keys ++ more) k ≡ (is_listed eq keys k || is_listed eq more k)
  is_listed-append [] more k = refl
  is_listed-append (j ∷ keys) more k =
      let P : Bool → Type 0 = λ b. (b || is_listed eq (keys ++ more) k) ≡ ((b || is_listed eq keys k) || is_listed eq more k) in
      elim (eq k j) as P [ true ↦ refl | false ↦ is_listed-append keys more k ]

  pub listed_behind : (keys more : List K) (k : K) → is_listed eq keys k ≡ false → is_listed eq (keys ++ more) k ≡ is_listed eq more k
  listed_behind keys more k apart = is_listed-append keys more k ∙ ap (λ b. b || is_listed eq more k) apart

  -- where each key is named, none is unused
  pub none_unused : (i : ℕ) (keys named : List K) → ((k : K) → IsIn k keys → is_listed eq named k ≡ true)
      → first_unused eq i keys named ≡ None
  none_unused i [] named each = refl
  none_unused i (k ∷ keys) named each = rw (each k (inl refl)) (none_unused (suc i) keys named (λ j later. each j (inr later)))

module _ {K V : Type 0} {eq : K → K → Bool} (laws : IsEquivalence eq) where
  -- all keys are still named once the first pair has gone, where its own is
  pub all_named : (keys : List K) (p : K × V) (rest : List (K × V)) → ((k : K) → IsIn k keys → IsIn k (keys_of (p ∷ rest)))
      → is_listed eq (keys_of rest) p.0 ≡ true → keys_named_by eq keys rest ≡ keys
  all_named keys p rest used named = filter-all (is_listed eq (keys_of rest)) keys (λ k member. elim (used k member) [
    | inl here ↦ ap (is_listed eq (keys_of rest)) here ∙ named
    | inr later ↦ is_listed-self laws k (keys_of rest) later
  ])

-- what was written of both lists is read as the very lists, where different keys and different
-- values have different JSON values
module _ {K V : Type 0} (key_json : K → Data) (value_json : V → Data) (keys : (k j : K) → key_json k ≡ key_json j → k ≡ j)
    (values : (v w : V) → value_json v ≡ value_json w → v ≡ w) (is_key is_value : Data → Bool) {eq : K → K → Bool}
    (laws : IsEquivalence eq) where
  lists_back : (m n : Lists K V) → IsWellFormed eq m
      → AreReadLists key_json value_json is_key is_value eq (items_of (map key_json m.keys))
      (items_of (map (pair_json key_json value_json) m.pairs)) n → n ≡ m
  lists_back m n formed read =
      let same_keys : n.keys ≡ m.keys = sym (same_items key_json keys m.keys n.keys read.keys_are.json) in
      let pairs_same : read.pairs ≡ m.pairs = sym (same_pairs_json key_json value_json keys values m.pairs read.pairs
      read.pairs_are.json) in
      ap₂ lists same_keys (read.stored ∙ ap₂ (λ js ps. under_listed eq js ps) same_keys pairs_same
      ∙ under_own laws m.keys m.pairs formed.distinct formed.listed)

  pub read_lists_back : (m n : Lists K V) → IsWellFormed eq m
      → IsRead key_json value_json is_key is_value eq (lists_json key_json value_json m) n → n ≡ m
  read_lists_back m n formed read = lists_back m n formed read

  -- and no fault is found in it
  no_keys_fault : (i : ℕ) (earlier js : List K) (f : ReadFault) → each_item is_key (items_of (map key_json js)) ≡ true → IsDistinct eq js
      → ((k : K) → IsIn k js → is_listed eq earlier k ≡ false) → IsKeysFault key_json is_key eq i earlier (items_of (map key_json js)) f → ⊥
  unfolding IsDistinct
  no_keys_fault i earlier [] f accepted distinct apart fault = fault
  no_keys_fault i earlier (k ∷ js) f accepted distinct apart (inl (inl refused)) = absurd
      (true≢false (sym accepted ∙ ap (λ b. b && each_item is_key (items_of (map key_json js))) refused.0))
  no_keys_fault i earlier (k ∷ js) f accepted distinct apart (inl (inr repeated)) =
      true≢false (sym repeated.2 ∙ ap (is_listed eq earlier) (sym (keys k repeated.0 repeated.1.json)) ∙ apart k (inl refl))
  no_keys_fault i earlier (k ∷ js) f accepted distinct apart (inr later) =
      let same : k ≡ later.0 = keys k later.0 later.1.json in
      let next = λ (j : K) (member : IsIn j js).
      is_listed-append laws earlier (later.0 ∷ []) j
      ∙ ap₂ (λ a b. a || (b || false)) (apart j (inr member))
      (laws.symm j later.0 ∙ ap (λ x. eq x j) (sym same) ∙ apart_member laws k j js distinct.0 member) in
      no_keys_fault (suc i) (earlier ++ later.0 ∷ []) js f
      (sym (each_item-behind is_key (key_json k) (items_of (map key_json js)) (ap is_key refl ∙ later.1.accepted)) ∙ accepted)
      distinct.1 next later.3

  no_pairs_fault : (i : ℕ) (js : List K) (pairs : List (K × V)) (f : ReadFault)
      → first_fault is_key is_value i (items_of (map (pair_json key_json value_json) pairs)) ≡ None
      → ((k : K) → IsIn k (keys_of pairs) → is_listed eq js k ≡ true)
      → IsPairsFault key_json is_key is_value eq i js (items_of (map (pair_json key_json value_json) pairs)) f → ⊥
  no_pairs_fault i js [] f accepted listed fault = fault
  no_pairs_fault i js (p ∷ pairs) f accepted listed (inl (inl bad)) =
      let parts = nones is_key is_value (item_fault is_key is_value i (pair_json key_json value_json p)) _ accepted in
      none_some (fault_of_key is_key is_value i (pair_json key_json value_json p) f bad) parts.0
    where
      none_some : {o : Option ReadFault} → o ≡ Some f → o ≡ None → ⊥
      none_some e n = absurd (grind arith)
  no_pairs_fault i js (p ∷ pairs) f accepted listed (inl (inr (inl unlisted))) =
      let same : p.0 ≡ unlisted.0 = keys p.0 unlisted.0 (first_same unlisted.1.json) in
      true≢false (sym (listed p.0 (inl refl)) ∙ ap (is_listed eq js) same ∙ unlisted.1.listed)
    where
      first_same : {a b c d : Data} → array (item a (item b no_items)) ≡ array (item c (item d no_items)) → a ≡ c
      first_same e = grind arith
  no_pairs_fault i js (p ∷ pairs) f accepted listed (inl (inr (inr bad))) =
      let parts = nones is_key is_value (item_fault is_key is_value i (pair_json key_json value_json p)) _ accepted in
      none_some bad.2 parts.0
    where
      none_some : {o : Option ReadFault} → o ≡ Some f → o ≡ None → ⊥
      none_some e n = absurd (grind arith)
  no_pairs_fault i js (p ∷ pairs) f accepted listed (inr later) =
      let parts = nones is_key is_value (item_fault is_key is_value i (pair_json key_json value_json p)) _ accepted in
      no_pairs_fault (suc i) js pairs f parts.1 (λ k member. listed k (inr member)) later.3

  no_lists_fault : (m : Lists K V) (f : ReadFault) → IsWellFormed eq m
      → AreAccepted is_key is_value (items_of (map key_json m.keys), items_of (map (pair_json key_json value_json) m.pairs))
      → IsListsFault key_json value_json is_key is_value eq (items_of (map key_json m.keys))
      (items_of (map (pair_json key_json value_json) m.pairs)) f → ⊥
  no_lists_fault m f formed accepted (inl fault) = no_keys_fault 0 [] m.keys f accepted.keys formed.distinct (λ k member. refl) fault
  no_lists_fault m f formed accepted (inr later) =
      let same : later.0 ≡ m.keys = sym (same_items key_json keys m.keys later.0 later.1.json) in
      let listed = λ (k : K) (member : IsIn k (keys_of m.pairs)). is_listed-self laws k m.keys (formed.listed k member) in
      elim later.2 [
        | inl fault ↦ no_pairs_fault 0 m.keys m.pairs f accepted.pairs listed
            (subst (λ js. IsPairsFault key_json is_key is_value eq 0 js (items_of (map (pair_json key_json value_json) m.pairs)) f) same
            fault)
        | inr unused ↦
            let pairs_same : unused.0 ≡ m.pairs = sym (same_pairs_json key_json value_json keys values m.pairs unused.0 unused.1.json) in
            let named : under_listed eq later.0 unused.0 ≡ m.pairs = ap₂ (λ js ps. under_listed eq js ps) same pairs_same
            ∙ under_own laws m.keys m.pairs formed.distinct formed.listed in
            let none : first_unused eq 0 later.0 (keys_of (under_listed eq later.0 unused.0)) ≡ None =
            ap₂ (λ js ps. first_unused eq 0 js (keys_of ps)) same named
            ∙ none_unused laws 0 m.keys (keys_of m.pairs)
            (λ k member. is_listed-self laws k (keys_of m.pairs) (formed.used k member)) in
            absurd (none_some unused.2 none)
      ]
    where
      none_some : {o : Option ReadFault} → o ≡ Some f → o ≡ None → ⊥
      none_some e n = absurd (grind arith)

  pub no_fault_in_lists : (m : Lists K V) (f : ReadFault) → IsWellFormed eq m
      → IfSome (both_arrays (lists_json key_json value_json m)) (AreAccepted is_key is_value)
      → (f ≡ OutOfMemory → ⊥) → UnlessMemory (IsFaultIn key_json value_json is_key is_value eq (lists_json key_json value_json m)) f → ⊥
  no_fault_in_lists m f formed accepted other fault = no_lists_fault m f formed accepted
      (unless_is (IsFaultIn key_json value_json is_key is_value eq (lists_json key_json value_json m)) f other fault)

-- the pairs that stand for the keys, before all others
module _ {K V : Type 0} where
  record IsPlaceholder (keys : List K) (pairs : List (K × V)) (i : ℕ) : Type 0 where
    pair : K × V
    pair_is : drop i pairs ≡ pair ∷ drop (suc i) pairs
    key_is : drop i keys ≡ pair.0 ∷ drop (suc i) keys

  placeholder_at : (keys : List K) (pairs : List (K × V)) (i : ℕ) → keys_of (take (length keys) pairs) ≡ keys → i < length keys
      → IsPlaceholder keys pairs i
  placeholder_at [] pairs i same within = absurd (omega arith)
  placeholder_at (k ∷ keys) [] i same within = absurd (grind arith)
  placeholder_at (k ∷ keys) (p ∷ pairs) zero same within = record { pair = p; pair_is = refl; key_is = ap (λ j. j ∷ keys) (grind arith) }
  placeholder_at (k ∷ keys) (p ∷ pairs) (suc i) same within =
      let next = placeholder_at keys pairs i (grind arith) (omega arith) in
      record { pair = next.pair; pair_is = next.pair_is; key_is = next.key_is }

  keys_behind : (keys : List K) (pairs : List (K × V)) (i : ℕ) → keys_of (take (length keys) pairs) ≡ keys → i ≤ length keys
      → keys_of (drop i pairs) ≡ drop i keys ++ keys_of (drop (length keys) pairs)
  keys_behind keys pairs zero same within =
      ap keys_of (sym (take-append-drop (length keys) pairs)) ∙ keys_of-append (take (length keys) pairs) (drop (length keys) pairs)
      ∙ ap (λ ks. ks ++ keys_of (drop (length keys) pairs)) same
  keys_behind [] pairs (suc i) same within = absurd (omega arith)
  keys_behind (k ∷ keys) [] (suc i) same within = absurd (grind arith)
  keys_behind (k ∷ keys) (p ∷ pairs) (suc i) same within = keys_behind keys pairs i (grind arith) (omega arith)

module _ {K V : Type 0} {eq : K → K → Bool} (laws : IsEquivalence eq) where
  -- the next pair that stands for a key goes: its key goes with it exactly if it is unused
  pub record PlaceholderGoes (m : Lists K V) (keys : List K) (pairs : List (K × V)) (i : ℕ) : Type 0 where
    pub some : has_items m.pairs ≡ true
    pub unused : is_owned_pop (popped_pair eq Front m.pairs) ≡ true
        → first_unused eq i (drop i keys) (keys_of (drop (length keys) pairs)) ≡ Some (UnusedKey i)
    pub used : is_owned_pop (popped_pair eq Front m.pairs) ≡ false
        → first_unused eq i (drop i keys) (keys_of (drop (length keys) pairs)) ≡ first_unused eq (suc i) (drop (suc i) keys)
        (keys_of (drop (length keys) pairs))
    pub left : is_owned_pop (popped_pair eq Front m.pairs) ≡ false → popped eq Front m ≡ lists keys (drop (suc i) pairs)

  pub placeholder_goes : (m : Lists K V) (keys : List K) (pairs : List (K × V)) (i : ℕ) → keys_of (take (length keys) pairs) ≡ keys
      → i < length keys
      → m ≡ lists keys (drop i pairs) → IsWellFormed eq m → PlaceholderGoes m keys pairs i
  placeholder_goes m keys pairs i same within is formed =
      let next = placeholder_at keys pairs i same within in
      let p : K × V = next.pair in
      let rest : List (K × V) = drop (suc i) pairs in
      let others : List K = keys_of (drop (length keys) pairs) in
      let pairs_are : m.pairs ≡ p ∷ rest = ap (λ l. l.pairs) is ∙ next.pair_is in
      let keys_are : m.keys ≡ keys = ap (λ l. l.keys) is in
      let distinct : IsDistinct eq keys = subst (IsDistinct eq) keys_are formed.distinct in
      let behind : is_listed eq (drop (suc i) keys) p.0 ≡ false = distinct_behind laws keys
      (drop (suc i) keys) p.0 i distinct next.key_is in
      let named : is_listed eq (keys_of rest) p.0 ≡ is_listed eq others p.0 =
      ap (λ js. is_listed eq js p.0) (keys_behind keys pairs (suc i) same (omega (arith, within)))
      ∙ listed_behind laws (drop (suc i) keys) others p.0 behind in
      let owned : is_owned_pop (popped_pair eq Front m.pairs) ≡ not (is_listed eq others p.0) =
      ap (λ ps. is_owned_pop (popped_pair eq Front ps)) pairs_are ∙ ap not named in
      record {
        some = ap has_items pairs_are;
        unused = λ gone. ap (λ js. first_unused eq i js others) next.key_is
            ∙ ap (λ b. cond b (first_unused eq (suc i) (drop (suc i) keys) others) (Some (UnusedKey i))) (not_true _ (sym owned ∙ gone));
        used = λ stays. ap (λ js. first_unused eq i js others) next.key_is
            ∙ ap (λ b. cond b (first_unused eq (suc i) (drop (suc i) keys) others) (Some (UnusedKey i))) (not_false _ (sym owned ∙ stays));
        left = λ stays.
            let used = λ (k : K) (member : IsIn k m.keys). subst (λ ps. IsIn k (keys_of ps)) pairs_are (formed.used k member) in
            let all : keys_named_by eq m.keys rest ≡ m.keys = all_named laws m.keys p rest used (named ∙ not_false _ (sym owned ∙ stays)) in
            ap (popped eq Front) (ap (λ ps. lists m.keys ps) pairs_are) ∙ ap (λ js. lists js rest) (all ∙ keys_are);
      }
    where
      not_true : (b : Bool) → not b ≡ true → b ≡ false
      not_true true e = absurd (true≢false (sym e))
      not_true false e = refl

      not_false : (b : Bool) → not b ≡ false → b ≡ true
      not_false true e = refl
      not_false false e = absurd (true≢false e)

-- a pair goes last, under the listed keys
module _ {K V : Type 0} (eq : K → K → Bool) where
  pub one_under : (keys : List K) (first pairs : List (K × V)) (p : K × V) (m n : Lists K V)
      → m ≡ lists keys (first ++ under_listed eq keys pairs)
      → n ≡ lists m.keys (m.pairs ++ (stored_key eq m.keys p.0, p.1) ∷ [])
      → n ≡ lists keys (first ++ under_listed eq keys (pairs ++ p ∷ []))
  one_under keys first pairs p m n before is =
      let under : K × V → K × V = λ q. (stored_key eq keys q.0, q.1) in
      is ∙ ap (λ l. lists l.keys (l.pairs ++ (stored_key eq l.keys p.0, p.1) ∷ [])) before
      ∙ ap (lists keys) (append_assoc first (under_listed eq keys pairs) (under p ∷ [])
      ∙ ap (λ ps. first ++ ps) (sym (map-append under pairs (p ∷ []))))

  pub each_listed-push : (keys : List K) (pairs : List (K × V)) (p : K × V)
      → ((k : K) → IsIn k (keys_of pairs) → is_listed eq keys k ≡ true)
      → is_listed eq keys p.0 ≡ true → (k : K) → IsIn k (keys_of (pairs ++ p ∷ [])) → is_listed eq keys k ≡ true
  each_listed-push keys [] p each last k (inl here) = ap (is_listed eq keys) here ∙ last
  each_listed-push keys [] p each last k (inr never) = absurd never
  each_listed-push keys (q ∷ pairs) p each last k (inl here) = each k (inl here)
  each_listed-push keys (q ∷ pairs) p each last k (inr later) = each_listed-push keys pairs p (λ j member. each j (inr member)) last k later

-- a key or a pair goes into a map
module _ {K V : Type 0} {eq : K → K → Bool} (laws : IsEquivalence eq) where
  pub appended_new : (m : Lists K V) (k : K) (v : V) → is_listed eq m.keys k ≡ false
      → appended eq m k v ≡ lists (m.keys ++ k ∷ []) (m.pairs ++ (k, v) ∷ [])
  appended_new m k v absent =
      ap (λ b. lists (cond b m.keys (m.keys ++ k ∷ [])) (m.pairs ++ (stored_key eq m.keys k, v) ∷ [])) absent
      ∙ ap (λ j. lists (m.keys ++ k ∷ []) (m.pairs ++ (j, v) ∷ [])) (stored_key_absent laws k m.keys absent)

  pub appended_old : (m : Lists K V) (k : K) (v : V) → is_listed eq m.keys k ≡ true
      → appended eq m k v ≡ lists m.keys (m.pairs ++ (stored_key eq m.keys k, v) ∷ [])
  appended_old m k v listed = ap (λ b. lists (cond b m.keys (m.keys ++ k ∷ [])) (m.pairs ++ (stored_key eq m.keys k, v) ∷ [])) listed

  pub one_placeholder : (m n : Lists K V) (k : K) (v : V) → keys_of m.pairs ≡ m.keys → n ≡ lists (m.keys ++ k ∷ []) (m.pairs ++ (k, v) ∷ [])
      → keys_of n.pairs ≡ n.keys
  one_placeholder m n k v same is =
      ap (λ l. keys_of l.pairs) is ∙ keys_of-append m.pairs ((k, v) ∷ []) ∙ ap (λ ks. ks ++ k ∷ []) same ∙ sym (ap (λ l. l.keys) is)

  pub listed_if_named : (m : Lists K V) (k : K) → keys_of m.pairs ≡ m.keys → is_present eq m.pairs k ≡ is_listed eq m.keys k
  listed_if_named m k same = is_present-is_listed eq k m.pairs ∙ ap (λ ks. is_listed eq ks k) same

  pub comes_new : (m n : Lists K V) (k : K) (v : V) (present : Bool) → keys_of m.pairs ≡ m.keys → present ≡ is_present eq m.pairs k
      → present ≡ false → n ≡ appended eq m k v
      → (is_listed eq m.keys k ≡ false) × (n ≡ lists (m.keys ++ k ∷ []) (m.pairs ++ (k, v) ∷ []))
  comes_new m n k v present same told absent is =
      let unlisted = sym (listed_if_named m k same) ∙ sym told ∙ absent in
      (unlisted, is ∙ appended_new m k v unlisted)
