-- What is wrong with a JSON value of both lists of a map, and which bad item is the first.
use Rattle.std.proofs.Common.{◌≡◌, ◌⊎◌, ℕ, suc, ◌==◌, Bool, true, false, cond, List, [], ◌∷◌, ◌++◌, length, map, Some, None, refl, sym, ap}
use Rattle.std.proofs.Common.{ap₂, ◌∙◌, subst, arith, inl, inr}
use Rattle.std.specs.List.{IsDistinct}
use Rattle.std.specs.Map.{keys_of}
use Rattle.serde_json.specs.Data.{Data, array, item, no_items}
use Rattle.serde_json.specs.View.{view, items_of, items_view}
use Rattle.serde_json.specs.declared.value.Value.{Value}
use Rattle.ordered_multimap.specs.Lists.{Lists, lists}
use Rattle.ordered_multimap.specs.Keys.{is_listed}
use Rattle.multimap_tool.specs.Json.{item_fault, first_fault, pair_json}
use Rattle.multimap_tool.specs.JsonLists.{first_unused, IsReadKey, AreReadKeys, IsListedKeyFault, IsKeysFault, HasListedKey, IsPairFault}
use Rattle.multimap_tool.specs.JsonLists.{IsPairsFault, IsListsFault, AreReadLists}
use Rattle.multimap_tool.specs.declared.json.faults.ReadFault.{ReadFault}
use Rattle.multimap_tool.specs.declared.json.faults.ReadFault.TheVariants.{BadKey, BadValue, UnusedKey}

-- the first bad item is the first one, or it comes later
module _ {K : Type 0} (key_json : K → Data) (is_key is_value : Data → Bool) (eq : K → K → Bool) where
  pub keys_fault_here : (i : ℕ) (earlier : List K) (vs rest : List Value) (v : Value) (f : ReadFault) → vs ≡ v ∷ rest
      → IsListedKeyFault key_json is_key eq i earlier (view v) f → IsKeysFault key_json is_key eq i earlier (items_view vs) f
  keys_fault_here i earlier vs rest v f are is = subst (λ ws. IsKeysFault key_json is_key eq i earlier (items_view ws) f) (sym are) (inl is)

  pub keys_fault_later : (i j : ℕ) (earlier next : List K) (vs rest : List Value) (v : Value) (k : K) (f : ReadFault) → vs ≡ v ∷ rest
      → j ≡ suc i → next ≡ earlier ++ k ∷ []
      → IsReadKey key_json is_key eq (view v) k → is_listed eq earlier k ≡ false → IsKeysFault key_json is_key eq j next (items_view rest) f
      → IsKeysFault key_json is_key eq i earlier (items_view vs) f
  keys_fault_later i j earlier next vs rest v k f are one more read new is =
      subst (λ ws. IsKeysFault key_json is_key eq i earlier (items_view ws) f) (sym are)
      (inr (
        k,
        read,
        new,
        subst (λ n. IsKeysFault key_json is_key eq n (earlier ++ k ∷ []) (items_view rest) f) one
            (subst (λ ks. IsKeysFault key_json is_key eq j ks (items_view rest) f) more is),
      ))

  pub pairs_fault_here : (i : ℕ) (keys : List K) (vs rest : List Value) (v : Value) (f : ReadFault) → vs ≡ v ∷ rest
      → IsPairFault key_json is_key is_value eq i keys (view v) f → IsPairsFault key_json is_key is_value eq i keys (items_view vs) f
  pairs_fault_here i keys vs rest v f are is = subst (λ ws. IsPairsFault key_json is_key is_value eq i keys (items_view ws) f) (sym are)
      (inl is)

  pub pairs_fault_later : {V : Type 0} (value_json : V → Data) (i j : ℕ) (keys : List K) (vs rest : List Value) (v : Value) (p : K × V)
      (f : ReadFault) → vs ≡ v ∷ rest → j ≡ suc i
      → view v ≡ pair_json key_json value_json p → ((n : ℕ) → item_fault is_key is_value n (view v) ≡ None) → is_listed eq keys p.0 ≡ true
      → IsPairsFault key_json is_key is_value eq j keys (items_view rest) f
      → IsPairsFault key_json is_key is_value eq i keys (items_view vs) f
  pairs_fault_later value_json i j keys vs rest v p f are one json good listed is =
      let has : HasListedKey key_json is_key is_value eq true keys (view v) p.0 =
      record {
        value = value_json p.1;
        json = json;
        accepted = good_key (key_json p.0) (value_json p.1)
            (ap (item_fault is_key is_value i) (sym json) ∙ good i);
        listed = listed;
      } in
      subst (λ ws. IsPairsFault key_json is_key is_value eq i keys (items_view ws) f) (sym are)
      (inr (p.0, has, good i, subst (λ n. IsPairsFault key_json is_key is_value eq n keys (items_view rest) f) one is))
    where
      good_key : (a b : Data) → item_fault is_key is_value i (array (item a (item b no_items))) ≡ None → is_key a ≡ true
      good_key a b none =
          let P : Bool → Type 0 = λ t. cond t (cond (is_value b) None (Some (BadValue i))) (Some (BadKey i)) ≡ None → t ≡ true in
          elim (is_key a) as P [ true ↦ λ _. refl | false ↦ λ never. absurd (grind arith) ] none

-- a map of nothing, and what is wrong where there is no value
module _ {K V : Type 0} (key_json : K → Data) (value_json : V → Data) (is_key is_value : Data → Bool) (eq : K → K → Bool) where
  pub nothing_read : (xs ys : List Value) (m : Lists K V) → length xs == 0 ≡ true → length ys == 0 ≡ true → m ≡ lists [] []
      → AreReadLists key_json value_json is_key is_value eq (items_view xs) (items_view ys) m
  unfolding IsDistinct
  nothing_read (x ∷ xs) ys m none no_pairs is = absurd (grind arith)
  nothing_read [] (y ∷ ys) m none no_pairs is = absurd (grind arith)
  nothing_read [] [] m none no_pairs is = record {
    keys_are = record {
      json = ap (λ (l : Lists K V). items_of (map key_json l.keys)) (sym is);
      accepted = refl;
      distinct = subst (λ (l : Lists K V). IsDistinct eq l.keys) (sym is) tt;
    };
    pairs = [];
    pairs_are = record { json = refl; accepted = refl; listed = λ k never. absurd never };
    stored = ap (λ l. l.pairs) is;
    used = ap (λ l. first_unused eq 0 l.keys (keys_of l.pairs)) is;
  }

  pub fault_of_none : (xs ys : List Value) (keys : List K) (f : ReadFault) → AreReadKeys key_json is_key eq (items_view xs) keys
      → (length xs ≡ 0 → length ys ≡ 0 → ⊥)
      → IsPairsFault key_json is_key is_value eq 0 keys (items_view ys) f ⊎ ((ys ≡ []) × (f ≡ UnusedKey 0))
      → IsListsFault key_json value_json is_key is_value eq (items_view xs) (items_view ys) f
  fault_of_none xs ys keys f read some (inl bad) = inr (keys, read, inl bad)
  fault_of_none [] ys keys f read some (inr unused) = absurd (some refl (ap length unused.0))
  fault_of_none (x ∷ xs) ys [] f read some (inr unused) = absurd (no_item read.json)
    where
      no_item : item (view x) (items_view xs) ≡ no_items → ⊥
      no_item e = absurd (grind arith)
  fault_of_none (x ∷ xs) ys (k ∷ keys) f read some (inr unused) = inr (
    k ∷ keys,
    read,
    inr (
      [],
      record {
        json = ap (λ vs. array (items_view vs)) unused.0;
        accepted = ap (λ vs. first_fault is_key is_value 0 (items_view vs)) unused.0;
        listed = λ j never. absurd never;
      },
      ap Some (sym unused.1),
    ),
  )

  pub pair_is_good : (i : ℕ) (p : K × V) → is_key (key_json p.0) ≡ true → is_value (value_json p.1) ≡ true
      → item_fault is_key is_value i (pair_json key_json value_json p) ≡ None
  pair_is_good i p key value = ap₂ (λ a b. cond a (cond b None (Some (BadValue i))) (Some (BadKey i))) key value
