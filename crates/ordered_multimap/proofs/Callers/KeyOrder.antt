-- The order of keys between two lists.
use Rattle.std.proofs.Common.{◌≡◌, Bool, true, false, not, cond, ◌||◌, List, [], ◌∷◌, ◌++◌, filter, refl, sym, ap, ◌∙◌}
use Rattle.std.proofs.lemmas.List.{append-nil}
use Rattle.std.proofs.lemmas.List.Elements.{filter-append}
use Rattle.std.specs.Cmp.{IsEquivalence}
use Rattle.std.specs.Map.{keys_of}
use Rattle.multimap_slots.specs.Lists.{IsIn}
use Rattle.multimap_walks.specs.declared.End.{End}
use Rattle.multimap_walks.specs.Walk.{end_rest}
use Rattle.ordered_multimap.specs.Lists.{Lists}
use Rattle.ordered_multimap.specs.Pairs.{has_items}
use Rattle.ordered_multimap.specs.Changes.{kept, first_written, end_written}
use Rattle.ordered_multimap.specs.Popped.{popped}
use Rattle.ordered_multimap.specs.Keys.{is_listed, keys_with, keys_named_by, KeepsKeyOrder}
use Rattle.multimap_slots.proofs.Callers.PlaceLists.{IsIn-kept, IsIn-left}
use Rattle.ordered_multimap.proofs.Callers.Members.{IsIn-filter, filter-all, filter-none}
use Rattle.ordered_multimap.proofs.Callers.ListedKeys.{is_listed-self, stored_key_member}
use Rattle.ordered_multimap.proofs.Callers.Places.{filter-agree}

module _ {K : Type 0} {eq : K → K → Bool} (laws : IsEquivalence eq) where
  -- the old keys that are listed again, and those that are not
  old_kept : (keys more : List K) → filter (is_listed eq (keys ++ more)) keys ≡ keys
  old_kept keys more = filter-all (is_listed eq (keys ++ more)) keys
      (λ k member. is_listed-self laws k (keys ++ more) (IsIn-left k keys more member))

  old_not_new : (keys : List K) → filter (λ k. not (is_listed eq keys k)) keys ≡ []
  old_not_new keys = filter-none (λ k. not (is_listed eq keys k)) keys (λ k member. ap not (is_listed-self laws k keys member))

  -- keys that stay keep their order
  pub KeepsKeyOrder-same : (keys : List K) → KeepsKeyOrder eq keys keys
  KeepsKeyOrder-same keys =
      let stays : filter (is_listed eq keys) keys ≡ keys = filter-all (is_listed eq keys) keys
      (λ k member. is_listed-self laws k keys member) in
      sym (ap (λ new. filter (is_listed eq keys) keys ++ new) (old_not_new keys) ∙ append-nil _ ∙ stays)

  -- and so they do where a key comes
  pub KeepsKeyOrder-keys_with : (keys : List K) (k : K) → KeepsKeyOrder eq keys (keys_with eq keys k)
  KeepsKeyOrder-keys_with keys k =
      let P : Bool → Type 0 = λ b. is_listed eq keys k ≡ b → KeepsKeyOrder eq keys (cond b keys (keys ++ k ∷ [])) in
      elim (is_listed eq keys k) as P [
        | true ↦ λ _. KeepsKeyOrder-same keys
        | false ↦ λ absent.
            let new : filter (λ j. not (is_listed eq keys j)) (keys ++ k ∷ []) ≡ k ∷ [] =
            filter-append (λ j. not (is_listed eq keys j)) keys (k ∷ [])
            ∙ ap (λ old. old ++ filter (λ j. not (is_listed eq keys j)) (k ∷ [])) (old_not_new keys)
            ∙ ap (λ b. cond (not b) (k ∷ []) []) absent in
            sym (ap (λ new. filter (is_listed eq (keys ++ k ∷ [])) keys ++ new) new ∙ ap (λ old. old ++ k ∷ []) (old_kept keys (k ∷ [])))
      ] refl

  -- equal keys are listed alike
  is_listed-alike : (names : List K) (j k : K) → eq j k ≡ true → is_listed eq names j ≡ is_listed eq names k
  is_listed-alike [] j k e = refl
  is_listed-alike (i ∷ names) j k e = (λ n. laws.congr j k i e n || is_listed-alike names j k e n)

  -- keys that are told by what is alike for equal ones keep their order
  KeepsKeyOrder-filter : (test : K → Bool) (keys : List K) → ((j k : K) → eq j k ≡ true → test j ≡ test k)
      → KeepsKeyOrder eq keys (filter test keys)
  KeepsKeyOrder-filter test keys alike =
      sym (ap (λ new. filter (is_listed eq (filter test keys)) keys ++ new) none ∙ append-nil _
      ∙ filter-agree (is_listed eq (filter test keys)) test keys (λ k member. same k member))
    where
      none : filter (λ k. not (is_listed eq keys k)) (filter test keys) ≡ []
      none = filter-none (λ k. not (is_listed eq keys k)) (filter test keys)
          (λ k member. ap not (is_listed-self laws k keys (IsIn-kept test k keys member).0))

      same : (k : K) → IsIn k keys → is_listed eq (filter test keys) k ≡ test k
      same k member = elim (test k) as (λ b. test k ≡ b → is_listed eq (filter test keys) k ≡ b) [
        | true ↦ λ e. is_listed-self laws k (filter test keys) (IsIn-filter test k keys e member)
        | false ↦ λ e. elim (is_listed eq (filter test keys) k) as (λ b. is_listed eq (filter test keys) k ≡ b → b ≡ false) [
          | true ↦ λ found. let s = stored_key_member laws k (filter test keys) found in
              sym (IsIn-kept test _ keys s.0).1 ∙ sym (alike k _ s.1) ∙ e
          | false ↦ λ _. refl
        ] refl
      ] refl

  pub KeepsKeyOrder-named_by : {V : Type 0} (keys : List K) (pairs : List (K × V)) → KeepsKeyOrder eq keys (keys_named_by eq keys pairs)
  KeepsKeyOrder-named_by keys pairs = KeepsKeyOrder-filter (is_listed eq (keys_of pairs)) keys (is_listed-alike (keys_of pairs))

  pub KeepsKeyOrder-none : (keys : List K) → KeepsKeyOrder eq keys []
  KeepsKeyOrder-none keys = sym (append-nil _ ∙ filter-none (is_listed eq []) keys (λ k member. refl))

  pub KeepsKeyOrder-popped : {V : Type 0} (end : End) (m : Lists K V) → KeepsKeyOrder eq m.keys (popped eq end m).keys
  KeepsKeyOrder-popped {V} end m = elim (has_items m.pairs) as
      (λ b. KeepsKeyOrder eq m.keys (let l : Lists K V = cond b (kept eq m (end_rest end m.pairs)) m in l.keys)) [
        | true ↦ KeepsKeyOrder-named_by m.keys (end_rest end m.pairs)
        | false ↦ KeepsKeyOrder-same m.keys
      ]

  -- a write leaves the keys
  pub KeepsKeyOrder-first_written : {V : Type 0} (m : Lists K V) (k : K) (v : V)
      → KeepsKeyOrder eq m.keys (let l : Lists K V = first_written eq m k v in l.keys)
  KeepsKeyOrder-first_written m k v = KeepsKeyOrder-same m.keys

  pub KeepsKeyOrder-end_written : {V : Type 0} (end : End) (m : Lists K V) (v : V)
      → KeepsKeyOrder eq m.keys (let l : Lists K V = end_written end m v in l.keys)
  KeepsKeyOrder-end_written end m v = KeepsKeyOrder-same m.keys
