-- What of the pairs of a set is a set again.
use Rattle.std.proofs.Common.{◌≡◌, Bool, true, false, not, cond, ◌&&◌, ◌||◌, ℕ, zero, suc, ◌-◌, List, [], ◌∷◌, filter, length, take, map, slice_get, Some, None}
use Rattle.std.proofs.Common.{refl, sym, ap, ◌∙◌}
use Rattle.std.proofs.lemmas.Map.Keys.{IsDistinct-push}
use Rattle.std.specs.Cmp.{IsEquivalence, and_equiv, on_equiv}
use Rattle.std.specs.List.{AllByRecursion, AllZip, IsDistinct, list_any, remove}
use Rattle.ordered_multimap.proofs.Callers.ListedKeys.{IsDistinct-filter, stored_key_absent, stored_key_member}
use Rattle.ordered_multimap.proofs.Callers.OneValue.{without}
use Rattle.ordered_multimap.specs.Changes.{appended, kept, removed_where}
use Rattle.ordered_multimap.specs.Clones.{AreClones, IsPairClone}
use Rattle.ordered_multimap.specs.End.{End}
use Rattle.ordered_multimap.specs.End.TheVariants.{Front, Back}
use Rattle.ordered_multimap.specs.Keys.{is_listed, stored_key}
use Rattle.ordered_multimap.specs.Lists.{Lists, empty_lists}
use Rattle.ordered_multimap.specs.OneValue.{index_removed}
use Rattle.ordered_multimap.specs.Pairs.{has_items, positions_where, values_where}
use Rattle.ordered_multimap.specs.Popped.{popped}
use Rattle.ordered_multimap.specs.Walk.{end_rest}
use Rattle.set_ordered_multimap.specs.Laws.{ChangesKeepSets}
use Rattle.set_ordered_multimap.specs.Set.{same_pair, has_pair, has_pair_where, pairs_but_where, IsSet, set_inserted, value_removed_where, all_inserted}

pub or_false : (b : Bool) → (b || false) ≡ b
or_false b = elim b as (λ c. (c || false) ≡ c) [ true ↦ refl | false ↦ refl ]

-- the pair is there exactly if an equal value is among those of its key
pub has_pair-values : {K V : Type 0} (accepts : K → Bool) (value_eq : V → V → Bool) (pairs : List (K × V)) (v : V)
    → list_any (value_eq v) (values_where accepts pairs) ≡ has_pair_where accepts value_eq pairs v
has_pair-values accepts value_eq [] v = refl
has_pair-values {K} {V} accepts value_eq (p ∷ pairs) v =
    let rest : List (K × V) = filter (λ q. accepts q.0) pairs in
    let P : Bool → Type 0 = λ b. list_any (value_eq v) (map (λ q. q.1) (cond b (p ∷ rest) rest))
    ≡ ((b && value_eq v p.1) || has_pair_where accepts value_eq pairs v) in
    elim (accepts p.0) as P [
      | true ↦ ap (λ b. value_eq v p.1 || b) (has_pair-values accepts value_eq pairs v)
      | false ↦ has_pair-values accepts value_eq pairs v
    ]

module _ {X : Type 0} where
  -- of the first items holds what holds of all
  AllByRecursion-take : (P : X → Type 0) (n : ℕ) (xs : List X) → AllByRecursion P xs → AllByRecursion P (take n xs)
  AllByRecursion-take P zero xs all = tt
  AllByRecursion-take P (suc n) [] all = tt
  AllByRecursion-take P (suc n) (x ∷ xs) all = (all.0, AllByRecursion-take P n xs all.1)

  IsDistinct-take : (eq : X → X → Bool) (n : ℕ) (xs : List X) → IsDistinct eq xs → IsDistinct eq (take n xs)
  unfolding IsDistinct
  IsDistinct-take eq zero xs distinct = tt
  IsDistinct-take eq (suc n) [] distinct = tt
  IsDistinct-take eq (suc n) (x ∷ xs) distinct =
      (AllByRecursion-take (λ y. eq x y ≡ false) n xs distinct.0, IsDistinct-take eq n xs distinct.1)

  IsDistinct-end_rest : (eq : X → X → Bool) (end : End) (xs : List X) → IsDistinct eq xs → IsDistinct eq (end_rest end xs)
  unfolding IsDistinct
  IsDistinct-end_rest eq Front [] distinct = tt
  IsDistinct-end_rest eq Front (x ∷ xs) distinct = distinct.1
  IsDistinct-end_rest eq Back xs distinct = IsDistinct-take eq (length xs - 1) xs distinct

  -- so it does of all but one
  AllByRecursion-remove : (P : X → Type 0) (n : ℕ) (xs : List X) → AllByRecursion P xs → AllByRecursion P (remove xs n)
  AllByRecursion-remove P zero [] all = tt
  AllByRecursion-remove P (suc n) [] all = tt
  AllByRecursion-remove P zero (x ∷ xs) all = all.1
  AllByRecursion-remove P (suc n) (x ∷ xs) all = (all.0, AllByRecursion-remove P n xs all.1)

  IsDistinct-remove : (eq : X → X → Bool) (n : ℕ) (xs : List X) → IsDistinct eq xs → IsDistinct eq (remove xs n)
  unfolding IsDistinct
  IsDistinct-remove eq zero [] distinct = tt
  IsDistinct-remove eq (suc n) [] distinct = tt
  IsDistinct-remove eq zero (x ∷ xs) distinct = distinct.1
  IsDistinct-remove eq (suc n) (x ∷ xs) distinct =
      (AllByRecursion-remove (λ y. eq x y ≡ false) n xs distinct.0, IsDistinct-remove eq n xs distinct.1)

  -- items that stand for those of another list, one for one, differ as those do
  AllByRecursion-zip : (R : X → X → Type 0) (eq : X → X → Bool) (x c : X)
      → ((y d : X) → R y d → eq c d ≡ eq x y) → (xs cs : List X) → AllZip R xs cs
      → AllByRecursion (λ y. eq x y ≡ false) xs → AllByRecursion (λ d. eq c d ≡ false) cs
  AllByRecursion-zip R eq x c same [] [] zipped all = tt
  AllByRecursion-zip R eq x c same [] (d ∷ cs) zipped all = absurd zipped
  AllByRecursion-zip R eq x c same (y ∷ xs) [] zipped all = absurd zipped
  AllByRecursion-zip R eq x c same (y ∷ xs) (d ∷ cs) zipped all =
      (same y d zipped.0 ∙ all.0, AllByRecursion-zip R eq x c same xs cs zipped.1 all.1)

  pub IsDistinct-zip : (R : X → X → Type 0) (eq : X → X → Bool) → ((x c y d : X) → R x c → R y d → eq c d ≡ eq x y)
      → (xs cs : List X) → AllZip R xs cs → IsDistinct eq xs → IsDistinct eq cs
  unfolding IsDistinct
  IsDistinct-zip R eq same [] [] zipped distinct = tt
  IsDistinct-zip R eq same [] (d ∷ cs) zipped distinct = absurd zipped
  IsDistinct-zip R eq same (x ∷ xs) [] zipped distinct = absurd zipped
  IsDistinct-zip R eq same (x ∷ xs) (c ∷ cs) zipped distinct = (
    AllByRecursion-zip R eq x c (λ y d. same x c y d zipped.0) xs cs zipped.1 distinct.0,
    IsDistinct-zip R eq same xs cs zipped.1 distinct.1,
  )

-- no pair is a set
pub IsSet-empty : {K V : Type 0} (eq : K → K → Bool) (value_eq : V → V → Bool) → IsSet eq value_eq empty_lists
unfolding IsDistinct
IsSet-empty eq value_eq = tt

module _ {K V : Type 0} {eq : K → K → Bool} {value_eq : V → V → Bool} (keys : IsEquivalence eq) (values : IsEquivalence value_eq) where
  -- so equality of pairs is an equivalence
  pub pair_laws : IsEquivalence (same_pair eq value_eq)
  pair_laws = and_equiv (on_equiv (λ p. p.0) keys) (on_equiv (λ p. p.1) values)

  -- under the stored key a pair is equal to the same pairs
  pub has_pair-stored : (m : Lists K V) (pairs : List (K × V)) (k : K) (v : V)
      → has_pair eq value_eq pairs (stored_key eq m.keys k) v ≡ has_pair eq value_eq pairs k v
  has_pair-stored m pairs k v = alike pairs
    where
      stored : (j : K) → eq (stored_key eq m.keys k) j ≡ eq k j
      stored j = elim (is_listed eq m.keys k) as (λ b. is_listed eq m.keys k ≡ b → eq (stored_key eq m.keys k) j ≡ eq k j) [
        | true ↦ λ listed. sym (keys.congr k (stored_key eq m.keys k) j (stored_key_member keys k m.keys listed).1)
        | false ↦ λ absent. ap (λ i. eq i j) (stored_key_absent keys k m.keys absent)
      ] refl

      alike : (ps : List (K × V)) → has_pair eq value_eq ps (stored_key eq m.keys k) v ≡ has_pair eq value_eq ps k v
      alike [] = refl
      alike (p ∷ ps) = λ i. (stored p.0 i && value_eq v p.1) || alike ps i

  -- pairs with one more at the end
  pub IsSet-appended : (m : Lists K V) (k : K) (v : V) → has_pair eq value_eq m.pairs k v ≡ false → IsSet eq value_eq m
      → IsSet eq value_eq (appended eq m k v)
  IsSet-appended m k v absent set =
      IsDistinct-push pair_laws m.pairs (stored_key eq m.keys k, v) set (has_pair-stored m m.pairs k v ∙ absent)

  pub IsSet-inserted : (m : Lists K V) (k : K) (v : V) → IsSet eq value_eq m → IsSet eq value_eq (set_inserted eq value_eq m k v)
  IsSet-inserted m k v set = elim (has_pair eq value_eq m.pairs k v) as
      (λ b. has_pair eq value_eq m.pairs k v ≡ b → IsSet eq value_eq (cond b m (appended eq m k v))) [
        | true ↦ λ there. set
        | false ↦ λ absent. IsSet-appended m k v absent set
      ] refl

  pub IsSet-all_inserted : (m : Lists K V) (pairs : List (K × V)) → IsSet eq value_eq m
      → IsSet eq value_eq (all_inserted eq value_eq m pairs)
  IsSet-all_inserted m [] set = set
  IsSet-all_inserted m (p ∷ pairs) set = IsSet-all_inserted (set_inserted eq value_eq m p.0 p.1) pairs (IsSet-inserted m p.0 p.1 set)

  -- some of the pairs
  pub IsSet-kept : (m : Lists K V) (test : K × V → Bool) → IsSet eq value_eq m → IsSet eq value_eq (kept eq m (filter test m.pairs))
  IsSet-kept m test set = IsDistinct-filter pair_laws test m.pairs set

  pub IsSet-value_removed : (accepts : K → Bool) (m : Lists K V) (v : V) → IsSet eq value_eq m
      → IsSet eq value_eq (value_removed_where eq value_eq accepts m v)
  IsSet-value_removed accepts m v set = elim (has_pair_where accepts value_eq m.pairs v) as
      (λ b. IsSet eq value_eq (cond b (kept eq m (pairs_but_where accepts value_eq m.pairs v)) m)) [
        | true ↦ IsSet-kept m (λ p. not (accepts p.0 && value_eq v p.1)) set
        | false ↦ set
      ]

  pub IsSet-removed : (accepts : K → Bool) (m : Lists K V) → IsSet eq value_eq m → IsSet eq value_eq (removed_where eq accepts m)
  IsSet-removed accepts m set = IsSet-kept m (λ p. not (accepts p.0)) set

  -- the pairs but the one of a value at an index
  pub IsSet-index_removed : (accepts : K → Bool) (m : Lists K V) (index : ℕ) → IsSet eq value_eq m
      → IsSet eq value_eq (index_removed eq accepts m index)
  IsSet-index_removed accepts m index set = elim (slice_get (positions_where accepts m.pairs) index) as
      (λ o. IsDistinct (same_pair eq value_eq) (without accepts m.pairs o)) [
        | None ↦ set
        | Some i ↦ IsDistinct-remove (same_pair eq value_eq) i m.pairs set
      ]

  -- the pairs but the one at an end
  pub IsSet-popped : (end : End) (m : Lists K V) → IsSet eq value_eq m → IsSet eq value_eq (popped eq end m)
  IsSet-popped end m set = elim (has_items m.pairs) as (λ b. IsSet eq value_eq (cond b (kept eq m (end_rest end m.pairs)) m)) [
    | true ↦ IsDistinct-end_rest (same_pair eq value_eq) end m.pairs set
    | false ↦ set
  ]

  pub changes_keep_sets : ChangesKeepSets eq value_eq
  changes_keep_sets = record {
    inserted = IsSet-inserted;
    value_removed = λ m k v. IsSet-value_removed (eq k) m v;
    index_removed = λ m k. IsSet-index_removed (eq k) m;
    removed = λ m k. IsSet-removed (eq k) m;
    popped = IsSet-popped;
  }

  -- clones that are equal to their originals
  pub IsSet-cloned : (key_clone : K → K → Type 0) (value_clone : V → V → Type 0) → ((v c : V) → value_clone v c → value_eq v c ≡ true)
      → (m n : Lists K V) → AreClones eq key_clone value_clone m n → IsSet eq value_eq m → IsSet eq value_eq n
  IsSet-cloned key_clone value_clone equal m n clones set =
      IsDistinct-zip (IsPairClone eq key_clone value_clone) (same_pair eq value_eq) alike m.pairs n.pairs clones.pairs set
    where
      alike : (p c q d : K × V) → IsPairClone eq key_clone value_clone p c → IsPairClone eq key_clone value_clone q d
          → same_pair eq value_eq c d ≡ same_pair eq value_eq p q
      alike p c q d first second =
          let pc : same_pair eq value_eq p c ≡ true = λ i. first.0.1 i && equal p.1 c.1 first.1 i in
          let qd : same_pair eq value_eq q d ≡ true = λ i. second.0.1 i && equal q.1 d.1 second.1 i in
          sym (pair_laws.congr p c d pc) ∙ pair_laws.symm p d ∙ sym (pair_laws.congr q d p qd) ∙ pair_laws.symm q p
