-- Pairs that are inserted in turn leave each pair once, at its first occurrence.
use Rattle.std.proofs.Common.{◌≡◌, Bool, true, false, not, cond, ◌&&◌, ◌||◌, List, [], ◌∷◌, ◌++◌, filter, refl, sym, ap, ◌∙◌}
use Rattle.std.proofs.lemmas.List.Folds.{list_any-append}
use Rattle.std.specs.Cmp.{IsEquivalence}
use Rattle.ordered_multimap.specs.Changes.{appended, all_appended}
use Rattle.ordered_multimap.specs.Keys.{stored_key}
use Rattle.ordered_multimap.specs.Lists.{Lists, empty_lists}
use Rattle.set_ordered_multimap.proofs.Callers.Sets.{or_false, pair_laws, has_pair-stored}
use Rattle.set_ordered_multimap.specs.Laws.{KeepsFirstPairs}
use Rattle.set_ordered_multimap.specs.Set.{same_pair, has_pair, all_inserted, first_pairs, set_inserted}

module _ {X : Type 0} where
  -- where the first test passes over all that the second passes over, the second changes nothing
  filter-absorbs : (test other : X → Bool) → ((x : X) → other x ≡ false → test x ≡ false) → (xs : List X)
      → filter test (filter other xs) ≡ filter test xs
  filter-absorbs test other over [] = refl
  filter-absorbs test other over (x ∷ xs) =
      let rest = filter-absorbs test other over xs in
      let P : Bool → Type 0 = λ b. other x ≡ b → filter test (cond b (x ∷ filter other xs) (filter other xs))
      ≡ cond (test x) (x ∷ filter test xs) (filter test xs) in
      elim (other x) as P [
        | true ↦ λ _. ap (λ ys. cond (test x) (x ∷ ys) ys) rest
        | false ↦ λ e. rest ∙ sym (ap (λ b. cond b (x ∷ filter test xs) (filter test xs)) (over x e))
      ] refl

  -- two tests in a row are one
  filter-both : (test other whole : X → Bool) → ((x : X) → whole x ≡ (other x && test x)) → (xs : List X)
      → filter test (filter other xs) ≡ filter whole xs
  filter-both test other whole both [] = refl
  filter-both test other whole both (x ∷ xs) =
      let rest = filter-both test other whole both xs in
      let P : Bool → Type 0 = λ b. filter test (cond b (x ∷ filter other xs) (filter other xs))
      ≡ cond (b && test x) (x ∷ filter whole xs) (filter whole xs) in
      elim (other x) as P [
        | true ↦ ap (λ ys. cond (test x) (x ∷ ys) ys) rest
        | false ↦ rest
      ] ∙ sym (ap (λ b. cond b (x ∷ filter whole xs) (filter whole xs)) (both x))

not_or : (a b : Bool) → not (a || b) ≡ (not b && not a)
not_or a b = elim a as (λ c. not (c || b) ≡ (not b && not c)) [
  | true ↦ elim b as (λ c. false ≡ (not c && false)) [ true ↦ refl | false ↦ refl ]
  | false ↦ elim b as (λ c. not c ≡ (not c && true)) [ true ↦ refl | false ↦ refl ]
]

-- one more insertion
pub all_inserted-push : {K V : Type 0} (eq : K → K → Bool) (value_eq : V → V → Bool) (m : Lists K V) (pairs : List (K × V)) (k : K) (v : V)
    → all_inserted eq value_eq m (pairs ++ (k, v) ∷ []) ≡ set_inserted eq value_eq (all_inserted eq value_eq m pairs) k v
all_inserted-push eq value_eq m [] k v = refl
all_inserted-push eq value_eq m (p ∷ pairs) k v = all_inserted-push eq value_eq (set_inserted eq value_eq m p.0 p.1) pairs k v

module _ {K V : Type 0} {eq : K → K → Bool} {value_eq : V → V → Bool} (keys : IsEquivalence eq) (values : IsEquivalence value_eq) where
  abbrev pair_eq : K × V → K × V → Bool
  pair_eq = same_pair eq value_eq

  -- whether no equal pair is among those of the lists
  abbrev is_new : Lists K V → K × V → Bool
  is_new m p = not (has_pair eq value_eq m.pairs p.0 p.1)

  -- once a pair was appended, an equal one is there too
  has_pair-appended : (m : Lists K V) (p q : K × V)
      → is_new (appended eq m p.0 p.1) q ≡ (not (pair_eq p q) && is_new m q)
  has_pair-appended m p q =
      let last : K × V = (stored_key eq m.keys p.0, p.1) in
      let is_last : pair_eq q last ≡ pair_eq p q = (pair_laws keys values).symm q last ∙ stored in
      ap not (list_any-append (pair_eq q) m.pairs (last ∷ []) ∙ ap (λ b. has_pair eq value_eq m.pairs q.0 q.1 || b)
      (or_false (pair_eq q last) ∙ is_last))
      ∙ not_or (has_pair eq value_eq m.pairs q.0 q.1) (pair_eq p q)
    where
      stored : pair_eq (stored_key eq m.keys p.0, p.1) q ≡ pair_eq p q
      stored = sym (or_false (pair_eq (stored_key eq m.keys p.0, p.1) q)) ∙ has_pair-stored keys values m (q ∷ []) p.0 p.1
          ∙ or_false (pair_eq p q)

  -- insertions append the first of equal pairs, where the lists have no equal one
  pub all_inserted-first_pairs : (m : Lists K V) (pairs : List (K × V))
      → all_inserted eq value_eq m pairs ≡ all_appended eq m (filter (is_new m) (first_pairs eq value_eq pairs))
  all_inserted-first_pairs m [] = refl
  all_inserted-first_pairs m (p ∷ pairs) =
      let others : K × V → Bool = λ q. not (pair_eq p q) in
      let firsts : List (K × V) = first_pairs eq value_eq pairs in
      let rest : List (K × V) = filter (is_new m) (filter others firsts) in
      let P : Bool → Type 0 = λ b. has_pair eq value_eq m.pairs p.0 p.1 ≡ b
      → all_inserted eq value_eq (cond b m (appended eq m p.0 p.1)) pairs ≡ all_appended eq m (cond (not b) (p ∷ rest) rest) in
      elim (has_pair eq value_eq m.pairs p.0 p.1) as P [
        | true ↦ λ there. all_inserted-first_pairs m pairs
            ∙ ap (all_appended eq m) (sym (filter-absorbs (is_new m) others (λ q same. is_there q there same) firsts))
        | false ↦ λ _. all_inserted-first_pairs (appended eq m p.0 p.1) pairs
            ∙ ap (all_appended eq (appended eq m p.0 p.1))
            (sym (filter-both (is_new m) others (is_new (appended eq m p.0 p.1)) (has_pair-appended m p) firsts))
      ] refl
    where
      -- what is equal to a pair that is there is there
      alike : (q : K × V) → pair_eq p q ≡ true → (ps : List (K × V)) → has_pair eq value_eq ps q.0 q.1 ≡ has_pair eq value_eq ps p.0 p.1
      alike q same [] = refl
      alike q same (r ∷ ps) = λ i. sym ((pair_laws keys values).congr p q r same) i || alike q same ps i

      equal : (b : Bool) → not b ≡ false → b ≡ true
      equal b e = elim b as (λ c. not c ≡ false → c ≡ true) [ true ↦ λ _. refl | false ↦ λ bad. sym bad ] e

      is_there : (q : K × V) → has_pair eq value_eq m.pairs p.0 p.1 ≡ true → not (pair_eq p q) ≡ false → is_new m q ≡ false
      is_there q there same = ap not (alike q (equal (pair_eq p q) same) m.pairs ∙ there)

  pub keeps_first_pairs : (pairs : List (K × V)) → KeepsFirstPairs eq value_eq pairs
  keeps_first_pairs pairs =
      all_inserted-first_pairs empty_lists pairs ∙ ap (all_appended eq empty_lists) (all_new (first_pairs eq value_eq pairs))
    where
      all_new : (ps : List (K × V)) → filter (is_new empty_lists) ps ≡ ps
      all_new [] = refl
      all_new (p ∷ ps) = ap (λ qs. p ∷ qs) (all_new ps)
