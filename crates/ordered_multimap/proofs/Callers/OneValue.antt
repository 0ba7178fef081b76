-- One value of a key goes: what is left where there is none, and what the first accepted value's index says.
use Rattle.std.proofs.Common.{◌≡◌, ◌+◌, ◌&&◌, ℕ, zero, suc, Bool, true, false, cond, List, [], ◌∷◌, filter, find, map, slice_get, Option, Some, None}
use Rattle.std.proofs.Common.{option_map, refl, ap, ◌∙◌, arith}
use Rattle.std.proofs.lemmas.Option.{slice_get-map}
use Rattle.std.specs.Cmp.{IsEquivalence}
use Rattle.std.specs.List.{enumerate_from, remove}
use Rattle.std.specs.Map.{keys_of}
use Rattle.ordered_multimap.specs.Changes.{kept}
use Rattle.ordered_multimap.specs.Keys.{is_listed}
use Rattle.ordered_multimap.specs.Lists.{IsWellFormed, Lists, lists}
use Rattle.ordered_multimap.specs.OneValue.{index_of, index_removed, pairs_without_first, pairs_without_index}
use Rattle.ordered_multimap.specs.Pairs.{positions_where, values_where}
use Rattle.ordered_multimap.proofs.Callers.ListedKeys.{is_listed-self}
use Rattle.ordered_multimap.proofs.Callers.Members.{filter-all}
use Rattle.ordered_multimap.proofs.Callers.WellFormed.{same_keys}

-- well-formed lists are what all their pairs leave
pub kept-all : {K V : Type 0} {eq : K → K → Bool} → IsEquivalence eq → (m : Lists K V) → IsWellFormed eq m → kept eq m m.pairs ≡ m
kept-all {eq = eq} laws m formed =
    ap (λ ks. lists ks m.pairs) (filter-all (is_listed eq (keys_of m.pairs)) m.keys
    (λ j i. same_keys laws m j formed ∙ is_listed-self laws j m.keys i))

-- keys without a position have no value that can go
pub index_removed-lacking : {K V : Type 0} {eq : K → K → Bool} → IsEquivalence eq → (m : Lists K V) → IsWellFormed eq m
    → (accepts : K → Bool) → positions_where accepts m.pairs ≡ [] → (index : ℕ) → index_removed eq accepts m index ≡ m
index_removed-lacking {K} {V} {eq} laws m formed accepts none index =
    ap (λ ps. kept eq m (elim (slice_get {X = ℕ} ps index) as (λ _. List (K × V)) [ None ↦ m.pairs | Some i ↦ remove m.pairs i ])) none
    ∙ kept-all laws m formed

-- the first accepted item is the one at its index
pub find-index : {X : Type 0} (is : X → Bool) (xs : List X) → slice_get xs (index_of is xs) ≡ find is xs
find-index is [] = refl
find-index {X} is (x ∷ xs) =
    elim (is x) as (λ b. slice_get (x ∷ xs) (cond b 0 (suc (index_of is xs))) ≡ cond b (Some x) (find is xs)) [
      | true ↦ refl
      | false ↦ find-index is xs
    ]

module _ {K V : Type 0} (accepts : K → Bool) where
  abbrev pub positions_from : ℕ → List (K × V) → List ℕ
  positions_from at pairs = map (λ e. e.0) (filter (λ e. accepts e.1.0) (enumerate_from at pairs))

  -- behind one more pair each position is one higher
  pub later_positions : (at : ℕ) (pairs : List (K × V)) → positions_from (at + 1) pairs ≡ map suc (positions_from at pairs)
  later_positions at [] = refl
  later_positions at (p ∷ pairs) =
      elim (accepts p.0) as (λ b. map (λ (e : ℕ × (K × V)). e.0) (cond b ((at + 1, p) ∷ filter (λ e. accepts e.1.0) (enumerate_from (at + 1 + 1) pairs))
      (filter (λ e. accepts e.1.0) (enumerate_from (at + 1 + 1) pairs)))
      ≡ map suc (map (λ (e : ℕ × (K × V)). e.0) (cond b ((at, p) ∷ filter (λ e. accepts e.1.0) (enumerate_from (at + 1) pairs))
      (filter (λ e. accepts e.1.0) (enumerate_from (at + 1) pairs))))) [
        | true ↦ (λ i. one i ∷ later_positions (at + 1) pairs i)
        | false ↦ later_positions (at + 1) pairs
      ]
    where
      one : at + 1 ≡ suc at
      one = omega arith

  abbrev pub without : List (K × V) → Option ℕ → List (K × V)
  without pairs o = elim o as (λ _. List (K × V)) [ None ↦ pairs | Some i ↦ remove pairs i ]

  -- what goes at an index behind one more pair
  shifted : (p : K × V) (pairs : List (K × V)) (n : ℕ)
      → without (p ∷ pairs) (slice_get (positions_from 1 pairs) n) ≡ p ∷ pairs_without_index accepts pairs n
  shifted p pairs n =
      ap (λ ps. without (p ∷ pairs) (slice_get {X = ℕ} ps n)) (later_positions 0 pairs)
      ∙ ap (without (p ∷ pairs)) (slice_get-map suc (positions_where accepts pairs) n)
      ∙ behind (slice_get (positions_where accepts pairs) n)
    where
      behind : (o : Option ℕ) → without (p ∷ pairs) (option_map suc o) ≡ p ∷ without pairs o
      behind None = refl
      behind (Some j) = refl

  -- the pairs behind an accepted one, and that one unless it is the value that goes
  abbrev pub behind_first : K × V → List (K × V) → ℕ → List (K × V)
  behind_first p pairs zero = pairs
  behind_first p pairs (suc n) = p ∷ pairs_without_index accepts pairs n

  pub without_index-step : (p : K × V) (pairs : List (K × V)) (n : ℕ) → pairs_without_index accepts (p ∷ pairs) n
      ≡ cond (accepts p.0) (behind_first p pairs n) (p ∷ pairs_without_index accepts pairs n)
  without_index-step p pairs n =
      elim (accepts p.0) as (λ b. without (p ∷ pairs) (slice_get
      (map (λ (e : ℕ × (K × V)). e.0) (cond b ((0, p) ∷ filter (λ e. accepts e.1.0) (enumerate_from 1 pairs))
      (filter (λ e. accepts e.1.0) (enumerate_from 1 pairs)))) n)
      ≡ cond b (behind_first p pairs n) (p ∷ pairs_without_index accepts pairs n)) [ true ↦ here n | false ↦ shifted p pairs n ]
    where
      here : (n : ℕ) → without (p ∷ pairs) (slice_get (0 ∷ positions_from 1 pairs) n) ≡ behind_first p pairs n
      here zero = refl
      here (suc m) = shifted p pairs m

  -- the pairs without the first accepted value are those without the value at its index
  pub without_first-index : (is : V → Bool) (pairs : List (K × V))
      → pairs_without_index accepts pairs (index_of is (values_where accepts pairs)) ≡ pairs_without_first accepts is pairs
  without_first-index is [] = refl
  without_first-index is (p ∷ pairs) =
      let rest = without_first-index is pairs in
      without_index-step p pairs (index_of is (values_where accepts (p ∷ pairs)))
      ∙ elim (accepts p.0) as (λ b. cond b (behind_first p pairs (index_of is
      (map (λ (q : K × V). q.1) (cond b (p ∷ filter (λ q. accepts q.0) pairs) (filter (λ q. accepts q.0) pairs)))))
      (p ∷ pairs_without_index accepts pairs (index_of is
      (map (λ (q : K × V). q.1) (cond b (p ∷ filter (λ q. accepts q.0) pairs) (filter (λ q. accepts q.0) pairs)))))
      ≡ cond (b && is p.1) pairs (p ∷ pairs_without_first accepts is pairs)) [
        | true ↦ elim (is p.1) as (λ d. behind_first p pairs (cond d 0 (suc (index_of is (values_where accepts pairs))))
            ≡ cond d pairs (p ∷ pairs_without_first accepts is pairs)) [ true ↦ refl | false ↦ ap (λ ps. p ∷ ps) rest ]
        | false ↦ ap (λ ps. p ∷ ps) rest
      ]
