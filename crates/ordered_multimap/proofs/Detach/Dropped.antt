-- Pairs that are dropped, and walks that take each item once.
use Rattle.std.proofs.Common.{◌≡◌, Bool, true, false, cond, List, [], ◌∷◌, ◌++◌, map, filter, length, length-append, Option, Some, refl}
use Rattle.std.proofs.Common.{sym, ap, subst, arith}
use Rattle.std.specs.List.Sorted.{IsPermutation}
use Rattle.std.proofs.lemmas.List.Sorted.{IsPermutation-refl, IsPermutation-cons, IsPermutation-to_front, IsPermutation-trans}
use Rattle.std.proofs.lemmas.List.{map-append}
use Rattle.multimap_walks.specs.declared.End.{End}
use Rattle.multimap_walks.specs.declared.End.TheVariants.{Front, Back}
use Rattle.multimap_walks.specs.Walk.{answers_of_walk}
use Rattle.ordered_multimap.specs.Laws.{FiltersChains, all_of, staying, marked_values}
use Rattle.ordered_multimap.specs.Pairs.{values_of}
use Rattle.ordered_multimap.proofs.Callers.Laws.{end_item-push, end_rest-push}

-- a list with an item is one with an item at its end
record Pushed {X : Type 0} (xs : List X) : Type 0 where
  front : List X
  last : X
  is : xs ≡ front ++ last ∷ []

pushed : {X : Type 0} (x : X) (xs : List X) → Pushed (x ∷ xs)
pushed x [] = record { front = []; last = x; is = refl }
pushed x (y ∷ xs) = let rest = pushed y xs in record { front = x ∷ rest.front; last = rest.last; is = ap (λ ys. x ∷ ys) rest.is }

-- each item once, whatever the order of the ends
pub walk_takes_all : {X : Type 0} (items : List X) (word : List End) → length word ≡ length items
    → IsPermutation (map (λ x. Some x) items) (answers_of_walk items word)
walk_takes_all [] [] e = IsPermutation-refl []
walk_takes_all (x ∷ items) [] e = absurd (omega (arith, e))
walk_takes_all [] (end ∷ word) e = absurd (omega (arith, e))
walk_takes_all (x ∷ items) (Front ∷ word) e = IsPermutation-cons (Some x) (map (λ y. Some y) items) (answers_of_walk items word)
    (walk_takes_all items word (omega (arith, e)))
walk_takes_all {X} (x ∷ items) (Back ∷ word) e =
    let p = pushed x items in
    let some : List X → List (Option X) = map (λ y. Some y) in
    let Here : List X → Type 0 = λ all. IsPermutation (some all) (answers_of_walk all (Back ∷ word)) in
    let rest : length word ≡ length p.front = omega (arith, e, ap length p.is, length-append p.front (p.last ∷ [])) in
    let taken : answers_of_walk (p.front ++ p.last ∷ []) (Back ∷ word) ≡ Some p.last ∷ answers_of_walk p.front word =
    (λ i. end_item-push p.front p.last i ∷ answers_of_walk (end_rest-push p.front p.last i) word) in
    subst Here (sym p.is) (
    subst (IsPermutation (some (p.front ++ p.last ∷ []))) (sym taken)
    (subst (λ all. IsPermutation all (Some p.last ∷ answers_of_walk p.front word)) (sym (map-append (λ y. Some y) p.front (p.last ∷ [])))
    (IsPermutation-trans (some p.front ++ Some p.last ∷ []) (Some p.last ∷ some p.front) (Some p.last ∷ answers_of_walk p.front word)
    (IsPermutation-to_front (some p.front) (Some p.last))
    (IsPermutation-cons (Some p.last) (some p.front) (answers_of_walk p.front word) (walk_takes_all p.front word rest))))
    )

module _ {K V : Type 0} (eq : K → K → Bool) where
  values_before : (pairs : List (Bool × (K × V))) (k : K) → values_of eq (all_of pairs) k ≡ all_of (marked_values eq pairs k)
  values_before [] k = refl
  values_before (p ∷ pairs) k = by (eq k p.1.0) (values_before pairs k)
    where
      by : (b : Bool) → values_of eq (all_of pairs) k ≡ all_of (marked_values eq pairs k)
          → map (λ q. q.1) (cond b (p.1 ∷ filter (λ q. eq k q.0) (all_of pairs)) (filter (λ q. eq k q.0) (all_of pairs)))
          ≡ all_of (map (λ m. (m.0, m.1.1)) (cond b (p ∷ filter (λ m. eq k m.1.0) pairs) (filter (λ m. eq k m.1.0) pairs)))
      by true rest = ap (λ vs. p.1.1 ∷ vs) rest
      by false rest = rest

  values_after : (pairs : List (Bool × (K × V))) (k : K) → values_of eq (staying pairs) k ≡ staying (marked_values eq pairs k)
  values_after [] k = refl
  values_after (p ∷ pairs) k = by p.0 (eq k p.1.0) refl refl (values_after pairs k)
    where
      by : (mark b : Bool) → p.0 ≡ mark → eq k p.1.0 ≡ b → values_of eq (staying pairs) k ≡ staying (marked_values eq pairs k)
          → values_of eq (staying (p ∷ pairs)) k ≡ staying (marked_values eq (p ∷ pairs) k)
      by true true stays own rest = rw (stays, own) (ap (λ vs. p.1.1 ∷ vs) rest)
      by true false stays other rest = rw (stays, other) rest
      by false true goes own rest = rw (goes, own) rest
      by false false goes other rest = rw (goes, other) rest

  pub filters_chains : FiltersChains eq V
  filters_chains = record {
    before = values_before;
    after = values_after;
    walk = walk_takes_all;
  }
