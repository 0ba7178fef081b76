-- Laws of the definitions, as statements on all lists.
use Rattle.std.specs.Prelude.{◌≡◌, Bool, true, not, List, length, map, filter, Some}
use Rattle.std.specs.Cmp.{IsEquivalence}
use Rattle.std.specs.List.Sorted.{IsPermutation}
use Rattle.multimap_walks.specs.declared.End.{End}
use Rattle.multimap_walks.specs.declared.End.TheVariants.{Back}
use Rattle.multimap_walks.specs.Walk.{answers_of_walk}
use Rattle.ordered_multimap.specs.Lists.{IsWellFormed, Lists, lists}
use Rattle.ordered_multimap.specs.Pairs.{values_of, is_present, same_pairs}
use Rattle.ordered_multimap.specs.Keys.{stored_key}
use Rattle.ordered_multimap.specs.Changes.{appended, first_occurrences, built_from, built_from_both}
use Rattle.ordered_multimap.specs.Popped.{popped_pair, popped}

module _ {K : Type 0} (eq : K → K → Bool) {V : Type 0} where
  -- a pop at the back takes the appended pair away, with an owned key where the key was absent
  pub record PopUndoesAppend (m : Lists K V) (k : K) (v : V) : Type 0 where
    pub lists_again : popped eq Back (appended eq m k v) ≡ m
    pub answer : popped_pair eq Back (appended eq m k v).pairs
        ≡ Some (record {
          owned = not (is_present eq m.pairs k);
          key = stored_key eq m.keys k;
          value = v;
        })

  -- built anew of their own pairs, the lists have the same pairs, and the keys in the order of
  -- first occurrence
  abbrev pub IsRebuilt : Lists K V → Type 0
  IsRebuilt m = built_from eq m.pairs ≡ lists (first_occurrences eq m.pairs) m.pairs

  -- built anew of their own keys and pairs, the lists are the same
  abbrev pub IsRebuiltOfBoth : Lists K V → Type 0
  IsRebuiltOfBoth m = built_from_both eq m.keys m.pairs ≡ m

  -- pairs are compared by an equivalence, and well-formed lists with the same pairs have as many
  -- keys
  pub record ComparesPairs (value_eq : V → V → Bool) : Type 0 where
    pub equivalence : IsEquivalence (same_pairs eq value_eq)
    pub keys : (m n : Lists K V) → IsWellFormed eq m → IsWellFormed eq n
        → same_pairs eq value_eq m.pairs n.pairs ≡ true → length m.keys ≡ length n.keys

-- of a list whose items are marked, all items, and those that are marked to stay
module _ {X : Type 0} where
  abbrev pub all_of : List (Bool × X) → List X
  all_of marked = map (λ m. m.1) marked

  abbrev pub staying : List (Bool × X) → List X
  staying marked = all_of (filter (λ m. m.0) marked)

module _ {K : Type 0} (eq : K → K → Bool) {V : Type 0} where
  -- the key's values, each with the mark of its pair
  abbrev pub marked_values : List (Bool × (K × V)) → K → List (Bool × V)
  marked_values marked k = map (λ m. (m.0, m.1.1)) (filter (λ m. eq k m.1.0) marked)

-- whichever pairs are dropped, a key keeps its values but those of dropped pairs; as many steps as
-- there are items give each item once
pub record FiltersChains {K : Type 0} (eq : K → K → Bool) (V : Type 0) : Type 0 where
  pub before : (pairs : List (Bool × (K × V))) (k : K)
      → values_of eq (all_of pairs) k ≡ all_of (marked_values eq pairs k)
  pub after : (pairs : List (Bool × (K × V))) (k : K)
      → values_of eq (staying pairs) k ≡ staying (marked_values eq pairs k)
  pub walk : (values : List V) (word : List End) → length word ≡ length values
      → IsPermutation (map (λ v. Some v) values) (answers_of_walk values word)
