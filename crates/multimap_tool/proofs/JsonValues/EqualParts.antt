-- What is read of what was written, where unequal keys and values have different JSON values: equal
-- ones, position by position.
use Rattle.std.proofs.Common.{◌≡◌, ◌&&◌, ◌||◌, Bool, true, false, cond, List, [], ◌∷◌, ◌++◌, map, find, unwrap_or, Some, refl, sym, ap, ap₂}
use Rattle.std.proofs.Common.{◌∙◌, subst, arith, true≢false}
use Rattle.std.specs.Cmp.{IsEquivalence}
use Rattle.std.specs.Cmp.Lexicographic.{pointwise, nat_list_eq_equiv}
use Rattle.std.specs.Prelude.{ℕ, nat_eq}
use Rattle.serde_json.specs.Data.{Data, string}
use Rattle.serde_json.specs.View.{items_of}
use Rattle.ordered_multimap.specs.Lists.{Lists, lists, empty_lists, IsWellFormed}
use Rattle.ordered_multimap.specs.Keys.{is_listed, stored_key, keys_with}
use Rattle.ordered_multimap.specs.Pairs.{same_pairs}
use Rattle.ordered_multimap.specs.Changes.{appended, all_appended, built_from, first_occurrences, under_listed}
use Rattle.ordered_multimap.proofs.Callers.Laws.{rebuilt, under_own}
use Rattle.multimap_tool.specs.Json.{pair_json, pairs_json, IsReadFrom, UnequalDiffer, AreEqualLists}
use Rattle.multimap_tool.specs.JsonLists.{lists_json, AreReadLists, IsRead}

-- texts that were written alike are equal
pub same_text : (xs ys : List ℕ) → string xs ≡ string ys → pointwise nat_eq xs ys ≡ true
same_text xs ys e = subst (λ zs. pointwise nat_eq xs zs ≡ true) (grind arith) (nat_list_eq_equiv.refl xs)

both : (a b : Bool) → (a && b) ≡ true → (a ≡ true) × (b ≡ true)
both true b e = (refl, e)
both false b e = absurd (true≢false (sym e))

module _ {X : Type 0} (test : X → X → Bool) where
  -- an item that passes goes to the end
  pointwise-push : (xs ys : List X) (x y : X) → pointwise test xs ys ≡ true → test x y ≡ true
      → pointwise test (xs ++ x ∷ []) (ys ++ y ∷ []) ≡ true
  pointwise-push [] [] x y are one = ap (λ b. b && true) one
  pointwise-push [] (w ∷ ys) x y are one = absurd (true≢false (sym are))
  pointwise-push (v ∷ xs) [] x y are one = absurd (true≢false (sym are))
  pointwise-push (v ∷ xs) (w ∷ ys) x y are one =
      let parts = both (test v w) (pointwise test xs ys) are in
      ap₂ (λ a b. a && b) parts.0 (pointwise-push xs ys x y parts.1 one)

  -- items that were written alike are equal, one by one
  equal_items : (f : X → Data) → UnequalDiffer f test → (xs ys : List X) → items_of (map f xs) ≡ items_of (map f ys)
      → pointwise test xs ys ≡ true
  equal_items f differ [] [] e = refl
  equal_items f differ [] (y ∷ ys) e = absurd (grind arith)
  equal_items f differ (x ∷ xs) [] e = absurd (grind arith)
  equal_items f differ (x ∷ xs) (y ∷ ys) e = ap₂ (λ a b. a && b) (differ x y (grind arith)) (equal_items f differ xs ys (grind arith))

module _ {K : Type 0} {eq : K → K → Bool} (laws : IsEquivalence eq) where
  alike : (k j x y : K) → eq k j ≡ true → eq x y ≡ true → eq k x ≡ eq j y
  alike k j x y same also = laws.congr k j x same ∙ laws.symm j x ∙ laws.congr x y j also ∙ laws.symm y j

  -- what equal lists say of equal keys
  listed_alike : (xs ys : List K) (k j : K) → pointwise eq xs ys ≡ true → eq k j ≡ true → is_listed eq xs k ≡ is_listed eq ys j
  listed_alike [] [] k j are same = refl
  listed_alike [] (y ∷ ys) k j are same = absurd (true≢false (sym are))
  listed_alike (x ∷ xs) [] k j are same = absurd (true≢false (sym are))
  listed_alike (x ∷ xs) (y ∷ ys) k j are same =
      let parts = both (eq x y) (pointwise eq xs ys) are in
      ap₂ (λ a b. a || b) (alike k j x y same parts.0) (listed_alike xs ys k j parts.1 same)

  stored_alike : (xs ys : List K) (k j : K) → pointwise eq xs ys ≡ true → eq k j ≡ true
      → eq (stored_key eq xs k) (stored_key eq ys j) ≡ true
  stored_alike [] [] k j are same = same
  stored_alike [] (y ∷ ys) k j are same = absurd (true≢false (sym are))
  stored_alike (x ∷ xs) [] k j are same = absurd (true≢false (sym are))
  stored_alike (x ∷ xs) (y ∷ ys) k j are same =
      let parts = both (eq x y) (pointwise eq xs ys) are in
      let P : Bool → Bool → Type 0 = λ a b.
      eq (unwrap_or (cond a (Some x) (find (eq k) xs)) k) (unwrap_or (cond b (Some y) (find (eq j) ys)) j) ≡ true in
      subst (P (eq k x)) (alike k j x y same parts.0)
      (elim (eq k x) as (λ a. P a a) [ true ↦ parts.0 | false ↦ stored_alike xs ys k j parts.1 same ])

  keys_alike : (xs ys : List K) (k j : K) → pointwise eq xs ys ≡ true → eq k j ≡ true
      → pointwise eq (keys_with eq xs k) (keys_with eq ys j) ≡ true
  keys_alike xs ys k j are same =
      let P : Bool → Bool → Type 0 = λ a b. pointwise eq (cond a xs (xs ++ k ∷ [])) (cond b ys (ys ++ j ∷ [])) ≡ true in
      subst (P (is_listed eq xs k)) (listed_alike xs ys k j are same)
      (elim (is_listed eq xs k) as (λ a. P a a) [ true ↦ are | false ↦ pointwise-push eq xs ys k j are same ])

module _ {K V : Type 0} {eq : K → K → Bool} (laws : IsEquivalence eq) (value_eq : V → V → Bool) where
  record AreEqualPairs (p q : K × V) (ps qs : List (K × V)) : Type 0 where
    keys : eq p.0 q.0 ≡ true
    values : value_eq p.1 q.1 ≡ true
    rest : same_pairs eq value_eq ps qs ≡ true

  first_equal : (p q : K × V) (ps qs : List (K × V)) → same_pairs eq value_eq (p ∷ ps) (q ∷ qs) ≡ true → AreEqualPairs p q ps qs
  first_equal p q ps qs are =
      let parts = both (eq p.0 q.0 && value_eq p.1 q.1) (same_pairs eq value_eq ps qs) are in
      let first = both (eq p.0 q.0) (value_eq p.1 q.1) parts.0 in
      record { keys = first.0; values = first.1; rest = parts.1 }

  -- equal pairs make equal lists of equal lists
  appended_alike : (ps qs : List (K × V)) (m n : Lists K V) → same_pairs eq value_eq ps qs ≡ true → AreEqualLists eq value_eq m n
      → AreEqualLists eq value_eq (all_appended eq m ps) (all_appended eq n qs)
  appended_alike [] [] m n are equal = equal
  appended_alike [] (q ∷ qs) m n are equal = absurd (true≢false (sym are))
  appended_alike (p ∷ ps) [] m n are equal = absurd (true≢false (sym are))
  appended_alike (p ∷ ps) (q ∷ qs) m n are equal =
      let each = first_equal p q ps qs are in
      appended_alike ps qs (appended eq m p.0 p.1) (appended eq n q.0 q.1) each.rest (record {
        keys = keys_alike laws m.keys n.keys p.0 q.0 equal.keys each.keys;
        pairs = pointwise-push (λ p q. eq p.0 q.0 && value_eq p.1 q.1) m.pairs n.pairs (stored_key eq m.keys p.0, p.1)
            (stored_key eq n.keys q.0, q.1) equal.pairs
            (ap₂ (λ a b. a && b) (stored_alike laws m.keys n.keys p.0 q.0 equal.keys each.keys) each.values);
      })

  under_alike : (xs ys : List K) (ps qs : List (K × V)) → pointwise eq xs ys ≡ true → same_pairs eq value_eq ps qs ≡ true
      → same_pairs eq value_eq (under_listed eq xs ps) (under_listed eq ys qs) ≡ true
  under_alike xs ys [] [] keys are = refl
  under_alike xs ys [] (q ∷ qs) keys are = absurd (true≢false (sym are))
  under_alike xs ys (p ∷ ps) [] keys are = absurd (true≢false (sym are))
  under_alike xs ys (p ∷ ps) (q ∷ qs) keys are =
      let each = first_equal p q ps qs are in
      ap₂ (λ a b. a && b) (ap₂ (λ a b. a && b) (stored_alike laws xs ys p.0 q.0 keys each.keys) each.values)
      (under_alike xs ys ps qs keys each.rest)

  module _ (key_json : K → Data) (value_json : V → Data) (keys : UnequalDiffer key_json eq)
      (values : UnequalDiffer value_json value_eq) where
    equal_pair : UnequalDiffer (pair_json key_json value_json) (λ p q. eq p.0 q.0 && value_eq p.1 q.1)
    equal_pair p q e = ap₂ (λ a b. a && b) (keys p.0 q.0 (grind arith)) (values p.1 q.1 (grind arith))

    equal_pairs : (ps qs : List (K × V)) → pairs_json key_json value_json ps ≡ pairs_json key_json value_json qs
        → same_pairs eq value_eq ps qs ≡ true
    equal_pairs ps qs e =
        equal_items (λ p q. eq p.0 q.0 && value_eq p.1 q.1) (pair_json key_json value_json) equal_pair ps qs (grind arith)

    pub read_equal_back : (m n : Lists K V) → IsWellFormed eq m
        → IsReadFrom key_json value_json eq (pairs_json key_json value_json m.pairs) n
        → AreEqualLists eq value_eq (lists (first_occurrences eq m.pairs) m.pairs) n
    read_equal_back m n formed read =
        let built : AreEqualLists eq value_eq (built_from eq m.pairs) (built_from eq read.0) =
        appended_alike m.pairs read.0 empty_lists empty_lists (equal_pairs m.pairs read.0 read.1) (record { keys = refl; pairs = refl }) in
        subst (λ l. AreEqualLists eq value_eq l n) (rebuilt laws m formed)
        (subst (AreEqualLists eq value_eq (built_from eq m.pairs)) (sym read.2) built)

    equal_lists_back : (is_key is_value : Data → Bool) (m n : Lists K V) → IsWellFormed eq m
        → AreReadLists key_json value_json is_key is_value eq (items_of (map key_json m.keys))
        (items_of (map (pair_json key_json value_json) m.pairs)) n → AreEqualLists eq value_eq m n
    equal_lists_back is_key is_value m n formed read =
        let same_keys : pointwise eq m.keys n.keys ≡ true = equal_items eq key_json keys m.keys n.keys read.keys_are.json in
        let under = under_alike m.keys n.keys m.pairs read.pairs same_keys (equal_pairs m.pairs read.pairs read.pairs_are.json) in
        record {
          keys = same_keys;
          pairs = subst (λ ps. same_pairs eq value_eq ps n.pairs ≡ true) (under_own laws m.keys m.pairs formed.distinct formed.listed)
              (subst (λ ps. same_pairs eq value_eq (under_listed eq m.keys m.pairs) ps ≡ true) (sym read.stored) under);
        }

    pub read_equal_lists_back : (is_key is_value : Data → Bool) (m n : Lists K V) → IsWellFormed eq m
        → IsRead key_json value_json is_key is_value eq (lists_json key_json value_json m) n → AreEqualLists eq value_eq m n
    read_equal_lists_back is_key is_value m n formed read = equal_lists_back is_key is_value m n formed read
