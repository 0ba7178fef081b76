-- One entry more: what it makes of the summaries.
use Rattle.std.proofs.Common.{◌≡◌, ◌+◌, ℕ, Bool, true, false, cond, List, [], ◌∷◌, ◌++◌, filter, map, slice_get, sum_by}
use Rattle.std.proofs.Common.{Some, None, ℤ, refl, sym, ap, subst, ◌∙◌, arith, add_assoc, length-append, not, ◌||◌}
use Rattle.std.proofs.lemmas.List.Sums.{fold-append, sum_by-append, sum_by-cons}
use Rattle.std.specs.Cmp.{IsEquivalence}
use Rattle.ordered_multimap.specs.Changes.{appended, first_occurrences, first_written}
use Rattle.ordered_multimap.specs.Keys.{is_listed, keys_with, stored_key}
use Rattle.ordered_multimap.specs.Lists.{Lists}
use Rattle.ordered_multimap.specs.Pairs.{values_of, values_where, with_first_where}
use Rattle.ordered_multimap.proofs.Callers.Laws.{first_occurrences-push, is_listed-others}
use Rattle.ordered_multimap.proofs.Callers.ListedKeys.{stored_key_absent, stored_key_member}
use Rattle.ordered_multimap.proofs.Callers.OnlyValue.{with_first-step}
use Rattle.group_report.specs.Sums.{Summarizes, nothing, summaries_of, summary_of, summary_with}
use Rattle.group_report.specs.declared.summary.Summary.{Summary}

-- a value where the test holds
abbrev one : {X : Type 0} → Bool → X → List X
one b v = cond b (v ∷ []) []

append_none : {X : Type 0} (vs : List X) → vs ++ [] ≡ vs
append_none [] = refl
append_none (v ∷ vs) = ap (λ rest. v ∷ rest) (append_none vs)

no_first : {X : Type 0} (vs : List X) → slice_get vs 0 ≡ None → vs ≡ []
no_first [] none = refl
no_first (v ∷ vs) none = cc

-- the values with another first one
abbrev with_head : {X : Type 0} → X → List X → List X
with_head v [] = []
with_head v (x ∷ xs) = v ∷ xs

module _ {K V : Type 0} (accepts : K → Bool) where
  -- a pair more
  values_where-push : (pairs : List (K × V)) (k : K) (v : V)
      → values_where accepts (pairs ++ (k, v) ∷ []) ≡ values_where accepts pairs ++ one (accepts k) v
  values_where-push [] k v = elim (accepts k) as (λ b. map (λ (q : K × V). q.1)
      (cond b ((k, v) ∷ []) []) ≡ one b v) [ true ↦ refl | false ↦ refl ]
  values_where-push (p ∷ pairs) k v =
      elim (accepts p.0) as (λ b. map (λ (q : K × V). q.1) (cond b (p ∷ filter (λ q. accepts q.0) (pairs ++ (k, v) ∷ []))
      (filter (λ q. accepts q.0) (pairs ++ (k, v) ∷ [])))
      ≡ map (λ (q : K × V). q.1) (cond b (p ∷ filter (λ q. accepts q.0) pairs) (filter (λ q. accepts q.0) pairs))
      ++ one (accepts k) v) [
        | true ↦ ap (λ vs. p.1 ∷ vs) (values_where-push pairs k v)
        | false ↦ values_where-push pairs k v
      ]

  -- another first value, as those keys have it
  with_first-accepted : (pairs : List (K × V)) (v : V)
      → values_where accepts (with_first_where accepts pairs v) ≡ with_head v (values_where accepts pairs)
  with_first-accepted [] v = refl
  with_first-accepted (p ∷ pairs) v =
      ap (values_where accepts) (with_first-step accepts p pairs v)
      ∙ elim (accepts p.0) as (λ b. accepts p.0 ≡ b
      → values_where accepts (cond b ((p.0, v) ∷ pairs) (p ∷ with_first_where accepts pairs v))
      ≡ with_head v (map (λ (q : K × V). q.1) (cond b (p ∷ filter (λ q. accepts q.0) pairs) (filter (λ q. accepts q.0) pairs)))) [
        | true ↦ λ e. rw e refl
        | false ↦ λ e. rw e (with_first-accepted pairs v)
      ] refl

  -- and as all others have it
  with_first-others : (others : K → Bool) → ((k : K) → accepts k ≡ true → others k ≡ false) → (pairs : List (K × V)) (v : V)
      → values_where others (with_first_where accepts pairs v) ≡ values_where others pairs
  with_first-others others apart [] v = refl
  with_first-others others apart (p ∷ pairs) v =
      ap (values_where others) (with_first-step accepts p pairs v)
      ∙ elim (accepts p.0) as (λ b. accepts p.0 ≡ b → values_where others (cond b ((p.0, v) ∷ pairs) (p ∷ with_first_where accepts pairs v))
      ≡ values_where others (p ∷ pairs)) [
        | true ↦ λ e. rw (apart p.0 e) refl
        | false ↦ λ e. elim (others p.0) as (λ b. map (λ (q : K × V). q.1)
            (cond b (p ∷ filter (λ q. others q.0) (with_first_where accepts pairs v))
            (filter (λ q. others q.0) (with_first_where accepts pairs v)))
            ≡ map (λ (q : K × V). q.1) (cond b (p ∷ filter (λ q. others q.0) pairs) (filter (λ q. others q.0) pairs))) [
              | true ↦ ap (λ vs. p.1 ∷ vs) (with_first-others others apart pairs v)
              | false ↦ with_first-others others apart pairs v
            ]
      ] refl

  -- where it counts for one more, all pairs do
  with_first-counted : (count : V → ℕ) (pairs : List (K × V)) (old v : V) → slice_get (values_where accepts pairs) 0 ≡ Some old
      → count v ≡ count old + 1
      → sum_by (λ p. count p.1) (with_first_where accepts pairs v) ≡ sum_by (λ p. count p.1) pairs + 1
  with_first-counted count [] old v first more = cc
  with_first-counted count (p ∷ pairs) old v first more =
      ap (sum_by (λ p. count p.1)) (with_first-step accepts p pairs v)
      ∙ elim (accepts p.0) as (λ b. slice_get (map (λ (q : K × V). q.1) (cond b (p ∷ filter (λ q. accepts q.0) pairs)
      (filter (λ q. accepts q.0) pairs))) 0 ≡ Some old
      → sum_by (λ p. count p.1) (cond b ((p.0, v) ∷ pairs) (p ∷ with_first_where accepts pairs v))
      ≡ sum_by (λ p. count p.1) (p ∷ pairs) + 1) [
        | true ↦ λ e. let same : p.1 ≡ old = cc in
            sum_by-cons f (p.0, v) pairs ∙ ap (λ n. n + sum_by f pairs) (more ∙ ap (λ x. count x + 1) (sym same))
            ∙ swapped (count p.1) (sum_by f pairs) ∙ ap (λ n. n + 1) (sym (sum_by-cons f p pairs))
        | false ↦ λ e.
            sum_by-cons f p (with_first_where accepts pairs v) ∙ ap (λ n. count p.1 + n) (with_first-counted count pairs old v e more)
            ∙ sym (add_assoc (count p.1) (sum_by f pairs) 1) ∙ ap (λ n. n + 1) (sym (sum_by-cons f p pairs))
      ] first
    where
      f : K × V → ℕ
      f q = count q.1

      swapped : (m n : ℕ) → (m + 1) + n ≡ (m + n) + 1
      swapped m n = omega arith

-- one value more of those that a summary is of
summaries_of-push : (values : List ℤ) (value : ℤ) (s : Summary) → slice_get (summaries_of values) 0 ≡ Some s
    → with_head (summary_with s value) (summaries_of values) ≡ summaries_of (values ++ value ∷ [])
summaries_of-push [] value s first = cc
summaries_of-push (x ∷ xs) value s first =
    let same : summary_of (x ∷ xs) ≡ s = cc in
    ap (λ all. summary_with all value ∷ []) (sym same)
    ∙ ap (λ all. all ∷ []) (sym (fold-append summary_with nothing (x ∷ xs) (value ∷ [])))

-- a group without a summary has no value
none_of : (values : List ℤ) → summaries_of values ≡ [] → values ≡ []
none_of [] none = refl
none_of (x ∷ xs) none = cc

module _ {G : Type 0} {eq : G → G → Bool} (laws : IsEquivalence eq) where
  -- keys that are equal to one are the same keys
  same_keys : (g k : G) → eq g k ≡ true → eq g ≡ eq k
  same_keys g k e = λ i j. laws.congr g k j e i

  -- and those of another one are others
  other_keys : (g k : G) → eq g k ≡ false → (j : G) → eq k j ≡ true → eq g j ≡ false
  other_keys g k e j same = laws.symm g j ∙ sym (laws.congr k j g same) ∙ laws.symm k g ∙ e

  -- the stored key is as the key is
  stored_alike : (k : G) (keys : List G) (g : G) → eq g (stored_key eq keys k) ≡ eq g k
  stored_alike k keys g = elim (is_listed eq keys k) as (λ b. is_listed eq keys k ≡ b → eq g (stored_key eq keys k) ≡ eq g k) [
    | true ↦ λ e. laws.symm g (stored_key eq keys k)
        ∙ sym (laws.congr k (stored_key eq keys k) g (stored_key_member laws k keys e).1)
        ∙ laws.symm k g
    | false ↦ λ e. ap (eq g) (stored_key_absent laws k keys e)
  ] refl

  -- a group with a summary is one of those that occur
  listed_first : (entries : List (G × ℤ)) (k : G) (s : Summary) → slice_get (summaries_of (values_of eq entries k)) 0 ≡ Some s
      → is_listed eq (first_occurrences eq entries) k ≡ true
  listed_first [] k s first = cc
  listed_first (p ∷ entries) k s first =
      elim (eq k p.0) as (λ b. eq k p.0 ≡ b → (b || is_listed eq (filter (λ i. not (eq p.0 i)) (first_occurrences eq entries)) k) ≡ true) [
        | true ↦ λ e. refl
        | false ↦ λ e. is_listed-others laws p.0 k (first_occurrences eq entries) e
            ∙ listed_first entries k s (subst (λ b. slice_get (summaries_of (map (λ (q : G × ℤ). q.1)
            (cond b (p ∷ filter (λ q. eq k q.0) entries) (filter (λ q. eq k q.0) entries)))) 0 ≡ Some s) e first)
      ] refl

  module _ (entries : List (G × ℤ)) (m : Lists G Summary) (k : G) (value : ℤ) (before : Summarizes eq entries m) where
    -- the group has a summary, which is written again
    pub summarizes-present : (s : Summary) → slice_get (values_of eq m.pairs k) 0 ≡ Some s
        → Summarizes eq (entries ++ (k, value) ∷ []) (first_written eq m k (summary_with s value))
    summarizes-present s first = record {
      summaries = λ g. elim (eq g k) as (λ b. eq g k ≡ b
          → values_of eq (first_written eq m k (summary_with s value)).pairs g ≡ summaries_of
          (values_of eq (entries ++ (k, value) ∷ []) g)) [
            | true ↦ λ e.
                ap (λ test. values_where test (first_written eq m k (summary_with s value)).pairs) (same_keys g k e)
                ∙ with_first-accepted (eq k) m.pairs (summary_with s value)
                ∙ ap (with_head (summary_with s value)) (before.summaries k)
                ∙ summaries_of-push (values_of eq entries k) value s (ap (λ vs. slice_get vs 0) (sym (before.summaries k)) ∙ first)
                ∙ ap (λ vs. summaries_of (vs ++ value ∷ [])) (sym (ap (λ test. values_where test entries) (same_keys g k e)))
                ∙ ap summaries_of (sym (values_where-push (eq g) entries k value ∙ ap (λ b. values_where (eq g) entries ++ one b value) e))
            | false ↦ λ e.
                with_first-others (eq k) (eq g) (other_keys g k e) m.pairs (summary_with s value)
                ∙ before.summaries g
                ∙ ap summaries_of (sym (values_where-push (eq g) entries k value ∙ ap (λ b. values_where (eq g) entries ++ one b value) e
                ∙ append_none (values_of eq entries g)))
          ] refl;
      order = before.order ∙ sym (first_occurrences-push laws entries k value
          ∙ ap (λ b. cond b (first_occurrences eq entries) (first_occurrences eq entries ++ k ∷ []))
          (listed_first entries k s (ap (λ vs. slice_get vs 0) (sym (before.summaries k)) ∙ first)));
      counts = with_first-counted (eq k) (λ all. all.count) m.pairs s (summary_with s value) first refl
          ∙ ap (λ n. n + 1) before.counts
          ∙ sym (length-append entries ((k, value) ∷ []));
    }

    -- the group has none, and gets one
    pub summarizes-absent : slice_get (values_of eq m.pairs k) 0 ≡ None
        → Summarizes eq (entries ++ (k, value) ∷ []) (appended eq m k (summary_with nothing value))
    summarizes-absent none = record {
      summaries = λ g. elim (eq g k) as (λ b. eq g k ≡ b
          → values_of eq (appended eq m k (summary_with nothing value)).pairs g ≡ summaries_of
          (values_of eq (entries ++ (k, value) ∷ []) g)) [
            | true ↦ λ e.
                values_where-push (eq g) m.pairs (stored_key eq m.keys k) (summary_with nothing value)
                ∙ ap (λ b. values_where (eq g) m.pairs ++ one b (summary_with nothing value)) (stored_alike k m.keys g ∙ e)
                ∙ ap (λ test. values_where test m.pairs ++ summary_with nothing value ∷ []) (same_keys g k e)
                ∙ ap (λ vs. vs ++ summary_with nothing value ∷ []) (no_first (values_of eq m.pairs k) none)
                ∙ ap (λ vs. summaries_of (vs ++ value ∷ [])) (sym (ap (λ test. values_where test entries) (same_keys g k e)
                ∙ none_of (values_of eq entries k) (sym (before.summaries k) ∙ no_first (values_of eq m.pairs k) none)))
                ∙ ap summaries_of (sym (values_where-push (eq g) entries k value ∙ ap (λ b. values_where (eq g) entries ++ one b value) e))
            | false ↦ λ e.
                values_where-push (eq g) m.pairs (stored_key eq m.keys k) (summary_with nothing value)
                ∙ ap (λ b. values_where (eq g) m.pairs ++ one b (summary_with nothing value)) (stored_alike k m.keys g ∙ e)
                ∙ append_none (values_where (eq g) m.pairs)
                ∙ before.summaries g
                ∙ ap summaries_of (sym (values_where-push (eq g) entries k value ∙ ap (λ b. values_where (eq g) entries ++ one b value) e
                ∙ append_none (values_of eq entries g)))
          ] refl;
      order = ap (λ keys. keys_with eq keys k) before.order ∙ sym (first_occurrences-push laws entries k value);
      counts = sum_by-append (λ p. p.1.count) m.pairs ((stored_key eq m.keys k, summary_with nothing value) ∷ [])
          ∙ ap (λ n. n + 1) before.counts
          ∙ sym (length-append entries ((k, value) ∷ []));
    }
