-- Equality of two lists of pairs, a pair at a time.
use Rattle.std.proofs.Common.{◌≡◌, Bool, true, false, ◌&&◌, ◌||◌, List, [], ◌∷◌, length, refl, sym, ap, ◌∙◌, true≢false}
use Rattle.std.proofs.lemmas.Map.Made.{length-from_same_keys}
use Rattle.std.specs.Cmp.{IsEquivalence, and_equiv, first_so, on_equiv, second_so}
use Rattle.std.specs.Cmp.Lexicographic.{lists_equiv}
use Rattle.std.specs.Map.{keys_of}
use Rattle.ordered_multimap.specs.Keys.{is_listed}
use Rattle.ordered_multimap.specs.Laws.{ComparesPairs}
use Rattle.ordered_multimap.specs.Lists.{IsWellFormed, Lists}
use Rattle.ordered_multimap.specs.Pairs.{same_pairs}
use Rattle.ordered_multimap.proofs.Callers.ListedKeys.{is_present-is_listed}
use Rattle.ordered_multimap.proofs.Callers.WellFormed.{is_present-keys}

module _ {K V : Type 0} (eq : K → K → Bool) (value_eq : V → V → Bool) (s t : List (K × V)) (p q : K × V) (rest other : List (K × V))
    (s_is : s ≡ p ∷ rest) (t_is : t ≡ q ∷ other) where
  -- the lists are the same if their first pairs and the others are
  same_pairs-first : same_pairs eq value_eq s t ≡ ((eq p.0 q.0 && value_eq p.1 q.1) && same_pairs eq value_eq rest other)
  same_pairs-first = ap (λ xs. same_pairs eq value_eq xs t) s_is ∙ ap (same_pairs eq value_eq (p ∷ rest)) t_is

  pub same_further : (eq p.0 q.0 && value_eq p.1 q.1) ≡ true → same_pairs eq value_eq s t ≡ same_pairs eq value_eq rest other
  same_further first = same_pairs-first ∙ ap (λ b. b && same_pairs eq value_eq rest other) first

  pub same_no_more : (eq p.0 q.0 && value_eq p.1 q.1) ≡ false → same_pairs eq value_eq s t ≡ false
  same_no_more first = same_pairs-first ∙ ap (λ b. b && same_pairs eq value_eq rest other) first

module _ {K : Type 0} {eq : K → K → Bool} (laws : IsEquivalence eq) {V : Type 0} (value_eq : V → V → Bool) where
  -- the same pairs name the same keys
  same_named : (k : K) (s t : List (K × V)) → same_pairs eq value_eq s t ≡ true → is_listed eq (keys_of s) k ≡ is_listed eq (keys_of t) k
  same_named k [] [] same = refl
  same_named k [] (q ∷ t) same = absurd (true≢false (sym same))
  same_named k (p ∷ s) [] same = absurd (true≢false (sym same))
  same_named k (p ∷ s) (q ∷ t) same =
      let both = first_so (eq p.0 q.0 && value_eq p.1 q.1) (same_pairs eq value_eq s t) same in
      let keys = first_so (eq p.0 q.0) (value_eq p.1 q.1) both in
      let here : eq k p.0 ≡ eq k q.0 = laws.symm k p.0 ∙ laws.congr p.0 q.0 k keys ∙ laws.symm q.0 k in
      ap (λ b. b || is_listed eq (keys_of s) k) here
      ∙ ap (λ b. eq k q.0 || b) (same_named k s t (second_so (eq p.0 q.0 && value_eq p.1 q.1) (same_pairs eq value_eq s t) same))

  pub as_many_keys : (m n : Lists K V) → IsWellFormed eq m → IsWellFormed eq n → same_pairs eq value_eq m.pairs n.pairs ≡ true
      → length m.keys ≡ length n.keys
  as_many_keys m n m_formed n_formed same =
      length-from_same_keys laws m.keys n.keys m_formed.distinct n_formed.distinct
      (λ k. sym (is_present-keys laws m k m_formed) ∙ is_present-is_listed eq k m.pairs ∙ same_named k m.pairs n.pairs same
      ∙ sym (is_present-is_listed eq k n.pairs) ∙ is_present-keys laws n k n_formed)

-- maps are compared by an equivalence
pub compares_pairs : {K V : Type 0} {eq : K → K → Bool} {value_eq : V → V → Bool} → IsEquivalence eq → IsEquivalence value_eq
    → ComparesPairs eq value_eq
compares_pairs {value_eq = value_eq} laws value_laws = record {
  equivalence = lists_equiv (and_equiv (on_equiv (λ p. p.0) laws) (on_equiv (λ p. p.1) value_laws));
  keys = as_many_keys laws value_eq;
}
