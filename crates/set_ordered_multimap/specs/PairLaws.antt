-- The laws of the equality of pairs, position by position.
use Rattle.std.specs.Cmp.{IsEquivalence, IsPartialEquivalence, and_equiv, and_per, on_equiv, on_per}
use Rattle.std.specs.Cmp.{partial_equiv_from_equiv}
use Rattle.std.specs.Cmp.Lexicographic.{lists_equiv, lists_per}
use Rattle.std.specs.Prelude.{Bool}
use Rattle.ordered_multimap.specs.Pairs.{same_pairs}

module _ {K V : Type 0} {eq : K → K → Bool} {value_eq : V → V → Bool}
    (keys : IsEquivalence eq) where
  -- the equality of lists of pairs is symmetric and transitive
  pub pairs_per : IsPartialEquivalence value_eq → IsPartialEquivalence (same_pairs eq value_eq)
  pairs_per values = lists_per (and_per (on_per (λ p. p.0) (partial_equiv_from_equiv keys))
      (on_per (λ p. p.1) values))

  -- and an equivalence where that of values is one
  pub pairs_equiv : IsEquivalence value_eq → IsEquivalence (same_pairs eq value_eq)
  pairs_equiv values = lists_equiv (and_equiv (on_equiv (λ p. p.0) keys)
      (on_equiv (λ p. p.1) values))
