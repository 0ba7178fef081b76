-- A pop of a set's map leaves a set.
use Rattle.std.proofs.Common.{Bool, sym, subst}
use Rattle.std.specs.Cmp.{IsEquivalence}
use Rattle.ordered_multimap.specs.End.{End}
use Rattle.ordered_multimap.specs.Multimap.{Multimap}
use Rattle.ordered_multimap.specs.PopAnswers.{IsPopped}
use Rattle.set_ordered_multimap.proofs.Callers.Sets.{IsSet-popped}
use Rattle.set_ordered_multimap.specs.Set.{IsSet}
use Rattle.set_ordered_multimap.specs.SetChanges.{LosesEnd}

pub loses-end : {K V S : Type 0} {eq : K → K → Bool} {value_eq : V → V → Bool} → IsEquivalence eq → IsEquivalence value_eq
    → (end : End) (old new : Multimap K V S) → IsPopped eq end old new → LosesEnd eq value_eq old new end
loses-end {eq = eq} {value_eq = value_eq} keys values end old new popped = record {
  popped = popped;
  set = λ set. subst (IsSet eq value_eq) (sym popped.lists) (IsSet-popped keys values end old.lists set);
}
