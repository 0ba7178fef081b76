-- What moving the pairs of another set to the end of this one leaves of both.
use Rattle.std.specs.Prelude.{Bool, List, filter, not}
use Rattle.ordered_multimap.specs.AppendMap.{InsertsMap}
use Rattle.ordered_multimap.specs.Extends.{AppendsAll}
use Rattle.ordered_multimap.specs.Lists.{Lists}
use Rattle.ordered_multimap.specs.Multimap.{Multimap}
use Rattle.set_ordered_multimap.specs.Set.{IsSet, has_pair}
use Rattle.set_ordered_multimap.specs.SetChanges.{IsClearedSet}

module _ {K V : Type 0} (eq : K → K → Bool) (value_eq : V → V → Bool) where
  -- the pairs that are equal to none of the lists
  abbrev pub lacked : Lists K V → List (K × V) → List (K × V)
  lacked m pairs = filter (λ p. not (has_pair eq value_eq m.pairs p.0 p.1)) pairs

  -- those pairs of the other set that the set lacked were appended in turn, and that one was
  -- cleared
  pub record AppendsLacked {S T : Type 0} (old new : Multimap K V S)
      (other other_after : Multimap K V T) : Type 0 where
    pub appended : AppendsAll eq old (lacked old.lists other.lists.pairs) new
    pub cleared : IsClearedSet eq value_eq other other_after

  -- the values that the other set's keys had here left, its pairs were appended in turn, and that
  -- set was cleared
  pub record InsertsSet {S T : Type 0} (old new : Multimap K V S)
      (other other_after : Multimap K V T) : Type 0 where
    pub inserted : InsertsMap eq old new other other_after
    pub emptied : IsSet eq value_eq other_after.lists
