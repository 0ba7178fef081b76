-- A set whose keys come in another order is a set.
use Rattle.std.proofs.Common.{Bool, sym, subst}
use Rattle.std.specs.List.{IsDistinct}
use Rattle.ordered_multimap.specs.KeySorts.{ReordersKeys}
use Rattle.ordered_multimap.specs.Multimap.{Multimap}
use Rattle.set_ordered_multimap.specs.Set.{same_pair}
use Rattle.set_ordered_multimap.specs.SetChanges.{ReordersSet}

pub reorders_set : {K V S : Type 0} (eq : K → K → Bool) (value_eq : V → V → Bool) {old new : Multimap K V S} → ReordersKeys old new
    → ReordersSet eq value_eq old new
reorders_set eq value_eq e = record { reordered = e; set = subst (IsDistinct (same_pair eq value_eq)) (sym e.pairs) }
