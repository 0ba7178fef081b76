-- A set whose key at an end has left, with its values.
use Rattle.std.proofs.Common.{Bool, Option, Some, None, IfNone, IfSome, sym, subst}
use Rattle.std.specs.Cmp.{IsEquivalence}
use Rattle.std.specs.declared.cmp.PartialEq as equality
use Rattle.std.specs.declared.hash.Hash as hash
use Rattle.std.specs.declared.hash.Hasher as hasher
use Rattle.std.specs.declared.hash.BuildHasher as builder
use Rattle.ordered_multimap.specs.declared.list_ordered_multimap.drain.EntryValuesDrain as drains
use Rattle.ordered_multimap.specs.Detaches.{KeepsListed}
use Rattle.ordered_multimap.specs.Drains.{DrainsEntry}
use Rattle.ordered_multimap.specs.Multimap.{Multimap}
use Rattle.set_ordered_multimap.proofs.Callers.Sets.{IsSet-removed}
use Rattle.set_ordered_multimap.specs.Set.{IsSet}

-- a set whose key at an end went to a drain, if there was one
pub drained_set : {K V S A H : Type 0} {e : equality.Ghosts K} {k : hash.Ghosts K} {b : builder.Ghosts S H} {h : hasher.Ghosts H}
    {eq : K → K → Bool} {value_eq : V → V → Bool} (keys : IsEquivalence eq) (values : IsEquivalence value_eq) (old : Multimap K V S)
    (drain : drains.EntryValuesDrain K V S A H e k b h) (o : Option K) → IfSome o (λ j. DrainsEntry eq old j drain)
    → IfNone o (KeepsListed old drain.map.now) → IsSet eq value_eq old.lists → IsSet eq value_eq drain.map.now.lists
drained_set {eq = eq} {value_eq = value_eq} keys values old drain (Some j) drained kept set =
    subst (IsSet eq value_eq) (sym drained.lists) (IsSet-removed keys values (eq j) old.lists set)
drained_set {eq = eq} {value_eq = value_eq} keys values old drain None drained kept set = subst (IsSet eq value_eq) (sym kept.lists) set
