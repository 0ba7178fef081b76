-- What a clone of a set is.
use Rattle.std.specs.Prelude.{◌≡◌, [], Bool, true, Result, IfOk, IsOk}
use Rattle.ordered_multimap.specs.Clones.{AreClones}
use Rattle.ordered_multimap.specs.Lists.{IsIn}
use Rattle.ordered_multimap.specs.Multimap.{Multimap}
use Rattle.ordered_multimap.specs.Pairs.{all_values}
use Rattle.ordered_multimap.specs.TapeNumbers.{AreUnused}
use Rattle.set_ordered_multimap.specs.Set.{IsSet}

module _ {K V S : Type 0} (eq : K → K → Bool) (value_eq : V → V → Bool)
    (key_clone : K → K → Type 0) (value_clone : V → V → Type 0)
    (hasher_clone : S → S → Type 0) where
  -- the clones of all, on a tape that was not used
  pub record IsSetClone (m n : Multimap K V S) : Type 0 where
    pub lists : AreClones eq key_clone value_clone m.lists n.lists
    pub set : ((v c : V) → value_clone v c → value_eq v c ≡ true)
        → IsSet eq value_eq m.lists → IsSet eq value_eq n.lists
    pub same : ((k c : K) → IsIn k m.lists.keys → key_clone k c → c ≡ k)
        → ((v c : V) → IsIn v (all_values m.lists.pairs) → value_clone v c → c ≡ v)
        → n.lists ≡ m.lists
    pub hasher : hasher_clone m.hasher n.hasher
    pub unused : AreUnused n.tape

  -- a clone was made on an unused tape, or refused, which it isn't if there is no pair and the hash
  -- builder's clone can't fail; it is a set if clones of values are equal to them, and has the same
  -- lists if clones are the originals
  pub record ClonesSet (infallible : S → Type 0) (m : Multimap K V S) {E : Type 0}
      (r : Result (Multimap K V S) E) : Type 0 where
    pub ok : IfOk r (IsSetClone m)
    pub succeeds : m.lists.pairs ≡ [] → infallible m.hasher → IsOk r
