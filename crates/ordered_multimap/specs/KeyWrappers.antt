-- The key of a pair that was popped, lent or handed out.
use Rattle.std.specs.Prelude.{◌≡◌, Bool, true, false, ⊤}
use Rattle.ordered_multimap.specs.declared.list_ordered_multimap.key_wrapper.KeyWrapper.{KeyWrapper}
use Rattle.ordered_multimap.specs.declared.list_ordered_multimap.key_wrapper as wrappers
use wrappers.KeyWrapper.TheVariants.{Borrowed, Owned}

module _ {K : Type 0} where
  -- whether the key is owned
  abbrev pub is_owned : KeyWrapper K → Bool
  is_owned (Borrowed k) = false
  is_owned (Owned k) = true

  -- the owned key, or a clone of the borrowed one
  abbrev pub IsOwnKey : (K → K → Type 0) → KeyWrapper K → K → Type 0
  IsOwnKey is_clone (Borrowed k) j = is_clone k.now j
  IsOwnKey is_clone (Owned k) j = j ≡ k

  -- the key is owned, or its clone is never refused
  abbrev pub IsNeverRefused : (K → Type 0) → KeyWrapper K → Type 0
  IsNeverRefused is_infallible (Borrowed k) = is_infallible k.now
  IsNeverRefused is_infallible (Owned k) = ⊤
