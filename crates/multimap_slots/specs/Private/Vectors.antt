-- What a change of a vector leaves. No public clause cites this module.
use Rattle.std.specs.Prelude.{◌≡◌, ℕ, ◌≤◌, List, Result, OnOk, OnErr, vec_capacity}
use Rattle.std.specs.declared.vec.Vec.{Vec}

-- this is so of the items before and after, and as many fit
pub record Rewrites {X A : Type 0} (old new : Vec X A) (so : List X → List X → Type 0) : Type 0
  where
    pub items : so old.items new.items
    pub capacity : vec_capacity new ≡ vec_capacity old

-- so many fit, or they were refused and as many fit as before
pub record GrowsTo {X E : Type 0} (slots old new : ℕ) (result : Result X E) : Type 0 where
  pub ok : OnOk result (slots ≤ new)
  pub refused : OnErr result (new ≡ old)
  pub rises : old ≤ new
