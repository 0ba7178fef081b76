-- What queries stand for that are made of others.
use Rattle.std.specs.Prelude.{Bool, true, false, Option, Some, None}

module _ {Q K : Type 0} where
  -- `None` stands for `None`, and `Some` of a query for `Some` of each key for which that stands
  abbrev pub option_equivalent : (Q → K → Bool) → Option Q → Option K → Bool
  option_equivalent stands None None = true
  option_equivalent stands None (Some k) = false
  option_equivalent stands (Some q) None = false
  option_equivalent stands (Some q) (Some k) = stands q k

  -- the key that it is, if it is one
  abbrev pub option_key : (Q → Option K) → Option Q → Option (Option K)
  option_key key None = Some None
  option_key key (Some q) = elim (key q) [
    | None ↦ None
    | Some k ↦ Some (Some k)
  ]
