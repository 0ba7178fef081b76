-- What a contract sees of an order whose items are lent.
use Rattle.std.specs.Prelude.{ℕ, List}

-- the listed places in order, and the link of each place
pub record LentPlaces (L : Type 0) : Type 0 where
  pub order : List ℕ
  pub links : List L
