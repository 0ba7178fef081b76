-- How one number stands for a place or none. No public clause cites this module.
use Rattle.std.specs.Prelude.{ℕ, zero, suc, Option, Some, None}

-- 0 stands for none, and any other number for the place below it
abbrev pub place_below : ℕ → Option ℕ
place_below zero = None
place_below (suc p) = Some p

-- the number that stands for a place or none
abbrev pub number_above : Option ℕ → ℕ
number_above None = zero
number_above (Some p) = suc p
