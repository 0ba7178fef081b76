-- How one number stands for the state of a place and the place before it. No public clause cites
-- this module.
use Rattle.std.specs.Prelude.{ℕ, ◌==◌, Option, if◌then◌else◌}
use Rattle.multimap_slots.specs.declared.order.node.State.{State}
use Rattle.multimap_slots.specs.declared.order.node.State.TheVariants.{Listed, Free, Detached}

-- the state of a place; of a listed one, the place before it
pub record Stands : Type 0 where
  pub previous : Option ℕ
  pub state : State

-- the two greatest numbers stand for a free place and a detached one
abbrev pub state_of : ℕ → State
state_of word = if word == 18446744073709551615 then Free else
    if word == 18446744073709551614 then Detached else Listed
