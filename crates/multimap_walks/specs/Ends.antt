-- The ends of what a walk has left, and a step from one of them.
use Rattle.std.specs.Prelude.{ℕ, ◌-◌}
use Rattle.multimap_walks.specs.declared.End.{End}
use Rattle.multimap_walks.specs.declared.End.TheVariants.{Front, Back}
use Rattle.multimap_walks.specs.declared.links.ChainEnds.{ChainEnds}
use Rattle.multimap_walks.specs.declared.links.KeyLink.{KeyLink}

-- where the values of a key stand, by its link
abbrev pub ends_of : KeyLink → ChainEnds
ends_of l = record { first = l.head; last = l.tail; length = l.length }

-- what a step from an end follows: what leads onward, or what leads back
abbrev pub step_from : {X : Type 0} → End → X → X → X
step_from Front next previous = next
step_from Back next previous = previous

-- the place at an end
abbrev pub end_place : End → ChainEnds → ℕ
end_place Front left = left.first
end_place Back left = left.last

-- what is left once the place at an end has gone, where another one is at that end
abbrev pub ends_after : End → ChainEnds → ℕ → ChainEnds
ends_after Front left place = record left { first = place; length = left.length - 1 }
ends_after Back left place = record left { last = place; length = left.length - 1 }
