-- What a contract sees of a walk over one key's values, and what a step of it leaves.
use Rattle.std.specs.Prelude.{◌≡◌, ℕ, ◌+◌, Bool, List, [], ◌∷◌, length, Option, None, Some, ◌⊎◌}
use Rattle.std.specs.Borrow.{Bor}
use Rattle.std.specs.Map.Iter.{deref}
use Rattle.multimap_slots.specs.Slots.{Slots}
use Rattle.multimap_walks.specs.Chained.{places_along, positions_left, values_at}
use Rattle.multimap_walks.specs.Walk.{end_rest, TakesEnd}
use Rattle.multimap_walks.specs.declared.links.ValueLink.{ValueLink}
use Rattle.multimap_walks.specs.declared.End.{End}
use Rattle.multimap_walks.specs.declared.End.TheVariants.{Front, Back}

-- the values left, their positions among all values of the list (none once they have left it), and
-- how many value slots were read so far
pub record ChainWalk (V : Type 0) : Type 0 where
  pub left : List V
  pub positions : List ℕ
  pub reads : ℕ

-- how many value slots of the list a step reads: one, or none of values that have left the list,
-- which have no positions
abbrev pub reads_of_step : List ℕ → ℕ
reads_of_step [] = 0
reads_of_step (position ∷ positions) = 1

module _ {V : Type 0} where
  -- what is left of a walk along the links, from a place on
  abbrev pub chain_walk : Slots V ValueLink → Bool → ℕ → ℕ → ℕ → ChainWalk V
  chain_walk values detached front n reads = record {
    left = values_at values (places_along values front n);
    positions = positions_left values detached (places_along values front n);
    reads = reads;
  }

  -- an iterator at its start, over values that have left the list
  abbrev pub detached_walk : List V → ChainWalk V
  detached_walk values = record { left = values; positions = []; reads = 0 }

  -- a walk has a position for each value that is left, or none where its values have left the list
  abbrev pub AreCounted : ChainWalk V → Type 0
  AreCounted walk = (walk.positions ≡ []) ⊎ (length walk.positions ≡ length walk.left)

  -- a value is given: its position goes, and the one slot that was read is counted
  pub record CountsOne (end : End) (old new : ChainWalk V) : Type 0 where
    pub positions : new.positions ≡ end_rest end old.positions
    pub reads : new.reads ≡ old.reads + reads_of_step old.positions
    pub counted : AreCounted old

  -- where no value is given, nothing changes
  abbrev pub Counts : End → ChainWalk V → Option (Bor V) → ChainWalk V → Type 0
  Counts end old None new = (new.positions ≡ old.positions) × (new.reads ≡ old.reads)
  Counts end old (Some given) new = CountsOne end old new

  -- the value at an end of what is left is given, or none where nothing is left
  abbrev pub GivesEnd : End → ChainWalk V → Option (Bor V) → ChainWalk V → Type 0
  GivesEnd end old given new = TakesEnd end deref old.left given new.left × Counts end old given new

  -- the first value left is given, or none
  abbrev pub GivesFirst : ChainWalk V → Option (Bor V) → ChainWalk V → Type 0
  GivesFirst = GivesEnd Front

  -- the last value left is given, or none
  abbrev pub GivesLast : ChainWalk V → Option (Bor V) → ChainWalk V → Type 0
  GivesLast = GivesEnd Back
