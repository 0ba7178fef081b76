-- What the walks that lend values for writing have left, and what a step of each leaves. They have
-- no model, so that a contract can follow the loan.
use Rattle.std.specs.Prelude.{◌≡◌, ℕ, List, Option, MatchOption, option_map}
use Rattle.std.specs.Borrow.{Bor, GName, MutBor}
use Rattle.std.specs.Map.Iter.{deref_pair_mut}
use Rattle.multimap_slots.specs.Slots.{item_at}
use Rattle.multimap_slots.specs.SlotCells.{cells_name, lent_slots}
use Rattle.multimap_slots.specs.declared.cells.Cells.{Cells}
use Rattle.multimap_slots.specs.declared.cells_of.SlotCells.{SlotCells}
use Rattle.multimap_slots.specs.declared.link_form.LinkForm.{Ghosts as Form}
use Rattle.multimap_walks.specs.Along.{items_left, places_left}
use Rattle.multimap_walks.specs.Chained.{places_along, positions_at, values_at}
use Rattle.multimap_walks.specs.Ends.{end_place}
use Rattle.multimap_walks.specs.Lending.{HandsOut}
use Rattle.multimap_walks.specs.PairWalk.{pairs_left}
use Rattle.multimap_walks.specs.Walk.{end_rest, TakesEnd}
use Rattle.multimap_walks.specs.declared.End.{End}
use Rattle.multimap_walks.specs.declared.End.TheVariants.{Front, Back}
use Rattle.multimap_walks.specs.declared.links.ChainEnds.{ChainEnds}
use Rattle.multimap_walks.specs.declared.links.ValueLink.{ValueLink}
use Rattle.multimap_walks.specs.declared.writing.chain.EntryValuesMut.{EntryValuesMut}
use Rattle.multimap_walks.specs.declared.writing.pairs.IterMut.{IterMut}
use Rattle.multimap_walks.specs.declared.writing.values.ValuesMut.{ValuesMut}

-- what a `&mut` points to
abbrev pub deref_mut : {X : Type 0} → MutBor X → X
deref_mut x = x.now

-- the position at that end goes where a value is lent
abbrev pub PositionGoes : {X : Type 0} → End → List ℕ → Option X → List ℕ → Type 0
PositionGoes end old r new = MatchOption r (new ≡ old) (λ _. new ≡ end_rest end old)

-- the positions, among all values, of those between two places of the order
abbrev pub positions_along : {V A F : Type 0} → SlotCells V ValueLink A F → ChainEnds → List ℕ
positions_along cells left =
    positions_at (lent_slots cells) (places_left (lent_slots cells).order left)

module _ {K V A F : Type 0} {form : Form F ValueLink} where
  -- the pairs that an `IterMut` has left, as they were when lent
  abbrev pub iter_mut_rest : IterMut K V A F form → List (K × V)
  iter_mut_rest w = pairs_left w.keys.now (lent_slots w.values) w.left

  -- their positions among all pairs
  abbrev pub iter_mut_positions : IterMut K V A F form → List ℕ
  iter_mut_positions w = positions_along w.values w.left

  -- the name of its loan
  abbrev pub iter_mut_name : IterMut K V A F form → GName
  iter_mut_name w = cells_name w.values

  -- its right to write the values, with their order
  abbrev pub iter_mut_values : IterMut K V A F form → SlotCells V ValueLink A F
  iter_mut_values w = w.values

  -- its right to write the values, without their order, and what they end as
  abbrev pub iter_mut_cells : IterMut K V A F form → Cells V
  iter_mut_cells w = w.values.cells

  -- the pair at an end of what is left is lent, its position goes, and its value's place alone is
  -- taken
  pub record LendsPair (end : End) (s : IterMut K V A F form) (r : Option (Bor K × MutBor V))
      (t : IterMut K V A F form) : Type 0 where
    pub steps : TakesEnd end deref_pair_mut (iter_mut_rest s) r (iter_mut_rest t)
    pub positions : PositionGoes end (iter_mut_positions s) r (iter_mut_positions t)
    pub taken : HandsOut s.values (end_place end s.left) (option_map (λ p. p.1) r) t.values

  -- the first pair left is lent: its position goes, and its value's place alone is taken
  abbrev pub LendsFirstPair
      : IterMut K V A F form → Option (Bor K × MutBor V) → IterMut K V A F form → Type 0
  LendsFirstPair = LendsPair Front

  -- the last pair left is lent: its position goes, and its value's place alone is taken
  abbrev pub LendsLastPair
      : IterMut K V A F form → Option (Bor K × MutBor V) → IterMut K V A F form → Type 0
  LendsLastPair = LendsPair Back

  -- the values that a `ValuesMut` has left, as they were when lent
  abbrev pub values_mut_rest : ValuesMut K V A F form → List V
  values_mut_rest w = items_left (lent_slots w.values).order (item_at (lent_slots w.values)) w.left

  -- their positions among all values
  abbrev pub values_mut_positions : ValuesMut K V A F form → List ℕ
  values_mut_positions w = positions_along w.values w.left

  -- the name of its loan
  abbrev pub values_mut_name : ValuesMut K V A F form → GName
  values_mut_name w = cells_name w.values

  -- its right to write the values, with their order
  abbrev pub values_mut_values : ValuesMut K V A F form → SlotCells V ValueLink A F
  values_mut_values w = w.values

  -- its right to write the values, without their order, and what they end as
  abbrev pub values_mut_cells : ValuesMut K V A F form → Cells V
  values_mut_cells w = w.values.cells

  -- the value at an end of what is left is lent, its position goes, and its place alone is taken
  pub record LendsValue (end : End) (s : ValuesMut K V A F form) (r : Option (MutBor V))
      (t : ValuesMut K V A F form) : Type 0 where
    pub steps : TakesEnd end deref_mut (values_mut_rest s) r (values_mut_rest t)
    pub positions : PositionGoes end (values_mut_positions s) r (values_mut_positions t)
    pub taken : HandsOut s.values (end_place end s.left) r t.values

  -- the first value left is lent: its position goes, and its place alone is taken
  abbrev pub LendsFirstValue
      : ValuesMut K V A F form → Option (MutBor V) → ValuesMut K V A F form → Type 0
  LendsFirstValue = LendsValue Front

  -- the last value left is lent: its position goes, and its place alone is taken
  abbrev pub LendsLastValue
      : ValuesMut K V A F form → Option (MutBor V) → ValuesMut K V A F form → Type 0
  LendsLastValue = LendsValue Back

  -- the places of the values that an `EntryValuesMut` has left
  abbrev pub entry_places : EntryValuesMut K V A F form → List ℕ
  entry_places w = places_along (lent_slots w.values) w.left.first w.left.length

  -- the values of a key that an `EntryValuesMut` has left, as they were when lent
  abbrev pub entry_values_mut_rest : EntryValuesMut K V A F form → List V
  entry_values_mut_rest w = values_at (lent_slots w.values) (entry_places w)

  -- their positions among all values of the list
  abbrev pub entry_values_mut_positions : EntryValuesMut K V A F form → List ℕ
  entry_values_mut_positions w = positions_at (lent_slots w.values) (entry_places w)

  -- the name of its loan
  abbrev pub entry_values_mut_name : EntryValuesMut K V A F form → GName
  entry_values_mut_name w = cells_name w.values

  -- its right to write the values, with their order
  abbrev pub entry_values_mut_values : EntryValuesMut K V A F form → SlotCells V ValueLink A F
  entry_values_mut_values w = w.values

  -- its right to write the values, without their order, and what they end as
  abbrev pub entry_values_mut_cells : EntryValuesMut K V A F form → Cells V
  entry_values_mut_cells w = w.values.cells

  -- the key's value at an end of what is left is lent: its position goes, and its place alone is
  -- taken
  pub record LendsOfKey (end : End) (s : EntryValuesMut K V A F form) (r : Option (MutBor V))
      (t : EntryValuesMut K V A F form) : Type 0 where
    pub steps : TakesEnd end deref_mut (entry_values_mut_rest s) r (entry_values_mut_rest t)
    pub positions : PositionGoes end (entry_values_mut_positions s) r
        (entry_values_mut_positions t)
    pub taken : HandsOut s.values (end_place end s.left) r t.values

  -- the key's first value left is lent: its position goes, and its place alone is taken
  abbrev pub LendsFirstOfKey
      : EntryValuesMut K V A F form → Option (MutBor V) → EntryValuesMut K V A F form → Type 0
  LendsFirstOfKey = LendsOfKey Front

  -- the key's last value left is lent: its position goes, and its place alone is taken
  abbrev pub LendsLastOfKey
      : EntryValuesMut K V A F form → Option (MutBor V) → EntryValuesMut K V A F form → Type 0
  LendsLastOfKey = LendsOfKey Back
