-- What a map ends as, where the right to write its values is handed out.
use base.Stored.{Gv}
use Rattle.std.specs.Prelude.{◌≡◌, ℕ, Bool, List, [], ◌∷◌, Option, None, get_or}
use Rattle.std.specs.Prelude.{unwrap_or}
use Rattle.std.specs.Borrow.{Fml, GName, RattleType, MutBor, follows}
use Rattle.std.specs.HashMap.Lent.{HashMembers}
use Rattle.std.specs.Ordering.{nat_cmp}
use Rattle.std.specs.FinMap.{FinMap}
use Rattle.std.specs.declared.alloc.Allocator as alloc
use Rattle.std.specs.declared.hash.Hasher as hasher
use Rattle.std.specs.declared.hash.BuildHasher as builder
use Rattle.multimap_slots.specs.Slots.{Slots}
use Rattle.multimap_slots.specs.SlotCells.{lent_slots, LendsSlots}
use Rattle.multimap_slots.specs.Tapes.{Taped}
use Rattle.multimap_slots.specs.CellsLends.{with_refilled}
use Rattle.multimap_slots.specs.Codes.{EndsTape}
use Rattle.multimap_slots.specs.Ownership.{final}
use Rattle.multimap_slots.specs.TapeLends.{lends_cells}
use Rattle.multimap_walks.specs.declared.links.KeyLink.{KeyLink}
use Rattle.multimap_walks.specs.declared.links.ValueLink.{ValueLink}
use Rattle.multimap_walks.specs.contracts.links.ValueLink.{the_row as link_row}
use Rattle.multimap_walks.specs.contracts.packed.PackedLink.{the_row as packed_row}
use Rattle.multimap_walks.specs.contracts.packed.PackedLinkLinkFormValueLink.TheImpl.{ghosts}
use Rattle.multimap_walks.specs.Chained.{pairs_of}
use Rattle.multimap_walks.specs.Lending.{AllAreLeft}
use Rattle.ordered_multimap.specs.ValueCells.{ValueCells}
use Rattle.ordered_multimap.specs.Lists.{lists}
use Rattle.ordered_multimap.specs.Multimap.{Multimap, multimap_code}
use Rattle.ordered_multimap.specs.Agrees.{Agrees, lists_of}
use Rattle.ordered_multimap.specs.PopAnswers.{map_row}

module _ {K V : Type 0} where
  -- the pairs, each with the value at its position in the other list, where there is one
  abbrev pub revalued : List (K × V) → List (K × V) → List (K × V)
  revalued [] qs = []
  revalued (p ∷ ps) [] = p ∷ revalued ps []
  revalued (p ∷ ps) (q ∷ qs) = (p.0, q.1) ∷ revalued ps qs

  -- the map with these items in the slots of its values, exactly where values stand: under the same
  -- keys and in the same order
  abbrev pub with_values : {S : Type 0} → Multimap K V S → List (Option V) → Multimap K V S
  with_values m ws =
      let values : Slots V ValueLink = with_refilled m.slots.values ws in record m {
        lists = lists m.lists.keys (revalued m.lists.pairs (pairs_of m.slots.keys values));
        slots = record m.slots { values = values };
      }

  -- the pairs, each with the item of its place, where one is there
  abbrev pub pairs_ended : List (K × V) → List ℕ → List (Option V) → List (K × V)
  pairs_ended [] places ws = []
  pairs_ended (p ∷ pairs) [] ws = p ∷ pairs
  pairs_ended (p ∷ pairs) (place ∷ places) ws =
      (p.0, unwrap_or (get_or ws place None) p.1) ∷ pairs_ended pairs places ws

  -- the same with those of another map
  abbrev pub with_values_of : {S : Type 0} → Multimap K V S → Multimap K V S → Multimap K V S
  with_values_of m n = with_values m n.slots.values.items

  -- the map's slots of values with these items, and nothing else changed
  abbrev pub with_items : {S : Type 0} → Multimap K V S → List (Option V) → Multimap K V S
  with_items m ws =
      record m { slots = record m.slots { values = record m.slots.values { items = ws } } }

  -- the keys of the map are there to be read and its values to be taken, each once
  pub record AreLent {S A : Type 0} (eq : K → K → Bool) (hash : S → K → ℕ) (m : Multimap K V S)
      (cells : ValueCells V A) (keys : Slots K KeyLink) : Type 0 where
    pub keys_are : keys ≡ m.slots.keys
    pub values_are : LendsSlots m.slots.values cells
    pub shown : lists_of keys (lent_slots cells) ≡ m.lists
    pub rows : FinMap nat_cmp ℕ
    pub agrees : Agrees eq (hash m.hasher) keys rows (lent_slots cells)
    pub left : AllAreLeft cells

-- the map's values are lent; whatever items their slots end with, the pairs are then the map's own,
-- each with the item of its place; and the lender's loan ends as what has these items
pub record EndsAs {K V S A : Type 0} (m : Multimap K V S) (c : ValueCells V A)
    (slots whole : List (Option V) → Gv) : Type 0 where
  pub lent : LendsSlots m.slots.values c
  pub pairs : (ws : List (Option V))
      → (with_values m ws).lists.pairs ≡ pairs_ended m.lists.pairs m.slots.values.order ws
  pub ends : (ws : List (Option V)) → slots ws ≡ whole ws

-- the map's values are lent; once their slots end with some items, the lender's loan ends with the
-- map that has them
abbrev pub EndsMap : (K V S : RattleType) → {A : Type 0} → Multimap K.Denot V.Denot S.Denot
    → ValueCells V.Denot A → Type 0
EndsMap K V S m c = EndsAs m c (final V c.cells.lender_context)
    (λ ws. (multimap_code K.coded V.coded S.coded).code (with_items m ws))

-- the same of a tape of values
abbrev pub EndsTapeOfValues : (V : RattleType) → {A : Type 0} → Taped V.Denot ValueLink
    → ValueCells V.Denot A → Type 0
EndsTapeOfValues V t c = EndsTape V link_row t c.cells

-- once the loan of its items ends, a tape of values is as before but for them
abbrev pub lends_tape_values : (V A : RattleType) (heap : alloc.Ghosts A.Denot)
    → MutBor (Taped V.Denot ValueLink) → ValueCells V.Denot A.Denot → Fml
lends_tape_values V A heap t cells = lends_cells V link_row A packed_row heap ghosts t cells

module _ (K V S A H : RattleType) (key : HashMembers K.Denot)
    (build : builder.Ghosts S.Denot H.Denot) (hash : hasher.Ghosts H.Denot)
    (heap : alloc.Ghosts A.Denot) where
  -- once the loan with this name ends, the map is as before but for its values
  abbrev pub lends_values : MutBor (Multimap K.Denot V.Denot S.Denot) → GName → Fml
  lends_values m r = follows (map_row K V S A H key build hash heap)
      (map_row K V S A H key build hash heap) m.ghost_name r (with_values_of m.now)
