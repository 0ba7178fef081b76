-- A walk over one key's values whose loan becomes that of what holds the map. Assumes `Logic`.
use mathlib.Core.Path.{◌≡◌}
use mathlib.Core.List.{List, [], ◌∷◌}
use mathlib.Core.Bool.{Bool}
use seplogic.Ra.Ura.{Ura}
use mir.Val.{Val}
use base.Logic.{ent, sep}
use base.Fml.{GName}
use base.Stored.{Gv}
use types.Logic.{Logic, sem}
use types.Kit.{‵, ◌$◌, ◌∵◌, !, qed, move, use2, fsplit, fsplit3, fjoin, fpick, fpack, done}
use types.SemTy.{SemTy}
use types.Follow.{after}
use denote.RattleType.{RattleType, Valss}
use denote.Ref.{NamedLft}
use denote.Struct.Struct.{within}
use denote.Struct.Declared.{shape}
use Rattle.std.specs.Prelude.{Option}
use Rattle.std.specs.declared.alloc.Allocator.{Ghosts}
use Rattle.multimap_slots.specs.Ownership.{final}
use Rattle.multimap_slots.specs.contracts.cells_of.SlotCells as S
use Rattle.multimap_slots.proofs.Lending.Renamed.{all_renamed, slot_cells_renamed}
use Rattle.multimap_walks.specs.contracts.links.ValueLink as VL-type
use Rattle.multimap_walks.specs.contracts.packed.PackedLink as PL-type
use Rattle.multimap_walks.specs.contracts.packed.PackedLinkLinkFormValueLink.TheImpl.{ghosts as form}
use Rattle.multimap_walks.specs.RestWalk.{CanReadChain}
use Rattle.multimap_walks.specs.contracts.writing.chain.EntryValuesMut as W-type
use Rattle.ordered_multimap.specs.ValueCells.{EntryWalk, ValueCells}

module _ {M : Type 1} {𝓤 : Ura M} (𝓛 : Logic 𝓤) (a : NamedLft) (K V A : RattleType) (alloc : Ghosts A.Denot) (R U : SemTy)
    (mk : U.rep → R.rep) (u : List (Option V.Denot) → U.rep) (ε : GName) (rim : Option (List (Bool × Gv))) where
  abbrev pub lent_again : ValueCells V.Denot A.Denot → ValueCells V.Denot A.Denot
  lent_again = all_renamed 𝓛 a V R U mk u ε rim VL-type.the_row A PL-type.the_row alloc form

  abbrev Parts : List RattleType
  Parts = (shape (W-type.the_type a K V A PL-type.the_row form alloc)).fields

  pub entry_values_renamed : (w : EntryWalk K.Denot V.Denot A.Denot) (vs : List Val)
      (can : ∥ CanReadChain (lent_again w.values) w.left ∥₁)
      → ((ws : List (Option V.Denot)) → U.coded.code (u ws) ≡ final V w.values.cells.lender_context ws)
      → ((ws : List (Option V.Denot)) → R.coded.code (mk (u ws)) ≡ final V rim ws)
      → ent 𝓤 (sep 𝓤 (sem 𝓛 ((W-type.the_row a K V A PL-type.the_row form alloc).own_val w vs)) (sem 𝓛 (after R U ε w.values.cells.lender_loan mk)))
      (sem 𝓛 ((W-type.the_row a K V A PL-type.the_row form alloc).own_val (record w { values = lent_again w.values; readable = can }) vs))
  entry_values_renamed w vs can from to =
      qed 𝓛 (‵ ((W-type.the_row a K V A PL-type.the_row form alloc).own_val w vs) ∷ ‵ (after R U ε w.values.cells.lender_loan mk) ∷ []) ∵ fpick !
      (λ us. fsplit3 ! $ move ! (2 ∷ []) $ fsplit ! $
      -- [the cells; the ends; the value; the mark; after]
      move ! (0 ∷ 4 ∷ []) $ use2 𝓛 (‵ ((S.the_row a V VL-type.the_row A PL-type.the_row alloc form).own_val (lent_again w.values) us.1.0))
      (slot_cells_renamed 𝓛 a V R U mk u ε rim VL-type.the_row A PL-type.the_row alloc form w.values us.1.0 from to) $
      fjoin ! $ move ! (2 ∷ 0 ∷ []) $ fjoin ! $ move ! (1 ∷ 0 ∷ []) $ fjoin ! $
      fpack ! (Valss Parts) (within (shape (W-type.the_type a K V A PL-type.the_row form alloc))
      ((W-type.the_type a K V A PL-type.the_row form alloc).to (record w { values = lent_again w.values; readable = can })) vs) us $ done !)
