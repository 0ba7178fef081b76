-- What a lender's items end as, where the lender is a part of an owner that is lent itself: the loan is that of the owner from then on.
-- Assumes `Logic`.
use mathlib.Core.Path.{◌≡◌}
use Prim.Native.Nat.{ℕ, ◌*◌, ◌^◌}
use mathlib.Core.List.{List, [], ◌∷◌}
use mathlib.Core.Bool.{Bool}
use lib.ListN.{length}
use seplogic.Ra.Ura.{Ura}
use mir.Val.{Val}
use base.Logic.{ent, sep}
use base.Fml.{Fml, GName, fsep, feq, flt}
use base.Stored.{Gv}
use types.Logic.{Logic, sem}
use types.Kit.{‵, later, ◌$◌, ◌∵◌, !, qed, move, keep, drop, use1, use2, fsplit, fsplit3, fjoin, fpick, fpack, updating, await, now, done}
use types.SemTy.{SemTy}
use types.Follow.{after}
use denote.RattleType.{RattleType, Valss}
use denote.Memory.{mem}
use denote.RawPtr.{Ptr, block_ptr}
use denote.Ref.{NamedLft}
use denote.Struct.Struct.{within}
use denote.Struct.Declared.{shape}
use Rattle.std.specs.Prelude.{Option}
use Rattle.std.specs.declared.alloc.Allocator.{Ghosts}
use Rattle.std.specs.contracts.option.Option.{the_row as Opt}
use Rattle.multimap_slots.specs.Ownership.{final, loans, tied_now}
use Rattle.multimap_slots.specs.declared.cells.Cells.{Cells}
use Rattle.multimap_slots.specs.declared.cells_of.SlotCells.{SlotCells}
use Rattle.multimap_slots.specs.declared.link_form.LinkForm.{Ghosts as Form}
use Rattle.multimap_slots.specs.contracts.cells.Cells as C
use Rattle.multimap_slots.specs.contracts.cells_of.SlotCells as S
use Rattle.multimap_slots.proofs.Lending.Ended.{tied_on, left_stays, all_end}
use Rattle.multimap_slots.specs.Ended.{stays, ends_with}

module _ {M : Type 1} {𝓤 : Ura M} (𝓛 : Logic 𝓤) (a : NamedLft) (T : RattleType) (R U : SemTy) (mk : U.rep → R.rep)
    (u : List (Option T.Denot) → U.rep) (ε : GName) (rim : Option (List (Bool × Gv))) where
  abbrev pub renamed : Cells T.Denot → Cells T.Denot
  renamed c = record c { lender_loan = ε; lender_context = rim }

  pub cells_renamed : (c : Cells T.Denot) (vs : List Val) → ((ws : List (Option T.Denot)) → U.coded.code (u ws) ≡ final T c.lender_context ws)
      → ((ws : List (Option T.Denot)) → R.coded.code (mk (u ws)) ≡ final T rim ws)
      → ent 𝓤 (sep 𝓤 (sem 𝓛 ((C.the_row a T).own_val c vs)) (sem 𝓛 (after R U ε c.lender_loan mk)))
      (sem 𝓛 ((C.the_row a T).own_val (renamed c) vs))
  cells_renamed c vs from to =
      let Sized : Fml = flt (length c.items * (mem (Opt T)).size) (2 ^ 63) in
      qed 𝓛 (‵ ((C.the_row a T).own_val c vs) ∷ ‵ (after R U ε c.lender_loan mk) ∷ []) ∵ fsplit ! $ move ! (1 ∷ []) $ fsplit ! $ move ! (1 ∷ []) $
      fpick ! (λ p. fsplit3 ! $ move ! (2 ∷ []) $ fsplit ! $
      -- [tied; the loans; the pointer; the size; the count; the fields; after]
      move ! (0 ∷ 6 ∷ []) $ use2 𝓛 (‵ (tied_now T ε rim c.names c.left))
      (tied_on 𝓛 a.lft T p.0 R U mk u c.lender_loan ε c.lender_context rim from to c.names c.left) $ fjoin ! $
      move ! (2 ∷ 0 ∷ []) $ fjoin ! $ move ! (1 ∷ 0 ∷ []) $ fjoin ! $
      fpack ! (ℕ × ℕ) (λ z. fsep (feq Ptr c.at (block_ptr z.0 z.1))
      (fsep Sized (fsep (tied_now T ε rim c.names c.left) (loans a.lft T z.0 c.names c.items c.left z.1)))) p $
      move ! (1 ∷ 0 ∷ []) $ fjoin ! $ move ! (1 ∷ 0 ∷ []) $ fjoin ! $ done !)

  module _ (L A F : RattleType) (alloc : Ghosts A.Denot) (form : Form F.Denot L.Denot) where
    abbrev pub all_renamed : SlotCells T.Denot L.Denot A.Denot F.Denot → SlotCells T.Denot L.Denot A.Denot F.Denot
    all_renamed s = record s { cells = renamed s.cells }

    abbrev Parts : List RattleType
    Parts = (shape (S.the_type a T L A F alloc form)).fields

    pub slot_cells_renamed : (s : SlotCells T.Denot L.Denot A.Denot F.Denot) (vs : List Val)
        → ((ws : List (Option T.Denot)) → U.coded.code (u ws) ≡ final T s.cells.lender_context ws)
        → ((ws : List (Option T.Denot)) → R.coded.code (mk (u ws)) ≡ final T rim ws)
        → ent 𝓤 (sep 𝓤 (sem 𝓛 ((S.the_row a T L A F alloc form).own_val s vs)) (sem 𝓛 (after R U ε s.cells.lender_loan mk)))
        (sem 𝓛 ((S.the_row a T L A F alloc form).own_val (all_renamed s) vs))
    slot_cells_renamed s vs from to =
        qed 𝓛 (‵ ((S.the_row a T L A F alloc form).own_val s vs) ∷ ‵ (after R U ε s.cells.lender_loan mk) ∷ []) ∵ fpick ! (λ us. fsplit3 ! $
        -- [the value; the cells; the order; after]
        move ! (1 ∷ 3 ∷ []) $ use2 𝓛 (‵ ((C.the_row a T).own_val (renamed s.cells) us.0)) (cells_renamed s.cells us.0 from to) $
        move ! (0 ∷ 2 ∷ []) $ fjoin ! $ move ! (1 ∷ 0 ∷ []) $ fjoin ! $
        fpack ! (Valss Parts) (within (shape (S.the_type a T L A F alloc form)) (renamed s.cells, (s.order, tt)) vs) us $ done !)

-- What a right that is given up says of the items: those handed out end as what their references last held, the others as what stood there
module _ {M : Type 1} {𝓤 : Ura M} (𝓛 : Logic 𝓤) (a : NamedLft) (T : RattleType) where
  open 𝓛 use {H}

  pub cells_end : (c : Cells T.Denot) (vs : List Val) → ent 𝓤 (sem 𝓛 ((C.the_row a T).own_val c vs)) (H.⇛ (sem 𝓛 (ends_with T c)))
  cells_end c vs = qed 𝓛 (‵ ((C.the_row a T).own_val c vs) ∷ []) ∵ updating ! $ fsplit ! $ drop ! $ fsplit ! $ drop ! $
      fpick ! (λ p. fsplit3 ! $ drop ! $ drop ! $ fsplit ! $ move ! (1 ∷ []) $
      use1 𝓛 (later (‵ (stays (mem (Opt T)) c.names c.items c.left))) (left_stays 𝓛 a.lft T p.0 c.names c.items c.left p.1) $ await ! tt $
      move ! (1 ∷ 0 ∷ []) $
      use2 𝓛 (‵ (ends_with T c)) (all_end 𝓛 a.lft T p.0 c.lender_loan c.lender_context c.names c.items c.left) $ now ! $ done !)

  pub slot_cells_end : (L A F : RattleType) (alloc : Ghosts A.Denot) (form : Form F.Denot L.Denot) (s : SlotCells T.Denot L.Denot A.Denot F.Denot) (vs : List Val)
      → ent 𝓤 (sem 𝓛 ((S.the_row a T L A F alloc form).own_val s vs)) (H.⇛ (sem 𝓛 (ends_with T s.cells)))
  slot_cells_end L A F alloc form s vs = qed 𝓛 (‵ ((S.the_row a T L A F alloc form).own_val s vs) ∷ []) ∵ updating ! $ fpick ! (λ us. fsplit3 ! $ drop ! $
      use1 𝓛 (later (‵ (ends_with T s.cells))) (cells_end s.cells us.0) $ await ! tt $ now ! $ keep ! (0 ∷ []) $ done !)
