-- The cells that a layout lends: what its slots' loans are, once the list follows a name of its own. Assumes `Logic`.
use mathlib.Core.Path.{◌≡◌, refl}
use Prim.Native.Nat.{ℕ, ◌*◌, ◌^◌}
use mathlib.Core.List.{List, [], ◌∷◌}
use mathlib.Core.Bool.{Bool, true}
use lib.ListN.{length, replicate}
use seplogic.Ra.Ura.{Ura}
use mir.Syntax.{w64}
use mir.Val.{Val, vptr, vint, vstruct, vcons, vnil}
use base.Logic.{ent, sep, id⊢}
use base.Fml.{GName, fsep, feq, flt}
use base.Stored.{Gv}
use types.Follow.{after}
use types.Logic.{Logic, sem}
use types.Kit.{‵, ◌$◌, ◌∵◌, !, qed, use1, use2, fjoin, fpack, feq_i, flt_i, done}
use types.SemTy.{SemTy, Arr}
use denote.Laws.{Is}
use denote.Memory.{mem}
use denote.RattleType.{RattleType}
use denote.RawPtr.{Ptr, block_ptr}
use denote.Ref.{MutRef, NamedLft}
use denote.Steps.{nothing, owned}
use denote.Struct.Laws.{makes as makes_struct}
use denote.Struct.Owning.{shape}
use denote.Struct.Struct.{within}
use Rattle.std.proofs.Common.{◌<◌}
use Rattle.std.specs.Prelude.{Option, None}
use Rattle.std.specs.contracts.marker.PhantomData as Mark
use Rattle.std.specs.contracts.option.Option.{the_row as Opt}
use Rattle.multimap_slots.specs.Ownership.{final, loans, tied_now}
use Rattle.multimap_slots.proofs.Loans.Tied.{tied}
use Rattle.multimap_slots.proofs.Lending.Ended.{tied_first, tied_on}
use Rattle.multimap_slots.specs.declared.cells.Cells.{Cells}
use Rattle.multimap_slots.specs.contracts.cells.Cells as C

module _ (R : RattleType) (b o : ℕ) (xs : List (Option R.Denot)) (ns : List GName) (ε : GName) (rim : Option (List (Bool × Gv))) where
  -- all slots are left, and the whole follows the name of the list
  abbrev pub all_cells : Cells R.Denot
  all_cells = record {
    at = block_ptr b o;
    length = length xs;
    mark = record {};
    lender_loan = ε;
    lender_context = rim;
    names = ns;
    items = xs;
    left = replicate (length xs) true;
  }

abbrev pub cells_val : ℕ → ℕ → ℕ → Val
cells_val b o k = vstruct (vcons (vptr b o) (vcons (vint w64 k) (vcons (vstruct vnil) vnil)))

module _ {M : Type 1} {𝓤 : Ura M} (𝓛 : Logic 𝓤) (a : NamedLft) (R : RattleType) (T : SemTy) (mk : List (Option R.Denot) → T.rep)
    (rim : Option (List (Bool × Gv))) (to : (ws : List (Option R.Denot)) → T.coded.code (mk ws) ≡ final R rim ws) where
  abbrev O : RattleType
  O = Opt R

  pub cells_made : (b o : ℕ) (xs : List (Option R.Denot)) (ns : List GName) (δ ε : GName)
      → (length xs < 2 ^ 64) × (length xs * (mem O).size < 2 ^ 63)
      → ent 𝓤 (sep 𝓤 (sem 𝓛 (tied (mem O) δ ns))
      (sep 𝓤 (sem 𝓛 (after T (Arr (mem O) 0) ε δ mk)) (sem 𝓛 (loans a.lft R b ns xs (replicate (length xs) true) o))))
      (sem 𝓛 ((C.the_row a R).own_val (all_cells R b o xs ns ε rim) (cells_val b o (length xs) ∷ [])))
  cells_made b o xs ns δ ε rm =
      let k : ℕ = length xs in let sz : ℕ = (mem O).size in let at : Ptr = block_ptr b o in let cv : Val = cells_val b o k in
      let M' : RattleType = Mark.the_row (MutRef a.mir a.lft R) in
      qed 𝓛 (‵ (tied (mem O) δ ns) ∷ ‵ (after T (Arr (mem O) 0) ε δ mk) ∷ ‵ (loans a.lft R b ns xs (replicate k true) o) ∷ []) ∵
      use1 𝓛 (‵ (tied_now R δ None ns (replicate k true))) (tied_first 𝓛 a.lft R b δ ns k) $
      use2 𝓛 (‵ (tied_now R ε rim ns (replicate k true)))
      (tied_on 𝓛 a.lft R b T (Arr (mem O) 0) mk (λ ws. ws) δ ε None rim (λ ws. refl) to ns (replicate k true)) $ fjoin ! $
      flt_i ! (k * sz) (2 ^ 63) rm.1 $ fjoin ! $ feq_i ! Ptr at at refl $ fjoin ! $
      fpack ! (ℕ × ℕ) (λ z. fsep (feq Ptr at (block_ptr z.0 z.1))
      (fsep (flt (k * sz) (2 ^ 63)) (fsep (tied_now R ε rim ns (replicate k true)) (loans a.lft R z.0 ns xs (replicate k true) z.1))))
      (b, o) $ feq_i ! ℕ k k refl $ fjoin ! $
      nothing ! $ owned ! M' (Is M') (makes_struct (Mark.the_type (MutRef a.mir a.lft R)) tt 𝓛) (record {}) (vstruct vnil ∷ [])
      (tt, (refl, tt)) $ fjoin ! $
      flt_i ! k (2 ^ 64) rm.0 $ feq_i ! (List Val) (vint w64 k ∷ []) (vint w64 k ∷ []) refl $ fjoin ! $ fjoin ! $
      feq_i ! (List Val) (vptr b o ∷ []) (vptr b o ∷ []) refl $ fjoin ! $ feq_i ! (List Val) (cv ∷ []) (cv ∷ []) refl $ fjoin ! $
      fpack ! (List Val × (List Val × (List Val × Unit {0}))) (within (shape (C.the_type a R)) (at, (k, (tt, tt))) (cv ∷ []))
      (vptr b o ∷ [], (vint w64 k ∷ [], (vstruct vnil ∷ [], tt))) $ fjoin ! $
      use1 𝓛 (‵ ((C.the_row a R).own_val (all_cells R b o xs ns ε rim) (cv ∷ []))) (id⊢ 𝓤 _) $ done !
