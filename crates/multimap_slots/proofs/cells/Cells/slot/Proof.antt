-- `slot` shows one slot that a `&` reaches. Assumes `Logic`.
-- It takes the fields out of the `&`, and of what the slots lend meanwhile the slot at the place (`slot_seen`), for as long as the `&`.
-- It computes the slot's address, which fits, gives the fields back, and makes the reference.
use mathlib.Core.Path.{◌≡◌, refl, sym, ap, ◌∙◌}
use Prim.Native.Nat.{ℕ, ◌+◌, ◌*◌, ◌<◌, ◌^◌}
use native.Mathlib.Omega.{arith}
use mathlib.Core.List.{List, [], ◌∷◌, ◌++◌}
use lib.ListN.{length, get_or}
use mir.Syntax.{named, w64, a_type}
use mir.MapTy.{inst_fn}
use mir.Val.{Val, vptr}
use base.Logic.{SProp, never, id⊢}
use base.Fml.{Lft, ftrue, flft, fhide, Incl-refl}
use contract.BorrowLft.{◌⊑◌, ⊑_meet}
use prog.Wp.{Env}
use contract.Running.{tables}
use types.Kit.{‵, given, learn, ◌⊛◌, at_ret, ◌$◌, ◌∵◌, !, qed, move, keep, drop, use1, split, join, rewrite, fsplit, fsplit3, fjoin, feq_i}
use types.Kit.{flt_l, suffices, frame, done}
use types.Part.{whole, sub, look_in}
use types.Run.{stop, fld, load, of_opd, bin, size_lit, addr, first, blocks, exec, returns, enter}
use types.ByLocal.{alloc_all, pass_all, free_all, look_at, get, through, sets, sets_last, env}
use denote.Exit.{yes}
use denote.RattleType.{RattleType, owns}
use denote.Laws.{Is, shows}
use denote.Memory.{mem, cell_at, shared_of, hidden_shr}
use denote.RawPtr.{Ptr, block_ptr, in_a_block}
use denote.Ref.{NamedLft, MutRef, ShrRef, Bor, shr_vals, shr_Tells}
use denote.Plain.{uint_vals, uint_Tells}
use denote.Builtin.{RefOf, usize}
use denote.Opens.{hide, unhide}
use denote.Param.{param, layouts}
use denote.Param.Laws.{param_laws}
use denote.SharingLaws.{shortens}
use denote.Signature.{plain, named_lft}
use denote.Steps.{nothing, peeks, looks, shuts}
use denote.Struct.Lending.{lent_out}
use denote.Triple.Walked.{says, Stays, stay_dropped, walk_of, ends_at, Goes-dropped}
use Rattle.std.proofs.raw_atomic.Walks.{proved}
use Rattle.std.proofs.VecSteps.Shapes.{after}
use Rattle.std.specs.Prelude.{None}
use Rattle.std.specs.contracts.marker.PhantomData as Mark
use Rattle.std.specs.contracts.option.Option.{the_row as Opt}
use Rattle.std.proofs.option.Option.TheLaws as Opt-laws
use Rattle.multimap_slots.specs.Ownership.{cells_lent}
use Rattle.multimap_slots.specs.Taken.{CanTake}
use Rattle.multimap_slots.specs.contracts.cells.Cells as C
use Rattle.multimap_slots.proofs.Loans.OneLoan.{times_below, one_below}
use Rattle.multimap_slots.proofs.Loans.Sharing.{slot_seen}
use Rattle.multimap_slots.proofs.Loans.CellsFields.{cells_val, Words, told, words_open}
use Rattle.multimap_slots.specs.contracts.cells.Cells.slot as F
use Rattle.multimap_slots.specs.contracts.cells.Cells.slot.Key.{name as #self}
use Rattle.multimap_slots.proofs.cells.Cells.slot.Statement.{statement}
use Rattle.multimap_slots.proofs.cells.Cells.slot.Code as code

pub slot_spec : {M : Type 1} → statement M
slot_spec 𝓤 𝓛 𝓜 𝓡 wired Y LY =
    let H = 𝓛.H in let 𝓣 = tables 𝓤 H 𝓜 𝓡 𝓡.env in let R : RattleType = param 0 Y in let O : RattleType = Opt R in let En = F.ended Y in
    let inst = layouts (a_type ∷ []) (Y, tt) in let fn = inst_fn inst code.function in let c = F.clauses Y 𝓛 𝓜.mem 𝓡.returns in
    let Self = RefOf (0 ∷ []) tt (plain (λ κs. C.the_row (named_lft 3 1 tt κs) R)) (λ _. tt) in
    let hs : Stays En.signature.params En.kept = (stay_dropped Self yes, (stay_dropped (plain (λ _. usize)) yes, tt)) in
    proved 𝓛 En hs c 𝓜 𝓡 (Goes-dropped 𝓛 3 Self yes (λ κs x f. refl), (Goes-dropped 𝓛 3 (plain (λ _. usize)) yes (λ κs x f. refl), tt))
    (#self inst) fn (code.unfolded 𝓤 H 𝓜 𝓡 wired (Y, tt))
    (λ κs. (shr_vals, (uint_vals w64, tt))) (λ κs. (shr_Tells (named 0) κs.0 (C.the_row (named_lft 3 1 tt κs) R), (uint_Tells w64, tt)))
    (λ κs qs bounds a g are.
    let d = a.0.now in let i : ℕ = a.1.0 in let rb : ℕ = a.0.ref_ptr.0 in let ro : ℕ = a.0.ref_ptr.1 in let s : ℕ = (mem O).size in
    let κ : Lft = κs.0 in let κ' : Lft = κs.1.0 in let q = qs.0 in let q' = qs.1.0 in let n : NamedLft = named_lft 3 1 tt κs in
    let It : RattleType = C.the_row n R in let W : RattleType = Words n R in let ws : W.Denot = (d.at, (d.length, (tt, tt))) in
    let x = get_or d.items i None in
    let y : (walk_of 𝓛 En hs c).Ghost = ((κs, qs, bounds, a, (shr_vals a.0, (uint_vals w64 i, tt))), g) in let Post : Val
    → SProp 𝓤 = (walk_of 𝓛 En hs c).post y in
    qed 𝓛 (((‵ (flft κ q) ⊛ ‵ (flft κ' q') ⊛ ‵ (flft κs.1.1.0 qs.1.1.0) ⊛ ‵ ftrue) ⊛ ‵
    (owns (ShrRef (named 0) κ It ∷ usize ∷ []) a (shr_vals a.0, (uint_vals w64 i, tt))))
    ∷ (given (κs.1.1.0 ⊑ R.lives) (‵ ftrue) ⊛ given (CanTake d i) (‵ ftrue)) ∷ []) ∵
    move ! (1 ∷ []) $ split ! $ drop ! $ learn ! (λ asked. drop ! $ split ! $ move ! (1 ∷ []) $ fsplit3 ! $ move ! (1 ∷ []) $ drop ! $
    fsplit ! $ drop ! $ move ! (1 ∷ []) $ drop ! $ move ! (1 ∷ []) $ split ! $ move ! (2 ∷ 0 ∷ 1 ∷ []) $
    -- [the cells; the token of the `&`; the other tokens]
    enter ! 𝓣.C 𝓣.Λ fn (vptr rb ro ∷ uint_vals w64 i) Post $
    alloc_all ! (λ l. pass_all ! refl ((tt, tt), ((tt, record { fits = are.1.0.1 }), tt)) $
    let E : Env 𝓤 H = env fn.locals l in
    use1 𝓛 (‵ (hidden_shr W κ ws rb ro) ⊛ ‵ (fhide (cells_lent κ' R d.length d.at d.items d.left κ)))
    (lent_out 𝓛 (C.struct n R) (C.the_codes R.Denot R.coded (Mark.the_row (MutRef n.mir n.lft R)).coded) (C.the_heap n.lft R)
    (C.the_lent n.lft R) κ d rb ro) $ split ! $
    move ! (1 ∷ []) $ unhide ! $ in_a_block ! d.at (λ p. cells_lent κ' R d.length p d.items d.left κ) (id⊢ 𝓤 (never 𝓤))
    (λ b o e. fsplit ! $ fsplit ! $ drop ! $ flt_l ! (λ small.
    let tiny : s < 2 ^ 64 = omega (arith, one_below (length d.items) s (2 ^ 63) (omega (arith, asked.within)) small) in
    let far : i * s < 2 ^ 64 = omega (arith, times_below i (length d.items) s (2 ^ 63) (omega (arith, asked.within)) small) in
    let at : ℕ = i * s + o in
    use1 𝓛 (‵ (shared_of O x b at (κ ++ κ'))) (slot_seen 𝓛 κ' κ R b d.items d.left i o asked.left asked.within) $
    use1 𝓛 (‵ (shared_of O x b at κ)) (shortens 𝓛 (shared_of O x b at) ((Opt-laws.the_row_laws R (param_laws 0 Y LY)).shr_laws x b at)
    (κ ++ κ') κ (⊑_meet κ κ κ' (Incl-refl κ) bounds.0)) $
    move ! (1 ∷ 2 ∷ []) $ looks ! tt W (words_open n R 𝓛) ws rb ro (λ r vs. move ! (1 ∷ []) $ peeks ! W (Is W) (shows 𝓛 W) ws vs (λ p.
    let word : vs ≡ cells_val (block_ptr b o) d.length ∷ [] = told n R d.at d.length vs p ∙ ap (λ (z : Ptr). cells_val z d.length ∷ []) e in
    -- [the fields; their cell; its way back; the fields again; the slot; the other tokens]
    rewrite ! 1 (λ (us : List Val). ‵ (cell_at r W.mir us rb ro)) word refl $ first ! $ blocks ! $
    sets ! (of_opd ! (load ! (through ! refl (fld ! refl (stop !))) (look_in ! 1 (sub ! 0 refl (whole !))))) refl (tt, tt) $
    sets ! (bin ! (get ! refl) (size_lit ! (record { fits = tiny })) (record { fits = far })) refl (tt, record { fits = far }) $
    sets ! (bin ! (get ! refl) (get ! refl) tt) refl (tt, tt) $
    rewrite ! 1 (λ (us : List Val). ‵ (cell_at r W.mir us rb ro)) (sym word) refl $ move ! (1 ∷ 0 ∷ 2 ∷ []) $ shuts ! tt W r ws vs rb ro $
    move ! (2 ∷ []) $ hide ! $
    sets_last ! (addr ! (through ! refl (stop !))) refl (tt, tt) $ exec ! 𝓣.C 𝓣.Λ E (after 1 fn.body) (at_ret E Post) $
    sets ! (of_opd ! (get ! refl)) refl (tt, tt) $
    feq_i ! (List Val) (vptr b at ∷ []) (vptr b at ∷ []) refl $ fjoin ! $ returns ! (look_at ! 0 refl) $ free_all ! refl $
    keep ! (0 ∷ 1 ∷ 3 ∷ []) $
    -- [the reference; the token of the `&`; the other tokens]
    let ref : Bor O.Denot = record { ref_ptr = (b, at); now = x } in
    suffices ! _ (ends_at 𝓛 En hs c y (vptr b at) ref (tt, (tt, tt)) (tt, (tt, tt))) $ says ! refl $
    move ! (1 ∷ 2 ∷ []) $ join ! $ frame ! $ nothing ! $ nothing ! $ fjoin ! $ nothing ! $ fjoin ! $ done !)))))))
