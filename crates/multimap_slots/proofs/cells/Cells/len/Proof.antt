-- `len` reads the number of slots. Assumes `Logic`.
-- It takes the fields out of the `&`, and what the slots lend meanwhile, which says that the length field counts the items.
-- It reads that field, and gives the fields back.
use mathlib.Core.Path.{◌≡◌, refl, sym}
use Prim.Native.Nat.{ℕ, ◌<◌, ◌^◌}
use mathlib.Core.List.{List, [], ◌∷◌}
use mir.Syntax.{named, w64, a_type}
use mir.MapTy.{inst_fn}
use mir.Val.{Val, vptr, vint}
use base.Logic.{SProp, never, id⊢}
use base.Fml.{Lft, ftrue, flft, fhide}
use contract.Running.{tables}
use types.Kit.{‵, raw, ◌⊛◌, ◌$◌, ◌∵◌, !, qed, move, keep, drop, use1, split, join, rewrite, fsplit, fjoin, feq_i, feq_l, flt_i, suffices}
use types.Kit.{frame, done}
use types.Part.{whole, sub, look_in}
use types.Run.{stop, fld, load, of_opd, returns, enter}
use types.ByLocal.{alloc_all, pass_all, free_all, look_at, through, sets}
use denote.Exit.{yes}
use denote.RattleType.{RattleType, owns}
use denote.Laws.{Is, shows}
use denote.Memory.{cell_at, hidden_shr}
use denote.RawPtr.{in_a_block}
use denote.Ref.{NamedLft, MutRef, ShrRef, shr_vals, shr_Tells}
use denote.Builtin.{RefOf}
use denote.Opens.{unhide}
use denote.Param.{param, layouts}
use denote.Signature.{plain, named_lft}
use denote.Steps.{nothing, peeks, looks, shuts}
use denote.Struct.Lending.{lent_out}
use denote.Triple.Walked.{says, Stays, stay_dropped, walk_of, ends_at, Goes-dropped}
use Rattle.std.proofs.raw_atomic.Walks.{proved}
use Rattle.std.specs.contracts.marker.PhantomData as Mark
use Rattle.multimap_slots.specs.Ownership.{cells_lent}
use Rattle.multimap_slots.specs.contracts.cells.Cells as C
use Rattle.multimap_slots.proofs.Loans.CellsFields.{cells_val, Words, told, words_open}
use Rattle.multimap_slots.specs.contracts.cells.Cells.len as F
use Rattle.multimap_slots.specs.contracts.cells.Cells.len.Key.{name as #self}
use Rattle.multimap_slots.proofs.cells.Cells.len.Statement.{statement}
use Rattle.multimap_slots.proofs.cells.Cells.len.Code as code

pub len_spec : {M : Type 1} → statement M
len_spec 𝓤 𝓛 𝓜 𝓡 wired Y LY =
    let H = 𝓛.H in let 𝓣 = tables 𝓤 H 𝓜 𝓡 𝓡.env in let R : RattleType = param 0 Y in let En = F.ended Y in
    let inst = layouts (a_type ∷ []) (Y, tt) in let fn = inst_fn inst code.function in let c = F.clauses Y 𝓛 𝓜.mem 𝓡.returns in
    let Self = RefOf (0 ∷ []) tt (plain (λ κs. C.the_row (named_lft 3 1 tt κs) R)) (λ _. tt) in
    let hs : Stays En.signature.params En.kept = (stay_dropped Self yes, tt) in
    proved 𝓛 En hs c 𝓜 𝓡 (Goes-dropped 𝓛 3 Self yes (λ κs x f. refl), tt) (#self inst) fn (code.unfolded 𝓤 H 𝓜 𝓡 wired (Y, tt))
    (λ κs. (shr_vals, tt)) (λ κs. (shr_Tells (named 0) κs.0 (C.the_row (named_lft 3 1 tt κs) R), tt)) (λ κs qs bounds a g are.
    let d = a.0.now in let rb : ℕ = a.0.ref_ptr.0 in let ro : ℕ = a.0.ref_ptr.1 in
    let κ : Lft = κs.0 in let κ' : Lft = κs.1.0 in let q = qs.0 in let n : NamedLft = named_lft 3 1 tt κs in
    let It : RattleType = C.the_row n R in let W : RattleType = Words n R in let ws : W.Denot = (d.at, (d.length, (tt, tt))) in
    let y : (walk_of 𝓛 En hs c).Ghost = ((κs, qs, bounds, a, (shr_vals a.0, tt)), g) in let Post : Val
    → SProp 𝓤 = (walk_of 𝓛 En hs c).post y in
    qed 𝓛 (((‵ (flft κ q) ⊛ ‵ (flft κ' qs.1.0) ⊛ ‵ (flft κs.1.1.0 qs.1.1.0) ⊛ ‵ ftrue) ⊛ ‵
    (owns (ShrRef (named 0) κ It ∷ []) a (shr_vals a.0, tt))) ∷ raw ((c κs a).requires g) ∷ []) ∵
    move ! (1 ∷ []) $ drop ! $ split ! $ move ! (1 ∷ []) $ fsplit ! $ move ! (1 ∷ []) $ drop ! $ fsplit ! $ drop ! $ move ! (1 ∷ []) $
    split ! $ move ! (2 ∷ 0 ∷ 1 ∷ []) $
    -- [the cells; the token of the `&`; the other tokens]
    enter ! 𝓣.C 𝓣.Λ fn (vptr rb ro ∷ []) Post $ alloc_all ! (λ l. pass_all ! refl ((tt, tt), tt) $
    use1 𝓛 (‵ (hidden_shr W κ ws rb ro) ⊛ ‵ (fhide (cells_lent κ' R d.length d.at d.items d.left κ)))
    (lent_out 𝓛 (C.struct n R) (C.the_codes R.Denot R.coded (Mark.the_row (MutRef n.mir n.lft R)).coded) (C.the_heap n.lft R)
    (C.the_lent n.lft R) κ d rb ro) $ split ! $
    move ! (1 ∷ []) $ unhide ! $ in_a_block ! d.at (λ p. cells_lent κ' R d.length p d.items d.left κ) (id⊢ 𝓤 (never 𝓤))
    (λ b o e. fsplit ! $ fsplit ! $ feq_l ! (λ counted. drop ! $ drop ! $
    looks ! tt W (words_open n R 𝓛) ws rb ro (λ r vs. move ! (1 ∷ []) $ peeks ! W (Is W) (shows 𝓛 W) ws vs (λ p.
    let word : vs ≡ cells_val d.at d.length ∷ [] = told n R d.at d.length vs p in let fits : d.length < 2 ^ 64 = p.1.1.1.0.1 in
    -- [the fields; their cell; its way back; the fields again; the other tokens]
    rewrite ! 1 (λ (us : List Val). ‵ (cell_at r W.mir us rb ro)) word refl $
    sets ! (of_opd ! (load ! (through ! refl (fld ! refl (stop !))) (look_in ! 1 (sub ! 1 refl (whole !))))) refl
    (tt, record { fits = fits }) $
    rewrite ! 1 (λ (us : List Val). ‵ (cell_at r W.mir us rb ro)) (sym word) refl $ move ! (1 ∷ 0 ∷ 2 ∷ []) $ shuts ! tt W r ws vs rb ro $
    returns ! (look_at ! 0 refl) $ free_all ! refl $ keep ! (0 ∷ 2 ∷ []) $
    -- [the token of the `&`; the other tokens]
    flt_i ! d.length (2 ^ 64) fits $ feq_i ! (List Val) (vint w64 d.length ∷ []) (vint w64 d.length ∷ []) refl $ fjoin ! $
    suffices ! _ (ends_at 𝓛 En hs c y (vint w64 d.length) d.length (tt, tt) (tt, tt)) $ says ! counted $
    move ! (1 ∷ 2 ∷ []) $ join ! $ frame ! $ nothing ! $ nothing ! $ fjoin ! $ done !)))))
    )
