-- `end` lets the loans go that are left. Assumes `Logic`.
-- It ends the cells within, of whichever of the two kinds they are (`slot_cells_end`), and drops the rest.
-- It gives back what they end as, and the tokens as they came.
use mathlib.Core.Path.{refl, sym, subst}
use mathlib.Core.List.{List, [], ◌∷◌, ◌++◌}
use mir.Syntax.{a_type, dcons, dnil}
use mir.MapTy.{inst_fn}
use mir.Val.{Val, vunit}
use base.Logic.{SProp, ent}
use base.Fml.{ftrue, flft}
use prog.Wp.{WpFn}
use types.Kit.{updating, now, done, ‵, raw, ◌⊛◌, later, ◌$◌, ◌∵◌, !, qed, by, move, drop, use1, split, fjoin, feq_i, await}
use types.Run.{of_opd, unit_lit, returns, enter}
use types.ByLocal.{alloc_all, pass_all, free_all, look_at, sets}
use contract.Running.{tables}
use denote.Exit.{no}
use denote.RattleType.{RattleType}
use denote.Param.{param, layout, bounded}
use denote.Param.Laws.{param_laws}
use denote.Signature.{plain, named_lft}
use denote.Steps.{nothing}
use denote.Triple.Walked.{Stays, stay_dropped, walk_of}
use Rattle.std.proofs.raw_atomic.Walks.{proved_at, leaves}
use Rattle.multimap_slots.specs.Ended.{ends_with}
use Rattle.multimap_slots.specs.contracts.cells_of.SlotCells as S
use Rattle.multimap_slots.proofs.cells_of.SlotCells.TheLaws as S-laws
use Rattle.multimap_slots.proofs.Lending.Ended.{one_of}
use Rattle.multimap_slots.proofs.Lending.Renamed.{slot_cells_end}
use Rattle.multimap_slots.specs.contracts.cells_of.SlotCells.end as F
use Rattle.multimap_slots.specs.contracts.cells_of.SlotCells.end.Key.{name as #self}
use Rattle.multimap_slots.proofs.cells_of.SlotCells.end.Statement.{statement}
use Rattle.multimap_slots.proofs.cells_of.SlotCells.end.Code as code

pub end_spec : {M : Type 1} → statement M
end_spec 𝓤 𝓛 𝓜 𝓡 wired X Y Z W LX LY LZ LW ga da gf df dd de m₁ m₂ m₃ m₄ =
    let H = 𝓛.H in let 𝓣 = tables 𝓤 H 𝓜 𝓡 𝓡.env in let R : RattleType = param 0 X in let L : RattleType = param 1 Y in
    let A : RattleType = param 2 Z in let F' : RattleType = param 3 W in
    let En = F.ended X Y Z W ga da gf df dd de in
    let inst = bounded (a_type ∷ a_type ∷ a_type ∷ a_type ∷ []) (X, (Y, (Z, (W, tt)))) (dcons da (dcons df (dcons dd (dcons de dnil)))) in
    let fn = inst_fn inst code.function in let c = F.clauses X Y Z W ga da gf df dd de 𝓛 𝓜.mem 𝓡.returns in
    let hs : Stays En.signature.params En.kept = (stay_dropped (plain (λ κs. S.the_row (named_lft 5 0 tt κs) R L A F' ga gf)) no, tt) in
    proved_at 𝓛 En hs c 𝓜 𝓡 (
      (λ κs x f vs ok. qed 𝓛 (‵ ftrue ∷ []) ∵ updating ! $ nothing ! $ fjoin ! $ nothing ! $ fjoin ! $ now ! $
          done !),
      tt,
    ) (#self inst) fn (code.unfolded 𝓤 H 𝓜 𝓡 wired (X, (Y, (Z, (W, tt)))) da df dd de) (λ y are.
    let κs = y.0.0 in let qs = y.0.1 in let d = y.0.3.0 in let a = named_lft 5 0 tt κs in
    let It : RattleType = S.the_row a R L A F' ga gf in
    let laws = S-laws.the_row_laws a R L A F' ga gf (param_laws 0 X LX) (param_laws 1 Y LY) (param_laws 2 Z LZ) (param_laws 3 W LW) in
    let At : List Val → (walk_of 𝓛 En hs c).Ghost = λ us. ((κs, qs, y.0.2, y.0.3, (us, tt)), y.1) in
    let got = one_of (layout It) y.0.4.0 ((laws.lawful 𝓛).typed d y.0.4.0 are.0) in
    let v : Val = got.0 in
    subst (λ (us : List Val). ent 𝓤 ((walk_of 𝓛 En hs c).pre (At us)) (WpFn 𝓤 H 𝓣.C 𝓣.Λ fn (us ++ []) ((walk_of 𝓛 En hs c).post (At us))))
    (sym got.1) (
    let z : (walk_of 𝓛 En hs c).Ghost = At (v ∷ []) in let Post : Val → SProp 𝓤 = (walk_of 𝓛 En hs c).post z in
    qed 𝓛 (((‵ (flft κs.0 qs.0) ⊛ ‵ (flft κs.1.0 qs.1.0) ⊛ ‵ (flft κs.1.1.0 qs.1.1.0) ⊛ ‵ (flft κs.1.1.1.0 qs.1.1.1.0) ⊛ ‵ (flft κs.1.1.1.1.0 qs.1.1.1.1.0) ⊛ ‵ ftrue) ⊛ ‵
    (It.own_val d (v ∷ [])) ⊛ ‵ ftrue) ∷ raw ((c κs y.0.3).requires y.1) ∷ []) ∵
    split ! $ move ! (2 ∷ []) $ drop ! $ move ! (1 ∷ []) $ split ! $ move ! (1 ∷ []) $ drop ! $
    -- [the cells; the tokens]
    enter ! 𝓣.C 𝓣.Λ fn (v ∷ []) Post $ alloc_all ! (λ l. pass_all ! refl (got.2, tt) $
    use1 𝓛 (later (‵ (ends_with R d.cells))) (slot_cells_end 𝓛 a R L A F' ga gf d (v ∷ [])) $ await ! tt $
    sets ! (of_opd ! (unit_lit !)) refl (tt, tt) $ returns ! (look_at ! 0 refl) $ free_all ! refl $
    feq_i ! (List Val) (vunit ∷ []) (vunit ∷ []) refl $ nothing ! $ nothing ! $ fjoin ! $ move ! (3 ∷ 0 ∷ 1 ∷ 2 ∷ []) $
    by ! (leaves 𝓛 En hs c z vunit tt ((tt, (tt, tt)), tt) (tt, tt)))))
