-- The drop of an `IterMut`: the loans of the values that were not given end. Assumes `Logic`.
-- The walk's value is a struct that begins with the counter (`first_part`); `slot_cells_end` tells what the cells beside it end as.
-- The body hands the counter to one call and returns, and `leaves` gives the tokens of the lifetimes back with that ending.
use mathlib.Core.Path.{◌≡◌, refl, sym, subst, ap, ◌∙◌}
use mathlib.Core.List.{List, [], ◌∷◌, ◌++◌}
use mir.Syntax.{a_type, dcons, dnil}
use mir.MapTy.{inst_fn}
use mir.Val.{Val, vunit, vstruct, vcons, of_list}
use base.Logic.{SProp, ent, id⊢}
use base.Fml.{ftrue, flft}
use prog.Wp.{WpFn}
use types.Kit.{some, pick, use2, join, updating, now, done, ‵, raw, ◌⊛◌, later, ◌$◌, ◌∵◌, !, qed, by}
use types.Kit.{move, drop, use1, split, fsplit, fsplit3, fjoin, fpick, feq_i, feq_l, rewrite, await}
use types.Run.{of_opd, unit_lit, returns, enter, fld, stop, no_more, and_then}
use types.ByLocal.{alloc_all, pass_all, free_all, look_at, get, get_in, sets, lands_as}
use types.Part.{sub, whole}
use contract.Running.{tables}
use denote.Exit.{no}
use denote.RattleType.{RattleType}
use denote.Param.{param, layout, bounded}
use denote.Param.Laws.{param_laws}
use denote.Signature.{plain, named_lft}
use denote.Steps.{nothing, peeks}
use denote.Triple.Call.{calls_at}
use denote.Triple.Table.{framed}
use denote.Triple.Spec.{triple_of}
use denote.Triple.Clauses.{lasts, Lasts}
use denote.Builtin.{unit}
use denote.Triple.Walked.{Stays, stay_dropped, walk_of}
use Rattle.std.proofs.raw_atomic.Walks.{proved_at, leaves}
use Rattle.multimap_slots.specs.Ended.{ends_with}
use Rattle.multimap_walks.specs.contracts.links.ValueLink as VL-type
use Rattle.multimap_slots.specs.contracts.reads.Reads as Rd-type
use Rattle.multimap_slots.proofs.reads.Reads.TheLaws as Rd-laws
use denote.Laws.{Is, shows}
use Rattle.multimap_walks.specs.contracts.writing.pairs.IterMut as S
use Rattle.multimap_walks.proofs.writing.pairs.IterMut.TheLaws as S-laws
use Rattle.multimap_slots.proofs.Lending.Ended.{one_of}
use Rattle.multimap_slots.proofs.Lending.Renamed.{slot_cells_end}
use Rattle.multimap_walks.specs.contracts.writing.pairs.IterMut.drop as F
use Rattle.multimap_walks.specs.contracts.slots.end_reads as g₁
use Rattle.multimap_walks.proofs.slots.end_reads.Met.{met as met₁}
use Rattle.multimap_walks.specs.contracts.writing.pairs.IterMut.drop.Key.{name as #self}
use Rattle.multimap_walks.proofs.writing.pairs.IterMut.drop.Statement.{statement}
use Rattle.multimap_walks.proofs.writing.pairs.IterMut.drop.Code as code

-- the first part of a struct, and the one value of a list
abbrev first_part : Val → List Val → Val
first_part v (vstruct (vcons w ws) ∷ vs) = w
first_part v _ = v

abbrev only : List Val → Val
only [] = vunit
only (v ∷ vs) = v

pub drop_spec : {M : Type 1} → statement M
drop_spec 𝓤 𝓛 𝓜 𝓡 wired X Y Z W LX LY LZ LW ga da gf db de df dg dh m₁ m₂ m₃ m₄ m₅ m₆ =
    let H = 𝓛.H in let 𝓣 = tables 𝓤 H 𝓜 𝓡 𝓡.env in
    let K : RattleType = param 0 X in let V : RattleType = param 1 Y in let A : RattleType = param 2 Z in let B : RattleType = param 3 W in
    let En = F.ended X Y Z W ga da gf db de df dg dh in
    let inst = bounded (a_type ∷ a_type ∷ a_type ∷ a_type ∷ []) (X, (Y, (Z, (W, tt))))
    (dcons da (dcons db (dcons de (dcons df (dcons dg (dcons dh dnil)))))) in
    let fn = inst_fn inst code.function in let c = F.clauses X Y Z W ga da gf db de df dg dh 𝓛 𝓜.mem 𝓡.returns in
    let hs : Stays En.signature.params En.kept = (stay_dropped (plain (λ κs. S.the_row (named_lft 5 0 tt κs) K V A B gf ga)) no, tt) in
    proved_at 𝓛 En hs c 𝓜 𝓡 (
      (λ κs x f vs ok. qed 𝓛 (‵ ftrue ∷ [])
          ∵ updating ! $ nothing ! $ nothing ! $ fjoin ! $ nothing ! $ fjoin ! $ fjoin ! $ nothing ! $ fjoin ! $
          nothing ! $ fjoin ! $ now ! $ done !),
      tt,
    )
    (#self inst) fn (code.unfolded 𝓤 H 𝓜 𝓡 wired (X, (Y, (Z, (W, tt)))) da db de df dg dh) (λ y are.
    let κs = y.0.0 in let qs = y.0.1 in let d = y.0.3.0 in let a = named_lft 5 0 tt κs in
    let It : RattleType = S.the_row a K V A B gf ga in let Rd : RattleType = Rd-type.the_row in
    let laws = S-laws.the_row_laws a K V A B gf ga (param_laws 0 X LX) (param_laws 1 Y LY) (param_laws 2 Z LZ) (param_laws 3 W LW) in
    let At : List Val → (walk_of 𝓛 En hs c).Ghost = λ us. ((κs, qs, y.0.2, y.0.3, (us, tt)), y.1) in
    let is : Is It d y.0.4.0 = are.0 in
    let x = one_of (layout Rd) is.0.0 ((Rd-laws.the_row_laws.lawful 𝓛).typed d.reads is.0.0 is.1.1.0) in
    let v : Val = vstruct (vcons x.0 (of_list (is.0.1.0 ++ (is.0.1.1.0 ++ (is.0.1.1.1.0 ++ []))))) in
    let one : y.0.4.0 ≡ v ∷ [] =
    is.1.0 ∙ ap (λ ws. vstruct (of_list (ws ++ (is.0.1.0 ++ (is.0.1.1.0 ++ (is.0.1.1.1.0 ++ []))))) ∷ []) x.1 in
    let fits = ((laws.lawful 𝓛).typed d (v ∷ []) (subst (Is It d) one is)).0 in
    subst (λ (us : List Val). ent 𝓤 ((walk_of 𝓛 En hs c).pre (At us))
    (WpFn 𝓤 H 𝓣.C 𝓣.Λ fn (us ++ []) ((walk_of 𝓛 En hs c).post (At us)))) (sym one) (
    let z : (walk_of 𝓛 En hs c).Ghost = At (v ∷ []) in let Post : Val → SProp 𝓤 = (walk_of 𝓛 En hs c).post z in
    let G₁ = triple_of 𝓛 g₁.signature (g₁.spec 𝓛 𝓜.mem 𝓡.returns) in
    qed 𝓛 (((‵ (flft κs.0 qs.0) ⊛ ‵ (flft κs.1.0 qs.1.0)
    ⊛ ‵ (flft κs.1.1.0 qs.1.1.0) ⊛ ‵ (flft κs.1.1.1.0 qs.1.1.1.0)
    ⊛ ‵ (flft κs.1.1.1.1.0 qs.1.1.1.1.0) ⊛ ‵ ftrue)
    ⊛ ‵ (It.own_val d (v ∷ [])) ⊛ ‵ ftrue) ∷ raw ((c κs y.0.3).requires y.1) ∷ []) ∵
    split ! $ move ! (2 ∷ []) $ drop ! $ move ! (1 ∷ []) $ split ! $ move ! (1 ∷ []) $ drop ! $
    -- [the walk; the tokens]
    fpick ! (λ us. fsplit ! $ feq_l ! (λ e. fsplit3 ! $ peeks ! Rd (Is Rd) (shows 𝓛 Rd) d.reads us.0 (λ i.
    let r = one_of (layout Rd) us.0 ((Rd-laws.the_row_laws.lawful 𝓛).typed d.reads us.0 i) in
    rewrite ! 0 (λ (ws : List Val). ‵ (Rd.own_val d.reads ws)) r.1 refl $
    -- [the counter; the keys; the cells and the rest; the tokens]
    move ! (1 ∷ []) $ drop ! $ move ! (1 ∷ []) $ fsplit ! $
    enter ! 𝓣.C 𝓣.Λ fn (v ∷ []) Post $ alloc_all ! (λ l. pass_all ! refl (fits, tt) $
    use1 𝓛 (later (‵ (ends_with V d.values.cells))) (slot_cells_end 𝓛 a V VL-type.the_row A B ga gf d.values us.1.1.0) $
    await ! tt $ move ! (1 ∷ []) $ drop ! $
    -- [the end of the cells; the counter; the tokens]
    sets ! (of_opd ! (get_in ! (fld ! refl (stop !)) (sub ! 0 refl (whole !)))) refl x.2 $
    sets ! (of_opd ! (get ! refl)) refl x.2 $
    rewrite ! 1 (λ (w : Val). ‵ (Rd.own_val d.reads (w ∷ [])))
    (sym (ap (first_part vunit) (e ∙ ap (λ ws. vstruct (of_list (ws ++ (us.1.0 ++ (us.1.1.0 ++ (us.1.1.1.0 ++ []))))) ∷ []) r.1))) refl $
    move ! (1 ∷ []) $ nothing ! $ move ! (1 ∷ 0 ∷ []) $ fjoin ! $ nothing ! $ join ! $ nothing ! $ move ! (1 ∷ 0 ∷ []) $
    use2 𝓛 (raw (G₁.pre ((tt, tt, tt, (d.reads, tt), (x.0 ∷ [], tt)), tt))) (id⊢ 𝓤 _) $
    calls_at ! (framed 𝓤 H 𝓜 𝓣) G₁ (met₁ 𝓤 𝓛 𝓜 𝓡 (code.calls-multimap_walks::slots::end_reads 𝓡.env wired))
    ((tt, tt, tt, (d.reads, tt), (x.0 ∷ [], tt)), tt)
    (and_then ! (get ! refl) (no_more !)) (λ w.
    use1 𝓛 (later (some (λ (o : Unit {0}). (‵ ftrue ⊛ ‵ (unit.own_val o (w ∷ [])))
    ⊛ some (λ (ws : Lasts g₁.ended tt (d.reads, tt)). ‵ (lasts g₁.ended tt (d.reads, tt) ws) ⊛ ‵ ftrue)))) (id⊢ 𝓤 _) $
    await ! tt $ pick ! (λ o. split ! $ split ! $ drop ! $ move ! (1 ∷ []) $ drop ! $
    feq_l ! (λ none. lands_as ! (ap only none) refl (tt, tt) $
    -- [the end of the cells; the tokens]
    sets ! (of_opd ! (unit_lit !)) refl (tt, tt) $ returns ! (look_at ! 0 refl) $ free_all ! refl $
    feq_i ! (List Val) (vunit ∷ []) (vunit ∷ []) refl $ nothing ! $ nothing ! $ fjoin ! $ move ! (3 ∷ 0 ∷ 1 ∷ 2 ∷ []) $
    by ! (leaves 𝓛 En hs c z vunit tt ((tt, (tt, ((tt, (tt, tt)), tt))), tt) (tt, tt)))))))))))
