-- `first_by_walk` lends the map to a walk, takes the first reference, and drops the walk. Assumes `Logic`.
-- It calls `values_mut`, `first_of`, the law `walks_are_exact`, and the walk's `drop`, and hands each the tokens that it asks for.
-- It joins what these say with the law: the map ends with what the reference ends with, and otherwise as it was.
use Rattle.std.proofs.Common.{◌≡◌, ◌<◌, List, [], ◌∷◌, refl, sym, ap, ◌∙◌, subst, length, option_map}
use Rattle.std.specs.Prelude.{Some}
use mir.Syntax.{a_type, dcons, dnil, named}
use mir.Val.{Val, vptr, vunit}
use mir.MapTy.{inst_fn}
use base.Logic.{SProp, emp, id⊢, apply∗}
use base.Fraction.{full_share}
use base.Fml.{Fml, GName, ftrue, fsep, feq, flft, fwand}
use types.Logic.{sem}
use types.Kit.{‵, raw, ◌⊛◌, some, later, ◌$◌, ◌∵◌, !, qed, by, move, keep, drop, split, join, fjoin, feq_l, use0, use1, use2, pick, await}
use types.Kit.{rewrite}
use types.Run.{enter, of_opd, addr, stop, fld, no_more, and_then, returns}
use types.ByLocal.{alloc_all, pass_all, free_all, look_at, get, get_in, through, sets, lands_as}
use types.Part.{whole, sub}
use contract.BorrowLft.{◌⊑◌, ⊑_static}
use contract.Lifetimes.{Lfts, Shares}
use contract.Running.{tables}
use contract.Monad.{fact, fact_i}
use denote.Exit.{no}
use denote.Follow.{follows}
use denote.RattleType.{RattleType}
use denote.Laws.{Is, shows}
use denote.Ref.{MutRef, mut_vals, mut_Tells, mut_Lawful}
use denote.Param.{param, layout, bounded}
use denote.Param.NoDrop.{glues}
use denote.Param.Laws.{Laws, param_laws}
use denote.Signature.{plain, mut_ref_to, named_lft}
use denote.Steps.{nothing, only, heard, peeks}
use denote.Struct.Tuple.{Tuple}
use denote.Triple.Clauses.{lasts, Lasts}
use denote.Triple.Spec.{triple_of}
use denote.Triple.Call.{calls_at}
use denote.Triple.Table.{framed}
use denote.Triple.Walked.{Stays, stay_dropped, walk_of, Goes-spent_ref}
use Rattle.std.proofs.raw_atomic.Walks.{proved, leaves}
use Rattle.multimap_slots.specs.Ended.{ends_with}
use Rattle.multimap_slots.specs.declared.cells.Cells.{Cells}
use Rattle.multimap_walks.specs.Walk.{end_item}
use Rattle.multimap_walks.specs.WritingWalk.{values_mut_name, values_mut_positions, values_mut_rest, values_mut_values, LendsFirstValue}
use Rattle.multimap_walks.specs.declared.End.TheVariants.{Front}
use Rattle.multimap_walks.specs.contracts.packed.PackedLink as PL-type
use Rattle.multimap_walks.proofs.packed.PackedLink.TheLaws as PL-laws
use Rattle.multimap_walks.specs.contracts.packed.PackedLinkLinkFormValueLink.TheImpl.{ghosts as form, dict as dForm}
use Rattle.multimap_walks.proofs.packed.PackedLinkLinkFormValueLink.TheImpl.Met.{bound as form_met}
use Rattle.multimap_walks.specs.contracts.writing.values.ValuesMut as W-type
use Rattle.multimap_walks.proofs.writing.values.ValuesMut.TheLaws as W-laws
use Rattle.ordered_multimap.specs.Exact.{ends_exactly, WalksAreExact}
use Rattle.ordered_multimap.specs.Pairs.{all_positions, all_values}
use Rattle.ordered_multimap.specs.ValuesLent.{EndsMap, with_values_of}
use Rattle.ordered_multimap.proofs.Callers.PairsByValue.{both, both_typed, pair_out}
use Rattle.ordered_multimap.specs.contracts.list_ordered_multimap.ListOrderedMultimap as Map
use Rattle.ordered_multimap_callers.specs.Ends.{ends_first_written}
use Rattle.ordered_multimap_callers.proofs.StoppedLemmas.{ends_first, front_value, law_at, some_left}
use Rattle.ordered_multimap_callers.proofs.PackedForm.{Packed, drops_packed, packed_laws}
use Rattle.ordered_multimap_callers.specs.contracts.stopped.first_by_walk as f
use Rattle.ordered_multimap_callers.specs.contracts.stopped.first_by_walk.Key.{name as #self}
use Rattle.ordered_multimap_callers.proofs.stopped.first_by_walk.Statement.{statement}
use Rattle.ordered_multimap_callers.proofs.stopped.first_by_walk.Code as code
use Rattle.ordered_multimap.specs.contracts.list_ordered_multimap.ListOrderedMultimap.values_mut as g₁
use Rattle.ordered_multimap.proofs.list_ordered_multimap.ListOrderedMultimap.values_mut.Met.{met as met₁}
use Rattle.ordered_multimap_callers.specs.contracts.stopped.first_of as g₂
use Rattle.ordered_multimap_callers.proofs.stopped.first_of.Met.{met as met₂}
use Rattle.ordered_multimap.specs.contracts.laws.walks_are_exact as g₃
use Rattle.ordered_multimap.proofs.laws.walks_are_exact.Met.{met as met₃}
use Rattle.multimap_walks.specs.contracts.writing.values.ValuesMut.drop as g₅
use Rattle.multimap_walks.proofs.writing.values.ValuesMut.drop.Met.{met as met₅}

pub first_by_walk_spec : {M : Type 1} → statement M
unfolding Rattle.ordered_multimap_callers.proofs.Destruct++none.drop.Code.code
first_by_walk_spec {M} 𝓤 𝓛 𝓜 𝓡 wired K V S A B LK LV LS LA LB eqs dEq pe dPe ha dHa bh dBh hg dHg al dAl dropK dropV dropA dropB mEq mPe mHa
    mBh
    mHg mAl mDropK mDropV mDropA mDropB =
    let H = 𝓛.H in let 𝓣 = tables 𝓤 H 𝓜 𝓡 𝓡.env in
    let Kr : RattleType = param 0 K in let Vr : RattleType = param 1 V in let Sr : RattleType = param 2 S in
    let Ar : RattleType = param 3 A in let Br : RattleType = param 4 B in
    let R : RattleType = Map.the_row Kr Vr Sr Ar Br pe ha bh hg al in
    let En = f.ended K V S A B eqs dEq pe dPe ha dHa bh dBh hg dHg al dAl dropK dropV dropA dropB in
    let c = f.clauses K V S A B eqs dEq pe dPe ha dHa bh dBh hg dHg al dAl dropK dropV dropA dropB 𝓛 𝓜.mem 𝓡.returns in
    let inst = bounded (a_type ∷ a_type ∷ a_type ∷ a_type ∷ a_type ∷ []) (K, (V, (S, (A, (B, tt)))))
    (dcons dEq (dcons dPe (dcons dHa (dcons dBh (dcons dHg
    (dcons dAl (dcons dropK (dcons dropV (dcons dropA (dcons dropB dnil)))))))))) in let fn = inst_fn inst code.function in
    let hs : Stays En.signature.params En.kept = (stay_dropped (mut_ref_to (0 ∷ []) tt (plain (λ _. R))) no, tt) in
    proved 𝓛 En hs c 𝓜 𝓡 (Goes-spent_ref 𝓛 6 (0 ∷ []) tt (plain (λ _. R)), tt) (#self inst) fn
    (code.unfolded 𝓤 H 𝓜 𝓡 wired (K, (V, (S, (A, (B, tt))))) dEq dPe dHa dBh dHg dAl dropK dropV dropA dropB)
    (λ κs. (mut_vals, tt)) (λ κs. (mut_Tells (named 0) κs.0 R, tt)) (λ κs qs bounds a gh are.
    let y : (walk_of 𝓛 En hs c).Ghost = ((κs, qs, bounds, a, (mut_vals a.0, tt)), gh) in let Post : Val
    → SProp 𝓤 = (walk_of 𝓛 En hs c).post y in
    let γ = a.0.ghost_name in let m = a.0.now in
    let Me : RattleType = MutRef (named 0) κs.0 R in let Mv : RattleType = MutRef (named 0) κs.0 Vr in
    let ℓ = named_lft 6 0 tt κs in let W : RattleType = W-type.the_row ℓ Kr Vr Ar PL-type.the_row form al in
    let W-is : Laws W = W-laws.the_row_laws ℓ Kr Vr Ar PL-type.the_row form al (param_laws 0 K LK) (param_laws 1 V LV)
    (param_laws 3 A LA) PL-laws.the_row_laws in
    let Tw : RattleType = Tuple (W ∷ Mv ∷ []) in
    let inK : Type 0 = κs.1.0 ⊑ K.lives in let inV : Type 0 = κs.1.1.0 ⊑ V.lives in let inS : Type 0 = κs.1.1.1.0 ⊑ S.lives in
    let inA : Type 0 = κs.1.1.1.1.0 ⊑ A.lives in let inB : Type 0 = κs.1.1.1.1.1.0 ⊑ B.lives in
    let Long : Type 0 = 0 < length m.lists.pairs in
    let t₀ = ‵ (flft κs.0 qs.0) in let t₁ = ‵ (flft κs.1.0 qs.1.0) in let t₂ = ‵ (flft κs.1.1.0 qs.1.1.0) in
    let t₃ = ‵ (flft κs.1.1.1.0 qs.1.1.1.0) in let t₄ = ‵ (flft κs.1.1.1.1.0 qs.1.1.1.1.0) in
    let t₅ = ‵ (flft κs.1.1.1.1.1.0 qs.1.1.1.1.1.0) in
    let toks = t₀ ⊛ t₁ ⊛ t₂ ⊛ t₃ ⊛ t₄ ⊛ t₅ ⊛ ‵ ftrue in
    -- the map gives its values to a walk
    let G₁ = triple_of 𝓛 (g₁.signature K V S A B eqs dEq pe dPe ha dHa bh dBh hg dHg al dAl dropA dropB)
    (g₁.spec K V S A B eqs dEq pe dPe ha dHa bh dBh hg dHg al dAl dropA dropB 𝓛 𝓜.mem 𝓡.returns) in
    let z₁ : G₁.Ghost = ((κs, qs, bounds, (a.0, tt), (mut_vals a.0, tt)), tt) in
    qed 𝓛 ((toks ⊛ ‵ (fsep (Me.own_val a.0 (mut_vals a.0)) ftrue)) ∷
    (raw (fact 𝓤 inK) ⊛ raw (fact 𝓤 inV) ⊛ raw (fact 𝓤 inS) ⊛ raw (fact 𝓤 inA) ⊛ raw (fact 𝓤 inB) ⊛ raw (fact 𝓤 Long)) ∷ []) ∵
    move ! (1 ∷ []) $ split ! $ heard ! inK (λ k. split ! $
    heard ! inV (λ w. split ! $ heard ! inS (λ st. split ! $ heard ! inA (λ ap'. split ! $ heard ! inB (λ bo. heard ! Long (λ long.
    -- [the tokens with the map]
    nothing ! $ use0 𝓛 (raw (fact 𝓤 inB)) (fact_i 𝓤 inB (emp 𝓤) bo) $ join ! $ use0 𝓛 (raw (fact 𝓤 inA)) (fact_i 𝓤 inA (emp 𝓤) ap') $
    join ! $ use0 𝓛 (raw (fact 𝓤 inS)) (fact_i 𝓤 inS (emp 𝓤) st) $ join ! $ use0 𝓛 (raw (fact 𝓤 inV)) (fact_i 𝓤 inV (emp 𝓤) w) $
    join ! $ use0 𝓛 (raw (fact 𝓤 inK)) (fact_i 𝓤 inK (emp 𝓤) k) $ join ! $ move ! (1 ∷ 0 ∷ []) $ use2 𝓛 (raw (G₁.pre z₁)) (id⊢ 𝓤 _) $
    enter ! 𝓣.C 𝓣.Λ fn (vptr a.0.ref_ptr.0 a.0.ref_ptr.1 ∷ []) Post $ alloc_all ! (λ l. pass_all ! refl ((tt, tt), tt) $
    sets ! (addr ! (through ! refl (stop !))) refl (tt, tt) $
    let Values : W.Denot → Type 0 = λ s. values_mut_rest s ≡ all_values m.lists.pairs in let Positions : W.Denot
    → Type 0 = λ s. values_mut_positions s ≡ all_positions m.lists.pairs in
    let Ends : W.Denot → Type 0 = λ s. EndsMap Kr Vr Sr m (values_mut_values s) in
    calls_at ! (framed 𝓤 H 𝓜 𝓣) G₁ (met₁ 𝓤 𝓛 𝓜 𝓡 (code.calls-ordered_multimap::list_ordered_multimap::ListOrderedMultimap::values_mut 𝓡.env
    wired) K V S A B LK LV LS LA LB eqs dEq pe dPe ha dHa bh dBh hg dHg al dAl dropA dropB mEq mPe mHa mBh mHg mAl mDropA mDropB) z₁
    (and_then ! (get ! refl) (no_more !)) (λ v.
    use1 𝓛 (later (some (λ (s : W.Denot). (toks ⊛ ‵ (W.own_val s (v ∷ []))) ⊛
    some (λ (ws : Lasts (g₁.ended K V S A B eqs dEq pe dPe ha dHa bh dBh hg dHg al dAl dropA dropB) κs (a.0, tt)). ‵
    (lasts (g₁.ended K V S A B eqs dEq pe dPe ha dHa bh dBh hg dHg al dAl dropA dropB) κs (a.0, tt) ws) ⊛ ‵
    (follows R R γ (values_mut_name s) (with_values_of m)) ⊛
    raw (fact 𝓤 (Values s)) ⊛ raw (fact 𝓤 (Positions s)) ⊛ raw (fact 𝓤 (Ends s)))))) (id⊢ 𝓤 _) $
    await ! tt $ pick ! (λ s. split ! $ split ! $ move ! (2 ∷ []) $
    pick ! (λ ws. split ! $ drop ! $ split ! $ move ! (1 ∷ []) $ split ! $
    heard ! (Values s) (λ values. split ! $ heard ! (Positions s) (λ positions. heard ! (Ends s) (λ ended.
    -- [what the map follows; the tokens; the walk]
    move ! (2 ∷ []) $ peeks ! W (Is W) (shows 𝓛 W) s (v ∷ [])
    (λ iw. let gw = ((W-is.lawful 𝓛).typed s (v ∷ []) iw).0 in lands_as ! refl refl gw $
    -- the walk gives the first
    let κ₂ : Lfts 4 = (κs.0, (κs.1.0, (κs.1.1.0, (κs.1.1.1.1.0, tt)))) in
    let q₂ : Shares 4 = (qs.0, (qs.1.0, (qs.1.1.0, (qs.1.1.1.1.0, tt)))) in
    let toks₂ = t₀ ⊛ t₁ ⊛ t₂ ⊛ t₄ ⊛ ‵ ftrue in let More : Type 0 = 0 < length (values_mut_rest s) in
    let more : More = subst (λ (vs : List Vr.Denot). 0 < length vs) (sym values) (some_left m.lists.pairs long) in
    let G₂ = triple_of 𝓛 (g₂.signature K V A al dAl dropA) (g₂.spec K V A al dAl dropA 𝓛 𝓜.mem 𝓡.returns) in
    let z₂ : G₂.Ghost = ((κ₂, q₂, (bounds.0, (bounds.1.0, (bounds.1.1.1.0, tt))), (s, tt), (v ∷ [], tt)), tt) in
    nothing ! $ move ! (1 ∷ 0 ∷ []) $ fjoin ! $ move ! (2 ∷ []) $
    split ! $ move ! (1 ∷ []) $ split ! $ move ! (1 ∷ []) $ split ! $ move ! (1 ∷ []) $ split ! $ move ! (1 ∷ []) $ split ! $
    move ! (1 ∷ []) $ split ! $ move ! (1 ∷ []) $ drop ! $
    -- [the tokens 5, 4, 3, 2, 1, 0; the walk; what the map follows]
    nothing ! $ move ! (2 ∷ 0 ∷ []) $ join ! $ move ! (3 ∷ 0 ∷ []) $ join ! $ move ! (3 ∷ 0 ∷ []) $ join ! $ move ! (3 ∷ 0 ∷ []) $ join ! $
    move ! (0 ∷ 3 ∷ []) $ join ! $
    -- [the tokens with the walk; the tokens 5, 3; what the map follows]
    use0 𝓛 (raw (fact 𝓤 More)) (fact_i 𝓤 More (emp 𝓤) more) $ use0 𝓛 (raw (fact 𝓤 inA)) (fact_i 𝓤 inA (emp 𝓤) ap') $ join ! $
    use0 𝓛 (raw (fact 𝓤 inV)) (fact_i 𝓤 inV (emp 𝓤) w) $ join ! $ use0 𝓛 (raw (fact 𝓤 inK)) (fact_i 𝓤 inK (emp 𝓤) k) $ join ! $
    move ! (1 ∷ 0 ∷ []) $ use2 𝓛 (raw (G₂.pre z₂)) (id⊢ 𝓤 _) $
    sets ! (of_opd ! (get ! refl)) refl gw $
    calls_at ! (framed 𝓤 H 𝓜 𝓣) G₂ (met₂ 𝓤 𝓛 𝓜 𝓡 (code.calls-ordered_multimap_callers::stopped::first_of 𝓡.env wired) K V A LK LV LA al dAl
    dropA mAl mDropA) z₂ (and_then ! (get ! refl) (no_more !)) (λ v₂.
    let Lends : Tw.Denot → Type 0 = λ q. LendsFirstValue s (Some q.1) q.0 in
    use1 𝓛 (later (some (λ (q : Tw.Denot). (toks₂ ⊛ ‵ (Tw.own_val q (v₂ ∷ []))) ⊛
    some (λ (ws₂ : Lasts (g₂.ended K V A al dAl dropA) κ₂ (s, tt)). ‵ (lasts (g₂.ended K V A al dAl dropA) κ₂ (s, tt) ws₂) ⊛ raw
    (fact 𝓤 (Lends q)))))) (id⊢ 𝓤 _) $
    await ! tt $ pick ! (λ q. split ! $ split ! $ move ! (2 ∷ []) $ pick ! (λ ws₂. split ! $ drop ! $ heard ! (Lends q) (λ lends.
    -- [the tokens; the walk with the reference; the tokens 5, 3; what the map follows]
    move ! (1 ∷ []) $ pair_out W Mv ! W-is.one (W-is.lawful 𝓛) refl (mut_Lawful 𝓛 (named 0) κs.0 Vr) q.0 q.1 (v₂ ∷ [])
    (λ i j gi gj iq. move ! (1 ∷ []) $
    peeks ! Mv (Is Mv) (shows 𝓛 Mv) q.1 (j ∷ []) (λ im. let em : j ∷ [] ≡ mut_vals q.1 = mut_Tells (named 0) κs.0 Vr q.1 (j ∷ []) im in
    rewrite ! 0 (λ (us : List Val). ‵ (Mv.own_val q.1 us)) em refl $
    lands_as ! (ap only iq ∙ ap (both i) (ap only em)) refl
    (both_typed (layout W) (layout Mv) i (vptr q.1.ref_ptr.0 q.1.ref_ptr.1) gi (tt, tt)) $
    sets ! (of_opd ! (get_in ! (fld ! refl (stop !)) (sub ! 0 refl (whole !)))) refl gi $
    sets ! (of_opd ! (get_in ! (fld ! refl (stop !)) (sub ! 1 refl (whole !)))) refl (tt, tt) $
    -- [the reference; the walk; the tokens; the tokens 5, 3; what the map follows]
    move ! (2 ∷ []) $ split ! $ move ! (1 ∷ []) $ split ! $ move ! (1 ∷ []) $ split ! $ move ! (1 ∷ []) $ split ! $ move ! (1 ∷ []) $
    drop ! $
    -- [the tokens 4, 2, 1, 0; the reference; the walk; the tokens 5, 3; what the map follows]
    let law : Fml = WalksAreExact Kr Vr Sr Ar Br (record { eq = pe.eq; hash_input = ha.hash_input }) bh hg al in
    let κ₃ : Lfts 5 = κs.1 in let q₃ : Shares 5 = qs.1 in let toks₃ = t₁ ⊛ t₂ ⊛ t₃ ⊛ t₄ ⊛ t₅ ⊛ ‵ ftrue in
    let G₃ = triple_of 𝓛 (g₃.signature K V S A B) (g₃.spec K V S A B eqs dEq pe dPe ha dHa bh dBh hg dHg al dAl dropA dropB 𝓛 𝓜.mem
    𝓡.returns) in
    let z₃ : G₃.Ghost = ((κ₃, q₃, tt, tt, tt), tt) in
    nothing ! $ move ! (7 ∷ 0 ∷ []) $ join ! $ move ! (1 ∷ 0 ∷ []) $ join ! $ move ! (6 ∷ 0 ∷ []) $ join ! $ move ! (1 ∷ 0 ∷ []) $ join ! $
    move ! (1 ∷ 0 ∷ []) $ join ! $
    -- [the tokens from 1; the token 0; the reference; the walk; what the map follows]
    nothing ! $ move ! (1 ∷ 0 ∷ []) $ join ! $
    nothing ! $ use0 𝓛 (raw (fact 𝓤 inB)) (fact_i 𝓤 inB (emp 𝓤) bo) $ join ! $ use0 𝓛 (raw (fact 𝓤 inA)) (fact_i 𝓤 inA (emp 𝓤) ap') $
    join ! $ use0 𝓛 (raw (fact 𝓤 inS)) (fact_i 𝓤 inS (emp 𝓤) st) $ join ! $ use0 𝓛 (raw (fact 𝓤 inV)) (fact_i 𝓤 inV (emp 𝓤) w) $
    join ! $ use0 𝓛 (raw (fact 𝓤 inK)) (fact_i 𝓤 inK (emp 𝓤) k) $ join ! $ move ! (1 ∷ 0 ∷ []) $ use2 𝓛 (raw (G₃.pre z₃)) (id⊢ 𝓤 _) $
    calls_at ! (framed 𝓤 H 𝓜 𝓣) G₃ (met₃ 𝓤 𝓛 𝓜 𝓡 (code.calls-ordered_multimap::laws::walks_are_exact 𝓡.env wired) K V S A B LK LV LS LA LB
    eqs dEq pe dPe ha dHa bh dBh hg dHg al dAl dropA dropB mEq mPe mHa mBh mHg mAl mDropA mDropB) z₃ (no_more !) (λ v₃.
    use1 𝓛 (later (some (λ (n : Unit {0}). (toks₃ ⊛ ‵ (feq (List Val) (v₃ ∷ []) (vunit ∷ []))) ⊛ some
    (λ (ws₃ : Unit {0}). ‵ ftrue ⊛ ‵ law)))) (id⊢ 𝓤 _) $
    await ! tt $ pick ! (λ n. split ! $ split ! $ move ! (2 ∷ []) $
    pick ! (λ ws₃. split ! $ drop ! $ move ! (2 ∷ []) $ feq_l ! (λ e₃. lands_as ! (ap only e₃) refl (tt, tt) $
    -- [the law; the tokens from 1; the token 0; the reference; the walk; what the map follows]
    -- the walk is dropped
    let mForm = form_met 𝓡.env (code.calls-multimap_walks::packed::PackedLinkLinkFormValueLink::keep 𝓡.env wired)
    (code.calls-multimap_walks::packed::PackedLinkLinkFormValueLink::link 𝓡.env wired)
    (code.calls-multimap_walks::packed::PackedLinkLinkFormValueLink::copied 𝓡.env wired) M 𝓤 𝓛 𝓜 𝓡 in
    let tₚ = ‵ (flft [] full_share) in let toks₅ = t₀ ⊛ t₁ ⊛ t₂ ⊛ t₄ ⊛ tₚ ⊛ ‵ ftrue in let inP : Type 0 = [] ⊑ Packed.lives in
    let κ₅ : Lfts 5 = (κs.0, (κs.1.0, (κs.1.1.0, (κs.1.1.1.1.0, ([], tt))))) in
    let q₅ : Shares 5 = (qs.0, (qs.1.0, (qs.1.1.0, (qs.1.1.1.1.0, (full_share, tt))))) in
    let G₅ = triple_of 𝓛 (g₅.signature K V A Packed al dAl form dForm dropK dropV dropA drops_packed)
    (g₅.spec K V A Packed al dAl form dForm dropK dropV dropA drops_packed 𝓛 𝓜.mem 𝓡.returns) in
    let z₅ : G₅.Ghost = ((κ₅, q₅, (bounds.0, (bounds.1.0, (bounds.1.1.1.0, (⊑_static κs.0, tt)))), (q.0, tt), (i ∷ [], tt)), tt) in
    move ! (1 ∷ []) $ split ! $ move ! (1 ∷ []) $ split ! $ move ! (1 ∷ []) $ split ! $ move ! (1 ∷ []) $ split ! $ move ! (1 ∷ []) $
    split ! $ move ! (1 ∷ []) $ drop ! $
    -- [the tokens 5, 4, 3, 2, 1; the law; the token 0; the reference; the walk; what the map follows]
    nothing ! $ use0 𝓛 tₚ (𝓛.lfts.lft-nil full_share) $ join ! $ move ! (2 ∷ 0 ∷ []) $ join ! $ move ! (3 ∷ 0 ∷ []) $ join ! $
    move ! (3 ∷ 0 ∷ []) $ join ! $ move ! (4 ∷ 0 ∷ []) $ join ! $
    -- [the tokens of the walk; the tokens 5, 3; the law; the reference; the walk; what the map follows]
    nothing ! $ move ! (6 ∷ 0 ∷ []) $ fjoin ! $ move ! (1 ∷ 0 ∷ []) $ join ! $
    nothing ! $ use0 𝓛 (raw (fact 𝓤 inP)) (fact_i 𝓤 inP (emp 𝓤) (⊑_static [])) $ join ! $
    use0 𝓛 (raw (fact 𝓤 inA)) (fact_i 𝓤 inA (emp 𝓤) ap') $ join ! $ use0 𝓛 (raw (fact 𝓤 inV)) (fact_i 𝓤 inV (emp 𝓤) w) $
    join ! $ use0 𝓛 (raw (fact 𝓤 inK)) (fact_i 𝓤 inK (emp 𝓤) k) $ join ! $ move ! (1 ∷ 0 ∷ []) $ use2 𝓛 (raw (G₅.pre z₅)) (id⊢ 𝓤 _) $
    sets ! (addr ! (through ! refl (stop !))) refl (tt, tt) $
    calls_at ! (framed 𝓤 H 𝓜 𝓣) G₅ (met₅ 𝓤 𝓛 𝓜 𝓡 (code.calls-multimap_walks::writing::values::ValuesMut::drop 𝓡.env wired) K V A Packed LK
    LV LA packed_laws
    al dAl form dForm dropK dropV dropA drops_packed mAl
    (record { keep = mForm.keep; link = mForm.link; copied = mForm.copied }) mDropK mDropV mDropA
    (glues "ordered_multimap_callers::Destruct++none::drop" 𝓡.env
    (code.calls-ordered_multimap_callers::Destruct++none::drop 𝓡.env wired) Packed packed_laws M 𝓤 𝓛 𝓜 𝓡)) z₅
    (and_then ! (get ! refl) (no_more !)) (λ v₅.
    let c₁ : Cells Vr.Denot = q.0.values.cells in
    use1 𝓛 (later (some (λ (n : Unit {0}). (toks₅ ⊛ ‵ (feq (List Val) (v₅ ∷ []) (vunit ∷ []))) ⊛
    some (λ (ws₅ : Lasts (g₅.ended K V A Packed al dAl form dForm dropK dropV dropA drops_packed) κ₅ (q.0, tt)). ‵
    (lasts (g₅.ended K V A Packed al dAl form dForm dropK dropV dropA drops_packed) κ₅ (q.0, tt) ws₅) ⊛ ‵ (ends_with Vr c₁))))) (id⊢ 𝓤 _) $
    await ! tt $ pick ! (λ n₅. split ! $ split ! $ move ! (2 ∷ []) $
    pick ! (λ ws₅. split ! $ drop ! $ move ! (2 ∷ []) $ feq_l ! (λ e₅. lands_as ! (ap only e₅) refl (tt, tt) $
    -- [the walk's end; the tokens of the walk; the tokens 5, 3; the law; the reference; what the map follows]
    move ! (4 ∷ []) $ use1 𝓛 (‵ (fwand (follows R R γ c₁.lender_loan (with_values_of m))
    (fwand (ends_with Vr c₁) (ends_exactly Kr Vr Sr m γ c₁))))
    (law_at 𝓛 Kr Vr Sr Ar Br (record { eq = pe.eq; hash_input = ha.hash_input }) bh hg al m γ s.values c₁ ended lends.taken.lender_context)
    $
    move ! (6 ∷ []) $ rewrite ! 0 (λ (δ : GName). ‵ (follows R R γ δ (with_values_of m))) (sym lends.taken.name) refl $
    use2 𝓛 (‵ (fwand (ends_with Vr c₁) (ends_exactly Kr Vr Sr m γ c₁)))
    (apply∗ 𝓤 (sem 𝓛 (follows R R γ c₁.lender_loan (with_values_of m))) (sem 𝓛 (fwand (ends_with Vr c₁) (ends_exactly Kr Vr Sr m γ c₁)))) $
    move ! (1 ∷ 0 ∷ []) $ use2 𝓛 (‵ (ends_exactly Kr Vr Sr m γ c₁))
    (apply∗ 𝓤 (sem 𝓛 (ends_with Vr c₁)) (sem 𝓛 (ends_exactly Kr Vr Sr m γ c₁))) $
    use1 𝓛 (‵ (ends_first_written Kr Vr Sr a.0 q.1)) (ends_first 𝓛 Kr Vr Sr Ar a.0 s q.0 q.1 ended values positions lends) $
    -- [what the map ends as; the tokens of the walk; the tokens 5, 3; the reference]
    let Was : Type 0 = option_map (λ x. x.1) (end_item Front m.lists.pairs) ≡ Some q.1.now in
    let was : Was = front_value m.lists.pairs q.1.now (values_mut_rest q.0) (sym values ∙ lends.steps) in
    use0 𝓛 (raw (fact 𝓤 Was)) (fact_i 𝓤 Was (emp 𝓤) was) $ move ! (1 ∷ 0 ∷ []) $ join ! $
    move ! (1 ∷ []) $ split ! $ move ! (1 ∷ []) $ split ! $ move ! (1 ∷ []) $ split ! $ move ! (1 ∷ []) $ split ! $ move ! (1 ∷ []) $
    drop ! $
    -- [the tokens 4, 2, 1, 0; what is said; the tokens 5, 3; the reference]
    nothing ! $ move ! (6 ∷ 0 ∷ []) $ join ! $ move ! (1 ∷ 0 ∷ []) $ join ! $ move ! (5 ∷ 0 ∷ []) $ join ! $ move ! (1 ∷ 0 ∷ []) $ join ! $
    move ! (1 ∷ 0 ∷ []) $ join ! $ move ! (1 ∷ 0 ∷ []) $ join ! $
    -- [the tokens; what is said; the reference]
    nothing ! $ nothing ! $ fjoin ! $
    returns ! (look_at ! 0 refl) $ free_all ! refl $ keep ! (1 ∷ 0 ∷ 3 ∷ 2 ∷ []) $
    by ! (leaves 𝓛 En hs c y (vptr q.1.ref_ptr.0 q.1.ref_ptr.1) q.1 (tt, tt) (tt, tt)))))))))))))))))))))))))))))))
