-- `first_of_next_key` lends a walk over keys to one over the values of its next key, takes the first reference, and drops that walk.
-- It opens the walk over keys to learn that its map's slots agree, and closes it again. Assumes `Logic`.
-- It calls `next`, `first_of_values`, the law `inner_walks_are_exact`, and the inner walk's `drop`, each with the tokens that it asks for.
-- It joins what these say with the law: the walk over keys ends with what the reference ends with, and otherwise as it was.
use Rattle.std.proofs.Common.{◌≡◌, ◌<◌, List, [], ◌∷◌, refl, sym, ap, ◌∙◌, subst, length, option_map, lit<}
use Rattle.std.specs.Prelude.{Some, IfSome}
use mir.Syntax.{a_type, dcons, dnil, named, ty_unit, Body}
use mir.Val.{Val, vptr, vunit, vcons, vnil}
use mir.MapTy.{inst_fn}
use base.Logic.{SProp, id⊢, apply∗}
use base.Fraction.{full_share}
use base.Fml.{Fml, ftrue, feq, flft, fwand}
use prog.Wp.{Wp, after_seq, at_return}
use types.Logic.{sem}
use types.Kit.{‵, raw, ◌⊛◌, some, later, at_ret, any_q, ◌$◌, ◌∵◌, !, qed, by, move, keep, drop, split, join, fjoin, feq_l, use0, use1, use2}
use types.Kit.{use3, pick, await, rewrite}
use types.Run.{enter, of_opd, addr, stop, fld, no_more, and_then, first, switches_on, exec, returns}
use types.ByLocal.{alloc_all, pass_all, free_all, look_at, get, get_in, get_tag, through, sets, lands_as, lands_last, env}
use types.Match.{live, vrt, in_variant}
use types.Part.{whole, sub}
use contract.BorrowLft.{◌⊑◌, ⊑_static}
use contract.Lifetimes.{Lfts, Shares}
use contract.Running.{tables}
use contract.Monad.{fact}
use denote.Exit.{no}
use denote.RattleType.{RattleType}
use denote.Laws.{Is, shows}
use denote.Ref.{MutRef, ShrRef, mut_vals, mut_Tells, mut_Lawful, shr_Lawful}
use denote.Param.{param, layout, bounded}
use denote.Param.NoDrop.{glues}
use denote.Param.Laws.{Laws, param_laws, is_one, of_field}
use denote.Param.Shared.{copy_shared}
use denote.Signature.{plain, mut_ref_to, named_lft}
use denote.Steps.{nothing, only, heard, peeks}
use denote.Struct.Field.{shr_ref_field}
use denote.Struct.Laws.{shr_ref_laws, shr_ref_copy}
use denote.Struct.Tuple.{Tuple, tuple_laws}
use denote.Triple.Clauses.{lasts, Lasts}
use denote.Triple.Entry.{on_entry}
use denote.Triple.Spec.{triple_of}
use denote.Triple.Call.{calls_at, calls_at_last}
use denote.Triple.Table.{framed}
use denote.Triple.Walked.{Stays, stay_dropped, walk_of, Goes-spent_ref}
use Rattle.std.proofs.alloc.Shapes.{after, head, arm_body}
use Rattle.std.proofs.cell.Inside.{Good}
use Rattle.std.proofs.raw_atomic.Walks.{proved, leaves}
use Rattle.std.proofs.ResultValues.{and_tt}
use Rattle.std.specs.contracts.option.Option.{the_row as Opt}
use Rattle.multimap_slots.specs.Ended.{ends_with}
use Rattle.multimap_slots.specs.declared.cells.Cells.{Cells}
use Rattle.multimap_walks.specs.Walk.{end_item}
use Rattle.multimap_walks.specs.WritingWalk.{entry_values_mut_positions, entry_values_mut_rest, LendsFirstOfKey}
use Rattle.multimap_walks.specs.declared.End.TheVariants.{Front}
use Rattle.multimap_walks.specs.contracts.packed.PackedLink as PL-type
use Rattle.multimap_walks.proofs.packed.PackedLink.TheLaws as PL-laws
use Rattle.multimap_walks.specs.contracts.packed.PackedLinkLinkFormValueLink.TheImpl.{ghosts as form, dict as dForm}
use Rattle.multimap_walks.proofs.packed.PackedLinkLinkFormValueLink.TheImpl.Met.{bound as form_met}
use Rattle.multimap_walks.specs.contracts.writing.chain.EntryValuesMut as W-type
use Rattle.multimap_walks.proofs.writing.chain.EntryValuesMut.TheLaws as W-laws
use Rattle.ordered_multimap.specs.Exact.{InnerWalksAreExact, walk_ends_exactly}
use Rattle.ordered_multimap.specs.KeysLeft.{keys_left}
use Rattle.ordered_multimap.specs.Pairs.{positions_of, values_of}
use Rattle.ordered_multimap.specs.WalkLends.{EndsStepped, lends_key_values}
use Rattle.ordered_multimap.proofs.Callers.PairsByValue.{both, both_typed, pair_out}
use Rattle.ordered_multimap.proofs.Loans.Options.{option_out}
use Rattle.ordered_multimap.proofs.Loans.Outlived.{told, hears_with, tells, states}
use Rattle.ordered_multimap.specs.contracts.list_ordered_multimap.key_values_mut.KeyValuesMut as E-type
use Rattle.ordered_multimap_callers.specs.Ends.{ends_next_written}
use Rattle.ordered_multimap_callers.proofs.WalkShows.{SlotsAgree, walk_shows}
use Rattle.ordered_multimap_callers.proofs.StoppedKeysLemmas.{ends_next, first_has_value, inner_law_at, no_front}
use Rattle.ordered_multimap_callers.proofs.PackedForm.{Packed, drops_packed, packed_laws}
use Rattle.ordered_multimap_callers.specs.contracts.stopped_keys.first_of_next_key as f
use Rattle.ordered_multimap_callers.specs.contracts.stopped_keys.first_of_next_key.Key.{name as #self}
use Rattle.ordered_multimap_callers.proofs.stopped_keys.first_of_next_key.Statement.{statement}
use Rattle.ordered_multimap_callers.proofs.stopped_keys.first_of_next_key.Code as code
use Rattle.ordered_multimap.specs.contracts.list_ordered_multimap.key_values_mut.KeyValuesMut.next as g₁
use Rattle.ordered_multimap.proofs.list_ordered_multimap.key_values_mut.KeyValuesMut.next.Met.{met as met₁}
use Rattle.ordered_multimap_callers.specs.contracts.stopped_keys.first_of_values as g₂
use Rattle.ordered_multimap_callers.proofs.stopped_keys.first_of_values.Met.{met as met₂}
use Rattle.ordered_multimap.specs.contracts.laws.inner_walks_are_exact as g₃
use Rattle.ordered_multimap.proofs.laws.inner_walks_are_exact.Met.{met as met₃}
use Rattle.multimap_walks.specs.contracts.writing.chain.EntryValuesMut.drop as g₅
use Rattle.multimap_walks.proofs.writing.chain.EntryValuesMut.drop.Met.{met as met₅}

pub first_of_next_key_spec : {M : Type 1} → statement M
unfolding Rattle.ordered_multimap_callers.proofs.Destruct++none.drop.Code.code
first_of_next_key_spec {M} 𝓤 𝓛 𝓜 𝓡 wired K V S A B LK LV LS LA LB eqs dEq pe dPe ha dHa bh dBh hg dHg al dAl dropK dropV dropA dropB mEq mPe
    mHa
    mBh mHg mAl mDropK mDropV mDropA mDropB =
    let H = 𝓛.H in let 𝓣 = tables 𝓤 H 𝓜 𝓡 𝓡.env in
    let Kr : RattleType = param 0 K in let Vr : RattleType = param 1 V in let Sr : RattleType = param 2 S in
    let Ar : RattleType = param 3 A in let Br : RattleType = param 4 B in
    let En = f.ended K V S A B eqs dEq pe dPe ha dHa bh dBh hg dHg al dAl dropK dropV dropA dropB in
    let c = f.clauses K V S A B eqs dEq pe dPe ha dHa bh dBh hg dHg al dAl dropK dropV dropA dropB 𝓛 𝓜.mem 𝓡.returns in
    let inst = bounded (a_type ∷ a_type ∷ a_type ∷ a_type ∷ a_type ∷ []) (K, (V, (S, (A, (B, tt)))))
    (dcons dEq (dcons dPe (dcons dHa (dcons dBh (dcons dHg
    (dcons dAl (dcons dropK (dcons dropV (dcons dropA (dcons dropB dnil)))))))))) in let fn = inst_fn inst code.function in
    let Keys : Lfts 7 → RattleType = λ κs. E-type.the_row (named_lft 7 1 tt κs) Kr Vr Sr Ar Br pe ha bh hg al in
    let hs : Stays En.signature.params En.kept = (stay_dropped (mut_ref_to (0 ∷ []) tt (plain Keys)) no, tt) in
    proved 𝓛 En hs c 𝓜 𝓡 (Goes-spent_ref 𝓛 7 (0 ∷ []) tt (plain Keys), tt) (#self inst) fn
    (code.unfolded 𝓤 H 𝓜 𝓡 wired (K, (V, (S, (A, (B, tt))))) dEq dPe dHa dBh dHg dAl dropK dropV dropA dropB)
    (λ κs. (mut_vals, tt)) (λ κs. (mut_Tells (named 0) κs.0 (Keys κs), tt))
    (λ κs qs bounds a gh are.
    let R : RattleType = Keys κs in
    let y : (walk_of 𝓛 En hs c).Ghost = ((κs, qs, bounds, a, (mut_vals a.0, tt)), gh) in let Post : Val
    → SProp 𝓤 = (walk_of 𝓛 En hs c).post y in
    let w₀ : R.Denot = a.0.now in let pairs = w₀.map.now.lists.pairs in
    let Mv : RattleType = MutRef (named 0) κs.0 Vr in
    let ℓ = named_lft 7 0 tt κs in let W : RattleType = W-type.the_row ℓ Kr Vr Ar PL-type.the_row form al in
    let K-is : Laws Kr = param_laws 0 K LK in
    let W-is : Laws W = W-laws.the_row_laws ℓ Kr Vr Ar PL-type.the_row form al K-is (param_laws 1 V LV)
    (param_laws 3 A LA) PL-laws.the_row_laws in
    let Sk : RattleType = ShrRef (named 0) κs.0 Kr in let Nx : RattleType = Tuple (Sk ∷ W ∷ []) in let Out : RattleType = Opt Nx in
    let K-one = is_one Kr K-is in let Nx-is : Laws Nx = tuple_laws (Sk ∷ W ∷ []) (
      of_field (shr_ref_field ℓ Kr K-one) (shr_ref_laws ℓ Kr K-one) refl
          (copy_shared (shr_ref_field ℓ Kr K-one) (shr_ref_copy ℓ Kr K-one K-is.shr_laws)),
      (W-is, tt),
    ) in
    let Tw : RattleType = Tuple (W ∷ Mv ∷ []) in
    let inK : Type 0 = κs.1.1.0 ⊑ K.lives in let inV : Type 0 = κs.1.1.1.0 ⊑ V.lives in let inA : Type 0 = κs.1.1.1.1.1.0 ⊑ A.lives in
    let Own : Fml = (MutRef (named 0) κs.0 R).own_val a.0 (mut_vals a.0) in let Agree : Type 0 = SlotsAgree pe.eq w₀.map.now in
    let Long : Type 0 = 0 < length (keys_left w₀) in
    let t₀ = ‵ (flft κs.0 qs.0) in let t₁ = ‵ (flft κs.1.0 qs.1.0) in let t₂ = ‵ (flft κs.1.1.0 qs.1.1.0) in
    let t₃ = ‵ (flft κs.1.1.1.0 qs.1.1.1.0) in let t₄ = ‵ (flft κs.1.1.1.1.0 qs.1.1.1.1.0) in
    let t₅ = ‵ (flft κs.1.1.1.1.1.0 qs.1.1.1.1.1.0) in let t₆ = ‵ (flft κs.1.1.1.1.1.1.0 qs.1.1.1.1.1.1.0) in
    let toks = t₀ ⊛ t₁ ⊛ t₂ ⊛ t₃ ⊛ t₄ ⊛ t₅ ⊛ t₆ ⊛ ‵ ftrue in
    -- the walk over keys lends its map to one over the values of its next key
    let G₁ = triple_of 𝓛 (g₁.signature K V S A B eqs dEq pe dPe ha dHa bh dBh hg dHg al dAl dropA dropB)
    (g₁.spec K V S A B eqs dEq pe dPe ha dHa bh dBh hg dHg al dAl dropA dropB 𝓛 𝓜.mem 𝓡.returns) in
    let z₁ : G₁.Ghost = ((κs, qs, bounds, a, (mut_vals a.0, tt)), tt) in
    let Rest : Out.Denot → Fml = λ out. lends_key_values Kr Vr Sr Ar Br al Front a.0 out in
    let Key : Out.Denot → Type 0 = λ out. option_map (λ x. x.0.now) out ≡ end_item Front (keys_left w₀) in
    let Values : Out.Denot → Type 0 = λ out. IfSome out (λ x. entry_values_mut_rest x.1 ≡ values_of pe.eq pairs x.0.now) in
    let Positions : Out.Denot → Type 0 = λ out. IfSome out (λ x. entry_values_mut_positions x.1 ≡ positions_of pe.eq pairs x.0.now) in
    let Ends : Out.Denot → Type 0 = λ out. IfSome out (EndsStepped Kr Vr Sr Ar Br al Front w₀) in
    qed 𝓛 (raw (on_entry 𝓛 En.signature κs qs a (mut_vals a.0, tt)) ∷
    told κs.1.1 K V S A B (raw (fact 𝓤 Long)) ∷ []) ∵
    move ! (1 ∷ []) $ hears_with κs.1.1 K V S A B ! (λ five. heard ! Long (λ long.
    use1 𝓛 (toks ⊛ ‵ Own ⊛ ‵ ftrue) (id⊢ 𝓤 _) $
    enter ! 𝓣.C 𝓣.Λ fn (vptr a.0.ref_ptr.0 a.0.ref_ptr.1 ∷ []) Post $ alloc_all ! (λ l. pass_all ! refl ((tt, tt), tt) $
    split ! $ split ! $ move ! (1 ∷ []) $ split ! $ move ! (3 ∷ []) $ split ! $ move ! (0 ∷ 4 ∷ 2 ∷ []) $
    -- [the walk; the tokens 0, 1; nothing; the other tokens]
    use3 𝓛 (later (raw (fact 𝓤 Agree) ⊛ ‵ Own ⊛ t₀ ⊛ t₁)) (walk_shows 𝓛 Kr Vr Sr Ar Br pe ha bh hg al κs.0 κs.1.0 qs.0 qs.1.0 a.0) $
    await ! tt $ split ! $ heard ! Agree (λ agree. split ! $ move ! (1 ∷ []) $ split ! $ move ! (1 ∷ 4 ∷ []) $ join ! $
    move ! (1 ∷ 0 ∷ []) $ join ! $ move ! (1 ∷ 2 ∷ []) $ fjoin ! $ move ! (1 ∷ 0 ∷ []) $ join ! $
    nothing ! $ tells κs.1.1 K V S A B ! five $ move ! (1 ∷ 0 ∷ []) $ use2 𝓛 (raw (G₁.pre z₁)) (id⊢ 𝓤 _) $
    let Ev = env fn.locals l in let arms : Body = head (after 2 fn.body) in let Then = any_q
    (after_seq 𝓤 H (Wp 𝓤 H 𝓣.C 𝓣.Λ Ev (after 3 fn.body) (at_return 𝓤 H Ev Post)) (at_return 𝓤 H Ev Post)) in
    sets ! (addr ! (through ! refl (stop !))) refl (tt, tt) $
    calls_at ! (framed 𝓤 H 𝓜 𝓣) G₁ (met₁ 𝓤 𝓛 𝓜 𝓡 (code.calls-ordered_multimap::list_ordered_multimap::key_values_mut::KeyValuesMut::next
    𝓡.env wired) K V S A B LK LV LS LA LB eqs dEq pe dPe ha dHa bh dBh hg dHg al dAl dropA dropB mEq mPe mHa mBh mHg mAl mDropA mDropB) z₁
    (and_then ! (get ! refl) (no_more !)) (λ v.
    use1 𝓛 (later (some (λ (out : Out.Denot). (toks ⊛ ‵ (Out.own_val out (v ∷ []))) ⊛
    some (λ (ws : Lasts (g₁.ended K V S A B eqs dEq pe dPe ha dHa bh dBh hg dHg al dAl dropA dropB) κs a). ‵
    (lasts (g₁.ended K V S A B eqs dEq pe dPe ha dHa bh dBh hg dHg al dAl dropA dropB) κs a ws) ⊛ ‵ (Rest out) ⊛
    raw (fact 𝓤 (Key out)) ⊛ raw (fact 𝓤 (Values out)) ⊛ raw (fact 𝓤 (Positions out)) ⊛ raw (fact 𝓤 (Ends out)))))) (id⊢ 𝓤 _) $
    await ! tt $ pick ! (λ out. split ! $ split ! $ move ! (2 ∷ []) $
    pick ! (λ ws. split ! $ drop ! $ split ! $ move ! (1 ∷ []) $ split ! $ heard ! (Key out) (λ keyed. split ! $
    heard ! (Values out) (λ values. split ! $ heard ! (Positions out) (λ positions. heard ! (Ends out) (λ ended.
    -- [what the walk follows; the tokens; the key with its values, if there is one]
    move ! (2 ∷ []) $ option_out Nx ! Nx-is.one (Nx-is.lawful 𝓛) out (v ∷ [])
    (λ is_none _. absurd (no_front (keys_left w₀) long (subst Key is_none keyed)))
    (λ x i is_some gi some_val.
    let key : Key (Some x) = subst Key is_some keyed in let values₁ : Values (Some x) = subst Values is_some values in
    let positions₁ : Positions (Some x) = subst Positions is_some positions in let stepped : Ends (Some x) = subst Ends is_some ended in
    let valued : 0 < length (values_of pe.eq pairs x.0.now) = first_has_value mEq.laws w₀ agree x.0.now (sym key) in
    pair_out Sk W ! refl (shr_Lawful 𝓛 (named 0) κs.0 Kr) W-is.one (W-is.lawful 𝓛) x.0 x.1 (i ∷ []) (λ ki wi gk gw ip.
    let gp = both_typed (layout Sk) (layout W) ki wi gk gw in let made : Val = live 1 (vcons (both ki wi) vnil) in
    let good : Good (layout Out) made = (and_tt _ gp.0, (record { fits = lit< tt }, (gp.1, tt))) in
    let is : v ≡ made = ap only some_val ∙ ap (λ u. live 1 (vcons u vnil)) (ap only ip) in
    lands_as ! is refl good $
    first ! $ switches_on ! (get_tag ! (vrt ! refl (fld ! refl (stop !))) (whole !)) $ exec ! 𝓣.C 𝓣.Λ Ev (arm_body 0 arms) Then $
    sets ! (of_opd ! (get_in ! (vrt ! refl (fld ! refl (fld ! refl (stop !))))
    (sub ! 0 refl (in_variant ! 1 0 refl refl (whole !))))) refl gk $
    sets ! (of_opd ! (get_in ! (vrt ! refl (fld ! refl (fld ! refl (stop !))))
    (sub ! 1 refl (in_variant ! 1 0 refl refl (whole !))))) refl gw $
    sets ! (of_opd ! (get ! refl)) refl gw $
    -- [the key; the inner walk; what the walk follows; the tokens]
    -- the inner walk gives the first
    let κ₂ : Lfts 4 = (κs.0, (κs.1.1.0, (κs.1.1.1.0, (κs.1.1.1.1.1.0, tt)))) in
    let q₂ : Shares 4 = (qs.0, (qs.1.1.0, (qs.1.1.1.0, (qs.1.1.1.1.1.0, tt)))) in
    let toks₂ = t₀ ⊛ t₂ ⊛ t₃ ⊛ t₅ ⊛ ‵ ftrue in let More : Type 0 = 0 < length (entry_values_mut_rest x.1) in
    let more : More = subst (λ (vs : List Vr.Denot). 0 < length vs) (sym values₁) valued in
    let G₂ = triple_of 𝓛 (g₂.signature K V A al dAl dropA) (g₂.spec K V A al dAl dropA 𝓛 𝓜.mem 𝓡.returns) in
    let z₂ : G₂.Ghost = ((κ₂, q₂, (bounds.1.0, (bounds.1.1.0, (bounds.1.1.1.1.0, tt))), (x.1, tt), (wi ∷ [], tt)), tt) in
    drop ! $ move ! (2 ∷ []) $ split ! $ move ! (1 ∷ []) $ split ! $ move ! (1 ∷ []) $ split ! $ move ! (1 ∷ []) $
    split ! $ move ! (1 ∷ []) $ split ! $ move ! (1 ∷ []) $ split ! $ move ! (1 ∷ []) $ split ! $ move ! (1 ∷ []) $ drop ! $
    -- [the tokens 6, 5, 4, 3, 2, 1, 0; the inner walk; what the walk follows]
    nothing ! $ move ! (2 ∷ 0 ∷ []) $ join ! $ move ! (3 ∷ 0 ∷ []) $ join ! $ move ! (3 ∷ 0 ∷ []) $ join ! $ move ! (4 ∷ 0 ∷ []) $ join ! $
    -- [the tokens of the inner walk; the tokens 6, 4, 1; the inner walk; what the walk follows]
    nothing ! $ move ! (5 ∷ 0 ∷ []) $ fjoin ! $ move ! (1 ∷ 0 ∷ []) $ join ! $
    states ! More more $ states ! inA five.memory $ join ! $ states ! inV five.values $ join ! $ states ! inK five.keys $ join ! $
    move ! (1 ∷ 0 ∷ []) $ use2 𝓛 (raw (G₂.pre z₂)) (id⊢ 𝓤 _) $
    calls_at ! (framed 𝓤 H 𝓜 𝓣) G₂ (met₂ 𝓤 𝓛 𝓜 𝓡 (code.calls-ordered_multimap_callers::stopped_keys::first_of_values 𝓡.env wired)
    K V A LK LV LA al dAl dropA mAl mDropA) z₂ (and_then ! (get ! refl) (no_more !)) (λ v₂.
    let Lends : Tw.Denot → Type 0 = λ q. LendsFirstOfKey x.1 (Some q.1) q.0 in
    use1 𝓛 (later (some (λ (q : Tw.Denot). (toks₂ ⊛ ‵ (Tw.own_val q (v₂ ∷ []))) ⊛
    some (λ (ws₂ : Lasts (g₂.ended K V A al dAl dropA) κ₂ (x.1, tt)). ‵ (lasts (g₂.ended K V A al dAl dropA) κ₂ (x.1, tt) ws₂) ⊛ raw
    (fact 𝓤 (Lends q)))))) (id⊢ 𝓤 _) $
    await ! tt $ pick ! (λ q. split ! $ split ! $ move ! (2 ∷ []) $ pick ! (λ ws₂. split ! $ drop ! $ heard ! (Lends q) (λ lends.
    -- [the tokens of the inner walk; it with the reference; the tokens 6, 4, 1; what the walk follows]
    move ! (1 ∷ []) $ pair_out W Mv ! W-is.one (W-is.lawful 𝓛) refl (mut_Lawful 𝓛 (named 0) κs.0 Vr) q.0 q.1 (v₂ ∷ [])
    (λ i₂ j g₂' gj iq. move ! (1 ∷ []) $
    peeks ! Mv (Is Mv) (shows 𝓛 Mv) q.1 (j ∷ []) (λ im. let em : j ∷ [] ≡ mut_vals q.1 = mut_Tells (named 0) κs.0 Vr q.1 (j ∷ []) im in
    rewrite ! 0 (λ (us : List Val). ‵ (Mv.own_val q.1 us)) em refl $
    lands_as ! (ap only iq ∙ ap (both i₂) (ap only em)) refl
    (both_typed (layout W) (layout Mv) i₂ (vptr q.1.ref_ptr.0 q.1.ref_ptr.1) g₂' (tt, tt)) $
    sets ! (of_opd ! (get_in ! (fld ! refl (stop !)) (sub ! 0 refl (whole !)))) refl g₂' $
    sets ! (of_opd ! (get_in ! (fld ! refl (stop !)) (sub ! 1 refl (whole !)))) refl (tt, tt) $
    -- [the reference; the inner walk; its tokens; the tokens 6, 4, 1; what the walk follows]
    move ! (2 ∷ []) $ split ! $ move ! (1 ∷ []) $ split ! $ move ! (1 ∷ []) $ split ! $ move ! (1 ∷ []) $ split ! $ move ! (1 ∷ []) $
    drop ! $
    -- [the tokens 5, 3, 2, 0; the reference; the inner walk; the tokens 6, 4, 1; what the walk follows]
    let law : Fml = InnerWalksAreExact Kr Vr Sr Ar Br pe ha bh hg al in
    let κ₃ : Lfts 5 = κs.1.1 in let q₃ : Shares 5 = qs.1.1 in let toks₃ = t₂ ⊛ t₃ ⊛ t₄ ⊛ t₅ ⊛ t₆ ⊛ ‵ ftrue in
    let G₃ = triple_of 𝓛 (g₃.signature K V S A B) (g₃.spec K V S A B eqs dEq pe dPe ha dHa bh dBh hg dHg al dAl dropA dropB 𝓛 𝓜.mem
    𝓡.returns) in
    let z₃ : G₃.Ghost = ((κ₃, q₃, tt, tt, tt), tt) in
    nothing ! $ move ! (7 ∷ 0 ∷ []) $ join ! $ move ! (1 ∷ 0 ∷ []) $ join ! $ move ! (6 ∷ 0 ∷ []) $ join ! $ move ! (1 ∷ 0 ∷ []) $ join ! $
    move ! (1 ∷ 0 ∷ []) $ join ! $
    -- [the tokens from 2; the token 0; the reference; the inner walk; the token 1; what the walk follows]
    nothing ! $ move ! (1 ∷ 0 ∷ []) $ join ! $
    nothing ! $ tells κs.1.1 K V S A B ! five $ move ! (1 ∷ 0 ∷ []) $ use2 𝓛 (raw (G₃.pre z₃)) (id⊢ 𝓤 _) $
    calls_at ! (framed 𝓤 H 𝓜 𝓣) G₃ (met₃ 𝓤 𝓛 𝓜 𝓡 (code.calls-ordered_multimap::laws::inner_walks_are_exact 𝓡.env wired)
    K V S A B LK LV LS LA LB eqs dEq pe dPe ha dHa bh dBh
    hg dHg al dAl dropA dropB mEq mPe mHa mBh mHg mAl mDropA mDropB) z₃ (no_more !) (λ v₃.
    use1 𝓛 (later (some (λ (n : Unit {0}). (toks₃ ⊛ ‵ (feq (List Val) (v₃ ∷ []) (vunit ∷ []))) ⊛ some
    (λ (ws₃ : Unit {0}). ‵ ftrue ⊛ ‵ law)))) (id⊢ 𝓤 _) $
    await ! tt $ pick ! (λ n. split ! $ split ! $ move ! (2 ∷ []) $
    pick ! (λ ws₃. split ! $ drop ! $ move ! (2 ∷ []) $ feq_l ! (λ e₃. lands_as ! (ap only e₃) refl (tt, tt) $
    -- [the law; the tokens from 2; the token 0; the reference; the inner walk; the token 1; what the walk follows]
    -- the inner walk is dropped
    let mForm = form_met 𝓡.env (code.calls-multimap_walks::packed::PackedLinkLinkFormValueLink::keep 𝓡.env wired)
    (code.calls-multimap_walks::packed::PackedLinkLinkFormValueLink::link 𝓡.env wired)
    (code.calls-multimap_walks::packed::PackedLinkLinkFormValueLink::copied 𝓡.env wired) M 𝓤 𝓛 𝓜 𝓡 in
    let tₚ = ‵ (flft [] full_share) in let toks₅ = t₀ ⊛ t₂ ⊛ t₃ ⊛ t₅ ⊛ tₚ ⊛ ‵ ftrue in let inP : Type 0 = [] ⊑ Packed.lives in
    let κ₅ : Lfts 5 = (κs.0, (κs.1.1.0, (κs.1.1.1.0, (κs.1.1.1.1.1.0, ([], tt))))) in
    let q₅ : Shares 5 = (qs.0, (qs.1.1.0, (qs.1.1.1.0, (qs.1.1.1.1.1.0, (full_share, tt))))) in
    let G₅ = triple_of 𝓛 (g₅.signature K V A Packed al dAl form dForm dropK dropV dropA drops_packed)
    (g₅.spec K V A Packed al dAl form dForm dropK dropV dropA drops_packed 𝓛 𝓜.mem 𝓡.returns) in
    let z₅ : G₅.Ghost = ((κ₅, q₅, (bounds.1.0, (bounds.1.1.0, (bounds.1.1.1.1.0, (⊑_static κs.0, tt)))), (q.0, tt), (i₂ ∷ [], tt)), tt) in
    move ! (1 ∷ []) $ split ! $ move ! (1 ∷ []) $ split ! $ move ! (1 ∷ []) $ split ! $ move ! (1 ∷ []) $ split ! $ move ! (1 ∷ []) $
    split ! $ move ! (1 ∷ []) $ drop ! $
    -- [the tokens 6, 5, 4, 3, 2; the law; the token 0; the reference; the inner walk; the token 1; what the walk follows]
    nothing ! $ use0 𝓛 tₚ (𝓛.lfts.lft-nil full_share) $ join ! $ move ! (2 ∷ 0 ∷ []) $ join ! $ move ! (3 ∷ 0 ∷ []) $ join ! $
    move ! (3 ∷ 0 ∷ []) $ join ! $ move ! (4 ∷ 0 ∷ []) $ join ! $
    -- [the tokens of the inner walk; the tokens 6, 4; the law; the reference; the inner walk; the token 1; what the walk follows]
    nothing ! $ move ! (6 ∷ 0 ∷ []) $ fjoin ! $ move ! (1 ∷ 0 ∷ []) $ join ! $
    nothing ! $ states ! inP (⊑_static []) $ join ! $ states ! inA five.memory $ join ! $ states ! inV five.values $ join ! $
    states ! inK five.keys $ join ! $
    move ! (1 ∷ 0 ∷ []) $ use2 𝓛 (raw (G₅.pre z₅)) (id⊢ 𝓤 _) $
    sets ! (addr ! (through ! refl (stop !))) refl (tt, tt) $
    calls_at_last ! (framed 𝓤 H 𝓜 𝓣) G₅ (met₅ 𝓤 𝓛 𝓜 𝓡 (code.calls-multimap_walks::writing::chain::EntryValuesMut::drop 𝓡.env wired)
    K V A Packed LK LV LA packed_laws
    al dAl form dForm dropK dropV dropA drops_packed mAl
    (record { keep = mForm.keep; link = mForm.link; copied = mForm.copied }) mDropK mDropV mDropA
    (glues "ordered_multimap_callers::Destruct++none::drop" 𝓡.env
    (code.calls-ordered_multimap_callers::Destruct++none::drop 𝓡.env wired) Packed packed_laws M 𝓤 𝓛 𝓜 𝓡)) z₅
    (and_then ! (get ! refl) (no_more !)) (λ v₅.
    let c₁ : Cells Vr.Denot = q.0.values.cells in
    use1 𝓛 (later (some (λ (n : Unit {0}). (toks₅ ⊛ ‵ (feq (List Val) (v₅ ∷ []) (vunit ∷ []))) ⊛
    some (λ (ws₅ : Lasts (g₅.ended K V A Packed al dAl form dForm dropK dropV dropA drops_packed) κ₅ (q.0, tt)). ‵
    (lasts (g₅.ended K V A Packed al dAl form dForm dropK dropV dropA drops_packed) κ₅ (q.0, tt) ws₅) ⊛ ‵ (ends_with Vr c₁))))) (id⊢ 𝓤 _) $
    await ! tt $ pick ! (λ n₅. split ! $ split ! $ move ! (2 ∷ []) $
    pick ! (λ ws₅. split ! $ drop ! $ move ! (2 ∷ []) $ feq_l ! (λ e₅.
    lands_last ! refl (subst (Good ty_unit) (sym (ap only e₅)) (tt, tt)) $ exec ! 𝓣.C 𝓣.Λ Ev (after 3 fn.body) (at_ret Ev Post) $
    sets ! (of_opd ! (get ! refl)) refl (tt, tt) $
    -- [the inner walk's end; its tokens; the tokens 6, 4; the law; the reference; the token 1; what the walk follows]
    let exact : Fml = walk_ends_exactly Kr Vr Sr Ar Br al Front a.0 c₁ in
    move ! (4 ∷ []) $ use1 𝓛 (‵ (fwand (Rest (Some x)) (fwand (ends_with Vr c₁) exact)))
    (inner_law_at Kr Vr Sr Ar Br pe ha bh hg al 𝓛 Front a.0 x c₁ stepped lends.taken.lender_context lends.taken.name) $
    move ! (7 ∷ []) $ rewrite ! 0 (λ (o : Out.Denot). ‵ (Rest o)) is_some refl $
    use2 𝓛 (‵ (fwand (ends_with Vr c₁) exact)) (apply∗ 𝓤 (sem 𝓛 (Rest (Some x))) (sem 𝓛 (fwand (ends_with Vr c₁) exact))) $
    move ! (1 ∷ 0 ∷ []) $ use2 𝓛 (‵ exact) (apply∗ 𝓤 (sem 𝓛 (ends_with Vr c₁)) (sem 𝓛 exact)) $
    use1 𝓛 (‵ (ends_next_written Kr Vr Sr Ar Br al a.0 q.1))
    (ends_next Kr Vr Sr Ar Br pe ha bh hg al 𝓛 a.0 x q.0 q.1 stepped lends agree key positions₁ more) $
    let First : Type 0 = IfSome (end_item Front (keys_left w₀)) (λ k. end_item Front (values_of pe.eq pairs k) ≡ Some q.1.now) in
    let at_first : end_item Front (values_of pe.eq pairs x.0.now) ≡ Some q.1.now = ap (end_item Front) (sym values₁ ∙ lends.steps) in
    states ! First (subst (λ o. IfSome o (λ k. end_item Front (values_of pe.eq pairs k) ≡ Some q.1.now)) key at_first) $
    move ! (1 ∷ 0 ∷ []) $ join ! $
    -- [what the walk ends as; the tokens of the inner walk; the tokens 6, 4; the reference; the token 1]
    move ! (1 ∷ []) $ split ! $ move ! (1 ∷ []) $ split ! $ move ! (1 ∷ []) $ split ! $ move ! (1 ∷ []) $ split ! $ move ! (1 ∷ []) $
    drop ! $
    -- [the tokens 5, 3, 2, 0; what is said; the tokens 6, 4; the reference; the token 1]
    nothing ! $ move ! (6 ∷ 0 ∷ []) $ join ! $ move ! (1 ∷ 0 ∷ []) $ join ! $ move ! (5 ∷ 0 ∷ []) $ join ! $ move ! (1 ∷ 0 ∷ []) $ join ! $
    move ! (1 ∷ 0 ∷ []) $ join ! $ move ! (4 ∷ 0 ∷ []) $ join ! $ move ! (1 ∷ 0 ∷ []) $ join ! $
    -- [the tokens; what is said; the reference]
    nothing ! $ nothing ! $ fjoin ! $
    returns ! (look_at ! 0 refl) $ free_all ! refl $ keep ! (1 ∷ 0 ∷ 3 ∷ 2 ∷ []) $
    by ! (leaves 𝓛 En hs c y (vptr q.1.ref_ptr.0 q.1.ref_ptr.1) q.1 (tt, tt) (tt, tt))))))))))))))))))))))))))))))
