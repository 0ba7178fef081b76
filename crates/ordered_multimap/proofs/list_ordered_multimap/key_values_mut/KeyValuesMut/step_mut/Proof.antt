-- `step_mut` holds the walk for writing, and an end. Assumes `Logic`.
-- It calls `step`, which tells the place of the key at that end, and where there is one `lend_at`, which lends the values of that key.
-- It gives back the key with its values and how the walk then ends, or nothing, and that the walk ends as it is.
use Rattle.std.proofs.Common.{◌≡◌, List, [], ◌∷◌, refl, sym, ap, ◌∙◌, subst, option_map, lit<}
use mir.Syntax.{a_type, dcons, dnil, named, w64, Body}
use mir.Val.{Val, vptr, vcons, vnil}
use mir.MapTy.{inst_fn}
use base.Logic.{SProp, id⊢}
use base.Fml.{Fml, GName, ftrue, fres}
use prog.Wp.{Wp, after_seq, at_return}
use types.Kit.{‵, raw, ◌⊛◌, some, later, at_ret, any_q, ◌$◌, ◌∵◌, !, qed, by, move, keep, drop, split, join, fsplit3, fjoin, use0, use1}
use types.Kit.{use2, pick, await, rewrite}
use types.Run.{enter, of_opd, addr, stop, fld, lit, no_more, and_then, first, switches_on, exec, returns}
use types.ByLocal.{alloc_all, pass_all, free_all, look_at, get, get_in, get_tag, through, sets, sets_last, lands_as, env}
use types.Match.{live, vrt, in_variant}
use types.Part.{agg, whole, sub}
use types.Tokens.{name_done}
use contract.Running.{tables}
use contract.Monad.{fact}
use denote.Builtin.{usize}
use denote.Enum.Laws as Enum-laws
use denote.Enum.Loose.{loose_lawful}
use denote.Follow.{follows}
use denote.RattleType.{RattleType}
use denote.Laws.{Is, shows}
use denote.Plain.{uint_Lawful}
use denote.Ref.{MutRef, ShrRef, mut_vals, mut_Tells, mut_Lawful, shr_Lawful}
use denote.Param.{param, layout, bounded}
use denote.Param.Laws.{Laws, param_laws, of_field}
use denote.Struct.Laws.{usize-laws, usize-copy}
use denote.Param.Shared.{copy_shared}
use denote.Struct.Field.{usize-field}
use denote.Signature.{named_lft}
use denote.Steps.{nothing, only, heard, peeks}
use denote.Struct.Tuple.{Tuple}
use denote.Triple.Clauses.{lasts, Lasts}
use denote.Triple.Entry.{on_entry, alive}
use denote.Triple.Spec.{triple_of}
use denote.Triple.Call.{calls_at}
use denote.Triple.Table.{framed}
use denote.Triple.Walked.{Stays, walk_of}
use Rattle.std.proofs.alloc.Shapes.{after, head, arm_body}
use Rattle.std.specs.Prelude.{Some, None, IfSome, IfNone, OnSome, option_and_then}
use Rattle.std.specs.contracts.option.Option.{the_row as Opt}
use Rattle.std.proofs.option.Option.TheLaws.{the_row_laws as Opt-laws}
use Rattle.std.proofs.cell.Inside.{Good}
use Rattle.std.proofs.option.Made.{Some-of, none_of}
use Rattle.std.proofs.raw_atomic.Walks.{proved, leaves}
use Rattle.std.proofs.ResultValues.{and_tt}
use Rattle.multimap_slots.specs.Lists.{IsIn}
use Rattle.multimap_slots.specs.Slots.{item_at}
use Rattle.multimap_walks.specs.Walk.{end_item, end_rest}
use Rattle.multimap_walks.specs.WritingWalk.{entry_values_mut_values, entry_values_mut_name, entry_values_mut_positions}
use Rattle.multimap_walks.specs.WritingWalk.{entry_values_mut_rest}
use Rattle.multimap_walks.specs.declared.End.{End}
use Rattle.multimap_walks.specs.contracts.End as EndType
use Rattle.multimap_walks.proofs.End.TheLaws as End-laws
use Rattle.multimap_walks.specs.contracts.packed.PackedLink as PL-type
use Rattle.multimap_walks.specs.contracts.packed.PackedLinkLinkFormValueLink.TheImpl.{ghosts as form}
use Rattle.multimap_walks.proofs.packed.PackedLink.TheLaws as PL-laws
use Rattle.multimap_walks.specs.contracts.writing.chain.EntryValuesMut as W-type
use Rattle.multimap_walks.proofs.writing.chain.EntryValuesMut.TheLaws as W-laws
use Rattle.ordered_multimap.specs.Agrees.{HasKey}
use Rattle.ordered_multimap.specs.KeysLeft.{keys_left}
use Rattle.ordered_multimap.specs.Pairs.{positions_of, values_of}
use Rattle.ordered_multimap.specs.ValuesLent.{with_values_of}
use Rattle.ordered_multimap.specs.WalkLends.{EndsStepped, EndsWalk, IsStepped, lends_key_values, with_walk_values}
use Rattle.ordered_multimap.proofs.Loans.Options.{option_out}
use Rattle.ordered_multimap.proofs.Loans.HandsOn.{end_vals as at_end, stays_with_end, goes_with_end}
use Rattle.ordered_multimap.proofs.Loans.Outlived.{told, hears, tells, states}
use Rattle.ordered_multimap.proofs.Callers.PairsByValue.{both, both_typed, pair_in, pair_out}
use Rattle.ordered_multimap.proofs.Loans.Rested.{so_some, so_none}
use Rattle.ordered_multimap.specs.contracts.list_ordered_multimap.ListOrderedMultimap as M-type
use Rattle.ordered_multimap.specs.contracts.list_ordered_multimap.key_values_mut.KeyValuesMut as E-type
use Rattle.ordered_multimap.specs.contracts.list_ordered_multimap.key_values_mut.KeyValuesMut.step_mut as f
use Rattle.ordered_multimap.specs.contracts.list_ordered_multimap.key_values_mut.KeyValuesMut.step_mut.Key.{name as #self}
use Rattle.ordered_multimap.proofs.list_ordered_multimap.key_values_mut.KeyValuesMut.step_mut.Statement.{statement}
use Rattle.ordered_multimap.proofs.list_ordered_multimap.key_values_mut.KeyValuesMut.step_mut.Code as code
use Rattle.ordered_multimap.specs.contracts.list_ordered_multimap.key_values_mut.KeyValuesMut.step as g₁
use Rattle.ordered_multimap.proofs.list_ordered_multimap.key_values_mut.KeyValuesMut.step.Met.{met as met₁}
use Rattle.ordered_multimap.specs.contracts.list_ordered_multimap.key_values_mut.KeyValuesMut.lend_at as g₂
use Rattle.ordered_multimap.proofs.list_ordered_multimap.key_values_mut.KeyValuesMut.lend_at.Met.{met as met₂}

usize_laws : Laws usize
usize_laws = of_field usize-field usize-laws refl (copy_shared usize-field usize-copy)

pub step_mut_spec : {M : Type 1} → statement M
step_mut_spec 𝓤 𝓛 𝓜 𝓡 wired K V S A B LK LV LS LA LB eqs dEq pe dPe ha dHa bh dBh hg dHg al dAl dropA dropB mEq mPe mHa mBh mHg mAl mDropA
    mDropB =
    let H = 𝓛.H in let 𝓣 = tables 𝓤 H 𝓜 𝓡 𝓡.env in
    let Kr : RattleType = param 0 K in let Vr : RattleType = param 1 V in let Sr : RattleType = param 2 S in
    let Ar : RattleType = param 3 A in let Br : RattleType = param 4 B in
    let Mr : RattleType = M-type.the_row Kr Vr Sr Ar Br pe ha bh hg al in
    let En = f.ended K V S A B eqs dEq pe dPe ha dHa bh dBh hg dHg al dAl dropA dropB in
    let c = f.clauses K V S A B eqs dEq pe dPe ha dHa bh dBh hg dHg al dAl dropA dropB 𝓛 𝓜.mem 𝓡.returns in
    let inst = bounded (a_type ∷ a_type ∷ a_type ∷ a_type ∷ a_type ∷ []) (K, (V, (S, (A, (B, tt)))))
    (dcons dEq (dcons dPe (dcons dHa (dcons dBh (dcons dHg (dcons dAl (dcons dropA (dcons dropB dnil)))))))) in
    let fn = inst_fn inst code.function in
    let hs : Stays En.signature.params En.kept = stays_with_end 6
    (λ κs. E-type.the_row (named_lft 7 1 tt κs) Kr Vr Sr Ar Br pe ha bh hg al) in
    proved 𝓛 En hs c 𝓜 𝓡 (goes_with_end 6 (λ κs. E-type.the_row (named_lft 7 1 tt κs) Kr Vr Sr Ar Br pe ha bh hg al) 𝓛) (#self inst) fn
    (code.unfolded 𝓤 H 𝓜 𝓡 wired (K, (V, (S, (A, (B, tt))))) dEq dPe dHa dBh dHg dAl dropA dropB)
    (λ κs. (mut_vals, (at_end, tt))) (λ κs. (
      mut_Tells (named 0) κs.0 (E-type.the_row (named_lft 7 1 tt κs) Kr Vr Sr Ar Br pe ha bh hg al),
      (Enum-laws.tells EndType.the_type End-laws.the_laws, tt),
    )) (λ κs qs bounds a gh are.
    let R : RattleType = E-type.the_row (named_lft 7 1 tt κs) Kr Vr Sr Ar Br pe ha bh hg al in
    let y : (walk_of 𝓛 En hs c).Ghost = ((κs, qs, bounds, a, (mut_vals a.0, (at_end a.1.0, tt))), gh) in let Post : Val
    → SProp 𝓤 = (walk_of 𝓛 En hs c).post y in
    let γ = a.0.ghost_name in let w₀ : R.Denot = a.0.now in let m₀ : Mr.Denot = w₀.map.now in let end : End = a.1.0 in
    let O : RattleType = Opt usize in let O-is : Laws O = Opt-laws usize usize_laws in let Me : RattleType = MutRef (named 0) κs.0 R in
    let Q : RattleType = Tuple (O ∷ Me ∷ []) in
    let ℓ = named_lft 7 0 tt κs in let CR : RattleType = W-type.the_row ℓ Kr Vr Ar PL-type.the_row form al in
    let CR-is : Laws CR = W-laws.the_row_laws ℓ Kr Vr Ar PL-type.the_row form al (param_laws 0 K LK) (param_laws 1 V LV) (param_laws 3 A LA)
    PL-laws.the_row_laws in
    let Sk : RattleType = ShrRef (named 0) κs.0 Kr in let Tw : RattleType = Tuple (Sk ∷ CR ∷ []) in let Out : RattleType = Opt Tw in
    let toks = raw (alive 𝓛 En.signature κs qs) in
    let Rest : Out.Denot → Fml = λ out. lends_key_values Kr Vr Sr Ar Br al end a.0 out in
    let Key : Out.Denot → Type 0 = λ out. option_map (λ x. x.0.now) out ≡ end_item end (keys_left w₀) in
    let Values : Out.Denot → Type 0 = λ out. IfSome out (λ x. entry_values_mut_rest x.1 ≡ values_of pe.eq m₀.lists.pairs x.0.now) in
    let Ends : Out.Denot → Type 0 = λ out. IfSome out (EndsStepped Kr Vr Sr Ar Br al end w₀) in
    let Positions : Out.Denot → Type 0 = λ out. IfSome out
    (λ x. entry_values_mut_positions x.1 ≡ positions_of pe.eq m₀.lists.pairs x.0.now) in
    let Shows : Out.Denot → R.Denot → R.Denot → Type 0 = λ out v n. OnSome out (IsStepped end w₀ v.map.now n) in let Keeps : Out.Denot
    → R.Denot → Type 0 = λ out n. IfNone out (n ≡ w₀) in
    let end_good = ((loose_lawful EndType.the_type End-laws.the_loose tt 𝓛).typed end (at_end end) are.1.0).0 in
    let G₁ = triple_of 𝓛 (g₁.signature K V S A B eqs dEq pe dPe ha dHa bh dBh hg dHg al dAl dropA dropB)
    (g₁.spec K V S A B eqs dEq pe dPe ha dHa bh dBh hg dHg al dAl dropA dropB 𝓛 𝓜.mem 𝓡.returns) in
    let z₁ : G₁.Ghost = ((κs, qs, bounds, a, (mut_vals a.0, (at_end end, tt))), gh) in
    qed 𝓛 (raw (on_entry 𝓛 En.signature κs qs a (mut_vals a.0, (at_end end, tt))) ∷
    told κs.1.1 K V S A B (‵ ftrue) ∷ []) ∵
    move ! (1 ∷ []) $ hears κs.1.1 K V S A B ! (λ five.
    nothing ! $ tells κs.1.1 K V S A B ! five $ move ! (1 ∷ 0 ∷ []) $ use2 𝓛 (raw (G₁.pre z₁)) (id⊢ 𝓤 _) $
    enter ! 𝓣.C 𝓣.Λ fn (vptr a.0.ref_ptr.0 a.0.ref_ptr.1 ∷ at_end end) Post $
    alloc_all ! (λ l. pass_all ! refl ((tt, tt), (end_good, tt)) $ let Ev = env fn.locals l in
    let arms : Body = head (after 4 fn.body) in let Then = any_q
    (after_seq 𝓤 H (Wp 𝓤 H 𝓣.C 𝓣.Λ Ev (after 5 fn.body) (at_return 𝓤 H Ev Post)) (at_return 𝓤 H Ev Post)) in
    sets ! (addr ! (through ! refl (stop !))) refl (tt, tt) $
    let Listed : Q.Denot → Type 0 = λ r. IfSome r.0 (λ p. IsIn p m₀.slots.keys.order) in let Shown : Q.Denot
    → Type 0 = λ r. option_and_then (item_at m₀.slots.keys) r.0 ≡ end_item end (keys_left w₀) in
    let Left : Q.Denot → Type 0 = λ r. OnSome r.0 (keys_left r.1.now ≡ end_rest end (keys_left w₀)) in let Stayed : Q.Denot
    → Type 0 = λ r. IfNone r.0 (r.1.now ≡ w₀) in
    calls_at ! (framed 𝓤 H 𝓜 𝓣) G₁ (met₁ 𝓤 𝓛 𝓜 𝓡 (code.calls-ordered_multimap::list_ordered_multimap::key_values_mut::KeyValuesMut::step
    𝓡.env wired) K V S A B LK LV LS LA LB eqs dEq pe dPe ha dHa bh dBh hg dHg al dAl dropA dropB mEq mPe mHa mBh mHg mAl mDropA mDropB)
    z₁
    (and_then ! (get ! refl) (and_then ! (get ! refl) (no_more !))) (λ v.
    use1 𝓛 (later (some (λ (r : Q.Denot). (toks ⊛ ‵ (Q.own_val r (v ∷ []))) ⊛
    some (λ (ws : Lasts (g₁.ended K V S A B eqs dEq pe dPe ha dHa bh dBh hg dHg al dAl dropA dropB) κs a). ‵
    (lasts (g₁.ended K V S A B eqs dEq pe dPe ha dHa bh dBh hg dHg al dAl dropA dropB) κs a ws) ⊛ raw
    (fact 𝓤 (r.1.ghost_name ≡ γ)) ⊛ raw (fact 𝓤 (r.1.now.map ≡ w₀.map)) ⊛
    raw (fact 𝓤 (Listed r)) ⊛ raw (fact 𝓤 (Shown r)) ⊛ raw (fact 𝓤 (Left r)) ⊛ raw (fact 𝓤 (Stayed r)))))) (id⊢ 𝓤 _) $
    await ! tt $ pick ! (λ r. split ! $ split ! $ move ! (2 ∷ []) $
    pick ! (λ ws. split ! $ drop ! $ split ! $ heard ! (r.1.ghost_name ≡ γ)
    (λ same. split ! $ heard ! (r.1.now.map ≡ w₀.map) (λ same_map.
    split ! $ heard ! (Listed r) (λ listed. split ! $
    heard ! (Shown r) (λ shown. split ! $ heard ! (Left r) (λ left. heard ! (Stayed r) (λ stayed.
    -- [the tokens; the place, with the walk]
    move ! (1 ∷ []) $ pair_out O Me ! O-is.one (O-is.lawful 𝓛) refl (mut_Lawful 𝓛 (named 0) κs.0 R) r.0 r.1 (v ∷ [])
    (λ x m gx gm is. move ! (1 ∷ []) $ peeks ! Me (Is Me) (shows 𝓛 Me) r.1 (m ∷ []) (λ im.
    let em : m ∷ [] ≡ mut_vals r.1 = mut_Tells (named 0) κs.0 R r.1 (m ∷ []) im in
    rewrite ! 0 (λ (us : List Val). ‵ (Me.own_val r.1 us)) em refl $ move ! (1 ∷ []) $
    option_out usize ! refl (uint_Lawful 𝓛 w64) r.0 (x ∷ [])
    (λ no_place no_val.
    -- [the walk; the tokens]
    let still : r.1.now ≡ w₀ = subst (λ o. IfNone o (r.1.now ≡ w₀)) no_place stayed in
    let out : Out.Denot = None in let none : Val = live 0 vnil in
    let good : Good (layout Out) none = (tt, (record { fits = lit< tt }, tt)) in
    lands_as ! (ap only is ∙ ap (λ u. both u m) (ap only no_val) ∙ ap (both none) (ap only em)) refl
    (both_typed (layout O) (layout Me) none (vptr r.1.ref_ptr.0 r.1.ref_ptr.1) (tt, (record { fits = lit< tt }, tt)) (tt, tt)) $
    sets ! (of_opd ! (get_in ! (fld ! refl (stop !)) (sub ! 0 refl (whole !)))) refl (tt, (record { fits = lit< tt }, tt)) $
    sets ! (of_opd ! (get_in ! (fld ! refl (stop !)) (sub ! 1 refl (whole !)))) refl (tt, tt) $
    first ! $ switches_on ! (get_tag ! (vrt ! refl (fld ! refl (stop !))) (whole !)) $ exec ! 𝓣.C 𝓣.Λ Ev (arm_body 1 arms) Then $
    sets_last ! (agg ! (and_then ! (lit ! tt) (no_more !))) refl good $ exec ! 𝓣.C 𝓣.Λ Ev (after 5 fn.body) (at_ret Ev Post) $
    sets ! (of_opd ! (get ! refl)) refl good $
    fsplit3 ! $ drop ! $ name_done ! tt $ rewrite ! 0 (λ (δ : GName). ‵ (fres δ (R.coded.code r.1.now))) same refl $
    use1 𝓛 (‵ (Rest out)) (so_none 𝓛 R R γ γ (Shows out) (Keeps out) (λ h. h) r.1.now (λ h. tt) still) $
    -- [the walk rests; its borrow; the tokens]
    let shown₀ : Key out = subst (λ o. option_and_then (item_at m₀.slots.keys) o ≡ end_item end (keys_left w₀)) no_place shown in
    states ! (Ends out) tt $
    states ! (Positions out) tt $ join ! $
    states ! (Values out) tt $ join ! $
    states ! (Key out) shown₀ $ join ! $
    move ! (1 ∷ 0 ∷ []) $ join ! $ use0 𝓛 (‵ (Out.own_val out (none ∷ []))) (none_of 𝓛 Tw) $ nothing ! $ nothing ! $ fjoin ! $ nothing ! $
    fjoin ! $
    returns ! (look_at ! 0 refl) $ free_all ! refl $ keep ! (4 ∷ 0 ∷ 1 ∷ 2 ∷ []) $
    by ! (leaves 𝓛 En hs c y none out (tt, (tt, tt)) (tt, (tt, tt))))
    (λ p i some_place gi some_val.
    -- [the place; the walk; the tokens]
    let held : Val = live 1 (vcons i vnil) in let good : Good (layout O) held = (and_tt _ gi.0, (record { fits = lit< tt }, (gi.1, tt))) in
    lands_as ! (ap only is ∙ ap (λ u. both u m) (ap only some_val) ∙ ap (both held) (ap only em)) refl
    (both_typed (layout O) (layout Me) held (vptr r.1.ref_ptr.0 r.1.ref_ptr.1) good (tt, tt)) $
    sets ! (of_opd ! (get_in ! (fld ! refl (stop !)) (sub ! 0 refl (whole !)))) refl good $
    sets ! (of_opd ! (get_in ! (fld ! refl (stop !)) (sub ! 1 refl (whole !)))) refl (tt, tt) $
    first ! $ switches_on ! (get_tag ! (vrt ! refl (fld ! refl (stop !))) (whole !)) $ exec ! 𝓣.C 𝓣.Λ Ev (arm_body 0 arms) Then $
    sets ! (of_opd ! (get_in ! (vrt ! refl (fld ! refl (stop !))) (in_variant ! 1 0 refl refl (whole !)))) refl gi $
    sets ! (addr ! (through ! refl (stop !))) refl (tt, tt) $
    let m₁ : Mr.Denot = r.1.now.map.now in let Asked : Type 0 = IsIn p m₁.slots.keys.order in
    let listed₀ : IsIn p m₀.slots.keys.order = subst (λ o. IfSome o (λ p'. IsIn p' m₀.slots.keys.order)) some_place listed in
    let listed₁ : Asked = subst (λ n. IsIn p n.now.slots.keys.order) (sym same_map) listed₀ in
    let G₂ = triple_of 𝓛 (g₂.signature K V S A B eqs dEq pe dPe ha dHa bh dBh hg dHg al dAl dropA dropB)
    (g₂.spec K V S A B eqs dEq pe dPe ha dHa bh dBh hg dHg al dAl dropA dropB 𝓛 𝓜.mem 𝓡.returns) in
    let z₂ : G₂.Ghost = ((κs, qs, bounds, (r.1, (p, tt)), (mut_vals r.1, (i ∷ [], tt))), tt) in
    nothing ! $ move ! (1 ∷ 0 ∷ []) $ fjoin ! $ move ! (1 ∷ 0 ∷ []) $ fjoin ! $ move ! (1 ∷ 0 ∷ []) $ join ! $
    states ! Asked listed₁ $ tells κs.1.1 K V S A B ! five $
    move ! (1 ∷ 0 ∷ []) $ use2 𝓛 (raw (G₂.pre z₂)) (id⊢ 𝓤 _) $
    calls_at ! (framed 𝓤 H 𝓜 𝓣) G₂ (met₂ 𝓤 𝓛 𝓜 𝓡 (code.calls-ordered_multimap::list_ordered_multimap::key_values_mut::KeyValuesMut::lend_at
    𝓡.env wired) K V S A B LK LV LS LA LB eqs dEq pe dPe ha dHa bh dBh hg dHg al dAl dropA dropB mEq mPe mHa mBh mHg mAl mDropA mDropB)
    z₂
    (and_then ! (get ! refl) (and_then ! (get ! refl) (no_more !))) (λ v₂.
    let Stored : Tw.Denot → Type 0 = λ q. item_at m₁.slots.keys p ≡ Some q.0.now in
    let Gives : Tw.Denot → Type 0 = λ q. (key : Kr.Denot) → HasKey pe.eq m₁.slots.keys key p
    → entry_values_mut_rest q.1 ≡ values_of pe.eq m₁.lists.pairs key in
    let Places : Tw.Denot → Type 0 = λ q. (key : Kr.Denot) → HasKey pe.eq m₁.slots.keys key p
    → entry_values_mut_positions q.1 ≡ positions_of pe.eq m₁.lists.pairs key in
    let Ended : Tw.Denot → Type 0 = λ q. EndsWalk Kr Vr Sr Ar Br al r.1.now (entry_values_mut_values q.1) in
    let ends_as : R.Denot → R.Denot = λ h. with_walk_values r.1.now h.map.now in
    use1 𝓛 (later (some (λ (q : Tw.Denot). (toks ⊛ ‵ (Tw.own_val q (v₂ ∷ []))) ⊛
    some (λ (ws₂ : Lasts (g₂.ended K V S A B eqs dEq pe dPe ha dHa bh dBh hg dHg al dAl dropA dropB) κs (r.1, (p, tt))). ‵
    (lasts (g₂.ended K V S A B eqs dEq pe dPe ha dHa bh dBh hg dHg al dAl dropA dropB) κs (r.1, (p, tt)) ws₂) ⊛ ‵
    (follows R R r.1.ghost_name (entry_values_mut_name q.1) ends_as) ⊛
    raw (fact 𝓤 (Stored q)) ⊛ raw (fact 𝓤 (Gives q)) ⊛ raw (fact 𝓤 (Places q)) ⊛ raw (fact 𝓤 (Ended q)))))) (id⊢ 𝓤 _) $
    await ! tt $ pick ! (λ q. split ! $ split ! $ move ! (2 ∷ []) $
    pick ! (λ ws₂. split ! $ drop ! $ split ! $ move ! (1 ∷ []) $ split ! $
    heard ! (Stored q) (λ stored. split ! $ heard ! (Gives q)
    (λ gives. split ! $ heard ! (Places q) (λ places. heard ! (Ended q) (λ ended.
    -- [the walk follows; the tokens; the key with its values]
    rewrite ! 0 (λ (δ : GName). ‵ (follows R R δ (entry_values_mut_name q.1) ends_as)) same refl $
    let out : Out.Denot = Some q in let name = entry_values_mut_name q.1 in
    let left₁ : keys_left r.1.now ≡ end_rest end (keys_left w₀) = subst
    (λ o. OnSome o (keys_left r.1.now ≡ end_rest end (keys_left w₀))) some_place left in
    let stepped : (h : R.Denot) → IsStepped end w₀ h.map.now
    (ends_as h) = λ h. record {
      values = ap (λ n. with_values_of n.now h.map.now) same_map;
      same_name = ap
          (λ n. n.ghost_name) same_map;
      same_place = ap (λ n. n.ref_ptr) same_map;
      keys = left₁;
    } in
    use1 𝓛 (‵ (Rest out)) (so_some 𝓛 R R γ name (Shows out) (Keeps out) ends_as w₀ stepped tt) $
    move ! (2 ∷ []) $ pair_out Sk CR ! refl (shr_Lawful 𝓛 (named 0) κs.0 Kr) CR-is.one (CR-is.lawful 𝓛) q.0 q.1 (v₂ ∷ [])
    (λ i' j gi' gj iq. pair_in Sk CR ! q.0 q.1 i' j $
    let u : Val = both i' j in let gu = both_typed (layout Sk) (layout CR) i' j gi' gj in let made : Val = live 1 (vcons u vnil) in
    let fits : Good (layout Out) made = (and_tt _ gu.0, (record { fits = lit< tt }, (gu.1, tt))) in
    lands_as ! (ap only iq) refl gu $
    sets_last ! (agg ! (and_then ! (lit ! tt) (and_then ! (get ! refl) (no_more !)))) refl fits $
    exec ! 𝓣.C 𝓣.Λ Ev (after 5 fn.body) (at_ret Ev Post) $ sets ! (of_opd ! (get ! refl)) refl fits $
    use1 𝓛 (‵ (Out.own_val out (made ∷ []))) (Some-of 𝓛 Tw q u) $
    -- [the result; the walk follows; the tokens]
    let stored₀ : item_at m₀.slots.keys p ≡ Some q.0.now = subst (λ n. item_at n.now.slots.keys p ≡ Some q.0.now) same_map stored in
    let key : Key out = sym stored₀ ∙ subst (λ o. option_and_then (item_at m₀.slots.keys) o ≡ end_item end (keys_left w₀)) some_place
    shown in
    let here : HasKey pe.eq m₁.slots.keys q.0.now p = record {
      listed = listed₁;
      stored = q.0.now;
      item_is = stored;
      equal = mEq.laws.refl
          q.0.now;
    } in
    let values : Values out = gives q.0.now here ∙ ap (λ n. values_of pe.eq n.now.lists.pairs q.0.now) same_map in
    let positions : Positions out = places q.0.now here ∙ ap (λ n. positions_of pe.eq n.now.lists.pairs q.0.now) same_map in
    states ! (Ends out) (record { walk = r.1.now; same_map = same_map; keys = left₁; ends = ended }) $
    states ! (Positions out) positions $ join ! $
    states ! (Values out) values $ join ! $
    states ! (Key out) key $ join ! $
    move ! (2 ∷ 0 ∷ []) $ join ! $ nothing ! $ nothing ! $ fjoin ! $ nothing ! $ fjoin ! $
    returns ! (look_at ! 0 refl) $ free_all ! refl $ keep ! (3 ∷ 0 ∷ 2 ∷ 1 ∷ []) $
    by ! (leaves 𝓛 En hs c y made out (tt, (tt, tt)) (tt, (tt, tt))))))))))))))))))))))))))
