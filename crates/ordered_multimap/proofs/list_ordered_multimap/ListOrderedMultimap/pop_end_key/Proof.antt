-- `pop_end_key` holds the map for writing, and an end. Assumes `Logic`.
-- It calls `detach_end_on`, which takes the key there out, and where there is one `lend_to_drain`, which lends the map to a drain of its values.
-- It gives back the key with that drain and how the map then ends, or nothing, and that the map ends as it is.
use Rattle.std.proofs.Common.{◌≡◌, List, [], ◌∷◌, refl, sym, ap, ◌∙◌, subst, option_map, lit<}
use mir.Syntax.{a_type, dcons, dnil, named, Body}
use mir.Val.{Val, vptr, vcons, vnil}
use mir.MapTy.{inst_fn}
use base.Logic.{SProp, id⊢}
use base.Fml.{Fml, GName, ftrue, fres}
use prog.Wp.{Wp, after_seq, at_return}
use types.Kit.{‵, raw, ◌⊛◌, some, later, at_ret, any_q, ◌$◌, ◌∵◌, !, qed, by, move, keep, drop, split, join, fsplit3, fjoin, use0, use1}
use types.Kit.{use2, pick, await, rewrite}
use types.Run.{enter, of_opd, addr, stop, fld, lit, no_more, and_then, first, switches_on, exec, returns}
use types.ByLocal.{alloc_all, pass_all, free_all, look_at, get, get_in, get_tag, through, sets, sets_last, lands_as, env}
use types.Match.{live, vrt, in_variant}
use types.Part.{agg, whole, sub}
use types.Tokens.{name_done}
use contract.Running.{tables}
use contract.Monad.{fact}
use denote.Enum.Laws as Enum-laws
use denote.Enum.Loose.{loose_lawful}
use denote.Follow.{follows}
use denote.RattleType.{RattleType}
use denote.Laws.{Is, shows}
use denote.Ref.{NamedLft, MutRef, mut_vals, mut_Tells, mut_Lawful}
use denote.Param.{param, layout, bounded}
use denote.Param.Laws.{Laws, param_laws}
use denote.Signature.{named_lft}
use denote.Steps.{nothing, only, heard, peeks}
use denote.Struct.Tuple.{Tuple}
use denote.Triple.Clauses.{lasts, Lasts}
use denote.Triple.Entry.{on_entry, alive}
use denote.Triple.Spec.{triple_of}
use denote.Triple.Call.{calls_at}
use denote.Triple.Table.{framed}
use denote.Triple.Walked.{Stays, walk_of}
use Rattle.std.proofs.alloc.Shapes.{after, head, arm_body}
use Rattle.std.specs.Prelude.{Some, None, IfSome, IfNone, OnSome}
use Rattle.std.specs.contracts.option.Option.{the_row as Opt}
use Rattle.std.proofs.option.Option.TheLaws.{the_row_laws as Opt-laws}
use Rattle.std.proofs.cell.Inside.{Good}
use Rattle.std.proofs.option.Made.{Some-of, none_of}
use Rattle.std.proofs.raw_atomic.Walks.{proved, leaves}
use Rattle.std.proofs.ResultValues.{and_tt}
use Rattle.multimap_walks.specs.declared.End.{End}
use Rattle.multimap_walks.specs.Walk.{end_item}
use Rattle.multimap_walks.specs.contracts.End as EndType
use Rattle.multimap_walks.proofs.End.TheLaws as End-laws
use Rattle.ordered_multimap.specs.Changes.{removed}
use Rattle.ordered_multimap.specs.Detaches.{HoldsDrain}
use Rattle.ordered_multimap.specs.DrainLends.{ends_key_popped}
use Rattle.ordered_multimap.specs.Drains.{DrainsEntry}
use Rattle.ordered_multimap.specs.Private.KeySteps.{DetachesValues, HoldsInRoom}
use Rattle.ordered_multimap.proofs.Detach.Drains.{drains_entry}
use Rattle.ordered_multimap.proofs.Loans.HandsOn.{end_vals as at_end, stays_with_end, goes_with_end}
use Rattle.ordered_multimap.proofs.Loans.Options.{option_out}
use Rattle.ordered_multimap.proofs.Loans.Outlived.{told, hears, tells, states}
use Rattle.ordered_multimap.proofs.Callers.PairsByValue.{both, both_typed, pair_in, pair_out}
use Rattle.ordered_multimap.proofs.Loans.Rested.{follows_itself, so_some, so_none}
use Rattle.ordered_multimap.specs.contracts.list_ordered_multimap.ListOrderedMultimap as Map
use Rattle.ordered_multimap.specs.contracts.list_ordered_multimap.drain.EntryValuesDrain as Drain
use Rattle.ordered_multimap.proofs.list_ordered_multimap.drain.EntryValuesDrain.TheLaws as Drain-laws
use Rattle.ordered_multimap.specs.contracts.list_ordered_multimap.ListOrderedMultimap.pop_end_key as f
use Rattle.ordered_multimap.specs.contracts.list_ordered_multimap.ListOrderedMultimap.pop_end_key.Key.{name as #self}
use Rattle.ordered_multimap.proofs.list_ordered_multimap.ListOrderedMultimap.pop_end_key.Statement.{statement}
use Rattle.ordered_multimap.proofs.list_ordered_multimap.ListOrderedMultimap.pop_end_key.Code as code
use Rattle.ordered_multimap.specs.contracts.list_ordered_multimap.ListOrderedMultimap.detach_end_on as g₁
use Rattle.ordered_multimap.proofs.list_ordered_multimap.ListOrderedMultimap.detach_end_on.Met.{met as met₁}
use Rattle.ordered_multimap.specs.contracts.list_ordered_multimap.ListOrderedMultimap.lend_to_drain as g₂
use Rattle.ordered_multimap.proofs.list_ordered_multimap.ListOrderedMultimap.lend_to_drain.Met.{met as met₂}

pub pop_end_key_spec : {M : Type 1} → statement M
pop_end_key_spec 𝓤 𝓛 𝓜 𝓡 wired K V S A B LK LV LS LA LB eqs dEq pe dPe ha dHa bh dBh hg dHg al dAl dropV dropA dropB mEq mPe mHa
    mBh mHg mAl mDropV mDropA mDropB =
    let H = 𝓛.H in let 𝓣 = tables 𝓤 H 𝓜 𝓡 𝓡.env in
    let Kr = param 0 K in let Vr = param 1 V in
    let R : RattleType = Map.the_row Kr Vr (param 2 S) (param 3 A) (param 4 B) pe ha bh hg al in
    let En = f.ended K V S A B eqs dEq pe dPe ha dHa bh dBh hg dHg al dAl dropV dropA dropB in
    let c = f.clauses K V S A B eqs dEq pe dPe ha dHa bh dBh hg dHg al dAl dropV dropA dropB 𝓛 𝓜.mem 𝓡.returns in
    let inst = bounded (a_type ∷ a_type ∷ a_type ∷ a_type ∷ a_type ∷ []) (K, (V, (S, (A, (B, tt)))))
    (dcons dEq (dcons dPe (dcons dHa (dcons dBh (dcons dHg
    (dcons dAl (dcons dropV (dcons dropA (dcons dropB dnil))))))))) in let fn = inst_fn inst code.function in
    let hs : Stays En.signature.params En.kept = stays_with_end 5 (λ _. R) in
    proved 𝓛 En hs c 𝓜 𝓡 (goes_with_end 5 (λ _. R) 𝓛) (#self inst) fn
    (code.unfolded 𝓤 H 𝓜 𝓡 wired (K, (V, (S, (A, (B, tt))))) dEq dPe dHa dBh dHg dAl dropV dropA dropB)
    (λ κs. (mut_vals, (at_end, tt))) (λ κs. (mut_Tells (named 0) κs.0 R, (Enum-laws.tells EndType.the_type End-laws.the_laws, tt)))
    (λ κs qs bounds a gh are.
    let y : (walk_of 𝓛 En hs c).Ghost = ((κs, qs, bounds, a, (mut_vals a.0, (at_end a.1.0, tt))), gh) in let Post : Val
    → SProp 𝓤 = (walk_of 𝓛 En hs c).post y in
    let ℓ : NamedLft = named_lft 6 0 tt κs in let γ = a.0.ghost_name in let m₀ = a.0.now in let end : End = a.1.0 in
    let stored = end_item end m₀.lists.keys in
    let end_good = ((loose_lawful EndType.the_type End-laws.the_loose tt 𝓛).typed end (at_end end) are.1.0).0 in
    let LKr : Laws Kr = param_laws 0 K LK in let O : RattleType = Opt Kr in let LO : Laws O = Opt-laws Kr LKr in
    let Me : RattleType = MutRef (named 0) κs.0 R in let Q : RattleType = Tuple (O ∷ Me ∷ []) in
    let Dr : RattleType = Drain.the_row ℓ Kr Vr (param 2 S) (param 3 A) (param 4 B) pe ha bh hg al in
    let LDr : Laws Dr = Drain-laws.the_row_laws ℓ Kr Vr (param 2 S) (param 3 A) (param 4 B) pe ha bh hg al LKr (param_laws 1 V LV)
    (param_laws 2 S LS) (param_laws 3 A LA) (param_laws 4 B LB) in
    let Tw : RattleType = Tuple (Kr ∷ Dr ∷ []) in let Out : RattleType = Opt Tw in
    let toks = raw (alive 𝓛 En.signature κs qs) in
    let Rest : Out.Denot → Fml = λ out. ends_key_popped Kr Vr (param 2 S) (param 3 A) (param 4 B) pe ha bh hg al a.0 out in
    let HasKey : Out.Denot → Type 0 = λ out. option_map (λ x. x.0) out ≡ stored in let Drains : Out.Denot
    → Type 0 = λ out. IfSome out (λ x. DrainsEntry pe.eq m₀ x.0 x.1) in let Same : Out.Denot
    → Type 0 = λ out. IfSome out (λ x. x.1.map.ghost_name ≡ γ) in
    let Shows : Out.Denot → R.Denot → R.Denot → Type 0 = λ out w n. OnSome out (n ≡ w) in let Keeps : Out.Denot → R.Denot
    → Type 0 = λ out n. IfNone out (n ≡ m₀) in
    let Detached : R.Denot → K.Denot → Type 0 = λ n k. DetachesValues pe.eq m₀ n k (removed pe.eq m₀.lists k) in
    let G₁ = triple_of 𝓛 (g₁.signature K V S A B eqs dEq pe dPe ha dHa bh dBh hg dHg al dAl dropA dropB)
    (g₁.spec K V S A B eqs dEq pe dPe ha dHa bh dBh hg dHg al dAl dropA dropB 𝓛 𝓜.mem 𝓡.returns) in
    let z₁ : G₁.Ghost = ((κs, qs, bounds, a, (mut_vals a.0, (at_end a.1.0, tt))), gh) in
    qed 𝓛 (raw (on_entry 𝓛 En.signature κs qs a (mut_vals a.0, (at_end a.1.0, tt))) ∷
    told κs.1 K V S A B (‵ ftrue) ∷ []) ∵
    move ! (1 ∷ []) $ hears κs.1 K V S A B ! (λ five.
    nothing ! $ tells κs.1 K V S A B ! five $
    move ! (1 ∷ 0 ∷ []) $ use2 𝓛 (raw (G₁.pre z₁)) (id⊢ 𝓤 _) $
    enter ! 𝓣.C 𝓣.Λ fn (vptr a.0.ref_ptr.0 a.0.ref_ptr.1 ∷ at_end end) Post $
    alloc_all ! (λ l. pass_all ! refl ((tt, tt), (end_good, tt)) $ let Ev = env fn.locals l in
    let arms : Body = head (after 4 fn.body) in let Then = any_q
    (after_seq 𝓤 H (Wp 𝓤 H 𝓣.C 𝓣.Λ Ev (after 5 fn.body) (at_return 𝓤 H Ev Post)) (at_return 𝓤 H Ev Post)) in
    sets ! (addr ! (through ! refl (stop !))) refl (tt, tt) $
    calls_at ! (framed 𝓤 H 𝓜 𝓣) G₁ (met₁ 𝓤 𝓛 𝓜 𝓡 (code.calls-ordered_multimap::list_ordered_multimap::ListOrderedMultimap::detach_end_on
    𝓡.env wired) K V S A B LK LV LS LA LB eqs dEq pe dPe ha dHa bh dBh hg dHg al dAl dropA dropB mEq mPe mHa mBh mHg mAl mDropA mDropB)
    z₁
    (and_then ! (get ! refl) (and_then ! (get ! refl) (no_more !))) (λ v.
    use1 𝓛 (later (some (λ (r : Q.Denot). (toks ⊛ ‵ (Q.own_val r (v ∷ []))) ⊛
    some (λ (ws : Lasts (g₁.ended K V S A B eqs dEq pe dPe ha dHa bh dBh hg dHg al dAl dropA dropB) κs a). ‵
    (lasts (g₁.ended K V S A B eqs dEq pe dPe ha dHa bh dBh hg dHg al dAl dropA dropB) κs a ws) ⊛
    raw (fact 𝓤 (r.1.ghost_name ≡ γ)) ⊛ raw (fact 𝓤 (r.0 ≡ stored)) ⊛ raw (fact 𝓤 (OnSome r.0 (HoldsInRoom m₀ r.1.now))) ⊛
    raw (fact 𝓤 (IfSome r.0 (Detached r.1.now))) ⊛ raw (fact 𝓤 (IfNone r.0 (r.1.now ≡ m₀))))))) (id⊢ 𝓤 _) $
    await ! tt $ pick ! (λ r. split ! $ split ! $ move ! (2 ∷ []) $ pick ! (λ ws. split ! $ drop ! $
    split ! $ heard ! (r.1.ghost_name ≡ γ) (λ same. split ! $
    heard ! (r.0 ≡ stored) (λ key_is. split ! $
    heard ! (OnSome r.0 (HoldsInRoom m₀ r.1.now)) (λ held_there. split ! $
    heard ! (IfSome r.0 (Detached r.1.now)) (λ detached_there. heard ! (IfNone r.0 (r.1.now ≡ m₀)) (λ absent.
    -- [the tokens; the stored key, with the map]
    move ! (1 ∷ []) $ pair_out O Me ! LO.one (LO.lawful 𝓛) refl (mut_Lawful 𝓛 (named 0) κs.0 R) r.0 r.1 (v ∷ [])
    (λ x m gx gm is. move ! (1 ∷ []) $ peeks ! Me (Is Me) (shows 𝓛 Me) r.1 (m ∷ []) (λ im.
    let em : m ∷ [] ≡ mut_vals r.1 = mut_Tells (named 0) κs.0 R r.1 (m ∷ []) im in
    rewrite ! 0 (λ (us : List Val). ‵ (Me.own_val r.1 us)) em refl $ move ! (1 ∷ []) $
    option_out Kr ! LKr.one (LKr.lawful 𝓛) r.0 (x ∷ [])
    (λ no_key no_val.
    -- [the map; the tokens]
    let kept : r.1.now ≡ m₀ = subst (λ o. IfNone o (r.1.now ≡ m₀)) no_key absent in
    let out : Out.Denot = None in let none : Val = live 0 vnil in
    let good : Good (layout Out) none = (tt, (record { fits = lit< tt }, tt)) in
    lands_as ! (ap only is ∙ ap (λ u. both u m) (ap only no_val) ∙ ap (both none) (ap only em)) refl
    (both_typed (layout O) (layout Me) none (vptr r.1.ref_ptr.0 r.1.ref_ptr.1) (tt, (record { fits = lit< tt }, tt)) (tt, tt)) $
    sets ! (of_opd ! (get_in ! (fld ! refl (stop !)) (sub ! 0 refl (whole !)))) refl (tt, (record { fits = lit< tt }, tt)) $
    sets ! (of_opd ! (get_in ! (fld ! refl (stop !)) (sub ! 1 refl (whole !)))) refl (tt, tt) $
    first ! $ switches_on ! (get_tag ! (vrt ! refl (fld ! refl (stop !))) (whole !)) $ exec ! 𝓣.C 𝓣.Λ Ev (arm_body 1 arms) Then $
    sets_last ! (agg ! (and_then ! (lit ! tt) (no_more !))) refl good $ exec ! 𝓣.C 𝓣.Λ Ev (after 5 fn.body) (at_ret Ev Post) $
    sets ! (of_opd ! (get ! refl)) refl good $
    fsplit3 ! $ drop ! $ name_done ! tt $ rewrite ! 0 (λ (δ : GName). ‵ (fres δ (R.coded.code r.1.now))) same refl $
    use1 𝓛 (‵ (Rest out)) (so_none 𝓛 R R γ γ (Shows out) (Keeps out) (λ w. w) r.1.now (λ w. tt) kept) $
    -- [the map rests; its borrow; the tokens]
    states ! (Same out) tt $
    states ! (Drains out) tt $ join ! $
    states ! (HasKey out) (sym no_key ∙ key_is) $ join ! $
    move ! (1 ∷ 0 ∷ []) $ join ! $ use0 𝓛 (‵ (Out.own_val out (none ∷ []))) (none_of 𝓛 Tw) $ nothing ! $ nothing ! $ fjoin ! $ nothing ! $
    fjoin ! $
    returns ! (look_at ! 0 refl) $ free_all ! refl $ keep ! (4 ∷ 0 ∷ 1 ∷ 2 ∷ []) $
    by ! (leaves 𝓛 En hs c y none out (tt, (tt, tt)) (tt, (tt, tt))))
    (λ k₀ i some_key gi some_val.
    -- [the stored key; the map; the tokens]
    let held : Val = live 1 (vcons i vnil) in let good : Good (layout O) held = (and_tt _ gi.0, (record { fits = lit< tt }, (gi.1, tt))) in
    lands_as ! (ap only is ∙ ap (λ u. both u m) (ap only some_val) ∙ ap (both held) (ap only em)) refl
    (both_typed (layout O) (layout Me) held (vptr r.1.ref_ptr.0 r.1.ref_ptr.1) good (tt, tt)) $
    sets ! (of_opd ! (get_in ! (fld ! refl (stop !)) (sub ! 0 refl (whole !)))) refl good $
    sets ! (of_opd ! (get_in ! (fld ! refl (stop !)) (sub ! 1 refl (whole !)))) refl (tt, tt) $
    first ! $ switches_on ! (get_tag ! (vrt ! refl (fld ! refl (stop !))) (whole !)) $ exec ! 𝓣.C 𝓣.Λ Ev (arm_body 0 arms) Then $
    sets ! (of_opd ! (get_in ! (vrt ! refl (fld ! refl (stop !))) (in_variant ! 1 0 refl refl (whole !)))) refl gi $
    sets ! (of_opd ! (get ! refl)) refl gi $ sets ! (addr ! (through ! refl (stop !))) refl (tt, tt) $
    let G₂ = triple_of 𝓛 (g₂.signature K V S A B eqs dEq pe dPe ha dHa bh dBh hg dHg al dAl dropV dropA dropB)
    (g₂.spec K V S A B eqs dEq pe dPe ha dHa bh dBh hg dHg al dAl dropV dropA dropB 𝓛 𝓜.mem 𝓡.returns) in
    let z₂ : G₂.Ghost = ((κs, qs, bounds, (r.1, tt), (mut_vals r.1, tt)), tt) in
    let holds : HoldsInRoom m₀ r.1.now = subst (λ o. OnSome o (HoldsInRoom m₀ r.1.now)) some_key held_there in
    let detached : Detached r.1.now k₀ = subst (λ o. IfSome o (Detached r.1.now)) some_key detached_there in
    nothing ! $ move ! (2 ∷ 0 ∷ []) $ fjoin ! $ move ! (2 ∷ 0 ∷ []) $ join ! $
    states ! (HoldsDrain r.1.now) holds.drain $
    tells κs.1 K V S A B ! five $
    move ! (1 ∷ 0 ∷ []) $ use2 𝓛 (raw (G₂.pre z₂)) (id⊢ 𝓤 _) $
    calls_at ! (framed 𝓤 H 𝓜 𝓣) G₂ (met₂ 𝓤 𝓛 𝓜 𝓡 (code.calls-ordered_multimap::list_ordered_multimap::ListOrderedMultimap::lend_to_drain 𝓡.env
    wired) K V S A B LK LV LS LA LB eqs dEq pe dPe ha dHa bh dBh hg dHg al dAl dropV dropA dropB mEq mPe mHa mBh mHg mAl mDropV mDropA
    mDropB) z₂
    (and_then ! (get ! refl) (no_more !)) (λ v₂.
    use1 𝓛 (later (some (λ (d : Dr.Denot). (toks ⊛ ‵ (Dr.own_val d (v₂ ∷ []))) ⊛
    some (λ (ws₂ : Lasts (g₂.ended K V S A B eqs dEq pe dPe ha dHa bh dBh hg dHg al dAl dropV dropA dropB) κs (r.1, tt)). ‵
    (lasts (g₂.ended K V S A B eqs dEq pe dPe ha dHa bh dBh hg dHg al dAl dropV dropA dropB) κs (r.1, tt) ws₂) ⊛
    raw (fact 𝓤 (d.map.ghost_name ≡ r.1.ghost_name)) ⊛ raw (fact 𝓤 (d.map.now ≡ r.1.now)))))) (id⊢ 𝓤 _) $
    await ! tt $ pick ! (λ d. split ! $ split ! $ move ! (2 ∷ []) $
    pick ! (λ ws₂. split ! $ drop ! $ split ! $ heard ! (d.map.ghost_name ≡ r.1.ghost_name)
    (λ again. heard ! (d.map.now ≡ r.1.now) (λ now.
    -- [the tokens; the drain; the stored key]
    move ! (1 ∷ []) $ peeks ! Dr (Is Dr) (shows 𝓛 Dr) d (v₂ ∷ [])
    (λ id. let gd = ((LDr.lawful 𝓛).typed d (v₂ ∷ []) id).0 in lands_as ! refl refl gd $
    -- [the drain; the tokens; the stored key]
    move ! (2 ∷ 0 ∷ []) $ pair_in Kr Dr ! k₀ d i v₂ $ let u : Val = both i v₂ in let gu = both_typed (layout Kr) (layout Dr) i v₂ gi gd in
    let out : Out.Denot = Some (k₀, d) in let made : Val = live 1 (vcons u vnil) in
    let fits : Good (layout Out) made = (and_tt _ gu.0, (record { fits = lit< tt }, (gu.1, tt))) in
    sets ! (agg ! (and_then ! (get ! refl) (and_then ! (get ! refl) (no_more !)))) refl gu $
    sets_last ! (agg ! (and_then ! (lit ! tt) (and_then ! (get ! refl) (no_more !)))) refl fits $
    exec ! 𝓣.C 𝓣.Λ Ev (after 5 fn.body) (at_ret Ev Post) $ sets ! (of_opd ! (get ! refl)) refl fits $
    use1 𝓛 (‵ (Out.own_val out (made ∷ []))) (Some-of 𝓛 Tw (k₀, d) u) $
    -- [the result; the tokens]
    use0 𝓛 (‵ (follows R R γ γ (λ n. n))) (follows_itself 𝓛 R γ) $
    rewrite ! 0 (λ (δ : GName). ‵ (follows R R γ δ (λ n. n))) (sym (again ∙ same)) refl $
    use1 𝓛 (‵ (Rest out)) (so_some 𝓛 R R γ d.map.ghost_name (Shows out) (Keeps out) (λ n. n) m₀ (λ n. refl) tt) $
    let drains : DrainsEntry pe.eq m₀ k₀ d = drains_entry d detached holds.rooms now in
    states ! (Same out) (again ∙ same) $
    states ! (Drains out) drains $ join ! $
    states ! (HasKey out) (sym some_key ∙ key_is) $ join ! $
    -- [the facts; the map follows; the result; the tokens]
    move ! (1 ∷ 0 ∷ []) $ join ! $ nothing ! $ nothing ! $ fjoin ! $ nothing ! $ fjoin ! $
    returns ! (look_at ! 0 refl) $ free_all ! refl $ keep ! (3 ∷ 0 ∷ 2 ∷ 1 ∷ []) $
    by ! (leaves 𝓛 En hs c y made out (tt, (tt, tt)) (tt, (tt, tt)))))))))))))))))))))))
