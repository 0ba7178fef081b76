-- `end_mut_if` holds the map for writing, and an end. Assumes `Logic`.
-- It calls `has_pair_on`, which tells whether there is a pair, and where there is one `end_mut`, which lends its value.
-- It gives back that value and how the map then ends, or nothing, and that the map ends as it is.
use Rattle.std.proofs.Common.{◌≡◌, ◌<◌, Bool, true, false, not, List, [], ◌∷◌, refl, sym, ap, ◌∙◌, subst, length, nat_lt, option_map, lit<}
use Rattle.std.proofs.Common.{arith}
use Rattle.std.specs.Prelude.{Some, None, OnSome, IfNone}
use lib.Dec.{T, ltb→lt, lt→ltb}
use mir.Syntax.{a_type, dcons, dnil, named, ty_bool}
use mir.Val.{Val, vptr, vbool, vcons, vnil}
use mir.MapTy.{inst_fn}
use base.Logic.{SProp, id⊢}
use base.Fml.{Fml, GName, ftrue, fsep, fres}
use types.Kit.{‵, raw, ◌⊛◌, some, later, at_ret, ◌$◌, ◌∵◌, !, qed, by, move, keep, drop, split, join, fsplit, fsplit3, fjoin, use0, use1}
use types.Kit.{use2, pick, await, rewrite}
use types.Run.{enter, of_opd, addr, stop, fld, lit, no_more, and_then, first, branches, exec, returns}
use types.ByLocal.{alloc_all, pass_all, free_all, look_at, get, get_in, through, sets, sets_last, lands_as, env}
use types.Match.{live}
use types.Part.{agg, whole, sub}
use types.Tokens.{name_done}
use contract.Running.{tables}
use contract.Monad.{fact}
use denote.Builtin.{bool}
use denote.Enum.Laws as Enum-laws
use denote.Enum.Loose.{loose_lawful}
use denote.Follow.{follows}
use denote.RattleType.{RattleType}
use denote.Laws.{Is, shows}
use denote.Ref.{MutRef, ShrRef, mut_vals, mut_Tells, mut_Lawful, shr_Lawful}
use denote.Param.{param, layout, bounded}
use denote.Plain.{bool_Tells, bool_Lawful}
use denote.Steps.{nothing, only, heard, peeks}
use denote.Struct.Tuple.{Tuple}
use denote.Triple.Clauses.{lasts, Lasts}
use denote.Triple.Entry.{alive}
use denote.Triple.Spec.{triple_of}
use denote.Triple.Call.{calls_at}
use denote.Triple.Table.{framed}
use denote.Triple.Walked.{Stays, walk_of}
use Rattle.std.specs.contracts.option.Option.{the_row as Opt}
use Rattle.std.proofs.cell.Inside.{Good}
use Rattle.std.proofs.option.Made.{Some-of, none_of}
use Rattle.std.proofs.VecSteps.Shapes.{after}
use Rattle.std.proofs.raw_atomic.Walks.{proved, leaves}
use Rattle.multimap_walks.specs.declared.End.{End}
use Rattle.multimap_walks.specs.declared.End.TheVariants.{Front, Back}
use Rattle.multimap_walks.specs.Walk.{end_item}
use Rattle.multimap_walks.specs.contracts.End as EndType
use Rattle.multimap_walks.proofs.End.TheLaws as End-laws
use Rattle.std.proofs.ResultValues.{and_tt}
use Rattle.ordered_multimap.specs.Changes.{end_written}
use Rattle.ordered_multimap.specs.WriteLends.{lends_end_if}
use Rattle.ordered_multimap.specs.Writes.{with_end, IsWritten}
use Rattle.ordered_multimap.proofs.Loans.HandsOn.{end_row as Er, end_vals as at_end, stays_with_end, goes_with_end}
use Rattle.ordered_multimap.proofs.Loans.Outlived.{told, hears, tells, states}
use Rattle.ordered_multimap.proofs.Callers.PairsByValue.{both, both_typed, pair_out, pair_in}
use Rattle.ordered_multimap.proofs.Loans.Rested.{so_some, so_none}
use Rattle.ordered_multimap.specs.contracts.list_ordered_multimap.ListOrderedMultimap as Map
use Rattle.ordered_multimap.specs.contracts.list_ordered_multimap.ListOrderedMultimap.end_mut_if as f
use Rattle.ordered_multimap.specs.contracts.list_ordered_multimap.ListOrderedMultimap.end_mut_if.Key.{name as #self}
use Rattle.ordered_multimap.proofs.list_ordered_multimap.ListOrderedMultimap.end_mut_if.Statement.{statement}
use Rattle.ordered_multimap.proofs.list_ordered_multimap.ListOrderedMultimap.end_mut_if.Code as code
use Rattle.ordered_multimap.specs.contracts.list_ordered_multimap.ListOrderedMultimap.has_pair_on as g₁
use Rattle.ordered_multimap.proofs.list_ordered_multimap.ListOrderedMultimap.has_pair_on.Met.{met as met₁}
use Rattle.ordered_multimap.specs.contracts.list_ordered_multimap.ListOrderedMultimap.end_mut as g₂
use Rattle.ordered_multimap.proofs.list_ordered_multimap.ListOrderedMultimap.end_mut.Met.{met as met₂}

clash : (b : Bool) → T (not b) → T b → ⊥
clash true f t = absurd f
clash false f t = absurd t

-- an empty list has no item at an end
no_item : {X : Type 0} (end : End) (xs : List X) → T (not (nat_lt 0 (length xs))) → None ≡ end_item end xs
no_item Front [] f = refl
no_item Back [] f = refl
no_item end (x ∷ xs) f = absurd (clash _ f (lt→ltb 0 (length (x ∷ xs)) (omega arith)))

pub end_mut_if_spec : {M : Type 1} → statement M
end_mut_if_spec 𝓤 𝓛 𝓜 𝓡 wired K V S A B LK LV LS LA LB eqs dEq pe dPe ha dHa bh dBh hg dHg al dAl dropA dropB mEq mPe mHa mBh mHg mAl mDropA
    mDropB =
    let H = 𝓛.H in let 𝓣 = tables 𝓤 H 𝓜 𝓡 𝓡.env in
    let Kr = param 0 K in let Vr = param 1 V in
    let R : RattleType = Map.the_row Kr Vr (param 2 S) (param 3 A) (param 4 B) pe ha bh hg al in
    let En = f.ended K V S A B eqs dEq pe dPe ha dHa bh dBh hg dHg al dAl dropA dropB in
    let c = f.clauses K V S A B eqs dEq pe dPe ha dHa bh dBh hg dHg al dAl dropA dropB 𝓛 𝓜.mem 𝓡.returns in
    let inst = bounded (a_type ∷ a_type ∷ a_type ∷ a_type ∷ a_type ∷ []) (K, (V, (S, (A, (B, tt)))))
    (dcons dEq (dcons dPe (dcons dHa (dcons dBh (dcons dHg (dcons dAl (dcons dropA (dcons dropB dnil)))))))) in
    let fn = inst_fn inst code.function in
    let hs : Stays En.signature.params En.kept = stays_with_end 5 (λ _. R) in
    proved 𝓛 En hs c 𝓜 𝓡 (goes_with_end 5 (λ _. R) 𝓛) (#self inst) fn
    (code.unfolded 𝓤 H 𝓜 𝓡 wired (K, (V, (S, (A, (B, tt))))) dEq dPe dHa dBh dHg dAl dropA dropB)
    (λ κs. (mut_vals, (at_end, tt))) (λ κs. (mut_Tells (named 0) κs.0 R, (Enum-laws.tells EndType.the_type End-laws.the_laws, tt)))
    (λ κs qs bounds a gh are.
    let y : (walk_of 𝓛 En hs c).Ghost = ((κs, qs, bounds, a, (mut_vals a.0, (at_end a.1.0, tt))), gh) in let Post : Val
    → SProp 𝓤 = (walk_of 𝓛 En hs c).post y in
    let γ = a.0.ghost_name in let m = a.0.now in let end : End = a.1.0 in
    let Me : RattleType = MutRef (named 0) κs.0 R in let Q : RattleType = Tuple (bool ∷ Me ∷ []) in
    let Sk : RattleType = ShrRef (named 0) κs.0 Kr in let Mv : RattleType = MutRef (named 0) κs.0 Vr in
    let Tw : RattleType = Tuple (Sk ∷ Mv ∷ []) in let Out : RattleType = Opt Tw in
    let toks = raw (alive 𝓛 En.signature κs qs) in
    let Any : Bool → Type 0 = λ b. b ≡ nat_lt 0 (length m.lists.pairs) in let Pair : Out.Denot
    → Type 0 = λ out. option_map (λ x. (x.0.now, x.1.now)) out ≡ end_item end m.lists.pairs in
    let Rest : Out.Denot → Fml = λ out. lends_end_if Kr Vr (param 2 S) (param 3 A) (param 4 B)
    (record { eq = pe.eq; hash_input = ha.hash_input }) bh hg al end a.0 out in
    let Shows : Out.Denot → V.Denot → R.Denot → Type 0 = λ out u n. OnSome out (IsWritten m n (end_written end m.lists u)) in
    let Keeps : Out.Denot → R.Denot → Type 0 = λ out n. IfNone out (n ≡ m) in
    let end_good = ((loose_lawful EndType.the_type End-laws.the_loose tt 𝓛).typed end (at_end end) are.1.0).0 in
    let G₁ = triple_of 𝓛 (g₁.signature K V S A B eqs dEq pe dPe ha dHa bh dBh hg dHg al dAl dropA dropB)
    (g₁.spec K V S A B eqs dEq pe dPe ha dHa bh dBh hg dHg al dAl dropA dropB 𝓛 𝓜.mem 𝓡.returns) in
    let z₁ : G₁.Ghost = ((κs, qs, bounds, (a.0, tt), (mut_vals a.0, tt)), tt) in
    qed 𝓛 ((toks ⊛ ‵ (fsep (Me.own_val a.0 (mut_vals a.0)) (fsep (Er.own_val end (at_end end)) ftrue))) ∷
    told κs.1 K V S A B (‵ ftrue) ∷ []) ∵
    move ! (1 ∷ []) $ hears κs.1 K V S A B ! (λ five.
    -- [the map; the end; the tokens]
    split ! $ move ! (1 ∷ []) $ fsplit ! $ move ! (1 ∷ []) $ fsplit ! $ keep ! (2 ∷ 0 ∷ 3 ∷ []) $
    nothing ! $ move ! (1 ∷ 0 ∷ []) $ fjoin ! $ move ! (2 ∷ 0 ∷ []) $ join ! $
    nothing ! $ tells κs.1 K V S A B ! five $ move ! (1 ∷ 0 ∷ []) $ use2 𝓛 (raw (G₁.pre z₁)) (id⊢ 𝓤 _) $
    enter ! 𝓣.C 𝓣.Λ fn (vptr a.0.ref_ptr.0 a.0.ref_ptr.1 ∷ at_end end) Post $
    alloc_all ! (λ l. pass_all ! refl ((tt, tt), (end_good, tt)) $ let Ev = env fn.locals l in
    sets ! (addr ! (through ! refl (stop !))) refl (tt, tt) $
    calls_at ! (framed 𝓤 H 𝓜 𝓣) G₁ (met₁ 𝓤 𝓛 𝓜 𝓡 (code.calls-ordered_multimap::list_ordered_multimap::ListOrderedMultimap::has_pair_on 𝓡.env
    wired) K V S A B LK LV LS LA LB eqs dEq pe dPe ha dHa bh dBh hg dHg al dAl dropA dropB mEq mPe mHa mBh mHg mAl mDropA mDropB) z₁
    (and_then ! (get ! refl) (no_more !)) (λ v.
    use1 𝓛 (later (some (λ (r : Q.Denot). (toks ⊛ ‵ (Q.own_val r (v ∷ []))) ⊛
    some (λ (ws : Lasts (g₁.ended K V S A B eqs dEq pe dPe ha dHa bh dBh hg dHg al dAl dropA dropB) κs (a.0, tt)). ‵
    (lasts (g₁.ended K V S A B eqs dEq pe dPe ha dHa bh dBh hg dHg al dAl dropA dropB) κs (a.0, tt) ws) ⊛ raw (fact 𝓤 (Any r.0)) ⊛ raw
    (fact 𝓤 (r.1.ghost_name ≡ γ)) ⊛ raw (fact 𝓤 (r.1.now ≡ m)))))) (id⊢ 𝓤 _) $
    await ! tt $ pick ! (λ r. split ! $ split ! $ move ! (2 ∷ []) $
    pick ! (λ ws. split ! $ drop ! $ split ! $ heard ! (Any r.0)
    (λ any. split ! $ heard ! (r.1.ghost_name ≡ γ) (λ same. heard ! (r.1.now ≡ m) (λ now.
    -- [the tokens; whether there is a pair, with the map; the end]
    move ! (1 ∷ []) $ pair_out bool Me ! refl (bool_Lawful 𝓛) refl (mut_Lawful 𝓛 (named 0) κs.0 R) r.0 r.1 (v ∷ [])
    (λ x p gx gp is. peeks ! bool (Is bool) (shows 𝓛 bool) r.0 (x ∷ []) (λ ix. drop ! $
    peeks ! Me (Is Me) (shows 𝓛 Me) r.1 (p ∷ []) (λ im. let ex : x ∷ [] ≡ vbool r.0 ∷ [] = bool_Tells r.0 (x ∷ []) ix in
    let em : p ∷ [] ≡ mut_vals r.1 = mut_Tells (named 0) κs.0 R r.1 (p ∷ []) im in
    rewrite ! 0 (λ (us : List Val). ‵ (Me.own_val r.1 us)) em refl $
    lands_as ! (ap only is ∙ ap (λ u. both u p) (ap only ex) ∙ ap (both (vbool r.0)) (ap only em)) refl
    (both_typed ty_bool (layout Me) (vbool r.0) (vptr r.1.ref_ptr.0 r.1.ref_ptr.1) (tt, tt) (tt, tt)) $
    sets ! (of_opd ! (get_in ! (fld ! refl (stop !)) (sub ! 0 refl (whole !)))) refl (tt, tt) $
    sets ! (of_opd ! (get_in ! (fld ! refl (stop !)) (sub ! 1 refl (whole !)))) refl (tt, tt) $
    sets ! (of_opd ! (get ! refl)) refl (tt, tt) $
    -- [the map; the tokens; the end]
    first ! $ branches ! (get ! refl)
    (λ yes.
    let G₂ = triple_of 𝓛 (g₂.signature K V S A B eqs dEq pe dPe ha dHa bh dBh hg dHg al dAl dropA dropB)
    (g₂.spec K V S A B eqs dEq pe dPe ha dHa bh dBh hg dHg al dAl dropA dropB 𝓛 𝓜.mem 𝓡.returns) in
    let z₂ : G₂.Ghost = ((κs, qs, bounds, (r.1, (end, tt)), (mut_vals r.1, (at_end end, tt))), tt) in
    let long : 0 < length r.1.now.lists.pairs = subst (λ n. 0 < length n.lists.pairs) (sym now)
    (ltb→lt 0 (length m.lists.pairs) (subst T any yes)) in let Long : Type 0 = 0 < length r.1.now.lists.pairs in
    sets ! (addr ! (through ! refl (stop !))) refl (tt, tt) $
    nothing ! $ move ! (3 ∷ 0 ∷ []) $ fjoin ! $ move ! (1 ∷ 0 ∷ []) $ fjoin ! $ move ! (1 ∷ 0 ∷ []) $ join ! $
    states ! Long long $ tells κs.1 K V S A B ! five $
    move ! (1 ∷ 0 ∷ []) $ use2 𝓛 (raw (G₂.pre z₂)) (id⊢ 𝓤 _) $
    calls_at ! (framed 𝓤 H 𝓜 𝓣) G₂ (met₂ 𝓤 𝓛 𝓜 𝓡 (code.calls-ordered_multimap::list_ordered_multimap::ListOrderedMultimap::end_mut 𝓡.env
    wired) K V S A B LK LV LS LA LB eqs dEq pe dPe ha dHa bh dBh hg dHg al dAl dropA dropB mEq mPe mHa mBh mHg mAl mDropA mDropB) z₂
    (and_then ! (get ! refl) (and_then ! (get ! refl) (no_more !))) (λ v₂.
    let Gives : Tw.Denot → Type 0 = λ q. end_item end r.1.now.lists.pairs ≡ Some (q.0.now, q.1.now) in
    use1 𝓛 (later (some (λ (q : Tw.Denot). (toks ⊛ ‵ (Tw.own_val q (v₂ ∷ []))) ⊛
    some (λ (ws₂ : Lasts (g₂.ended K V S A B eqs dEq pe dPe ha dHa bh dBh hg dHg al dAl dropA dropB) κs (r.1, (end, tt))). ‵
    (lasts (g₂.ended K V S A B eqs dEq pe dPe ha dHa bh dBh hg dHg al dAl dropA dropB) κs (r.1, (end, tt)) ws₂) ⊛ ‵
    (follows R Vr r.1.ghost_name q.1.ghost_name (with_end end r.1.now)) ⊛ raw (fact 𝓤 (Gives q)))))) (id⊢ 𝓤 _) $
    await ! tt $ pick ! (λ q. split ! $ split ! $ move ! (2 ∷ []) $
    pick ! (λ ws₂. split ! $ drop ! $ split ! $ move ! (1 ∷ []) $ heard ! (Gives q) (λ gives.
    -- [the map follows; the tokens; the pair]
    rewrite ! 0 (λ (δ : GName). ‵ (follows R Vr δ q.1.ghost_name (with_end end r.1.now))) same refl $
    rewrite ! 0 (λ (n : R.Denot). ‵ (follows R Vr γ q.1.ghost_name (with_end end n))) now refl $
    let out : Out.Denot = Some q in let written : (u : V.Denot)
    → IsWritten m (with_end end m u) (end_written end m.lists
    u) = λ u. record { lists = refl; rooms = record { keys = refl; values = refl; slots = refl; hasher = refl }; tape = refl } in
    use1 𝓛 (‵ (Rest out)) (so_some 𝓛 R Vr γ q.1.ghost_name (Shows out) (Keeps out) (with_end end m) m written tt) $
    move ! (2 ∷ []) $ pair_out Sk Mv ! refl (shr_Lawful 𝓛 (named 0) κs.0 Kr) refl (mut_Lawful 𝓛 (named 0) κs.0 Vr) q.0 q.1 (v₂ ∷ [])
    (λ i j gi gj iq. pair_in Sk Mv ! q.0 q.1 i j $
    let u : Val = both i j in let gu = both_typed (layout Sk) (layout Mv) i j gi gj in let made : Val = live 1 (vcons u vnil) in
    let good : Good (layout Out) made = (and_tt _ gu.0, (record { fits = lit< tt }, (gu.1, tt))) in
    lands_as ! (ap only iq) refl gu $
    sets_last ! (agg ! (and_then ! (lit ! tt) (and_then ! (get ! refl) (no_more !)))) refl good $
    exec ! 𝓣.C 𝓣.Λ Ev (after 6 fn.body) (at_ret Ev Post) $ sets ! (of_opd ! (get ! refl)) refl good $
    use1 𝓛 (‵ (Out.own_val out (made ∷ []))) (Some-of 𝓛 Tw q u) $
    -- [the result; the map follows; the tokens]
    states ! (Pair out) (sym gives ∙ ap (λ n. end_item end n.lists.pairs) now) $
    move ! (2 ∷ 0 ∷ []) $ join ! $ nothing ! $ nothing ! $ fjoin ! $ nothing ! $ fjoin ! $
    returns ! (look_at ! 0 refl) $ free_all ! refl $ keep ! (3 ∷ 0 ∷ 2 ∷ 1 ∷ []) $
    by ! (leaves 𝓛 En hs c y made out (tt, (tt, tt)) (tt, (tt, tt)))))))))
    (λ nope.
    let gone : Out.Denot = None in let made : Val = live 0 vnil in
    let good : Good (layout Out) made = (tt, (record { fits = lit< tt }, tt)) in
    sets_last ! (agg ! (and_then ! (lit ! tt) (no_more !))) refl good $ exec ! 𝓣.C 𝓣.Λ Ev (after 6 fn.body) (at_ret Ev Post) $
    sets ! (of_opd ! (get ! refl)) refl good $
    fsplit3 ! $ drop ! $ name_done ! tt $ rewrite ! 0 (λ (n : R.Denot). ‵ (fres r.1.ghost_name (R.coded.code n))) now refl $
    rewrite ! 0 (λ (δ : GName). ‵ (fres δ (R.coded.code m))) same refl $
    use1 𝓛 (‵ (Rest gone)) (so_none 𝓛 R Vr γ γ (Shows gone) (Keeps gone) (with_end end m) m (λ u. tt) refl) $
    -- [the map rests; its borrow; the tokens; the end]
    states ! (Pair gone) (no_item end m.lists.pairs (subst (λ b. T (not b)) any nope)) $
    move ! (1 ∷ 0 ∷ []) $ join ! $ use0 𝓛 (‵ (Out.own_val gone (made ∷ []))) (none_of 𝓛 Tw) $ nothing ! $ nothing ! $ fjoin ! $
    nothing ! $ fjoin ! $
    returns ! (look_at ! 0 refl) $ free_all ! refl $ keep ! (4 ∷ 0 ∷ 1 ∷ 2 ∷ []) $
    by ! (leaves 𝓛 En hs c y made gone (tt, (tt, tt)) (tt, (tt, tt))))))))))))))))
