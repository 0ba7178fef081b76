-- `pop_end` holds the map for writing, and an end. Assumes `Logic`.
-- It calls `take_end_on`, which takes the pair out, `as_shared`, from which on the map is only read, and `wrapped`, which hands out the key.
-- It gives back that pair, and that the map ends without it.
use Rattle.std.proofs.Common.{◌≡◌, List, [], ◌∷◌, refl, sym, ap, ◌∙◌, subst, Option, option_map}
use mathlib.Core.Option.{none}
use mir.Syntax.{a_type, dcons, dnil, named}
use mir.Val.{Val, vptr}
use mir.MapTy.{inst_fn}
use base.Logic.{SProp, id⊢}
use base.Fml.{GName, ftrue}
use types.Kit.{‵, raw, ◌⊛◌, some, later, ◌$◌, ◌∵◌, !, qed, by, move, keep, drop, split, join, fjoin, use1, use2, pick, await, rewrite}
use types.Run.{enter, of_opd, addr, stop, fld, no_more, and_then, returns}
use types.ByLocal.{alloc_all, pass_all, free_all, look_at, get, get_in, through, sets, lands_as}
use types.Part.{whole, sub}
use contract.Running.{tables}
use contract.Monad.{fact}
use denote.Enum.Laws as Enum-laws
use denote.Enum.Loose.{loose_lawful}
use denote.Follow.{follows_so}
use denote.RattleType.{RattleType}
use denote.Laws.{Is, shows}
use denote.Ref.{NamedLft, Bor, MutRef, ShrRef, mut_vals, mut_Tells, mut_Lawful, shr_Lawful}
use denote.Param.{param, layout, bounded}
use denote.Param.Laws.{Laws, param_laws}
use denote.Signature.{named_lft}
use denote.Steps.{nothing, only, heard, peeks}
use denote.Struct.Tuple.{Tuple, tuple_laws}
use denote.Triple.Clauses.{lasts, Lasts}
use denote.Triple.Entry.{on_entry, alive}
use denote.Triple.Spec.{triple_of}
use denote.Triple.Call.{calls_at}
use denote.Triple.Table.{framed}
use denote.Triple.Walked.{Stays, walk_of}
use Rattle.std.specs.Prelude.{⊤}
use Rattle.std.specs.contracts.option.Option.{the_row as Opt}
use Rattle.std.proofs.option.Option.TheLaws.{the_row_laws as Opt-laws}
use Rattle.std.proofs.raw_atomic.Walks.{proved, leaves}
use Rattle.multimap_walks.specs.declared.End.{End}
use Rattle.multimap_walks.specs.contracts.End as EndType
use Rattle.multimap_walks.proofs.End.TheLaws as End-laws
use Rattle.ordered_multimap.specs.Popped.{Popped, popped_pair}
use Rattle.ordered_multimap.specs.PopAnswers.{IsPopped, IsTaken, popped_of}
use Rattle.ordered_multimap.proofs.Loans.HandsOn.{end_vals as at_end, stays_with_end, goes_with_end}
use Rattle.ordered_multimap.proofs.Loans.Outlived.{told, hears, tells, states}
use Rattle.ordered_multimap.proofs.Callers.PairsByValue.{both, both_typed, pair_out}
use Rattle.ordered_multimap.proofs.Loans.Rested.{ends_weaker}
use Rattle.ordered_multimap.specs.contracts.list_ordered_multimap.ListOrderedMultimap as Map
use Rattle.ordered_multimap.specs.contracts.list_ordered_multimap.remove.one.Taken as Taken
use Rattle.ordered_multimap.proofs.list_ordered_multimap.remove.one.Taken.TheLaws as Taken-laws
use Rattle.ordered_multimap.specs.contracts.list_ordered_multimap.key_wrapper.KeyWrapper as Key
use Rattle.ordered_multimap.proofs.list_ordered_multimap.key_wrapper.KeyWrapper.TheLaws as Key-laws
use Rattle.ordered_multimap.specs.contracts.list_ordered_multimap.ListOrderedMultimap.pop_end as f
use Rattle.ordered_multimap.specs.contracts.list_ordered_multimap.ListOrderedMultimap.pop_end.Key.{name as #self}
use Rattle.ordered_multimap.proofs.list_ordered_multimap.ListOrderedMultimap.pop_end.Statement.{statement}
use Rattle.ordered_multimap.proofs.list_ordered_multimap.ListOrderedMultimap.pop_end.Code as code
use Rattle.ordered_multimap.specs.contracts.list_ordered_multimap.ListOrderedMultimap.take_end_on as g₁
use Rattle.ordered_multimap.proofs.list_ordered_multimap.ListOrderedMultimap.take_end_on.Met.{met as met₁}
use Rattle.ordered_multimap.specs.contracts.list_ordered_multimap.ListOrderedMultimap.as_shared as g₂
use Rattle.ordered_multimap.proofs.list_ordered_multimap.ListOrderedMultimap.as_shared.Met.{met as met₂}
use Rattle.ordered_multimap.specs.contracts.list_ordered_multimap.ListOrderedMultimap.wrapped as g₃
use Rattle.ordered_multimap.proofs.list_ordered_multimap.ListOrderedMultimap.wrapped.Met.{met as met₃}

pub pop_end_spec : {M : Type 1} → statement M
pop_end_spec 𝓤 𝓛 𝓜 𝓡 wired K V S A B LK LV LS LA LB eqs dEq pe dPe ha dHa bh dBh hg dHg al dAl dropA dropB mEq mPe mHa mBh mHg mAl mDropA
    mDropB =
    let H = 𝓛.H in let 𝓣 = tables 𝓤 H 𝓜 𝓡 𝓡.env in
    let Kr = param 0 K in let Vr = param 1 V in
    let R : RattleType = Map.the_row Kr Vr (param 2 S) (param 3 A) (param 4 B) pe ha bh hg al in
    let En = f.ended K V S A B eqs dEq pe dPe ha dHa bh dBh hg dHg al dAl dropA dropB in
    let c = f.clauses K V S A B eqs dEq pe dPe ha dHa bh dBh hg dHg al dAl dropA dropB 𝓛 𝓜.mem 𝓡.returns in
    let inst = bounded (a_type ∷ a_type ∷ a_type ∷ a_type ∷ a_type ∷ []) (K, (V, (S, (A, (B, tt)))))
    (dcons dEq (dcons dPe (dcons dHa (dcons dBh (dcons dHg (dcons dAl (dcons dropA (dcons dropB dnil)))))))) in
    let fn = inst_fn inst code.function in
    let hs : Stays En.signature.params En.kept = stays_with_end 5 (λ _. R) in
    proved 𝓛 En hs c 𝓜 𝓡 (goes_with_end 5 (λ _. R) 𝓛) (#self inst) fn
    (code.unfolded 𝓤 H 𝓜 𝓡 wired (K, (V, (S, (A, (B, tt))))) dEq dPe dHa dBh dHg dAl dropA dropB)
    (λ κs. (mut_vals, (at_end, tt))) (λ κs. (mut_Tells (named 0) κs.0 R, (Enum-laws.tells EndType.the_type End-laws.the_laws, tt)))
    (λ κs qs bounds a gh are.
    let y : (walk_of 𝓛 En hs c).Ghost = ((κs, qs, bounds, a, (mut_vals a.0, (at_end a.1.0, tt))), gh) in let Post : Val
    → SProp 𝓤 = (walk_of 𝓛 En hs c).post y in
    let ℓ : NamedLft = named_lft 6 0 tt κs in let γ = a.0.ghost_name in
    let O : RattleType = Opt (Taken.the_row Kr Vr) in
    let LO : Laws O = Opt-laws (Taken.the_row Kr Vr) (Taken-laws.the_row_laws Kr Vr (param_laws 0 K LK) (param_laws 1 V LV)) in
    let Me : RattleType = MutRef (named 0) κs.0 R in let Sh : RattleType = ShrRef (named 0) κs.0 R in
    let Q : RattleType = Tuple (O ∷ Me ∷ []) in
    let P : RattleType = Tuple (Key.the_row ℓ Kr ∷ Vr ∷ []) in let Out : RattleType = Opt P in
    let LOut : Laws Out = Opt-laws P (tuple_laws (Key.the_row ℓ Kr ∷ Vr ∷ [])
    (Key-laws.the_row_laws ℓ Kr (param_laws 0 K LK), (param_laws 1 V LV, tt))) in
    let toks = raw (alive 𝓛 En.signature κs qs) in
    let end : End = a.1.0 in let Ends : R.Denot → Type 0 = λ n. IsPopped pe.eq end a.0.now n in
    let p = popped_pair pe.eq end a.0.now.lists.pairs in
    let end_good = ((loose_lawful EndType.the_type End-laws.the_loose tt 𝓛).typed end (at_end end) are.1.0).0 in
    let z : (triple_of 𝓛 (g₁.signature K V S A B eqs dEq pe dPe ha dHa bh dBh hg dHg al dAl dropA dropB)
    (g₁.spec K V S A B eqs dEq pe dPe ha dHa bh dBh hg dHg al dAl dropA dropB 𝓛 𝓜.mem 𝓡.returns)).Ghost =
    ((κs, qs, bounds, a, (mut_vals a.0, (at_end a.1.0, tt))), gh) in
    let G₁ = triple_of 𝓛 (g₁.signature K V S A B eqs dEq pe dPe ha dHa bh dBh hg dHg al dAl dropA dropB)
    (g₁.spec K V S A B eqs dEq pe dPe ha dHa bh dBh hg dHg al dAl dropA dropB 𝓛 𝓜.mem 𝓡.returns) in
    qed 𝓛 (raw (on_entry 𝓛 En.signature κs qs a (mut_vals a.0, (at_end a.1.0, tt))) ∷
    told κs.1 K V S A B (‵ ftrue) ∷ []) ∵
    move ! (1 ∷ []) $ hears κs.1 K V S A B ! (λ five.
    nothing ! $ tells κs.1 K V S A B ! five $ move ! (1 ∷ 0 ∷ []) $ use2 𝓛 (raw (G₁.pre z)) (id⊢ 𝓤 _) $
    enter ! 𝓣.C 𝓣.Λ fn (vptr a.0.ref_ptr.0 a.0.ref_ptr.1 ∷ at_end end) Post $ alloc_all ! (λ l. pass_all ! refl ((tt, tt), (end_good, tt)) $
    sets ! (addr ! (through ! refl (stop !))) refl (tt, tt) $
    calls_at ! (framed 𝓤 H 𝓜 𝓣) G₁ (met₁ 𝓤 𝓛 𝓜 𝓡 (code.calls-ordered_multimap::list_ordered_multimap::ListOrderedMultimap::take_end_on 𝓡.env
    wired) K V S A B LK LV LS LA LB eqs dEq pe dPe ha dHa bh dBh hg dHg al dAl dropA dropB mEq mPe mHa mBh mHg mAl mDropA mDropB) z
    (and_then ! (get ! refl) (and_then ! (get ! refl) (no_more !))) (λ v.
    use1 𝓛 (later (some (λ (r : Q.Denot). (toks ⊛ ‵ (Q.own_val r (v ∷ []))) ⊛
    some (λ (ws : Lasts (g₁.ended K V S A B eqs dEq pe dPe ha dHa bh dBh hg dHg al dAl dropA dropB) κs a). ‵
    (lasts (g₁.ended K V S A B eqs dEq pe dPe ha dHa bh dBh hg dHg al dAl dropA dropB) κs a ws) ⊛ raw
    (fact 𝓤 (r.1.ghost_name ≡ γ)) ⊛ raw (fact 𝓤 (Ends r.1.now)) ⊛ raw (fact 𝓤 (IsTaken r.1.now.slots.keys p r.0)))))) (id⊢ 𝓤 _) $
    await ! tt $ pick ! (λ r. split ! $ split ! $ move ! (2 ∷ []) $
    pick ! (λ ws. split ! $ drop ! $ split ! $ heard ! (r.1.ghost_name ≡ γ)
    (λ same. split ! $ heard ! (Ends r.1.now) (λ ended. heard ! (IsTaken r.1.now.slots.keys p r.0) (λ taken.
    -- [the tokens; the pair that was taken, with the map]
    move ! (1 ∷ []) $ pair_out O Me ! LO.one (LO.lawful 𝓛) refl (mut_Lawful 𝓛 (named 0) κs.0 R) r.0 r.1 (v ∷ [])
    (λ x m gx gm is. move ! (1 ∷ []) $ peeks ! Me (Is Me) (shows 𝓛 Me) r.1 (m ∷ []) (λ im.
    let em : m ∷ [] ≡ mut_vals r.1 = mut_Tells (named 0) κs.0 R r.1 (m ∷ []) im in
    rewrite ! 0 (λ (us : List Val). ‵ (Me.own_val r.1 us)) em refl $
    lands_as ! (ap only is ∙ ap (both x) (ap only em)) refl
    (both_typed (layout O) (layout Me) x (vptr r.1.ref_ptr.0 r.1.ref_ptr.1) gx (tt, tt)) $
    sets ! (of_opd ! (get_in ! (fld ! refl (stop !)) (sub ! 0 refl (whole !)))) refl gx $
    sets ! (of_opd ! (get_in ! (fld ! refl (stop !)) (sub ! 1 refl (whole !)))) refl (tt, tt) $
    sets ! (addr ! (through ! refl (stop !))) refl (tt, tt) $
    -- [the map; what was taken; the tokens]
    let G₂ = triple_of 𝓛 (g₂.signature K V S A B eqs dEq pe dPe ha dHa bh dBh hg dHg al dAl dropA dropB)
    (g₂.spec K V S A B eqs dEq pe dPe ha dHa bh dBh hg dHg al dAl dropA dropB 𝓛 𝓜.mem 𝓡.returns) in
    let z₂ : G₂.Ghost = ((κs, qs, bounds, (r.1, tt), (mut_vals r.1, tt)), tt) in
    nothing ! $ move ! (1 ∷ 0 ∷ []) $ fjoin ! $ move ! (2 ∷ 0 ∷ []) $ join ! $ nothing ! $
    tells κs.1 K V S A B ! five $ move ! (1 ∷ 0 ∷ []) $ use2 𝓛 (raw (G₂.pre z₂)) (id⊢ 𝓤 _) $
    calls_at ! (framed 𝓤 H 𝓜 𝓣) G₂ (met₂ 𝓤 𝓛 𝓜 𝓡 (code.calls-ordered_multimap::list_ordered_multimap::ListOrderedMultimap::as_shared 𝓡.env
    wired) K V S A B LK LV LS LA LB eqs dEq pe dPe ha dHa bh dBh hg dHg al dAl dropA dropB mEq mPe mHa mBh mHg mAl mDropA mDropB) z₂
    (and_then ! (get ! refl) (no_more !)) (λ v₂.
    use1 𝓛 (later (some (λ (s : Bor R.Denot). (toks ⊛ ‵ (Sh.own_val s (v₂ ∷ []))) ⊛
    some (λ (ws₂ : Lasts (g₂.ended K V S A B eqs dEq pe dPe ha dHa bh dBh hg dHg al dAl dropA dropB) κs (r.1, tt)). ‵
    (lasts (g₂.ended K V S A B eqs dEq pe dPe ha dHa bh dBh hg dHg al dAl dropA dropB) κs (r.1, tt) ws₂) ⊛ ‵
    (follows_so R R r.1.ghost_name none (λ _ _. ⊤) (λ n. n ≡ r.1.now)) ⊛ raw (fact 𝓤 (s.now ≡ r.1.now)))))) (id⊢ 𝓤 _) $
    await ! tt $ pick ! (λ s. split ! $ split ! $ move ! (2 ∷ []) $
    pick ! (λ ws₂. split ! $ drop ! $ split ! $ move ! (1 ∷ []) $ heard ! (s.now ≡ r.1.now) (λ seen.
    -- [the map rests; the tokens; the map to read; what was taken]
    rewrite ! 0 (λ (δ : GName). ‵ (follows_so R R δ none (λ _ _. ⊤) (λ n. n ≡ r.1.now))) same refl $
    use1 𝓛 (‵ (follows_so R R γ none (λ _ _. ⊤) Ends)) (ends_weaker 𝓛 R γ (λ n. n ≡ r.1.now) Ends (λ n e. subst Ends (sym e) ended)) $
    move ! (2 ∷ []) $ peeks ! Sh (Is Sh) (shows 𝓛 Sh) s (v₂ ∷ [])
    (λ is₂. lands_as ! refl refl (((shr_Lawful 𝓛 (named 0) κs.0 R).typed s (v₂ ∷ []) is₂).0) $ sets ! (of_opd ! (get ! refl)) refl gx $
    -- [the map to read; the map rests; the tokens; what was taken]
    let G₃ = triple_of 𝓛 (g₃.signature K V S A B eqs dEq pe dPe ha dHa bh dBh hg dHg al dAl dropA dropB)
    (g₃.spec K V S A B eqs dEq pe dPe ha dHa bh dBh hg dHg al dAl dropA dropB 𝓛 𝓜.mem 𝓡.returns) in
    let z₃ : G₃.Ghost = ((κs, qs, bounds, (s, (r.0, tt)), (v₂ ∷ [], (x ∷ [], tt))), tt) in
    let there : IsTaken s.now.slots.keys p r.0 = subst (λ n. IsTaken n.slots.keys p r.0) (sym seen) taken in
    let Asked : Type 0 = (p' : Option (Popped K.Denot V.Denot)) × IsTaken s.now.slots.keys p' r.0 in
    nothing ! $ move ! (4 ∷ 0 ∷ []) $ fjoin ! $ move ! (1 ∷ 0 ∷ []) $ fjoin ! $ move ! (2 ∷ 0 ∷ []) $ join ! $
    states ! Asked (p, there) $ tells κs.1 K V S A B ! five $
    move ! (1 ∷ 0 ∷ []) $ use2 𝓛 (raw (G₃.pre z₃)) (id⊢ 𝓤 _) $
    calls_at ! (framed 𝓤 H 𝓜 𝓣) G₃ (met₃ 𝓤 𝓛 𝓜 𝓡 (code.calls-ordered_multimap::list_ordered_multimap::ListOrderedMultimap::wrapped 𝓡.env
    wired) K V S A B LK LV LS LA LB eqs dEq pe dPe ha dHa bh dBh hg dHg al dAl dropA dropB mEq mPe mHa mBh mHg mAl mDropA mDropB) z₃
    (and_then ! (get ! refl) (and_then ! (get ! refl) (no_more !))) (λ v₃.
    let Wraps : Out.Denot → Type 0 = λ o. (p' : Option (Popped K.Denot V.Denot)) → IsTaken s.now.slots.keys p' r.0
    → option_map popped_of o ≡ p' in
    use1 𝓛 (later (some (λ (o : Out.Denot). (toks ⊛ ‵ (Out.own_val o (v₃ ∷ []))) ⊛
    some (λ (ws₃ : Lasts (g₃.ended K V S A B eqs dEq pe dPe ha dHa bh dBh hg dHg al dAl dropA dropB) κs (s, (r.0, tt))). ‵
    (lasts (g₃.ended K V S A B eqs dEq pe dPe ha dHa bh dBh hg dHg al dAl dropA dropB) κs (s, (r.0, tt)) ws₃) ⊛ raw
    (fact 𝓤 (Wraps o)))))) (id⊢ 𝓤 _) $
    await ! tt $ pick ! (λ o. split ! $ split ! $ move ! (2 ∷ []) $ pick ! (λ ws₃. split ! $ drop ! $ heard ! (Wraps o) (λ wraps.
    -- [the tokens; the result; the map rests]
    move ! (1 ∷ []) $ peeks ! Out (Is Out) (shows 𝓛 Out) o (v₃ ∷ [])
    (λ is₃. lands_as ! refl refl (((LOut.lawful 𝓛).typed o (v₃ ∷ []) is₃).0) $
    states ! (option_map popped_of o ≡ p) (wraps p there) $
    move ! (3 ∷ 0 ∷ []) $ join ! $ nothing ! $ nothing ! $ fjoin ! $ nothing ! $ fjoin ! $
    returns ! (look_at ! 0 refl) $ free_all ! refl $ keep ! (3 ∷ 0 ∷ 2 ∷ 1 ∷ []) $
    by ! (leaves 𝓛 En hs c y v₃ o (tt, (tt, tt)) (tt, (tt, tt))))))))))))))))))))))))
