-- A call that lends its part on to one call of the part, and hands out what that gives. Assumes `Logic`.
-- `hands` is its code: local 1 is what it has borrowed, 3 the same lent on, 2 the part, 4 that lent on, and 0 the result.
-- `hands_out` proves that it ends as its part does, and gives what the call of the part gives.
use Rattle.std.proofs.Common.{◌≡◌, refl, ap, subst}
use mathlib.Core.List.{List, [], ◌∷◌}
use Prim.Native.Nat.{ℕ}
use seplogic.Ra.Ura.{Ura}
use mir.Syntax.{Ty, Callee, Fn, local, value_local, ty_ref, named, erased, mut, seq, assign, place, addr_of, deref, call, copy, return}
use mir.Val.{Val}
use base.Logic.{SProp, sep, emp, ent, id⊢}
use base.Fml.{ftrue}
use prog.Wp.{Closed}
use prog.Model.{Model}
use types.Logic.{Logic, sem}
use types.Kit.{‵, raw, ◌⊛◌, some, later, ◌$◌, ◌∵◌, !, qed, by, move, keep, drop, split, join, fjoin, use1, use2, pick, await, rewrite}
use types.Run.{enter, addr, stop, no_more, and_then, returns}
use types.ByLocal.{alloc_all, pass_all, free_all, look_at, get, through, sets, lands_as}
use contract.BorrowLft.{◌⊑◌}
use contract.Lifetimes.{Lfts, Outlives}
use contract.Monad.{fact}
use contract.Running.{Running, tables}
use denote.Exit.{no}
use denote.Follow.{follows}
use denote.Laws.{Typed, Is, shows}
use denote.Param.Laws.{Laws}
use denote.RattleType.{RattleType}
use denote.Ref.{MutBor, MutRef, mut_vals, mut_Tells}
use denote.Signature.{plain, mut_ref_to}
use denote.Steps.{nothing, only, heard, peeks}
use denote.Triple.Call.{calls_at}
use denote.Triple.Clauses.{Ended, Clauses, Lasts, lasts, closing}
use denote.Triple.Entry.{on_entry, alive}
use denote.Triple.Spec.{Meets, triple_of}
use denote.Triple.Table.{framed}
use denote.Triple.Walked.{Stays, stay_dropped, walk_of, Goes-spent_ref}
use Rattle.std.proofs.raw_atomic.Walks.{proved, leaves}
use Rattle.ordered_multimap.proofs.Loans.HandsOn.{of_one}
use Rattle.ordered_multimap.proofs.Loans.Outlived.{told, hears, tells}

abbrev pub hands : ℕ → List (ℕ × ℕ) → Ty → Ty → Ty → Ty → Ty → Callee → Callee → Fn
hands m os out held part there part_there lend other = of_one m os
    (local out value_local ∷ local (ty_ref (named 0) mut held) value_local ∷ local (ty_ref erased mut part) value_local
    ∷ local (ty_ref erased mut held) value_local ∷ local (ty_ref erased mut part) value_local ∷ [])
    (seq (assign (place 3 []) (addr_of (place 1 (deref there ∷ []))))
    (seq (call lend (copy (place 3 []) ∷ []) (place 2 []))
    (seq (assign (place 4 []) (addr_of (place 2 (deref part_there ∷ []))))
    (seq (call other (copy (place 4 []) ∷ []) (place 0 [])) return))))

module _ {M : Type 1} {𝓤 : Ura M} (𝓛 : Logic 𝓤) (𝓜 : Model 𝓤 𝓛.H) (𝓡 : Running 𝓤 𝓛.H 𝓜) (os : List (Outlives 6))
    (K V S A B R T : RattleType) (Out : Lfts 6 → RattleType) where
  -- what each of the three calls is told: that the five types outlive the lifetimes that stand for them
  abbrev asked : Lfts 6 → SProp 𝓤
  asked κs = sep 𝓤 (fact 𝓤 (κs.1.0 ⊑ K.lives)) (sep 𝓤 (fact 𝓤 (κs.1.1.0 ⊑ V.lives)) (sep 𝓤 (fact 𝓤 (κs.1.1.1.0 ⊑ S.lives))
      (sep 𝓤 (fact 𝓤 (κs.1.1.1.1.0 ⊑ A.lives)) (sep 𝓤 (fact 𝓤 (κs.1.1.1.1.1.0 ⊑ B.lives)) (emp 𝓤)))))

  abbrev of : RattleType → (Lfts 6 → RattleType) → Ended
  of P Q = record {
    signature = record { lifetimes = 6; outlives = os; params = mut_ref_to (0 ∷ []) tt (plain (λ _. P)) ∷ []; result = plain Q };
    kept = (no, tt);
  }

  abbrev Part : Lfts 6 → RattleType
  Part κs = MutRef (named 0) κs.0 T

  -- the part is lent, and the whole ends as the part
  abbrev pub lends : (T.Denot → R.Denot) → (R.Denot → T.Denot) → Clauses 𝓤 (of R Part)
  lends F G κs a = record {
    ghost = Unit {0};
    requires = λ _. asked κs;
    ensures = λ _ r e. sep 𝓤 (sem 𝓛 (follows R T a.0.ghost_name r.ghost_name F)) (fact 𝓤 (r.now ≡ G a.0.now));
  }

  -- what a call says of what it has borrowed, and of its result
  abbrev pub says : (P : RattleType) (E : MutBor P.Denot → (κs : Lfts 6) → (Out κs).Denot → SProp 𝓤) → Clauses 𝓤 (of P Out)
  says P E κs a = record { ghost = Unit {0}; requires = λ _. asked κs; ensures = λ _ o e. E a.0 κs o }

  pub hands_out :
      (F : T.Denot → R.Denot) (G : R.Denot → T.Denot)
      → (E : MutBor R.Denot → (κs : Lfts 6) → (Out κs).Denot → SProp 𝓤)
      → (D : MutBor T.Denot → (κs : Lfts 6) → (Out κs).Denot → SProp 𝓤)
      → ((s : MutBor R.Denot) (r : MutBor T.Denot) → r.now ≡ G s.now → (κs : Lfts 6) (o : (Out κs).Denot)
      → ent 𝓤 (sep 𝓤 (sem 𝓛 (follows R T s.ghost_name r.ghost_name F)) (D r κs o)) (E s κs o))
      → ((κs : Lfts 6) → Laws (Out κs)) → (m : ℕ) (bs : List (ℕ × ℕ)) (out held part there part_there : Ty) {name lend other : Callee}
      → ((κs : Lfts 6) → (Out κs).mir ≡ out ∷ [])
      → Closed 𝓤 𝓛.H (tables 𝓤 𝓛.H 𝓜 𝓡 𝓡.env).C (tables 𝓤 𝓛.H 𝓜 𝓡 𝓡.env).Λ name (hands m bs out held part there part_there lend other)
      → Meets 𝓛 (of R Part).signature ((tables 𝓤 𝓛.H 𝓜 𝓡 𝓡.env).C lend) (closing 𝓛 (of R Part) (lends F G))
      → Meets 𝓛 (of T Out).signature ((tables 𝓤 𝓛.H 𝓜 𝓡 𝓡.env).C other) (closing 𝓛 (of T Out) (says T D))
      → Meets 𝓛 (of R Out).signature ((tables 𝓤 𝓛.H 𝓜 𝓡 𝓡.env).C name) (closing 𝓛 (of R Out) (says R E))
  hands_out F G E D joins laws m bs out held part there part_there {name} {lend} {other} single closed lent met =
      let 𝓣 = tables 𝓤 𝓛.H 𝓜 𝓡 𝓡.env in let fn = hands m bs out held part there part_there lend other in
      let One = of R Out in let c = says R E in
      let hs : Stays One.signature.params One.kept = (stay_dropped (mut_ref_to (0 ∷ []) tt (plain (λ _. R))) no, tt) in
      proved 𝓛 One hs c 𝓜 𝓡 (Goes-spent_ref 𝓛 6 (0 ∷ []) tt (plain (λ _. R)), tt) name fn closed
      (λ κs. (mut_vals, tt)) (λ κs. (mut_Tells (named 0) κs.0 R, tt)) (λ κs qs bounds a gh are.
      let y : (walk_of 𝓛 One hs c).Ghost = ((κs, qs, bounds, a, (mut_vals a.0, tt)), gh) in
      let Post : Val → SProp 𝓤 = (walk_of 𝓛 One hs c).post y in
      let O : RattleType = Out κs in let toks = raw (alive 𝓛 One.signature κs qs) in
      let Mp : RattleType = MutRef (named 0) κs.0 T in
      let G₁ = triple_of 𝓛 (of R Part).signature (closing 𝓛 (of R Part) (lends F G)) in
      let z : G₁.Ghost = ((κs, qs, bounds, a, (mut_vals a.0, tt)), gh) in
      let G₂ = triple_of 𝓛 (of T Out).signature (closing 𝓛 (of T Out) (says T D)) in
      qed 𝓛 (raw (on_entry 𝓛 One.signature κs qs a (mut_vals a.0, tt)) ∷ told κs.1 K V S A B (‵ ftrue) ∷ []) ∵
      move ! (1 ∷ []) $ hears κs.1 K V S A B ! (λ five.
      nothing ! $ tells κs.1 K V S A B ! five $ move ! (1 ∷ 0 ∷ []) $ use2 𝓛 (raw (G₁.pre z)) (id⊢ 𝓤 _) $
      enter ! 𝓣.C 𝓣.Λ fn (mut_vals a.0) Post $ alloc_all ! (λ l. pass_all ! refl ((tt, tt), tt) $
      sets ! (addr ! (through ! refl (stop !))) refl (tt, tt) $
      calls_at ! (framed 𝓤 𝓛.H 𝓜 𝓣) G₁ lent z (and_then ! (get ! refl) (no_more !)) (λ v.
      use1 𝓛 (later (some (λ (r : MutBor T.Denot). (toks ⊛ ‵ (Mp.own_val r (v ∷ []))) ⊛ some (λ (ws : Lasts (of R Part) κs a).
      ‵ (lasts (of R Part) κs a ws) ⊛ ‵ (follows R T a.0.ghost_name r.ghost_name F) ⊛ raw (fact 𝓤 (r.now ≡ G a.0.now)))))) (id⊢ 𝓤 _) $
      await ! tt $ pick ! (λ r. split ! $ split ! $ move ! (2 ∷ []) $
      pick ! (λ ws. split ! $ drop ! $ split ! $ move ! (1 ∷ []) $ heard ! (r.now ≡ G a.0.now) (λ seen.
      -- [what the whole follows; the tokens; the part]
      move ! (2 ∷ []) $ peeks ! Mp (Is Mp) (shows 𝓛 Mp) r (v ∷ []) (λ im.
      let em : v ∷ [] ≡ mut_vals r = mut_Tells (named 0) κs.0 T r (v ∷ []) im in
      rewrite ! 0 (λ (us : List Val). ‵ (Mp.own_val r us)) em refl $
      lands_as ! (ap only em) refl (tt, tt) $
      sets ! (addr ! (through ! refl (stop !))) refl (tt, tt) $
      -- [the part; what the whole follows; the tokens]
      let z₂ : G₂.Ghost = ((κs, qs, bounds, (r, tt), (mut_vals r, tt)), tt) in
      nothing ! $ move ! (1 ∷ 0 ∷ []) $ fjoin ! $ move ! (2 ∷ 0 ∷ []) $ join ! $ nothing ! $
      tells κs.1 K V S A B ! five $ move ! (1 ∷ 0 ∷ []) $ use2 𝓛 (raw (G₂.pre z₂)) (id⊢ 𝓤 _) $
      calls_at ! (framed 𝓤 𝓛.H 𝓜 𝓣) G₂ met z₂ (and_then ! (get ! refl) (no_more !)) (λ v₂.
      use1 𝓛 (later (some (λ (o : O.Denot). (toks ⊛ ‵ (O.own_val o (v₂ ∷ []))) ⊛ some (λ (ws₂ : Lasts (of T Out) κs (r, tt)).
      ‵ (lasts (of T Out) κs (r, tt) ws₂) ⊛ raw (D r κs o))))) (id⊢ 𝓤 _) $
      await ! tt $ pick ! (λ o. split ! $ split ! $ move ! (2 ∷ []) $ pick ! (λ ws₂. split ! $ drop ! $
      -- [what the part ends as; the tokens; the result; what the whole follows]
      move ! (3 ∷ 0 ∷ []) $ use2 𝓛 (raw (E a.0 κs o)) (joins a.0 r seen κs o) $
      -- [what the whole ends as; the tokens; the result]
      move ! (2 ∷ []) $ peeks ! O (Is O) (shows 𝓛 O) o (v₂ ∷ []) (λ io. lands_as ! refl refl
      (subst (λ (τs : List Ty). Typed τs (v₂ ∷ [])) (single κs) (((laws κs).lawful 𝓛).typed o (v₂ ∷ []) io)).0 $
      nothing ! $ nothing ! $ fjoin ! $ returns ! (look_at ! 0 refl) $ free_all ! refl $ keep ! (3 ∷ 0 ∷ 1 ∷ 2 ∷ []) $
      by ! (leaves 𝓛 One hs c y v₂ o (tt, tt) (tt, tt))))))))))))))
