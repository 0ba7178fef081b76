-- A call that lends what it has borrowed on to one other call, with an end, and hands out what that gives. Assumes `Logic`.
-- `hands` is its code: local 1 is what it has borrowed, 2 the same lent on, 3 the end, and 0 the result.
-- `hands_on` proves that it meets what the contract of the other call says at that end.
use mathlib.Core.Path.{◌≡◌, refl, subst}
use mathlib.Core.List.{List, [], ◌∷◌}
use Prim.Native.Nat.{ℕ, suc, ◌^◌}
use Rattle.std.proofs.Common.{lit<}
use lib.Dec.{T, ltb}
use seplogic.Ra.Ura.{Ura}
use mir.Syntax.{Ty, Callee, Fn, local, value_local, ty_ref, named, erased, mut, seq, assign, place, addr_of, deref, aggregate, int, w8}
use mir.Syntax.{Body, Local, call, copy, return}
use mir.Val.{Val, vnil}
use base.Logic.{SProp, id⊢}
use base.Fml.{ftrue, fsep}
use prog.Wp.{Closed}
use prog.Model.{Model}
use types.Logic.{Logic}
use types.Kit.{‵, raw, ◌⊛◌, some, later, ◌$◌, ◌∵◌, !, qed, by, move, keep, drop, split, join, fsplit, fjoin, use1, use2, pick, await}
use types.Run.{enter, lit, addr, stop, no_more, and_then, returns}
use types.ByLocal.{alloc_all, pass_all, free_all, look_at, get, through, sets, lands_as}
use types.Match.{live}
use types.Part.{agg}
use contract.Lifetimes.{Lfts, Outlives}
use contract.Running.{Running, tables}
use denote.Enum.Laws as Enum-laws
use denote.Exit.{no, yes}
use denote.Laws.{Typed, Is, shows}
use denote.Param.{layout}
use denote.Param.Laws.{Laws}
use denote.RattleType.{RattleType}
use denote.Ref.{MutRef, mut_vals, mut_Tells}
use denote.Signature.{plain, mut_ref_to}
use denote.Steps.{nothing, owned, peeks}
use denote.Triple.Call.{calls_at}
use denote.Triple.Clauses.{Ended, Clauses, Lasts, lasts, at_exit, closing}
use denote.Triple.Entry.{alive}
use denote.Triple.Spec.{Meets, triple_of}
use denote.Triple.Table.{framed}
use denote.Triple.Walked.{Stays, AllGo, stay_dropped, walk_of, Goes-spent_ref, Goes-dropped}
use Rattle.std.proofs.cell.Inside.{Good}
use Rattle.std.proofs.raw_atomic.Walks.{proved, leaves}
use Rattle.multimap_walks.specs.declared.End.{End}
use Rattle.multimap_walks.specs.declared.End.TheVariants.{Front, Back}
use Rattle.multimap_walks.specs.contracts.End as EndType
use Rattle.multimap_walks.proofs.End.TheLaws as End-laws

-- an end, as it is owned and as it is stored
abbrev pub end_row : RattleType
end_row = EndType.the_row

abbrev pub end_vals : End → List Val
end_vals = Enum-laws.vals EndType.the_type End-laws.the_laws

-- of a reference that is lent and of an end nothing is left
module _ (n : ℕ) (R : Lfts (suc n) → RattleType) where
  abbrev pub stays_with_end :
      Stays {n = suc n} (mut_ref_to (0 ∷ []) tt (plain R) ∷ plain (λ κs. EndType.the_row) ∷ []) (no, (yes, tt))
  stays_with_end = (stay_dropped (mut_ref_to (0 ∷ []) tt (plain R)) no, (stay_dropped (plain (λ κs. EndType.the_row)) yes, tt))

  abbrev pub goes_with_end : {M : Type 1} {𝓤 : Ura M} (𝓛 : Logic 𝓤)
      → AllGo 𝓛 (suc n) (mut_ref_to (0 ∷ []) tt (plain R) ∷ plain (λ κs. EndType.the_row) ∷ []) (no, (yes, tt)) stays_with_end
  goes_with_end 𝓛 = (
    Goes-spent_ref 𝓛 (suc n) (0 ∷ []) tt (plain R),
    (Goes-dropped 𝓛 (suc n) (plain (λ κs. EndType.the_row)) yes (λ κs x w. refl), tt),
  )

-- the number by which the code writes an end
pub record Written (end : End) (k : ℕ) : Type 0 where
  pub low : T (ltb k (2 ^ 8))
  pub is : Is EndType.the_row end (live k vnil ∷ [])
  pub good : Good (layout EndType.the_row) (live k vnil)

abbrev pub front : Written Front 0
front = record { low = tt; is = ([], (refl, (tt, (refl, tt)))); good = (tt, (record { fits = lit< tt }, tt)) }

abbrev pub back : Written Back 1
back = record { low = tt; is = ([], (refl, (tt, (refl, tt)))); good = (tt, (record { fits = lit< tt }, tt)) }

-- the code of a function of one argument, with its locals and its body
abbrev pub of_one : ℕ → List (ℕ × ℕ) → List Local → Body → Fn
of_one n os locals body = record {
  lifetimes = n;
  outlives = os;
  ty_params = [];
  givens = 0;
  params = 1;
  locals = locals;
  body = body;
}

abbrev pub hands : ℕ → List (ℕ × ℕ) → Ty → Ty → Ty → Ty → ℕ → Callee → Fn
hands n os out held lent there k other = of_one n os
    (local out value_local ∷ local (ty_ref (named 0) mut held) value_local ∷ local (ty_ref erased mut lent) value_local
    ∷ local (layout EndType.the_row) value_local ∷ [])
    (seq (assign (place 2 []) (addr_of (place 1 (deref there ∷ []))))
    (seq (assign (place 3 []) (aggregate (int w8 k ∷ [])))
    (seq (call other (copy (place 2 []) ∷ copy (place 3 []) ∷ []) (place 0 [])) return)))

module _ {M : Type 1} {𝓤 : Ura M} (𝓛 : Logic 𝓤) (𝓜 : Model 𝓤 𝓛.H) (𝓡 : Running 𝓤 𝓛.H 𝓜) (n : ℕ) (os : List (Outlives (suc n)))
    (R Out : Lfts (suc n) → RattleType) where
  abbrev One : Ended
  One = record {
    signature = record { lifetimes = suc n; outlives = os; params = mut_ref_to (0 ∷ []) tt (plain R) ∷ []; result = plain Out };
    kept = (no, tt);
  }

  abbrev Other : Ended
  Other = record {
    signature = record {
      lifetimes = suc n;
      outlives = os;
      params = mut_ref_to (0 ∷ []) tt (plain R) ∷ plain (λ κs. EndType.the_row) ∷ [];
      result = plain Out;
    };
    kept = (no, (yes, tt));
  }

  -- what the contract d of the other call says at one end
  abbrev pub at_end : Clauses 𝓤 Other → End → Clauses 𝓤 One
  at_end d end κs a = record {
    ghost = (d κs (a.0, (end, tt))).ghost;
    requires = (d κs (a.0, (end, tt))).requires;
    ensures = λ gh o e. (d κs (a.0, (end, tt))).ensures gh o (e.0, (end, tt));
  }

  pub hands_on :
      (d : Clauses 𝓤 Other) {end : End} {k : ℕ} → Written end k → ((κs : Lfts (suc n)) → Laws (Out κs))
      → (m : ℕ) (bs : List (ℕ × ℕ)) (out held lent there : Ty) {name other : Callee} → ((κs : Lfts (suc n)) → (Out κs).mir ≡ out ∷ [])
      → Closed 𝓤 𝓛.H (tables 𝓤 𝓛.H 𝓜 𝓡 𝓡.env).C (tables 𝓤 𝓛.H 𝓜 𝓡 𝓡.env).Λ name (hands m bs out held lent there k other)
      → Meets 𝓛 Other.signature ((tables 𝓤 𝓛.H 𝓜 𝓡 𝓡.env).C other) (closing 𝓛 Other d)
      → Meets 𝓛 One.signature ((tables 𝓤 𝓛.H 𝓜 𝓡 𝓡.env).C name) (closing 𝓛 One (at_end d end))
  hands_on d {end} {k} written laws m bs out held lent there {name} {other} single closed met =
      let 𝓣 = tables 𝓤 𝓛.H 𝓜 𝓡 𝓡.env in let fn = hands m bs out held lent there k other in let c = at_end d end in
      let Er : RattleType = EndType.the_row in
      let hs : Stays One.signature.params One.kept = (stay_dropped (mut_ref_to (0 ∷ []) tt (plain R)) no, tt) in
      proved 𝓛 One hs c 𝓜 𝓡 (Goes-spent_ref 𝓛 (suc n) (0 ∷ []) tt (plain R), tt) name fn closed
      (λ κs. (mut_vals, tt)) (λ κs. (mut_Tells (named 0) κs.0 (R κs), tt)) (λ κs qs bounds a gh are.
      let y : (walk_of 𝓛 One hs c).Ghost = ((κs, qs, bounds, a, (mut_vals a.0, tt)), gh) in
      let Post : Val → SProp 𝓤 = (walk_of 𝓛 One hs c).post y in
      let O : RattleType = Out κs in let toks = raw (alive 𝓛 One.signature κs qs) in
      let Me : RattleType = MutRef (named 0) κs.0 (R κs) in
      let G = triple_of 𝓛 Other.signature (closing 𝓛 Other d) in
      let z : G.Ghost = ((κs, qs, bounds, (a.0, (end, tt)), (mut_vals a.0, (live k vnil ∷ [], tt))), gh) in
      let Ensures : O.Denot → SProp 𝓤 = λ o. (c κs a).ensures gh o (at_exit One κs a (tt, tt)) in
      qed 𝓛 ((toks ⊛ ‵ (fsep (Me.own_val a.0 (mut_vals a.0)) ftrue)) ∷ raw ((c κs a).requires gh) ∷ []) ∵
      -- [what is lent on; the tokens; the `requires`], and then the end as well
      split ! $ move ! (1 ∷ []) $ fsplit ! $ keep ! (0 ∷ 2 ∷ 3 ∷ []) $
      nothing ! $ owned ! Er (Is Er) (Enum-laws.makes EndType.the_type End-laws.the_plain 𝓛) end (live k vnil ∷ []) written.is $
      fjoin ! $ move ! (1 ∷ 0 ∷ []) $ fjoin ! $ move ! (1 ∷ 0 ∷ []) $ join ! $ use2 𝓛 (raw (G.pre z)) (id⊢ 𝓤 _) $
      enter ! 𝓣.C 𝓣.Λ fn (mut_vals a.0) Post $ alloc_all ! (λ l. pass_all ! refl ((tt, tt), tt) $
      sets ! (addr ! (through ! refl (stop !))) refl (tt, tt) $
      sets ! (agg ! (and_then ! (lit ! written.low) (no_more !))) refl written.good $
      calls_at ! (framed 𝓤 𝓛.H 𝓜 𝓣) G met z (and_then ! (get ! refl) (and_then ! (get ! refl) (no_more !))) (λ v.
      use1 𝓛 (later (some (λ (o : O.Denot). (toks ⊛ ‵ (O.own_val o (v ∷ []))) ⊛ some (λ (ws : Lasts Other κs (a.0, (end, tt))).
      ‵ (lasts Other κs (a.0, (end, tt)) ws) ⊛ raw (Ensures o))))) (id⊢ 𝓤 _) $
      await ! tt $ pick ! (λ o. split ! $ split ! $ move ! (2 ∷ []) $ pick ! (λ ws. split ! $ drop ! $
      -- [the `ensures`; the tokens; the result]
      move ! (2 ∷ []) $ peeks ! O (Is O) (shows 𝓛 O) o (v ∷ []) (λ is. lands_as ! refl refl
      (subst (λ (τs : List Ty). Typed τs (v ∷ [])) (single κs) (((laws κs).lawful 𝓛).typed o (v ∷ []) is)).0 $
      nothing ! $ nothing ! $ fjoin ! $ returns ! (look_at ! 0 refl) $ free_all ! refl $ keep ! (3 ∷ 0 ∷ 1 ∷ 2 ∷ []) $
      by ! (leaves 𝓛 One hs c y v o (tt, tt) (tt, tt))))))))
