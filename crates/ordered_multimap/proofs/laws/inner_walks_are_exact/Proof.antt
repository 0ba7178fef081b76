-- The law holds of nothing that is handed in. Assumes `Logic`.
-- The body does nothing: the fact is the lemma of the same name, which stands in `Loans/Exact`.
-- It gives that back, and the tokens as they came.
use mathlib.Core.Path.{refl}
use mathlib.Core.List.{List, [], ◌∷◌}
use mir.Syntax.{a_type, dcons, dnil}
use mir.MapTy.{inst_fn}
use mir.Val.{Val, vunit}
use base.Logic.{SProp}
use base.Fml.{ftrue, flft}
use types.Kit.{‵, raw, ◌⊛◌, ◌$◌, ◌∵◌, !, qed, by, move, drop, use0, split, feq_i}
use types.Run.{of_opd, unit_lit, returns, enter}
use types.ByLocal.{alloc_all, pass_all, free_all, look_at, sets}
use contract.Running.{tables}
use denote.RattleType.{RattleType}
use denote.Param.{param, bounded}
use denote.Steps.{nothing}
use denote.Triple.Walked.{Stays, walk_of}
use Rattle.std.proofs.raw_atomic.Walks.{proved_at, leaves}
use Rattle.ordered_multimap.specs.Exact.{InnerWalksAreExact}
use Rattle.ordered_multimap.proofs.Loans.Exact.{inner_walks_are_exact}
use Rattle.ordered_multimap.specs.contracts.laws.inner_walks_are_exact as F
use Rattle.ordered_multimap.specs.contracts.laws.inner_walks_are_exact.Key.{name as #self}
use Rattle.ordered_multimap.proofs.laws.inner_walks_are_exact.Statement.{statement}
use Rattle.ordered_multimap.proofs.laws.inner_walks_are_exact.Code as code

pub inner_walks_are_exact_spec : {M : Type 1} → statement M
inner_walks_are_exact_spec 𝓤 𝓛 𝓜 𝓡 wired X₀ X₁ X₂ X₃ X₄ L₀ L₁ L₂ L₃ L₄ ge de gp dp gk dk gb db gj dj ga da dA dJ m₁ m₂ m₃ m₄ m₅ m₆ m₇ m₈ =
    let H = 𝓛.H in let 𝓣 = tables 𝓤 H 𝓜 𝓡 𝓡.env in
    let K : RattleType = param 0 X₀ in let V : RattleType = param 1 X₁ in let S : RattleType = param 2 X₂ in
    let A : RattleType = param 3 X₃ in let J : RattleType = param 4 X₄ in
    let En = F.ended X₀ X₁ X₂ X₃ X₄ ge de gp dp gk dk gb db gj dj ga da dA dJ in
    let inst = bounded (a_type ∷ a_type ∷ a_type ∷ a_type ∷ a_type ∷ []) (X₀, (X₁, (X₂, (X₃, (X₄, tt)))))
    (dcons de (dcons dp (dcons dk (dcons db (dcons dj (dcons da (dcons dA (dcons dJ dnil)))))))) in
    let fn = inst_fn inst code.function in let c = F.clauses X₀ X₁ X₂ X₃ X₄ ge de gp dp gk dk gb db gj dj ga da dA dJ 𝓛 𝓜.mem 𝓡.returns in
    let hs : Stays En.signature.params En.kept = tt in
    proved_at 𝓛 En hs c 𝓜 𝓡 tt (#self inst) fn (code.unfolded 𝓤 H 𝓜 𝓡 wired (X₀, (X₁, (X₂, (X₃, (X₄, tt))))) de dp dk db dj da dA dJ)
    (λ y are.
    let κs = y.0.0 in let qs = y.0.1 in
    let z : (walk_of 𝓛 En hs c).Ghost = y in let Post : Val → SProp 𝓤 = (walk_of 𝓛 En hs c).post z in
    let law = InnerWalksAreExact K V S A J gp gk gb gj ga in
    qed 𝓛 (((‵ (flft κs.0 qs.0) ⊛ ‵ (flft κs.1.0 qs.1.0) ⊛ ‵ (flft κs.1.1.0 qs.1.1.0) ⊛ ‵ (flft κs.1.1.1.0 qs.1.1.1.0) ⊛ ‵
    (flft κs.1.1.1.1.0 qs.1.1.1.1.0) ⊛ ‵ ftrue) ⊛ ‵ ftrue) ∷ raw ((c κs y.0.3).requires y.1) ∷ []) ∵
    split ! $ move ! (2 ∷ []) $ drop ! $ move ! (1 ∷ []) $ drop ! $
    -- [the tokens]
    enter ! 𝓣.C 𝓣.Λ fn [] Post $ alloc_all ! (λ l. pass_all ! refl tt $
    use0 𝓛 (‵ law) (inner_walks_are_exact 𝓛 K V S A J gp gk gb gj ga) $
    sets ! (of_opd ! (unit_lit !)) refl (tt, tt) $ returns ! (look_at ! 0 refl) $ free_all ! refl $
    feq_i ! (List Val) (vunit ∷ []) (vunit ∷ []) refl $ nothing ! $ move ! (3 ∷ 0 ∷ 1 ∷ 2 ∷ []) $
    by ! (leaves 𝓛 En hs c z vunit tt tt tt)))
