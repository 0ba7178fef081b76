-- A pair by value is taken apart, or made of its parts. Assumes `Logic`.
use Rattle.std.proofs.Common.{◌≡◌, List, [], ◌∷◌, ◌++◌, refl, ◌∙◌, subst}
use mathlib.Core.Bool.{Bool, true, false, ◌&&◌}
use lib.Dec.{T}
use seplogic.Ra.Ura.{Ura}
use mir.Syntax.{Ty}
use mir.Val.{Val, vstruct, vcons, vnil, of_list, has_ty, WT}
use types.Logic.{Logic}
use types.Kit.{Item, Goal, Seq, Step, step, ‵, ◌$◌, move, drop, fsplit, fsplit3, fjoin, fjoin3, fpick, fpack, rewrite, feq_i, feq_l}
use denote.RattleType.{RattleType, Valss}
use denote.Laws.{Is, Typed, Lawful, shows}
use denote.Steps.{nothing, peeks}
use denote.Struct.Struct.{within}
use denote.Param.{layout}
use denote.Struct.Tuple.{Tuple}
use Rattle.std.proofs.cell.Inside.{Good, one}

abbrev pub both : Val → Val → Val
both v w = vstruct (vcons v (vcons w vnil))

pub both_typed : (σ τ : Ty) (v w : Val) → Good σ v → Good τ w → T (has_ty σ v && (has_ty τ w && true)) × WT (both v w)
both_typed σ τ v w g h =
    let all : (x y : Bool) → T x → T y → T (x && (y && true)) = λ x y. elim x as (λ x. T x → T y → T (x && (y && true))) [
      | true ↦ elim y as (λ y. T true → T y → T (true && (y && true))) [ true ↦ λ s t. tt | false ↦ λ s t. absurd t ]
      | false ↦ λ s t. absurd s
    ] in
    (all (has_ty σ v) (has_ty τ w) g.0 h.0, (g.1, (h.1, tt)))

module _ (P Q : RattleType) {M : Type 1} {𝓤 : Ura M} {𝓛 : Logic 𝓤} {K : Type 0} {Γ : List (Item 𝓤)} {G : Goal 𝓤 𝓛.H} where
  pub pair_out : K → P.mir ≡ layout P ∷ [] → Lawful 𝓛 P → Q.mir ≡ layout Q ∷ [] → Lawful 𝓛 Q → (x : P.Denot) (y : Q.Denot) (us : List Val)
      → ((v w : Val) → Good (layout P) v → Good (layout Q) w → us ≡ both v w ∷ []
      → Seq K 𝓛 (‵ (P.own_val x (v ∷ [])) ∷ ‵ (Q.own_val y (w ∷ [])) ∷ Γ) G)
      → Seq K 𝓛 (‵ ((Tuple (P ∷ Q ∷ [])).own_val (x, y) us) ∷ Γ) G
  pair_out t eP LP eQ LQ x y us k = fpick t (λ vss. fsplit t $
      feq_l t (λ e. fsplit3 t $ peeks t P (Is P) (shows 𝓛 P) x vss.0 (λ i. move t (1 ∷ []) $ peeks t Q (Is Q) (shows 𝓛 Q) y vss.1.0 (λ j.
      let g₁ = one (layout P) vss.0 (subst (λ (ρs : List Ty). Typed ρs vss.0) eP (LP.typed x vss.0 i)) in
      let g₂ = one (layout Q) vss.1.0 (subst (λ (ρs : List Ty). Typed ρs vss.1.0) eQ (LQ.typed y vss.1.0 j)) in
      rewrite t 0 (λ (ws : List Val). ‵ (Q.own_val y ws)) g₂.1 refl $ rewrite t 1 (λ (ws : List Val). ‵ (P.own_val x ws)) g₁.1 refl $
      move t (2 ∷ []) $ drop t $ move t (1 ∷ 0 ∷ []) $
      k g₁.0 g₂.0 g₁.2 g₂.2 (e ∙ (λ n. vstruct (of_list (g₁.1 n ++ (g₂.1 n ++ []))) ∷ []))))))

  pub pair_in : K → (x : P.Denot) (y : Q.Denot) (v w : Val)
      → Step K 𝓛 (‵ ((Tuple (P ∷ Q ∷ [])).own_val (x, y) (both v w ∷ [])) ∷ Γ) G (‵ (P.own_val x (v ∷ [])) ∷ ‵ (Q.own_val y (w ∷ [])) ∷ Γ) G
  pair_in t x y v w = step (λ s. nothing t $ move t (1 ∷ 2 ∷ 0 ∷ []) $ fjoin3 t $ feq_i t (List Val) (both v w ∷ []) (both v w ∷ []) refl $
      fjoin t $
      fpack t (Valss (P ∷ Q ∷ [])) (within (record { name = []; args = []; types = []; fields = P ∷ Q ∷ [] }) (x, (y, tt)) (both v w ∷ []))
      (v ∷ [], (w ∷ [], tt)) $ s)
