-- An option by value is taken apart. Assumes `Logic`.
use Rattle.std.proofs.Common.{◌≡◌, List, [], ◌∷◌, ◌++◌, refl, ◌∙◌, subst}
use seplogic.Ra.Ura.{Ura}
use mir.Syntax.{Ty}
use mir.Val.{Val, vcons, vnil, of_list}
use types.Logic.{Logic}
use types.Kit.{Item, Goal, Seq, ‵, ◌$◌, move, drop, fsplit, fpick, rewrite, feq_l}
use types.Match.{live}
use denote.RattleType.{RattleType}
use denote.Laws.{Is, Typed, Lawful, shows}
use denote.Steps.{peeks}
use denote.Param.{layout}
use Rattle.std.specs.Prelude.{Option, Some, None}
use Rattle.std.specs.contracts.option.Option.{the_row}
use Rattle.std.proofs.cell.Inside.{Good, one}

module _ (X : RattleType) {M : Type 1} {𝓤 : Ura M} {𝓛 : Logic 𝓤} {K : Type 0} {Γ : List (Item 𝓤)} {G : Goal 𝓤 𝓛.H} where
  pub option_out : K → X.mir ≡ layout X ∷ [] → Lawful 𝓛 X → (o : Option X.Denot) (us : List Val)
      → (o ≡ None → us ≡ live 0 vnil ∷ [] → Seq K 𝓛 Γ G)
      → ((x : X.Denot) (v : Val) → o ≡ Some x → Good (layout X) v → us ≡ live 1 (vcons v vnil) ∷ []
      → Seq K 𝓛 (‵ (X.own_val x (v ∷ [])) ∷ Γ) G)
      → Seq K 𝓛 (‵ ((the_row X).own_val o us) ∷ Γ) G
  option_out t eX LX None us at_none at_some = fpick t (λ ws. fsplit t $ feq_l t (λ e. fpick t (λ vss. fsplit t $ feq_l t (λ f. drop t $
      at_none refl (e ∙ (λ n. live 0 (of_list (f n)) ∷ []))))))
  option_out t eX LX (Some x) us at_none at_some = fpick t
      (λ ws. fsplit t $ feq_l t (λ e. fpick t (λ vss. fsplit t $
      feq_l t (λ f. fsplit t $ move t (1 ∷ []) $ drop t $ peeks t X (Is X) (shows 𝓛 X) x vss.0 (λ i.
      let g = one (layout X) vss.0 (subst (λ (ρs : List Ty). Typed ρs vss.0) eX (LX.typed x vss.0 i)) in
      rewrite t 0 (λ (vs : List Val). ‵ (X.own_val x vs)) g.1 refl $
      at_some x g.0 refl g.2 (e ∙ (λ n. live 1 (of_list (f n)) ∷ []) ∙ (λ n. live 1 (of_list (g.1 n ++ [])) ∷ [])))))))
