-- A lender whose part was lent on to a call ends as that call says of the part. Assumes `Logic`.
use mathlib.Core.List.{[], ◌∷◌}
use mathlib.Core.Option.{none}
use seplogic.Ra.Ura.{Ura}
use base.Logic.{ent, sep}
use base.Fml.{Fml, GName, fex, fres}
use types.Logic.{Logic, sem}
use types.Kit.{‵, raw, ◌⊛◌, ◌$◌, ◌∵◌, !, qed, move, split, join, use2, fpick, fpack, done}
use contract.Monad.{fact}
use denote.RattleType.{RattleType}
use denote.Follow.{follows, followed, follows_so, such_by, follows_by}
use denote.Steps.{heard}
use Rattle.std.specs.Prelude.{⊤}
use Rattle.ordered_multimap.proofs.Loans.Outlived.{states}

module _ {M : Type 1} {𝓤 : Ura M} (𝓛 : Logic 𝓤) (R T : RattleType) (γ δ : GName) (F : T.Denot → R.Denot)
    (P : T.Denot → Type 0) (Q : R.Denot → Type 0) (to : (w : T.Denot) → P w → Q (F w)) where
  pub ends_as_part : ent 𝓤 (sep 𝓤 (sem 𝓛 (follows R T γ δ F)) (sem 𝓛 (follows_so T T δ none (λ _ _. ⊤) P)))
      (sem 𝓛 (follows_so R R γ none (λ _ _. ⊤) Q))
  unfolding such_by follows_by
  ends_as_part =
      let Rests : (D : RattleType) → (D.Denot → Type 0)
      → Type 0 = λ D X. (s : (D.Denot → D.Denot) × D.Denot) × ((w : D.Denot) → ⊤) × X s.1 in
      let Ends : (D : RattleType) (ε : GName) (X : D.Denot → Type 0) → Rests D X → Fml
      = λ D ε X s. follows_by D.Denot D.Denot D.coded.code D.coded.code ε none s.0.0 s.0.1 in
      qed 𝓛 (‵ (follows R T γ δ F) ∷ ‵ (fex (Rests T P) (Ends T δ P)) ∷ []) ∵ move ! (1 ∷ []) $ fpick ! (λ s. move ! (1 ∷ 0 ∷ []) $
      use2 𝓛 (‵ (fres γ (R.coded.code (F s.0.1)))) (followed 𝓛 R T F γ δ s.0.1) $
      fpack ! (Rests R Q) (Ends R γ Q) (((λ w. w), F s.0.1), (λ w. tt), to s.0.1 s.2) $ done !)

  -- and so does a fact that the call says
  pub ends_and_says : {φ ψ : Type 0} → (φ → ψ)
      → ent 𝓤 (sep 𝓤 (sem 𝓛 (follows R T γ δ F)) (sep 𝓤 (sem 𝓛 (follows_so T T δ none (λ _ _. ⊤) P)) (fact 𝓤 φ)))
      (sep 𝓤 (sem 𝓛 (follows_so R R γ none (λ _ _. ⊤) Q)) (fact 𝓤 ψ))
  ends_and_says {φ} {ψ} says =
      qed 𝓛 (‵ (follows R T γ δ F) ∷ (‵ (follows_so T T δ none (λ _ _. ⊤) P) ⊛ raw (fact 𝓤 φ)) ∷ []) ∵
      move ! (1 ∷ []) $ split ! $ move ! (1 ∷ []) $ heard ! φ (λ given.
      move ! (1 ∷ 0 ∷ []) $ use2 𝓛 (‵ (follows_so R R γ none (λ _ _. ⊤) Q)) ends_as_part $
      states ! ψ (says given) $ move ! (1 ∷ 0 ∷ []) $ join ! $ done !)
