-- What a call of the map is told of its five types, and tells each call that it makes: that they outlive the lifetimes that stand for them.
-- Assumes `Logic`.
use mathlib.Core.List.{List, ◌∷◌}
use seplogic.Ra.Ura.{Ura}
use base.Logic.{emp}
use base.Fml.{ftrue}
use types.Logic.{Logic}
use types.Kit.{Goal, Item, Seq, Step, step, ‵, raw, ◌⊛◌, ◌$◌, split, join, drop, use0}
use contract.BorrowLft.{◌⊑◌}
use contract.Lifetimes.{Lfts}
use contract.Monad.{fact, fact_i}
use denote.RattleType.{RattleType}
use denote.Steps.{heard}

module _ (κs : Lfts 5) (K V S A B : RattleType) where
  pub record Outlive : Type 0 where
    pub keys : κs.0 ⊑ K.lives
    pub values : κs.1.0 ⊑ V.lives
    pub hasher : κs.1.1.0 ⊑ S.lives
    pub memory : κs.1.1.1.0 ⊑ A.lives
    pub builder : κs.1.1.1.1.0 ⊑ B.lives

  module _ {M : Type 1} {𝓤 : Ura M} where
    -- these five facts, and what stands behind them
    abbrev pub told : Item 𝓤 → Item 𝓤
    told i = raw (fact 𝓤 (κs.0 ⊑ K.lives)) ⊛ raw (fact 𝓤 (κs.1.0 ⊑ V.lives)) ⊛ raw (fact 𝓤 (κs.1.1.0 ⊑ S.lives))
        ⊛ raw (fact 𝓤 (κs.1.1.1.0 ⊑ A.lives)) ⊛ raw (fact 𝓤 (κs.1.1.1.1.0 ⊑ B.lives)) ⊛ i

    module _ {𝓛 : Logic 𝓤} {T : Type 0} {Γ : List (Item 𝓤)} {G : Goal 𝓤 𝓛.H} where
      pub hears_with : T → {i : Item 𝓤} → (Outlive → Seq T 𝓛 (i ∷ Γ) G) → Seq T 𝓛 (told i ∷ Γ) G
      hears_with t go = split t $ heard t (κs.0 ⊑ K.lives) (λ k. split t $ heard t (κs.1.0 ⊑ V.lives) (λ v. split t $
          heard t (κs.1.1.0 ⊑ S.lives) (λ s. split t $ heard t (κs.1.1.1.0 ⊑ A.lives) (λ a. split t $
          heard t (κs.1.1.1.1.0 ⊑ B.lives) (λ b. go (record { keys = k; values = v; hasher = s; memory = a; builder = b }))))))

      pub hears : T → (Outlive → Seq T 𝓛 Γ G) → Seq T 𝓛 (told (‵ ftrue) ∷ Γ) G
      hears t go = hears_with t (λ all. drop t $ go all)

      pub tells : T → Outlive → {i : Item 𝓤} → Step T 𝓛 (told i ∷ Γ) G (i ∷ Γ) G
      tells t all = step (λ s. use0 𝓛 (raw (fact 𝓤 (κs.1.1.1.1.0 ⊑ B.lives))) (fact_i 𝓤 (κs.1.1.1.1.0 ⊑ B.lives) (emp 𝓤) all.builder) $
          join t $ use0 𝓛 (raw (fact 𝓤 (κs.1.1.1.0 ⊑ A.lives))) (fact_i 𝓤 (κs.1.1.1.0 ⊑ A.lives) (emp 𝓤) all.memory) $ join t $
          use0 𝓛 (raw (fact 𝓤 (κs.1.1.0 ⊑ S.lives))) (fact_i 𝓤 (κs.1.1.0 ⊑ S.lives) (emp 𝓤) all.hasher) $ join t $
          use0 𝓛 (raw (fact 𝓤 (κs.1.0 ⊑ V.lives))) (fact_i 𝓤 (κs.1.0 ⊑ V.lives) (emp 𝓤) all.values) $ join t $
          use0 𝓛 (raw (fact 𝓤 (κs.0 ⊑ K.lives))) (fact_i 𝓤 (κs.0 ⊑ K.lives) (emp 𝓤) all.keys) $ join t $ s)

module _ {M : Type 1} {𝓤 : Ura M} {𝓛 : Logic 𝓤} {T : Type 0} {Γ : List (Item 𝓤)} {G : Goal 𝓤 𝓛.H} where
  -- a fact that is shown goes into the context
  pub states : T → (φ : Type 0) → φ → Step T 𝓛 (raw (fact 𝓤 φ) ∷ Γ) G Γ G
  states t φ x = use0 𝓛 (raw (fact 𝓤 φ)) (fact_i 𝓤 φ (emp 𝓤) x)
