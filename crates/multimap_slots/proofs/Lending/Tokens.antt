-- The tokens of three types, where a function that is called is of these, and its caller of one more. Assumes `Logic`.
use mathlib.Core.List.{[], ◌∷◌}
use seplogic.Ra.Ura.{Ura}
use base.Logic.{ent, sep}
use base.Fml.{Fml, ftrue}
use types.Logic.{Logic, sem}
use types.Kit.{‵, ◌⊛◌, ◌$◌, ◌∵◌, !, qed, move, split, join, done}

module _ {M : Type 1} {𝓤 : Ura M} (𝓛 : Logic 𝓤) (a b c d : Fml) where
  -- the fourth comes out
  pub fourth_out
      : ent 𝓤 (sep 𝓤 (sem 𝓛 a) (sep 𝓤 (sem 𝓛 b) (sep 𝓤 (sem 𝓛 c) (sep 𝓤 (sem 𝓛 d) (sem 𝓛 ftrue)))))
      (sep 𝓤 (sep 𝓤 (sem 𝓛 a) (sep 𝓤 (sem 𝓛 b) (sep 𝓤 (sem 𝓛 c) (sem 𝓛 ftrue)))) (sem 𝓛 d))
  fourth_out = qed 𝓛 ((‵ a ⊛ ‵ b ⊛ ‵ c ⊛ ‵ d ⊛ ‵ ftrue) ∷ []) ∵ split ! $ move ! (1 ∷ []) $ split ! $ move ! (1 ∷ []) $ split ! $ move ! (1 ∷ []) $
      split ! $
      -- [d; nothing; c; b; a]
      move ! (2 ∷ 1 ∷ []) $ join ! $ move ! (2 ∷ 0 ∷ []) $ join ! $ move ! (2 ∷ 0 ∷ []) $ join ! $ join ! $ done !

  -- and goes back
  pub fourth_back
      : ent 𝓤 (sep 𝓤 (sep 𝓤 (sem 𝓛 a) (sep 𝓤 (sem 𝓛 b) (sep 𝓤 (sem 𝓛 c) (sem 𝓛 ftrue)))) (sem 𝓛 d))
      (sep 𝓤 (sem 𝓛 a) (sep 𝓤 (sem 𝓛 b) (sep 𝓤 (sem 𝓛 c) (sep 𝓤 (sem 𝓛 d) (sem 𝓛 ftrue)))))
  fourth_back = qed 𝓛 (((‵ a ⊛ ‵ b ⊛ ‵ c ⊛ ‵ ftrue) ⊛ ‵ d) ∷ []) ∵ split ! $ split ! $ move ! (1 ∷ []) $ split ! $ move ! (1 ∷ []) $ split ! $
      -- [c; nothing; b; a; d]
      move ! (4 ∷ 1 ∷ []) $ join ! $ move ! (1 ∷ 0 ∷ []) $ join ! $ move ! (1 ∷ 0 ∷ []) $ join ! $ move ! (1 ∷ 0 ∷ []) $ join ! $ done !
