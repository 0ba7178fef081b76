-- What a lender ends as. Assumes `Logic`.
use mathlib.Core.Path.{refl}
use mathlib.Core.List.{[], ◌∷◌}
use mathlib.Core.Option.{none, some}
use seplogic.Ra.Ura.{Ura}
use base.Logic.{ent, emp, ex, id⊢, wand}
use base.Fml.{Fml, GName, fex, fsep, feq, fres, fauth}
use types.Logic.{Logic, sem}
use types.Kit.{‵, ◌$◌, ◌∵◌, !, qed, each, assume, feq_i, fjoin, fpick, fpack, done}
use denote.RattleType.{RattleType}
use denote.Follow.{follows, follows_so, such_by, follows_by}
use Rattle.std.specs.Prelude.{⊤}

module _ {M : Type 1} {𝓤 : Ura M} (𝓛 : Logic 𝓤) (R : RattleType) (γ : GName) (P Q : R.Denot → Type 0) (to : (n : R.Denot) → P n → Q n) where
  -- what it ends as, by a weaker relation
  pub ends_weaker : ent 𝓤 (sem 𝓛 (follows_so R R γ none (λ _ _. ⊤) P)) (sem 𝓛 (follows_so R R γ none (λ _ _. ⊤) Q))
  unfolding such_by follows_by
  ends_weaker =
      let Rests : (R.Denot → Type 0) → Type 0 = λ X. (s : (R.Denot → R.Denot) × R.Denot) × ((w : R.Denot) → ⊤) × X s.1 in
      let Ends : (X : R.Denot → Type 0) → Rests X → Fml = λ X s. follows_by R.Denot R.Denot R.coded.code R.coded.code γ none s.0.0 s.0.1 in
      qed 𝓛 (‵ (fex (Rests P) (Ends P)) ∷ []) ∵ fpick ! (λ s. fpack ! (Rests Q) (Ends Q) (s.0, s.1, to s.0.1 s.2) $ done !)

module _ {M : Type 1} {𝓤 : Ura M} (𝓛 : Logic 𝓤) (R : RattleType) (γ : GName) where
  open 𝓛 use {A}

  -- a reference ends as itself
  pub follows_itself : ent 𝓤 (emp 𝓤) (sem 𝓛 (follows R R γ γ (λ w. w)))
  follows_itself =
      let From : R.Denot → R.Denot → Fml = λ z w. fsep (feq R.Denot z w) (fauth γ (R.coded.code w)) in
      let said = qed 𝓛 [] ∵ each ! (λ (w : R.Denot). wand 𝓤 (A.res γ (R.coded.code w)) (A.res γ (R.coded.code w)))
      (λ w. assume ! (‵ (fres γ (R.coded.code w))) $ done !) in
      let back = qed 𝓛 [] ∵ each ! (λ (z : R.Denot). wand 𝓤 (A.auth γ (R.coded.code z)) (sem 𝓛 (fex R.Denot (From z))))
      (λ z. assume ! (‵ (fauth γ (R.coded.code z))) $ feq_i ! R.Denot z z refl $ fjoin ! $ fpack ! R.Denot (From z) z $ done !) in
      record { apply = λ a p. (said.apply a p, back.apply a p) }

module _ {M : Type 1} {𝓤 : Ura M} (𝓛 : Logic 𝓤) (R T : RattleType) (γ γ' : GName) (P : T.Denot → R.Denot → Type 0) (Q : R.Denot → Type 0)
    (F : T.Denot → R.Denot) (v : R.Denot) (met : (w : T.Denot) → P w (F w)) (at_none : Q v) where
  abbrev Met : Type 0
  Met = (s : (T.Denot → R.Denot) × R.Denot) × ((w : T.Denot) → P w (s.0 w)) × Q s.1

  -- a relation, from the function of what the loan's name ends as
  pub so_some : ent 𝓤 (sem 𝓛 (follows R T γ γ' F)) (sem 𝓛 (follows_so R T γ (some γ') P Q))
  unfolding such_by follows_by
  so_some = qed 𝓛 (‵ (follows R T γ γ' F) ∷ []) ∵ fpack ! Met
      (λ s. follows_by R.Denot T.Denot R.coded.code T.coded.code γ (some γ') s.0.0 s.0.1) ((F, v), met, at_none) $ done !

  -- the same from the last value, where nothing names the loan
  pub so_none : ent 𝓤 (sem 𝓛 (fres γ (R.coded.code v))) (sem 𝓛 (follows_so R T γ none P Q))
  unfolding such_by follows_by
  so_none = qed 𝓛 (‵ (fres γ (R.coded.code v)) ∷ []) ∵ fpack ! Met
      (λ s. follows_by R.Denot T.Denot R.coded.code T.coded.code γ none s.0.0 s.0.1) ((F, v), met, at_none) $ done !

module _ (R T : RattleType) (P : T.Denot → R.Denot → Type 0) (Q : R.Denot → Type 0) where
  -- a function of what the loan's name ends as, of which the relation is so, and a value
  abbrev pub SoMet : Type 0
  SoMet = (s : (T.Denot → R.Denot) × R.Denot) × ((w : T.Denot) → P w (s.0 w)) × Q s.1

  -- from a relation such a function
  pub so_out : {M : Type 1} {𝓤 : Ura M} (𝓛 : Logic 𝓤) (γ γ' : GName)
      → ent 𝓤 (sem 𝓛 (follows_so R T γ (some γ') P Q)) (ex 𝓤 (λ (s : SoMet). sem 𝓛 (follows R T γ γ' s.0.0)))
  unfolding such_by follows_by
  so_out {𝓤 = 𝓤} 𝓛 γ γ' = id⊢ 𝓤 (ex 𝓤 (λ (s : SoMet). sem 𝓛 (follows R T γ γ' s.0.0)))
