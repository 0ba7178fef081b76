-- What an iterator gave to a call that took all of it.
use Rattle.std.proofs.Common.{◌≡◌, ℕ, List, length, map-id, Option, Result, Ok, Err, sym, ap, ◌∙◌, subst}
use Rattle.std.specs.Iterator.{Drains}
use Rattle.std.specs.Prelude.{IfOk, MatchResult, OnOk}
use Rattle.std.proofs.lemmas.Iterator.{YieldsList, items_from_drains}

module _ {I V : Type 0} {steps : I → Option V → I → Type 0} {it : I} {values : List V} (given : List V) where
  all_given : Drains steps it given → YieldsList steps (λ v. v) it values → given ≡ values
  all_given drains yields =
      sym (map-id given) ∙ items_from_drains given (drains.1.0, drains.1.1, λ _. (drains.0, drains.1.2)) yields

  -- where nothing was refused, what is so of the values that were given is so of all
  pub of_all : {E : Type 0} (Q : E → Type 0) (r : Result ℕ E) (X : List V → Type 0) → MatchResult r (λ n. (n ≡ length given) × Drains steps it given) Q
      → YieldsList steps (λ v. v) it values → X given → OnOk r (X values)
  of_all Q (Ok n) X read yields so = subst X (all_given read.1 yields) so
  of_all Q (Err e) X read yields so = tt

  pub count_all : {E : Type 0} (Q : E → Type 0) (r : Result ℕ E) → MatchResult r (λ n. (n ≡ length given) × Drains steps it given) Q
      → YieldsList steps (λ v. v) it values → IfOk r (λ n. n ≡ length values)
  count_all Q (Ok n) read yields = read.0 ∙ ap length (all_given read.1 yields)
  count_all Q (Err e) read yields = tt
