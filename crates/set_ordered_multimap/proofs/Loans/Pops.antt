-- What a pop at an end says, of a map or of a set, and that a set whose map was popped at an end was popped there. Assumes `Logic`.
use Rattle.std.proofs.Common.{◌≡◌, subst, option_map}
use mathlib.Core.Option.{none}
use seplogic.Ra.Ura.{Ura}
use base.Logic.{SProp, sep, ent}
use types.Logic.{Logic, sem}
use contract.Monad.{fact}
use denote.Follow.{follows, follows_so}
use denote.RattleType.{RattleType}
use denote.Ref.{MutBor}
use Rattle.std.specs.Prelude.{⊤, Bool, Option}
use Rattle.ordered_multimap.specs.End.{End}
use Rattle.ordered_multimap.specs.Multimap.{Multimap}
use Rattle.ordered_multimap.specs.Popped.{popped_pair}
use Rattle.ordered_multimap.specs.PopAnswers.{IsPopped, popped_of}
use Rattle.ordered_multimap.specs.declared.list_ordered_multimap.key_wrapper.KeyWrapper.{KeyWrapper}
use Rattle.set_ordered_multimap.proofs.Loans.Passed.{ends_and_says}

module _ {M : Type 1} {𝓤 : Ura M} (𝓛 : Logic 𝓤) {K V S : Type 0} (eq : K → K → Bool) (end : End) where
  abbrev pub pops : (P : RattleType) → (P.Denot → Multimap K V S) → MutBor P.Denot → Option (KeyWrapper K × V) → SProp 𝓤
  pops P map s o =
      sep 𝓤 (sem 𝓛 (follows_so P P s.ghost_name none (λ _ _. ⊤) (λ n. IsPopped eq end (map s.now) (map n))))
      (fact 𝓤 (option_map popped_of o ≡ popped_pair eq end (map s.now).lists.pairs))

  pub pops_as_part : (R T : RattleType) (F : T.Denot → R.Denot) (of : T.Denot → Multimap K V S) (whole : R.Denot → Multimap K V S)
      → ((n : T.Denot) → of n ≡ whole (F n)) → (s : MutBor R.Denot) (r : MutBor T.Denot) → of r.now ≡ whole s.now
      → (o : Option (KeyWrapper K × V))
      → ent 𝓤 (sep 𝓤 (sem 𝓛 (follows R T s.ghost_name r.ghost_name F)) (pops T of r o)) (pops R whole s o)
  pops_as_part R T F of whole same s r seen o =
      ends_and_says 𝓛 R T s.ghost_name r.ghost_name F (λ n. IsPopped eq end (of r.now) (of n))
      (λ n. IsPopped eq end (whole s.now) (whole n))
      (λ n is. subst (λ m. IsPopped eq end (whole s.now) m) (same n) (subst (λ m. IsPopped eq end m (of n)) seen is))
      (subst (λ m. option_map popped_of o ≡ popped_pair eq end m.lists.pairs) seen)
