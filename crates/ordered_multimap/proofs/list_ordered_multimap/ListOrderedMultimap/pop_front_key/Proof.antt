-- `pop_front_key` holds the map for writing, and lends it on. Assumes `Logic`.
-- It calls `pop_end_key` at the front, with the map lent on.
-- What that call gives is what this one gives back, so `hands_on` proves it.
use mathlib.Core.Path.{refl}
use denote.Param.{param}
use denote.Param.Laws.{param_laws}
use denote.Signature.{named_lft}
use Rattle.ordered_multimap.proofs.Loans.HandsOn.{front, hands_on}
use Rattle.ordered_multimap.proofs.Loans.LentPairs.{drained_key_laws}
use Rattle.ordered_multimap.specs.contracts.list_ordered_multimap.ListOrderedMultimap as Held
use Rattle.ordered_multimap.proofs.list_ordered_multimap.ListOrderedMultimap.pop_front_key.Statement.{statement}
use Rattle.ordered_multimap.proofs.list_ordered_multimap.ListOrderedMultimap.pop_front_key.Code as code
use Rattle.ordered_multimap.specs.contracts.list_ordered_multimap.ListOrderedMultimap.pop_end_key as other
use Rattle.ordered_multimap.proofs.list_ordered_multimap.ListOrderedMultimap.pop_end_key.Met.{met}

pub pop_front_key_spec : {M : Type 1} → statement M
pop_front_key_spec 𝓤 𝓛 𝓜 𝓡 wired K V S A B LK LV LS LA LB e e' p p' h h' b b' g g' a a' d d' d₃ mE mP mH mB mG mA mD mD' mD₃ =
    hands_on 𝓛 𝓜 𝓡 5 _ (λ κs. Held.the_row (param 0 K) (param 1 V) (param 2 S) (param 3 A) (param 4 B) p h b g a) _ (other.clauses K V S A
    B e e' p p' h h' b b' g g' a a' d d' d₃ 𝓛 𝓜.mem 𝓡.returns) front (λ κs. drained_key_laws (named_lft 6 0 tt κs) (param 0 K) (param 1 V)
    (param 2 S) (param 3 A) (param 4 B) p h b g a (param_laws 0 K LK) (param_laws 1 V LV) (param_laws 2 S LS) (param_laws 3 A LA)
    (param_laws 4 B LB)) _ _ _ _ _ _ (λ κs. refl) (code.unfolded 𝓤 𝓛.H 𝓜 𝓡 wired (K, (V, (S, (A, (B, tt))))) e' p' h' b' g' a' d d' d₃)
    (met 𝓤 𝓛 𝓜 𝓡 (code.calls-ordered_multimap::list_ordered_multimap::ListOrderedMultimap::pop_end_key 𝓡.env wired) K V S A B LK LV LS LA LB
    e e' p p' h h' b b' g g' a a' d d' d₃ mE mP mH mB mG mA mD mD' mD₃)
