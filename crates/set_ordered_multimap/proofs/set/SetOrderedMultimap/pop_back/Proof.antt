-- `pop_back` holds the set for writing and hands out a pair of it. Assumes `Logic`.
-- It calls `lend`, which lends the map, and the map's call of its own name; `hands_out` follows that code.
-- The set ends as the map does, and what that call gives is what this one gives back (`pops_as_part`).
use Rattle.std.proofs.Common.{[], ◌∷◌, refl}
use denote.Param.{param}
use denote.Param.Laws.{param_laws}
use denote.Signature.{named_lft}
use denote.Struct.Tuple.{Tuple}
use Rattle.std.specs.contracts.option.Option.{the_row as Opt}
use Rattle.ordered_multimap.specs.End.TheVariants.{Back}
use Rattle.ordered_multimap.proofs.Loans.LentPairs.{popped_pair_laws}
use Rattle.ordered_multimap.specs.contracts.list_ordered_multimap.ListOrderedMultimap as Map
use Rattle.ordered_multimap.specs.contracts.list_ordered_multimap.key_wrapper.KeyWrapper as Key
use Rattle.ordered_multimap.proofs.list_ordered_multimap.ListOrderedMultimap.pop_back.Met.{met as popped}
use Rattle.set_ordered_multimap.proofs.Loans.HandsOut.{hands_out}
use Rattle.set_ordered_multimap.proofs.Loans.Pops.{pops, pops_as_part}
use Rattle.set_ordered_multimap.specs.contracts.set.SetOrderedMultimap as Set
use Rattle.set_ordered_multimap.proofs.set.SetOrderedMultimap.pop_back.Statement.{statement}
use Rattle.set_ordered_multimap.proofs.set.SetOrderedMultimap.pop_back.Code as code
use Rattle.set_ordered_multimap.specs.contracts.set.SetOrderedMultimap.lend.{signature}
use Rattle.set_ordered_multimap.proofs.set.SetOrderedMultimap.lend.Met.{met as lent}

pub pop_back_spec : {M : Type 1} → statement M
pop_back_spec 𝓤 𝓛 𝓜 𝓡 wired K V S A B LK LV LS LA LB eqs dEq pe dPe ha dHa bh dBh hg dHg al dAl dropA dropB mEq mPe mHa mBh mHg mAl mDropA
    mDropB =
    let Kr = param 0 K in let Vr = param 1 V in
    let R = Set.the_row Kr Vr (param 2 S) (param 3 A) (param 4 B) pe ha bh hg al in
    let T = Map.the_row Kr Vr (param 2 S) (param 3 A) (param 4 B) pe ha bh hg al in
    let asks = (signature K V S A B eqs dEq pe dPe ha dHa bh dBh hg dHg al dAl dropA dropB).outlives in
    hands_out 𝓛 𝓜 𝓡 asks K V S A B R T (λ κs. Opt (Tuple (Key.the_row (named_lft 6 0 tt κs) Kr ∷ Vr ∷ []))) (λ m. m) (λ m. m)
    (λ s κs o. pops 𝓛 pe.eq Back R (λ m. m) s o) (λ r κs o. pops 𝓛 pe.eq Back T (λ m. m) r o)
    (λ s r seen κs o. pops_as_part 𝓛 pe.eq Back R T (λ m. m) (λ m. m) (λ m. m) (λ n. refl) s r seen o)
    (λ κs. popped_pair_laws (named_lft 6 0 tt κs) Kr Vr (param_laws 0 K LK) (param_laws 1 V LV)) _ _ _ _ _ _ _ (λ κs. refl)
    (code.unfolded 𝓤 𝓛.H 𝓜 𝓡 wired (K, (V, (S, (A, (B, tt))))) dEq dPe dHa dBh dHg dAl dropA dropB)
    (lent 𝓤 𝓛 𝓜 𝓡 (code.calls-set_ordered_multimap::set::SetOrderedMultimap::lend 𝓡.env wired) K V S A B LK LV LS LA LB eqs dEq pe dPe ha
    dHa bh dBh hg dHg al dAl dropA dropB mEq mPe mHa mBh mHg mAl mDropA mDropB)
    (popped 𝓤 𝓛 𝓜 𝓡 (code.calls-ordered_multimap::list_ordered_multimap::ListOrderedMultimap::pop_back 𝓡.env wired) K V S A B LK LV LS LA LB
    eqs dEq pe dPe ha dHa bh dBh hg dHg al dAl dropA dropB mEq mPe mHa mBh mHg mAl mDropA mDropB)
