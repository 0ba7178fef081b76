-- `pop_back_key` holds the set for writing, and hands a key and a drain out. Assumes `Logic`.
-- It calls `lend`, which lends the map, and the map's call of its own name; `hands_out` follows that code.
-- The set ends as the map does, and what that call gives is what this one gives back (`pops_key_as_part`).
use Rattle.std.proofs.Common.{[], ◌∷◌, refl}
use denote.Param.{param}
use denote.Param.Laws.{param_laws}
use denote.Signature.{named_lft}
use denote.Struct.Tuple.{Tuple}
use Rattle.std.specs.contracts.option.Option.{the_row as Opt}
use Rattle.ordered_multimap.specs.End.TheVariants.{Back}
use Rattle.ordered_multimap.proofs.Loans.LentPairs.{drained_key_laws}
use Rattle.ordered_multimap.specs.contracts.list_ordered_multimap.ListOrderedMultimap as Map
use Rattle.ordered_multimap.specs.contracts.list_ordered_multimap.drain.EntryValuesDrain as Drain
use Rattle.ordered_multimap.proofs.list_ordered_multimap.ListOrderedMultimap.pop_back_key.Met.{met as popped}
use Rattle.set_ordered_multimap.proofs.Loans.HandsOut.{hands_out}
use Rattle.set_ordered_multimap.proofs.Loans.KeyPops.{pops_key, pops_key_as_part, pops_set_key}
use Rattle.set_ordered_multimap.specs.contracts.set.SetOrderedMultimap as Set
use Rattle.set_ordered_multimap.proofs.set.SetOrderedMultimap.pop_back_key.Statement.{statement}
use Rattle.set_ordered_multimap.proofs.set.SetOrderedMultimap.pop_back_key.Code as code
use Rattle.set_ordered_multimap.specs.contracts.set.SetOrderedMultimap.lend.{signature}
use Rattle.set_ordered_multimap.proofs.set.SetOrderedMultimap.lend.Met.{met as lent}

pub pop_back_key_spec : {M : Type 1} → statement M
pop_back_key_spec 𝓤 𝓛 𝓜 𝓡 wired K V S A B LK LV LS LA LB eqs dEq pe dPe ha dHa veqs dVeq vpe dVpe bh dBh hg dHg al dAl dropV dropA dropB mEq mPe
    mHa mVeq mVpe mBh mHg mAl mDropV mDropA mDropB =
    let Kr = param 0 K in let Vr = param 1 V in let Sr = param 2 S in let Ar = param 3 A in let Br = param 4 B in
    let R = Set.the_row Kr Vr Sr Ar Br pe ha bh hg al in
    let T = Map.the_row Kr Vr Sr Ar Br pe ha bh hg al in
    let asks = (signature K V S A B eqs dEq pe dPe ha dHa bh dBh hg dHg al dAl dropA dropB).outlives in
    let end = Back in
    hands_out 𝓛 𝓜 𝓡 asks K V S A B R T
    (λ κs. Opt (Tuple (Kr ∷ Drain.the_row (named_lft 6 0 tt κs) Kr Vr Sr Ar Br pe ha bh hg al ∷ []))) (λ m. m) (λ m. m)
    (λ s κs o. pops_set_key 𝓛 Kr Vr Sr Ar Br pe ha bh hg al end vpe.eq mEq.laws mVeq.laws s o)
    (λ r κs o. pops_key 𝓛 Kr Vr Sr Ar Br pe ha bh hg al end r o)
    (λ s r seen κs o. pops_key_as_part 𝓛 Kr Vr Sr Ar Br pe ha bh hg al end vpe.eq mEq.laws mVeq.laws s r seen o)
    (λ κs. drained_key_laws (named_lft 6 0 tt κs) Kr Vr Sr Ar Br pe ha bh hg al (param_laws 0 K LK) (param_laws 1 V LV) (param_laws 2 S LS)
    (param_laws 3 A LA) (param_laws 4 B LB)) _ _ _ _ _ _ _ (λ κs. refl)
    (code.unfolded 𝓤 𝓛.H 𝓜 𝓡 wired (K, (V, (S, (A, (B, tt))))) dEq dPe dHa dVeq dVpe dBh dHg dAl dropV dropA dropB)
    (lent 𝓤 𝓛 𝓜 𝓡 (code.calls-set_ordered_multimap::set::SetOrderedMultimap::lend 𝓡.env wired) K V S A B LK LV LS LA LB eqs dEq pe dPe ha
    dHa bh dBh hg dHg al dAl dropA dropB mEq mPe mHa mBh mHg mAl mDropA mDropB)
    (popped 𝓤 𝓛 𝓜 𝓡 (code.calls-ordered_multimap::list_ordered_multimap::ListOrderedMultimap::pop_back_key 𝓡.env wired) K V S A B LK LV LS LA
    LB
    eqs dEq pe dPe ha dHa bh dBh hg dHg al dAl dropV dropA dropB mEq mPe mHa mBh mHg mAl mDropV mDropA mDropB)
