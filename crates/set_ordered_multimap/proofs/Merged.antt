-- Pairs of a set that take the place of those of their keys make a set again.
use Rattle.std.proofs.Common.{◌≡◌, Bool, true, false, not, cond, ◌&&◌, ◌||◌, List, [], ◌∷◌, refl, sym, ap, ◌∙◌, subst, true≢false, Result, Ok, Err, OnOk, OnErr}
use Rattle.std.specs.Cmp.{IsEquivalence}
use Rattle.std.specs.List.{IsDistinct, list_any}
use Rattle.std.specs.Map.{keys_of}
use Rattle.ordered_multimap.proofs.Callers.ListedKeys.{IsDistinct-filter, is_listed-member, is_present-is_listed}
use Rattle.ordered_multimap.proofs.Callers.Members.{filter-all}
use Rattle.ordered_multimap.proofs.Callers.Places.{pair_named}
use Rattle.ordered_multimap.specs.AppendMap.{InsertsMap, RefusesMap}
use Rattle.ordered_multimap.specs.Changes.{all_appended, merged}
use Rattle.ordered_multimap.specs.Lists.{IsIn, Lists, lists}
use Rattle.ordered_multimap.specs.Multimap.{Multimap}
use Rattle.ordered_multimap.specs.Pairs.{is_present, pairs_except}
use Rattle.set_ordered_multimap.proofs.Callers.Sets.{IsSet-all_inserted, IsSet-empty, pair_laws}
use Rattle.set_ordered_multimap.proofs.Lacked.{inserts-lacked}
use Rattle.set_ordered_multimap.specs.AppendSet.{InsertsSet, lacked}
use Rattle.set_ordered_multimap.specs.Set.{IsSet, has_pair, same_pair}

module _ {K V : Type 0} {eq : K → K → Bool} {value_eq : V → V → Bool} (keys : IsEquivalence eq) (values : IsEquivalence value_eq) where
  -- pairs whose keys the others lack are equal to none of these
  no_pair : (pairs : List (K × V)) (p : K × V) → IsIn p pairs → (old : List (K × V))
      → has_pair eq value_eq (pairs_except (is_present eq pairs) old) p.0 p.1 ≡ false
  no_pair pairs p member [] = refl
  no_pair pairs p member (q ∷ old) =
      let rest : List (K × V) = pairs_except (is_present eq pairs) old in
      let later = no_pair pairs p member old in
      let P : Bool → Type 0 = λ b. is_present eq pairs q.0 ≡ b
      → list_any (λ r. eq p.0 r.0 && value_eq p.1 r.1) (cond (not b) (q ∷ rest) rest) ≡ false in
      elim (is_present eq pairs q.0) as P [
        | true ↦ λ _. later
        | false ↦ λ absent. apart (eq p.0 q.0) refl absent later
      ] refl
    where
      apart : (b : Bool) → eq p.0 q.0 ≡ b → is_present eq pairs q.0 ≡ false
          → list_any (λ r. eq p.0 r.0 && value_eq p.1 r.1) (pairs_except (is_present eq pairs) old) ≡ false
          → ((eq p.0 q.0 && value_eq p.1 q.1)
          || list_any (λ r. eq p.0 r.0 && value_eq p.1 r.1) (pairs_except (is_present eq pairs) old)) ≡ false
      apart true same absent later = absurd (true≢false (sym (is_present-is_listed eq q.0 pairs
          ∙ is_listed-member keys q.0 p.0 (keys_of pairs) (pair_named p.0 p.1 pairs member) (keys.symm q.0 p.0 ∙ same)) ∙ absent))
      apart false differs absent later = ap (λ b. (b && value_eq p.1 q.1)
          || list_any (λ r. eq p.0 r.0 && value_eq p.1 r.1) (pairs_except (is_present eq pairs) old)) differs ∙ later

  pub IsSet-merged : (m : Lists K V) (pairs : List (K × V)) → IsSet eq value_eq m → IsDistinct (same_pair eq value_eq) pairs
      → IsSet eq value_eq (merged eq m pairs)
  IsSet-merged m pairs set distinct =
      let left : Lists K V = lists m.keys (pairs_except (is_present eq pairs) m.pairs) in
      let kept : IsSet eq value_eq left = IsDistinct-filter (pair_laws keys values) (λ p. not (is_present eq pairs p.0)) m.pairs set in
      let none : lacked eq value_eq left pairs ≡ pairs = filter-all (λ p. not (has_pair eq value_eq left.pairs p.0 p.1)) pairs
      (λ p member. ap not (no_pair pairs p member m.pairs)) in
      subst (IsSet eq value_eq) (sym (inserts-lacked eq value_eq keys values left pairs distinct) ∙ ap (all_appended eq left) none)
      (IsSet-all_inserted keys values left pairs kept)

  module _ {S T X E : Type 0} (old new : Multimap K V S) (other after : Multimap K V T) where
    -- a set into which another one was merged, or which refused it
    pub inserts_keep_sets : (r : Result X E) → OnOk r (InsertsMap eq old new other after) → OnErr r (RefusesMap old new other after)
        → IsSet eq value_eq old.lists → IsSet eq value_eq other.lists → IsSet eq value_eq new.lists
    inserts_keep_sets (Ok x) ok refused set others =
        subst (IsSet eq value_eq) (sym ok.lists) (IsSet-merged old.lists other.lists.pairs set others)
    inserts_keep_sets (Err e) ok refused set others = subst (IsSet eq value_eq) (sym refused.grows.lists) set

    -- the other one is an empty set then
    pub inserts_set : (r : Result X E) → OnOk r (InsertsMap eq old new other after) → OnOk r (InsertsSet eq value_eq old new other after)
    inserts_set (Ok x) ok = record { inserted = ok; emptied = subst (IsSet eq value_eq) (sym ok.cleared.lists) (IsSet-empty eq value_eq) }
    inserts_set (Err e) ok = tt
