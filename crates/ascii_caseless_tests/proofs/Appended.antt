-- The value that was appended under a key is the last of the key's values.
use Rattle.std.proofs.Common.{◌≡◌, Bool, true, false, cond, List, [], ◌∷◌, ◌++◌, filter, map, Some}
use Rattle.std.proofs.Common.{refl, ap, ◌∙◌}
use Rattle.std.proofs.lemmas.List.{map-append}
use Rattle.std.proofs.lemmas.List.Elements.{filter-append}
use Rattle.std.specs.Cmp.{IsEquivalence}
use Rattle.ordered_multimap.specs.Changes.{appended}
use Rattle.ordered_multimap.specs.Keys.{is_listed, stored_key}
use Rattle.ordered_multimap.specs.Lists.{Lists}
use Rattle.ordered_multimap.specs.Pairs.{values_of}
use Rattle.ordered_multimap.specs.Walk.{end_item}
use Rattle.ordered_multimap.specs.End.TheVariants.{Back}
use Rattle.ordered_multimap.proofs.Callers.Laws.{end_item-push}
use Rattle.ordered_multimap.proofs.Callers.ListedKeys.{stored_key_absent, stored_key_member}

-- the stored key of a key is equal to it
stored_key-equal : {K : Type 0} {eq : K → K → Bool} (laws : IsEquivalence eq) (k : K) (keys : List K)
    → eq k (stored_key eq keys k) ≡ true
stored_key-equal {K} {eq} laws k keys =
    let P : Bool → Type 0 = λ b. is_listed eq keys k ≡ b → eq k (stored_key eq keys k) ≡ true in
    elim (is_listed eq keys k) as P [
      | true ↦ λ e. (stored_key_member laws k keys e).1
      | false ↦ λ e. ap (eq k) (stored_key_absent laws k keys e) ∙ laws.refl k
    ] refl

-- so the value of a pair that was put last under it is the last one of the key
pub last_appended : {K V : Type 0} {eq : K → K → Bool} (laws : IsEquivalence eq) (m new : Lists K V) (k : K) (v : V)
    → new ≡ appended eq m k v → end_item Back (values_of eq new.pairs k) ≡ Some v
last_appended {K} {V} {eq} laws m new k v appends =
    let own : List (K × V) = (stored_key eq m.keys k, v) ∷ [] in
    let before : List (K × V) = filter (λ p. eq k p.0) m.pairs in
    ap (λ (l : Lists K V). end_item Back (values_of eq l.pairs k)) appends
    ∙ ap (λ (ps : List (K × V)). end_item Back (map (λ p. p.1) ps)) (filter-append (λ p. eq k p.0) m.pairs own)
    ∙ ap (λ b. end_item Back (map (λ (p : K × V). p.1) (before ++ cond b own []))) (stored_key-equal laws k m.keys)
    ∙ ap (end_item Back) (map-append (λ p. p.1) before own)
    ∙ end_item-push (map (λ p. p.1) before) v
