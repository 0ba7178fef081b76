-- A set with another key in the place of one, to which no other key is equal, is a set.
use Rattle.std.proofs.Common.{◌≡◌, Bool, true, false, not, cond, ◌&&◌, List, [], ◌∷◌, map, find, Option, Some, None, Result, Ok, Err}
use Rattle.std.proofs.Common.{refl, sym, ap, ◌∙◌, subst, inl, inr, true≢false}
use Rattle.std.specs.Cmp.{IsEquivalence}
use Rattle.std.specs.List.{AllZip}
use Rattle.std.specs.Map.{keys_of}
use Rattle.ordered_multimap.proofs.Callers.ListedKeys.{any_member}
use Rattle.ordered_multimap.specs.declared.list_ordered_multimap.rename_fault.RenameFault.{RenameFault}
use Rattle.ordered_multimap.specs.Lists.{IsIn, IsWellFormed, Lists}
use Rattle.ordered_multimap.specs.Multimap.{Multimap}
use Rattle.ordered_multimap.specs.Renames.{RenamesKey, answer_of, is_taken, rename_answer, renamed_key, renamed_where}
use Rattle.set_ordered_multimap.proofs.Callers.Sets.{IsDistinct-zip}
use Rattle.set_ordered_multimap.specs.Set.{IsSet, same_pair}

-- the new key isn't taken where the old one comes back
not_taken : {K : Type 0} (old new : K) (found : Option K) (taken : Bool) → Ok old ≡ answer_of found taken new → taken ≡ false
not_taken old new None taken answer = absurd (let bad = answer in cc)
not_taken old new (Some key) true answer = absurd (let bad = answer in cc)
not_taken old new (Some key) false answer = refl

module _ {K V : Type 0} {eq : K → K → Bool} (value_eq : V → V → Bool) (keys : IsEquivalence eq) (accepts : K → Bool)
    (respects : (x y : K) → accepts x ≡ true → accepts y ≡ eq x y) (new : K) where
  -- the key is renamed, or differs from the new one
  abbrev StaysApart : K → Type 0
  StaysApart k = accepts k ≡ false → eq new k ≡ false

  all_apart : (ks : List K) → is_taken eq accepts new ks ≡ false → (k : K) → IsIn k ks → StaysApart k
  all_apart ks free k member other =
      let P : Bool → Type 0 = λ b. eq new k ≡ b → b ≡ false in
      elim (eq new k) as P [
        | true ↦ λ e. absurd (true≢false (sym (any_member (λ j. eq new j && not (accepts j)) k ks member
            (ap (λ b. b && not (accepts k)) e ∙ ap not other)) ∙ free))
        | false ↦ λ _. refl
      ] refl

  -- so two keys are equal as they were
  same_key : (x y : K) → StaysApart x → StaysApart y → eq (renamed_key accepts new x) (renamed_key accepts new y) ≡ eq x y
  same_key x y apart_x apart_y =
      let P : Bool → Bool → Type 0 = λ b d. accepts x ≡ b → accepts y ≡ d
      → eq (cond b new x) (cond d new y) ≡ eq x y in
      elim (accepts x) as (λ b. P b (accepts y)) [
        | true ↦ elim (accepts y) as (P true) [
          | true ↦ λ e f. keys.refl new ∙ sym f ∙ respects x y e
          | false ↦ λ e f. apart_y f ∙ sym f ∙ respects x y e
        ]
        | false ↦ elim (accepts y) as (P false) [
          | true ↦ λ e f. keys.symm x new ∙ apart_x e ∙ sym e ∙ respects y x f ∙ keys.symm y x
          | false ↦ λ e f. refl
        ]
      ] refl refl

  abbrev renamed_pair : K × V → K × V
  renamed_pair p = (renamed_key accepts new p.0, p.1)

  abbrev IsRenamed : K × V → K × V → Type 0
  IsRenamed p r = StaysApart p.0 × (r ≡ renamed_pair p)

  each_renamed : (pairs : List (K × V)) → ((k : K) → IsIn k (keys_of pairs) → StaysApart k)
      → AllZip IsRenamed pairs (map renamed_pair pairs)
  each_renamed [] apart = tt
  each_renamed (p ∷ pairs) apart = ((apart p.0 (inl refl), refl), each_renamed pairs (λ k i. apart k (inr i)))

  IsSet-renamed : (m : Lists K V) → IsWellFormed eq m → is_taken eq accepts new m.keys ≡ false → IsSet eq value_eq m
      → IsSet eq value_eq (renamed_where accepts new m)
  IsSet-renamed m well_formed free set =
      IsDistinct-zip IsRenamed (same_pair eq value_eq) alike m.pairs (map renamed_pair m.pairs)
      (each_renamed m.pairs (λ k i. all_apart m.keys free k (well_formed.listed k i))) set
    where
      alike : (p r q s : K × V) → IsRenamed p r → IsRenamed q s → same_pair eq value_eq r s ≡ same_pair eq value_eq p q
      alike p r q s first second =
          (λ i. same_pair eq value_eq (first.1 i) (second.1 i))
          ∙ (λ i. same_key p.0 q.0 first.0 second.0 i && value_eq p.1 q.1)

  -- and so is one in which nothing was renamed
  pub renames_set : {S : Type 0} (before after : Multimap K V S) (r : Result K (RenameFault K)) → IsWellFormed eq before.lists
      → r ≡ rename_answer eq accepts new before.lists.keys → RenamesKey accepts new before after r → IsSet eq value_eq before.lists
      → IsSet eq value_eq after.lists
  renames_set before after (Ok old) well_formed answer renamed set =
      subst (IsSet eq value_eq) (sym renamed.lists)
      (IsSet-renamed before.lists well_formed
      (not_taken old new (find accepts before.lists.keys) (is_taken eq accepts new before.lists.keys) answer) set)
  renames_set before after (Err fault) well_formed answer renamed set =
      subst (λ m. IsSet eq value_eq m.lists) (sym renamed.refused) set
