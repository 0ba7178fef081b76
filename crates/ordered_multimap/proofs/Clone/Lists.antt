-- The lists of a clone, where the original has no pair, and where clones are the very keys and values.
use Rattle.std.proofs.Common.{◌≡◌, Bool, List, [], ◌∷◌, refl, sym, ap, ◌∙◌, subst, inl, inr}
use Rattle.std.specs.List.{AllZip}
use Rattle.std.specs.Map.{keys_of}
use Rattle.multimap_slots.specs.Lists.{IsIn}
use Rattle.ordered_multimap.specs.Clones.{AreClones, IsKeyClone, IsPairClone}
use Rattle.ordered_multimap.specs.Lists.{IsWellFormed, Lists, empty_lists, lists}
use Rattle.ordered_multimap.specs.Pairs.{all_values}
use Rattle.ordered_multimap.proofs.Callers.Places.{pair_named}

-- clones that are the very items
same_members : {X : Type 0} (R : X → X → Type 0) (xs ys : List X) → AllZip R xs ys → ((x y : X) → IsIn x xs → R x y → y ≡ x) → ys ≡ xs
same_members R [] [] clones same = refl
same_members R [] (y ∷ ys) clones same = absurd clones
same_members R (x ∷ xs) [] clones same = absurd clones
same_members R (x ∷ xs) (y ∷ ys) clones same =
    let first = same x y (inl refl) clones.0 in
    let others = same_members R xs ys clones.1 (λ a b member. same a b (inr member)) in
    (λ i. first i ∷ others i)

value_of_pair : {K V : Type 0} (p : K × V) (pairs : List (K × V)) → IsIn p pairs → IsIn p.1 (all_values pairs)
value_of_pair p [] member = absurd member
value_of_pair p (q ∷ pairs) (inl here) = inl (ap (λ r. r.1) here)
value_of_pair p (q ∷ pairs) (inr later) = inr (value_of_pair p pairs later)

-- without a pair there is no key
pub no_keys : {K V : Type 0} (eq : K → K → Bool) (m : Lists K V) → IsWellFormed eq m → m.pairs ≡ [] → m.keys ≡ []
no_keys {K} eq m formed none = no_member m.keys (λ k member. subst (λ ps. IsIn k (keys_of ps)) none (formed.used k member))
  where
    no_member : (keys : List K) → ((k : K) → IsIn k keys → ⊥) → keys ≡ []
    no_member [] never = refl
    no_member (k ∷ keys) never = absurd (never k (inl refl))

module _ {K V : Type 0} {eq : K → K → Bool} (key_clone : K → K → Type 0) (value_clone : V → V → Type 0) (m : Lists K V)
    (formed : IsWellFormed eq m) where
  -- empty lists are the clones of empty lists
  pub empty_cloned : m.pairs ≡ [] → AreClones eq key_clone value_clone m empty_lists
  empty_cloned none = record {
    keys = subst (λ keys. AllZip (IsKeyClone eq key_clone) keys []) (sym (no_keys eq m formed none)) tt;
    pairs = subst (λ pairs. AllZip (IsPairClone eq key_clone value_clone) pairs []) (sym none) tt;
  }

  -- clones that are the very keys and values
  module _ (keys_same : (k c : K) → IsIn k m.keys → key_clone k c → c ≡ k)
      (values_same : (v c : V) → IsIn v (all_values m.pairs) → value_clone v c → c ≡ v) where
    pub same_lists : (n : Lists K V) → AreClones eq key_clone value_clone m n → n ≡ m
    same_lists n clones =
        let same : n.pairs ≡ m.pairs = same_members (IsPairClone eq key_clone value_clone) m.pairs n.pairs clones.pairs
        (λ p c member clone. (
        λ i. (
          keys_same p.0 c.0 (formed.listed p.0 (pair_named p.0 p.1 m.pairs member)) clone.0.0 i,
          values_same p.1 c.1
              (value_of_pair p m.pairs member) clone.1 i,
        ))) in
        ap (λ keys. lists keys n.pairs) (same_members (IsKeyClone eq key_clone) m.keys n.keys clones.keys
        (λ k c member clone. keys_same k c member clone.0))
        ∙ ap (lists m.keys) same
