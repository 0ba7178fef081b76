-- Whether a key was renamed, and which key is first once it was moved there.
use Rattle.std.proofs.Common.{◌≡◌, ◌&&◌, ◌||◌, Bool, true, false, not, cond, List, [], ◌∷◌, ◌++◌, filter, find, slice_get}
use Rattle.std.proofs.Common.{Option, Some, None, option_map, refl, sym, ap, ◌∙◌, true≢false}
use Rattle.std.specs.Prelude.{is_ok}
use Rattle.std.specs.Borrow.{Bor}
use Rattle.std.specs.List.{list_any}
use Rattle.std.specs.Map.Iter.{TakesFirst, deref}
use Rattle.ordered_multimap.specs.Keys.{stored_where}
use Rattle.ordered_multimap.specs.Renames.{answer_of}
use Rattle.ordered_multimap.proofs.Callers.ListedKeys.{find_none, find_stored}

module _ {K : Type 0} (accepts : K → Bool) where
  -- a key is renamed where one is there and the new one is free
  pub renamed-where : (keys : List K) (taken : Bool) (new : K)
      → is_ok (answer_of (find accepts keys) taken new) ≡ (list_any accepts keys && not taken)
  renamed-where keys taken new =
      let P : Bool → Type 0 = λ b. list_any accepts keys ≡ b
      → is_ok (answer_of (find accepts keys) taken new) ≡ (b && not taken) in
      elim (list_any accepts keys) as P [
        | true ↦ λ e. ap (λ o. is_ok (answer_of o taken new)) (find_stored accepts new keys e)
            ∙ elim taken as (λ t. is_ok (answer_of (Some (stored_where accepts keys new)) t new) ≡ not t) [ true ↦ refl | false ↦ refl ]
        | false ↦ λ e. ap (λ o. is_ok (answer_of o taken new)) (find_none accepts keys e)
      ] refl

  -- the first of the accepted keys is the first of all, where they stand before the others
  pub first-moved : (keys rest : List K) → list_any accepts keys ≡ true → slice_get (filter accepts keys ++ rest) 0 ≡ find accepts keys
  first-moved [] rest listed = absurd (true≢false (sym listed))
  first-moved (j ∷ keys) rest listed =
      let P : Bool → Type 0 = λ b. (b || list_any accepts keys) ≡ true
      → slice_get (cond b (j ∷ filter accepts keys) (filter accepts keys) ++ rest) 0 ≡ cond b (Some j) (find accepts keys) in
      elim (accepts j) as P [ true ↦ λ _. refl | false ↦ λ later. first-moved keys rest later ] listed

-- the key that a walk gives first
pub first-walked : {K : Type 0} (s t : List K) (r : Option (Bor K)) → TakesFirst deref s r t → option_map deref r ≡ slice_get s 0
first-walked s t None taken = sym (ap (λ ks. slice_get ks 0) taken.0)
first-walked s t (Some x) taken = sym (ap (λ ks. slice_get ks 0) taken)
