-- A table and the list of the hashes of its places, after both got or lost a row.
use Rattle.std.proofs.Common.{◌≡◌, ℕ, ◌<◌, ◌⊎◌, inl, inr, true, false, cond, Option, None, Some, List, length, zero, suc, [], ◌++◌, take}
use Rattle.std.proofs.Common.{replicate, get_or, set, refl, sym, ap, ◌∙◌, arith, get_or-set_same, get_or-set_other, eqb-true, eq-eqb}
use native.Mathlib.Decide.{dec_lt}
use Rattle.std.specs.Ordering.{nat_cmp, eq_by_cmp}
use Rattle.std.specs.FinMap as map
use Rattle.std.specs.Cmp.{unsigned_tied, nat_cmp_total}

same_or_not : (i j : ℕ) → (i ≡ j) ⊎ (i ≡ j → ⊥)
same_or_not i j = elim (dec_lt i j) [
  | yes p ↦ inr (λ e. omega arith)
  | no p ↦ elim
      (dec_lt j i) [ yes q ↦ inr (λ e. omega arith) | no q ↦ inl (omega arith) ]
]

tied_from_same : (x y : ℕ) → x ≡ y → eq_by_cmp nat_cmp x y ≡ true
tied_from_same x y e = unsigned_tied x y ∙ eq-eqb x y e

not_tied : (x y : ℕ) → (x ≡ y → ⊥) → eq_by_cmp nat_cmp x y ≡ false
not_tied x y ne =
    elim (eq_by_cmp nat_cmp x y) as (λ b. eq_by_cmp nat_cmp x y ≡ b
    → b ≡ false) [ true ↦ λ e. absurd (ne (eqb-true x y (sym (unsigned_tied x y) ∙ e))) | false ↦ λ e. refl ] refl

get_set_same : (xs : List (Option ℕ)) (i j : ℕ) (x : Option ℕ) → j ≡ i → i < length xs → get_or (set xs i x) j None ≡ x
get_set_same xs i j x e p = ap (λ k. get_or (set xs i x) k None) e ∙ get_or-set_same xs i x None p

pub agree_after_insert : (rows : map.FinMap nat_cmp ℕ) (hashes : List (Option ℕ)) (hash place : ℕ) → place < length hashes
    → ((q : ℕ) → map.get rows q ≡ get_or hashes q None)
    → (q : ℕ) → map.get (map.insert rows place hash) q ≡ get_or (set hashes place (Some hash)) q None
agree_after_insert rows hashes hash place p before q =
    map.get-insert nat_cmp_total rows place hash q
    ∙ elim (same_or_not q place) [
      | inl e ↦ ap (λ b. cond b (Some hash) (map.get rows q)) (tied_from_same q place e) ∙ sym (get_set_same hashes place q (Some hash) e p)
      | inr ne ↦ ap (λ b. cond b (Some hash) (map.get rows q)) (not_tied q place ne) ∙ before q
          ∙ sym (get_or-set_other hashes place q (Some hash) None ne)
    ]

pub agree_after_remove : (rows : map.FinMap nat_cmp ℕ) (hashes : List (Option ℕ)) (place : ℕ) → place < length hashes
    → ((q : ℕ) → map.get rows q ≡ get_or hashes q None)
    → (q : ℕ) → map.get (map.remove rows place) q ≡ get_or (set hashes place None) q None
agree_after_remove rows hashes place p before q =
    map.get-remove nat_cmp_total rows place q
    ∙ elim (same_or_not q place) [
      | inl e ↦ ap (λ b. cond b None (map.get rows q)) (tied_from_same q place e) ∙ sym (get_set_same hashes place q None e p)
      | inr ne ↦ ap (λ b. cond b None (map.get rows q)) (not_tied q place ne) ∙ before q
          ∙ sym (get_or-set_other hashes place q None None ne)
    ]

abbrev no_hash : Option ℕ
no_hash = None

get_none : (n q : ℕ) → get_or (replicate n no_hash) q no_hash ≡ no_hash
get_none zero q = refl
get_none (suc n) zero = refl
get_none (suc n) (suc q) = get_none n q

none_after_take : (n m q : ℕ) → get_or (take n [] ++ replicate m no_hash) q no_hash ≡ no_hash
none_after_take zero m q = get_none m q
none_after_take (suc n) m q = get_none m q

pub all_none : (hashes start : List (Option ℕ)) (n m : ℕ) → start ≡ [] → hashes ≡ take n start ++ replicate m no_hash → (q : ℕ)
    → get_or hashes q None ≡ None
all_none hashes start n m none is q =
    ap (λ (xs : List (Option ℕ)). get_or xs q None) (is ∙ ap (λ (xs : List (Option ℕ)). take n xs ++ replicate m no_hash) none)
    ∙ none_after_take n m q
