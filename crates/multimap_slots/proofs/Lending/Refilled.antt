-- What `refilled` keeps.
use mathlib.Core.Path.{◌≡◌, refl, sym, ap, ◌∙◌}
use Prim.Native.Nat.{ℕ, zero, suc}
use mathlib.Core.List.{List, [], ◌∷◌}
use mathlib.Core.Bool.{true, false}
use lib.ListN.{length, replicate, take, drop, get_or}
use Rattle.std.specs.Prelude.{Option, Some, None, IsSome, is_some, map, ◌++◌}
use Rattle.std.proofs.Math.Seq.{take-append_seam}
use Rattle.multimap_slots.specs.Taken.{refilled}
use Rattle.multimap_slots.specs.Private.ListLayout.{IsFilled}
use Rattle.multimap_slots.specs.Private.Runs.{RunLengths}
use Rattle.multimap_slots.specs.Private.TapeLayout.{IsTape}
use Rattle.multimap_slots.specs.declared.order.node.State.{State}
use Rattle.multimap_slots.proofs.Loans.SplitKept.{length-refilled}

pub same_refilled : {X : Type 0} (xs ys : List (Option X)) → map is_some (refilled xs ys) ≡ map is_some xs
same_refilled [] ys = refl
same_refilled (x ∷ xs) [] = ap (λ t. is_some x ∷ t) (same_refilled xs [])
same_refilled {X} (None ∷ xs) (y ∷ ys) = ap (λ t. is_some {T = X} None ∷ t) (same_refilled xs ys)
same_refilled (Some x ∷ xs) (None ∷ ys) = ap (λ t. is_some (Some x) ∷ t) (same_refilled xs ys)
same_refilled (Some x ∷ xs) (Some y ∷ ys) = ap (λ t. is_some (Some y) ∷ t) (same_refilled xs ys)

-- an item stands where one stood, and none where there was none
is_some-refilled : {X : Type 0} (xs ys : List (Option X)) (p : ℕ) → is_some (get_or (refilled xs ys) p None) ≡ is_some (get_or xs p None)
is_some-refilled [] ys p = refl
is_some-refilled (x ∷ xs) [] zero = refl
is_some-refilled (x ∷ xs) [] (suc p) = is_some-refilled xs [] p
is_some-refilled (None ∷ xs) (y ∷ ys) zero = refl
is_some-refilled (None ∷ xs) (y ∷ ys) (suc p) = is_some-refilled xs ys p
is_some-refilled (Some x ∷ xs) (None ∷ ys) zero = refl
is_some-refilled (Some x ∷ xs) (None ∷ ys) (suc p) = is_some-refilled xs ys p
is_some-refilled (Some x ∷ xs) (Some y ∷ ys) zero = refl
is_some-refilled (Some x ∷ xs) (Some y ∷ ys) (suc p) = is_some-refilled xs ys p

pub some-refilled : {X : Type 0} (xs ys : List (Option X)) (p : ℕ) → IsSome (get_or xs p None) → IsSome (get_or (refilled xs ys) p None)
some-refilled xs ys p some = is_some-refilled xs ys p ∙ some

not_some : {X : Type 0} (o : Option X) → is_some o ≡ false → o ≡ None
not_some None e = refl
not_some (Some x) e = absurd (let e' = e in cc)

pub none-refilled : {X : Type 0} (xs ys : List (Option X)) (p : ℕ) → get_or xs p None ≡ None → get_or (refilled xs ys) p None ≡ None
none-refilled xs ys p none = not_some (get_or (refilled xs ys) p None) (is_some-refilled xs ys p ∙ ap is_some none)

pub IsFilled-refilled : {X : Type 0} (xs ys : List (Option X)) (order : List ℕ) (states : List State) → IsFilled xs order states
    → IsFilled (refilled xs ys) order states
IsFilled-refilled xs ys order states f = record {
  same_length = length-refilled xs ys ∙ f.same_length;
  filled = λ p i. some-refilled xs ys p (f.filled p i);
  kept = λ p e. some-refilled xs ys p (f.kept p e);
  empty = λ p e. none-refilled xs ys p (f.empty p e);
}

pub IsTape-refilled : {X L : Type 0} (xs ys : List (Option X)) (links : List L) (runs : RunLengths) {a b : ℕ} → IsTape xs links runs a b
    → IsTape (refilled xs ys) links runs a b
IsTape-refilled xs ys links runs t = record {
  items_used = length-refilled xs ys ∙ t.items_used;
  links_used = t.links_used;
  filled = λ p i. some-refilled xs ys p (t.filled p i);
  items_fit = t.items_fit;
  links_fit = t.links_fit;
}

-- where a vector of n items takes on refilled ones, these are its items
pub taken_refilled : {X : Type 0} (n : ℕ) (xs ws : List (Option X)) → n ≡ length xs
    → take n (refilled xs ws ++ drop (length (refilled xs ws)) xs) ≡ refilled xs ws
taken_refilled n xs ws e =
    let rs = refilled xs ws in
    ap (λ m. take m (rs ++ drop (length rs) xs)) (e ∙ sym (length-refilled xs ws)) ∙ take-append_seam rs (drop (length rs) xs)

-- where an item stands, it is there to be taken
pub all_left : {X : Type 0} (xs : List (Option X)) (p : ℕ) → IsSome (get_or xs p None) → get_or (replicate (length xs) true) p false ≡ true
all_left [] p s = absurd (let e = s in cc)
all_left (x ∷ xs) zero s = refl
all_left (x ∷ xs) (suc p) s = all_left xs p s
