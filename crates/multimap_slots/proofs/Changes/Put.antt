-- A list with one item written, at a place of the list or right behind it.
use Rattle.std.proofs.Common.{◌≡◌, ◌≢◌, ℕ, zero, suc, ◌<◌, ◌≤◌, List, [], ◌∷◌, ◌++◌, map, length, get_or, slice_get, set, Some, IsSome}
use Rattle.std.proofs.Common.{refl, ap, arith}
use Rattle.multimap_slots.specs.Private.ListLayout.{put}

module _ {X : Type 0} where
  pub put-set : (xs : List X) (i : ℕ) (x : X) → i < length xs → put xs i x ≡ set xs i x
  put-set [] i x within = absurd (omega arith)
  put-set (y ∷ ys) zero x within = refl
  put-set (y ∷ ys) (suc i) x within = ap (λ zs. y ∷ zs) (put-set ys i x (omega arith))

  pub put-push : (xs : List X) (i : ℕ) (x : X) → length xs ≤ i → put xs i x ≡ xs ++ x ∷ []
  put-push [] i x past = refl
  put-push (y ∷ ys) zero x past = absurd (omega arith)
  put-push (y ∷ ys) (suc i) x past = ap (λ zs. y ∷ zs) (put-push ys i x (omega arith))

  pub get_or-put_same : (xs : List X) (i : ℕ) (x d : X) → i ≤ length xs → get_or (put xs i x) i d ≡ x
  get_or-put_same [] zero x d within = refl
  get_or-put_same [] (suc i) x d within = absurd (omega arith)
  get_or-put_same (y ∷ ys) zero x d within = refl
  get_or-put_same (y ∷ ys) (suc i) x d within = get_or-put_same ys i x d (omega arith)

  pub get_or-put_other : (xs : List X) (i q : ℕ) (x d : X) → i ≤ length xs → q ≢ i → get_or (put xs i x) q d ≡ get_or xs q d
  get_or-put_other [] zero zero x d within differs = absurd (differs refl)
  get_or-put_other [] zero (suc q) x d within differs = refl
  get_or-put_other [] (suc i) q x d within differs = absurd (omega arith)
  get_or-put_other (y ∷ ys) zero zero x d within differs = absurd (differs refl)
  get_or-put_other (y ∷ ys) zero (suc q) x d within differs = refl
  get_or-put_other (y ∷ ys) (suc i) zero x d within differs = refl
  get_or-put_other (y ∷ ys) (suc i) (suc q) x d within differs =
      get_or-put_other ys i q x d (omega arith) (λ e. differs (ap suc e))

  pub slice_get-put_same : (xs : List X) (i : ℕ) (x : X) → i ≤ length xs → slice_get (put xs i x) i ≡ Some x
  slice_get-put_same [] zero x within = refl
  slice_get-put_same [] (suc i) x within = absurd (omega arith)
  slice_get-put_same (y ∷ ys) zero x within = refl
  slice_get-put_same (y ∷ ys) (suc i) x within = slice_get-put_same ys i x (omega arith)

  pub slice_get-put_other : (xs : List X) (i q : ℕ) (x : X) → i ≤ length xs → q ≢ i → slice_get (put xs i x) q ≡ slice_get xs q
  slice_get-put_other [] zero zero x within differs = absurd (differs refl)
  slice_get-put_other [] zero (suc q) x within differs = refl
  slice_get-put_other [] (suc i) q x within differs = absurd (omega arith)
  slice_get-put_other (y ∷ ys) zero zero x within differs = absurd (differs refl)
  slice_get-put_other (y ∷ ys) zero (suc q) x within differs = refl
  slice_get-put_other (y ∷ ys) (suc i) zero x within differs = refl
  slice_get-put_other (y ∷ ys) (suc i) (suc q) x within differs =
      slice_get-put_other ys i q x (omega arith) (λ e. differs (ap suc e))

  pub slice_get-IsSome : (xs : List X) (i : ℕ) → i < length xs → IsSome (slice_get xs i)
  slice_get-IsSome [] i within = absurd (omega arith)
  slice_get-IsSome (x ∷ xs) zero within = refl
  slice_get-IsSome (x ∷ xs) (suc i) within = slice_get-IsSome xs i (omega arith)

  pub length-put : (xs : List X) (i : ℕ) (x : X) → length xs ≤ length (put xs i x)
  length-put [] i x = omega arith
  length-put (y ∷ ys) zero x = omega arith
  length-put (y ∷ ys) (suc i) x = omega (arith, length-put ys i x)

  pub map-put : {Y : Type 0} (f : X → Y) (xs : List X) (i : ℕ) (x : X) → map f (put xs i x) ≡ put (map f xs) i (f x)
  map-put f [] i x = refl
  map-put f (y ∷ ys) zero x = refl
  map-put f (y ∷ ys) (suc i) x = ap (λ zs. f y ∷ zs) (map-put f ys i x)

-- lists of one length stay so
pub put-length : {X Y : Type 0} (xs : List X) (ys : List Y) (i : ℕ) (x : X) (y : Y) → length xs ≡ length ys
    → length (put xs i x) ≡ length (put ys i y)
put-length [] [] i x y same = refl
put-length [] (b ∷ ys) i x y same = absurd (omega arith)
put-length (a ∷ xs) [] i x y same = absurd (omega arith)
put-length (a ∷ xs) (b ∷ ys) zero x y same = same
put-length (a ∷ xs) (b ∷ ys) (suc i) x y same = ap suc (put-length xs ys i x y (omega arith))
