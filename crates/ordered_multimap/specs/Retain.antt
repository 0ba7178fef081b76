-- Pairs kept by a function that may also change values and itself.
use Rattle.std.specs.Prelude.{◌≡◌, Bool, true, false, cond, filter, map, List, [], ◌∷◌, ◌++◌}
use Rattle.std.specs.Borrow.{MutBor}
use Rattle.std.specs.Fn.{CalledAtMut, Mut, Takes}
use Rattle.std.specs.List.{FoldsTo}

-- `calls f k v b w g` says that a call of the function in the state f, on k and v, may return b,
-- leave the value w and the state g
module _ {F K V : Type 0} (calls : F → K → V → Bool → V → F → Type 0) where
  -- one call on each pair in turn, from the state f to the state g, leaves the pairs `new` of `old`
  abbrev pub Retains : F → List (K × V) → List (K × V) → F → Type 0
  Retains f [] new g = (new ≡ []) × (g ≡ f)
  Retains f (p ∷ old) new g =
      (b : Bool) × (w : V) × (next : F) × (rest : List (K × V))
      × calls f p.0 p.1 b w next × Retains next old rest g × (new ≡ cond b ((p.0, w) ∷ rest) rest)

  -- each call of f on k and v returns this, leaves this value, and f as it was
  abbrev pub AlwaysRetains : F → (K → V → Bool) → (K → V → V) → Type 0
  AlwaysRetains f keep step = (k : K) (v : V) (b : Bool) (w : V) (next : F)
      → calls f k v b w next → (b ≡ keep k v) × (w ≡ step k v) × (next ≡ f)

-- the pairs that a test accepts, each with the value that a function makes of it
abbrev pub kept_stepwise : {K V : Type 0} → (K → V → Bool) → (K → V → V) → List (K × V)
    → List (K × V)
kept_stepwise keep step pairs =
    map (λ p. (p.0, step p.0 p.1)) (filter (λ p. keep p.0 p.1) pairs)

-- A function that is called on the values of a key alone.
module _ {F V : Type 0} (g : Mut F (MutBor V × Unit {0}) (Bool × (MutBor V × Unit {0}))) where
  -- a call of f at a `&mut` to v may return b, leave the value w and the state next
  abbrev pub AsksValue : F → V → Bool → V → F → Type 0
  AsksValue f v b w next = CalledAtMut g f v b next w

  -- f may be called at v
  abbrev pub MayAskValue : F → V → Type 0
  MayAskValue f v = (q : MutBor V) → q.now ≡ v → Takes g f (q, tt)

  -- a call of f at v may leave the state next
  abbrev pub SomeAnswer : F → V → F → Type 0
  SomeAnswer f v next = (b : Bool) × (w : V) × AsksValue f v b w next

  -- f may be called at each value in turn, as the calls before have left it
  pub record MayAskEach (f : F) (values : List V) : Type 0 where
    pub at : (before after : List V) (next : F) (v : V) → values ≡ before ++ v ∷ after
        → FoldsTo SomeAnswer f before next → MayAskValue next v

  -- a call where the key is accepted, and else none: the value stays, and f is as it was
  abbrev pub AsksIf : Bool → F → V → Bool → V → F → Type 0
  AsksIf true f v b w next = AsksValue f v b w next
  AsksIf false f v b w next = (b ≡ true) × (w ≡ v) × (next ≡ f)

  -- each call of f at v returns this, leaves this value, and f as it was
  abbrev pub AlwaysAnswers : F → (V → Bool) → (V → V) → Type 0
  AlwaysAnswers f keep step = (v : V) (b : Bool) (w : V) (next : F) → AsksValue f v b w next
      → (b ≡ keep v) × (w ≡ step v) × (next ≡ f)

  -- a call on the pairs of the keys that a test accepts alone
  abbrev pub AsksAccepted : {K : Type 0} → (K → Bool) → F → K → V → Bool → V → F → Type 0
  AsksAccepted accepts f k v b w next = AsksIf (accepts k) f v b w next
