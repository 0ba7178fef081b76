-- Values written by a function that is called once on each of them.
use Rattle.std.specs.Prelude.{◌≡◌, ℕ, Bool, true, List, [], ◌∷◌, ◌++◌}
use Rattle.std.specs.Borrow.{Bor, MutBor}
use Rattle.std.specs.Fn.{Called, CalledAtMut, Mut, Takes}
use Rattle.std.specs.List.{FoldsTo}
use Rattle.ordered_multimap.specs.Pairs.{positions_of, values_of, with_value_at}

module _ {F K V : Type 0}
    (g : Mut F (Bor K × (MutBor V × Unit {0})) (Unit {0} × (MutBor V × Unit {0}))) where
  -- a call of f at a `&` to k and a `&mut` to v may leave w there and f as f', and the pair stays
  pub record Updates (f : F) (k : K) (v : V) (b : Bool) (w : V) (f' : F) : Type 0 where
    pub stays : b ≡ true
    pub key : Bor K
    pub value : MutBor V
    pub shows : (key.now ≡ k) × (value.now ≡ v)
    pub left : MutBor V
    pub called : Called g f (key, (value, tt)) (tt, (left, tt)) f'
    pub leaves : left.now ≡ w

  -- f may be called at k and v
  abbrev pub MayUpdate : F → K → V → Type 0
  MayUpdate f k v =
      (p : Bor K) (q : MutBor V) → p.now ≡ k → q.now ≡ v → Takes g f (p, (q, tt))

  -- each call of f at k and v leaves this value there, and f as it was
  abbrev pub AlwaysLeaves : F → (K → V → V) → Type 0
  AlwaysLeaves f step = (p : Bor K) (q left : MutBor V) (f' : F)
      → Called g f (p, (q, tt)) (tt, (left, tt)) f' → (left.now ≡ step p.now q.now) × (f' ≡ f)

-- the pairs with these values, one at each of the positions
abbrev pub with_values_at : {K V : Type 0} → List (K × V) → List ℕ → List V → List (K × V)
with_values_at pairs [] ws = pairs
with_values_at pairs (i ∷ places) [] = pairs
with_values_at pairs (i ∷ places) (w ∷ ws) = with_values_at (with_value_at pairs i w) places ws

module _ {F V : Type 0} (g : Mut F (MutBor V × Unit {0}) (Unit {0} × (MutBor V × Unit {0}))) where
  -- a call of f at a `&mut` to v may leave w there and f as f'
  abbrev pub Rewrites : F → V → V → F → Type 0
  Rewrites f v w f' = CalledAtMut g f v tt f' w

  -- f may be called at v
  abbrev pub MayRewrite : F → V → Type 0
  MayRewrite f v = (q : MutBor V) → q.now ≡ v → Takes g f (q, tt)

  -- a call of f at v may leave f as f'
  abbrev pub SomeRewrite : F → V → F → Type 0
  SomeRewrite f v f' = (w : V) × Rewrites f v w f'

  -- f may be called at each value in turn, as the calls before have left it
  pub record CallableOnEach (f : F) (values : List V) : Type 0 where
    pub at : (before after : List V) (f' : F) (v : V) → values ≡ before ++ v ∷ after
        → FoldsTo SomeRewrite f before f' → MayRewrite f' v

  -- one call on each value in turn, from the state f to the state last, leaves the values `new`
  abbrev pub RewritesEach : F → List V → List V → F → Type 0
  RewritesEach f [] new last = (new ≡ []) × (last ≡ f)
  RewritesEach f (v ∷ old) new last = (w : V) × (next : F) × (rest : List V)
      × Rewrites f v w next × RewritesEach next old rest last × (new ≡ w ∷ rest)

  -- each call of f at v leaves this value there, and f as it was
  abbrev pub AlwaysRewrites : F → (V → V) → Type 0
  AlwaysRewrites f step = (q left : MutBor V) (f' : F)
      → Called g f (q, tt) (tt, (left, tt)) f' → (left.now ≡ step q.now) × (f' ≡ f)

  -- f was called on each value of the key in turn, and what it left is at that value's position
  pub record UpdatesKey {K : Type 0} (eq : K → K → Bool) (old : List (K × V)) (k : K) (f : F)
      (new : List (K × V)) (last : F) : Type 0 where
    pub values : List V
    pub each : RewritesEach f (values_of eq old k) values last
    pub pairs : new ≡ with_values_at old (positions_of eq old k) values
