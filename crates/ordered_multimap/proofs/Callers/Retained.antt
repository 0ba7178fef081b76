-- What a retain leaves, for callers: std's lemmas on what a `retain` of its maps leaves apply.
use Rattle.std.proofs.Common.{◌≡◌, Bool, true, false, cond, filter, map, List, [], ◌∷◌, refl, ap, ◌∙◌, subst}
use Rattle.std.specs.Borrow.{MutBor}
use Rattle.std.specs.Fn.{Mut}
use Rattle.std.specs.Map.Calls.{RetainsPairs}
use Rattle.ordered_multimap.specs.Changes.{kept}
use Rattle.ordered_multimap.specs.Keys.{keys_named_by}
use Rattle.ordered_multimap.specs.Lists.{Lists, lists}
use Rattle.ordered_multimap.specs.Retain.{AlwaysAnswers, AlwaysRetains, AsksAccepted, AsksIf, Retains, kept_stepwise}

module _ {F K V : Type 0} (calls : F → K → V → Bool → V → F → Type 0) where
  pub RetainsPairs-retains : (f : F) (old new : List (K × V)) (last : F) → Retains calls f old new last → RetainsPairs calls f old new
  RetainsPairs-retains f [] new last r = r.0
  RetainsPairs-retains f (p ∷ old) new last (b, w, next, rest, called, later, is) =
      (b, w, next, rest, called, RetainsPairs-retains next old rest last later, is)

-- both lists, by what is said of the keys
pub kept-named_by : {K V : Type 0} (eq : K → K → Bool) (old new : Lists K V) → new.keys ≡ keys_named_by eq old.keys new.pairs
    → new ≡ kept eq old new.pairs
kept-named_by eq old new keys = λ i. lists (keys i) new.pairs

-- by a function that stays as it was, calls are told without it
pub Retains-same : {F K V : Type 0} (calls : F → K → V → Bool → V → F → Type 0) (plain : K → V → Bool → V → Type 0) (f : F)
    → ((k : K) (v : V) (b : Bool) (w : V) (g : F) → calls f k v b w g → plain k v b w × (g ≡ f))
    → (old new : List (K × V)) (last : F) → Retains calls f old new last → Retains (λ s k v b w t. plain k v b w) (tt {0}) old new (tt {0})
Retains-same calls plain f tells [] new last r = (r.0, refl)
Retains-same calls plain f tells (p ∷ old) new last (b, w, next, rest, called, later, is) =
    let t = tells p.0 p.1 b w next called in
    (b, w, tt {0}, rest, t.0, Retains-same calls plain f tells old rest last (subst (λ g. Retains calls g old rest last) t.1 later), is)

module _ {F K V : Type 0} (calls : F → K → V → Bool → V → F → Type 0) (keep : K → V → Bool) (step : K → V → V) (f : F)
    (always : AlwaysRetains calls f keep step) where
  -- the pair is kept or not, as one of those that stay is
  kept_first : (b : Bool) (p : K × V) (pairs : List (K × V))
      → cond {A = List (K × V)} b ((p.0, step p.0 p.1) ∷ map (λ q. (q.0, step q.0 q.1)) pairs) (map (λ q. (q.0, step q.0 q.1)) pairs)
      ≡ map (λ q. (q.0, step q.0 q.1)) (cond b (p ∷ pairs) pairs)
  kept_first true p pairs = refl
  kept_first false p pairs = refl

  -- a function that keeps no state keeps the pairs that a test accepts
  pub retained_stepwise : (old new : List (K × V)) (last : F) → Retains calls f old new last → new ≡ kept_stepwise keep step old
  retained_stepwise [] new last r = r.0
  retained_stepwise (p ∷ old) new last (b, w, next, rest, called, later, is) =
      let tells = always p.0 p.1 b w next called in
      let more : rest ≡ kept_stepwise keep step old = retained_stepwise old rest last
      (subst (λ h. Retains calls h old rest last) tells.2 later) in
      is ∙ ap (λ c. cond c ((p.0, w) ∷ rest) rest) tells.0
      ∙ (λ i. cond {A = List (K × V)} (keep p.0 p.1) ((p.0, tells.1 i) ∷ more i) (more i))
      ∙ kept_first (keep p.0 p.1) p (filter (λ q. keep q.0 q.1) old)

module _ {F K V : Type 0} (g : Mut F (MutBor V × Unit {0}) (Bool × (MutBor V × Unit {0}))) (accepts : K → Bool) (keep : V → Bool)
    (step : V → V) (f : F) (always : AlwaysAnswers g f keep step) where
  asked : (b : Bool) (v : V) (c : Bool) (w : V) (next : F) → AsksIf g b f v c w next
      → (c ≡ cond b (keep v) true) × (w ≡ cond b (step v) v) × (next ≡ f)
  asked true v c w next called = always v c w next called
  asked false v c w next called = called

  -- the same of a function that is called on the values of some keys alone
  pub retained_of_some : (old new : List (K × V)) (last : F) → Retains (AsksAccepted g accepts) f old new last
      → new ≡ kept_stepwise (λ k v. cond (accepts k) (keep v) true) (λ k v. cond (accepts k) (step v) v) old
  retained_of_some = retained_stepwise (AsksAccepted g accepts) (λ k v. cond (accepts k) (keep v) true)
      (λ k v. cond (accepts k) (step v) v) f (λ k v b w next called. asked (accepts k) v b w next called)
