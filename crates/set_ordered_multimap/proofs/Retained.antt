-- What a retain leaves of a set, and which calls of its function there are.
use Rattle.std.proofs.Common.{◌≡◌, Bool, true, false, cond, List, [], ◌∷◌, filter, sym, ap, ◌∙◌, subst}
use Rattle.std.proofs.lemmas.List.{map-id}
use Rattle.std.specs.Borrow.{MutBor}
use Rattle.std.specs.Fn.{Mut}
use Rattle.std.specs.List.{AllByRecursion, FoldsTo, IsDistinct}
use Rattle.std.specs.Map.Calls.{CallableOnEachPair, SomeCallAtPair}
use Rattle.ordered_multimap.proofs.Callers.Retained.{retained_stepwise}
use Rattle.ordered_multimap.specs.Retain.{AsksIf, AsksValue, MayAskEach, MayAskValue, Retains, SomeAnswer}
use Rattle.set_ordered_multimap.specs.Asked.{AlwaysTells, AsksOfAccepted, AsksWhere}

module _ {F K V : Type 0} (calls : F → K → V → Bool → V → F → Type 0) where
  -- a function of which something holds that each call keeps, and by which it may be called
  pub callable : (may : F → K → V → Type 0) (holds : F → Type 0) → ((f : F) (k : K) (v : V) → holds f → may f k v)
      → ((f : F) (k : K) (v : V) (b : Bool) (w : V) (g : F) → holds f → calls f k v b w g → holds g)
      → (f : F) (pairs : List (K × V)) → holds f → CallableOnEachPair calls may f pairs
  callable may holds asks keeps f pairs held = record { at = λ before after g k v e folds. asks g k v (along before f g held folds) }
    where
      along : (before : List (K × V)) (f g : F) → holds f → FoldsTo (SomeCallAtPair calls) f before g → holds g
      along [] f g held same = subst holds same held
      along (p ∷ before) f g held (next, (b, w, called), later) =
          along before next g (keeps f p.0 p.1 b w next held called) later

  -- the same calls, as they are told of what is seen of the function
  pub Retains-seen : {G : Type 0} (told : G → K → V → Bool → V → G → Type 0) (see : F → G)
      → ((f : F) (k : K) (v : V) (b : Bool) (w : V) (g : F) → calls f k v b w g → told (see f) k v b w (see g))
      → (f : F) (old new : List (K × V)) (last : F) → Retains calls f old new last → Retains told (see f) old new (see last)
  Retains-seen told see tells f [] new last r = (r.0, ap see r.1)
  Retains-seen told see tells f (p ∷ old) new last (b, w, next, rest, called, later, is) =
      (b, w, see next, rest, tells f p.0 p.1 b w next called, Retains-seen told see tells next old rest last later, is)

  module _ (same : (f : F) (k : K) (v : V) (b : Bool) (w : V) (g : F) → calls f k v b w g → w ≡ v) where
    -- what holds of all pairs holds of those that stay
    All-retained : (P : K × V → Type 0) (f : F) (old new : List (K × V)) (last : F) → Retains calls f old new last
        → AllByRecursion P old → AllByRecursion P new
    All-retained P f [] new last r all = subst (AllByRecursion P) (sym r.0) tt
    All-retained P f (p ∷ old) new last (b, w, next, rest, called, later, is) all =
        let others : AllByRecursion P rest = All-retained P next old rest last later all.1 in
        let first : P (p.0, w) = subst (λ u. P (p.0, u)) (sym (same f p.0 p.1 b w next called)) all.0 in
        subst (AllByRecursion P) (sym is) (elim b as (λ c. AllByRecursion P (cond c ((p.0, w) ∷ rest) rest)) [
          | true ↦ (first, others)
          | false ↦ others
        ])

    -- so of pairs that differ those that stay do
    pub IsDistinct-retained : (eq : K × V → K × V → Bool) (f : F) (old new : List (K × V)) (last : F) → Retains calls f old new last
        → IsDistinct eq old → IsDistinct eq new
    unfolding IsDistinct
    IsDistinct-retained eq f [] new last r distinct = subst (IsDistinct eq) (sym r.0) tt
    IsDistinct-retained eq f (p ∷ old) new last (b, w, next, rest, called, later, is) distinct =
        let others : IsDistinct eq rest = IsDistinct-retained eq next old rest last later distinct.1 in
        let apart : AllByRecursion (λ y. eq (p.0, w) y ≡ false) rest = All-retained (λ y. eq (p.0, w) y ≡ false) next old rest last later
        (subst (λ u. AllByRecursion (λ y. eq (p.0, u) y ≡ false) old) (sym (same f p.0 p.1 b w next called)) distinct.0) in
        subst (IsDistinct eq) (sym is) (elim b as (λ c. IsDistinct eq (cond c ((p.0, w) ∷ rest) rest)) [
          | true ↦ (apart, others)
          | false ↦ others
        ])

-- A function that is called on the values of some keys alone.
module _ {F V : Type 0} (g : Mut F (MutBor V × Unit {0}) (Bool × (MutBor V × Unit {0}))) where
  -- one of which something holds that each call keeps may be called on each value
  pub callable_values : (holds : F → Type 0) → ((f : F) (v : V) → holds f → MayAskValue g f v)
      → ((f : F) (v : V) (b : Bool) (w : V) (next : F) → holds f → AsksValue g f v b w next → holds next)
      → (f : F) (values : List V) → holds f → MayAskEach g f values
  callable_values holds asks keeps f values held = record { at = λ before after next v e folds. asks next v (along before f next held folds) }
    where
      along : (before : List V) (f next : F) → holds f → FoldsTo (SomeAnswer g) f before next → holds next
      along [] f next held same = subst holds same held
      along (v ∷ before) f next held (h, (b, w, called), later) = along before h next (keeps f v b w h held called) later

  -- the same calls, as they are told of what is seen of the function
  pub asks_seen : {G : Type 0} (asked : G → V → Bool → G → Type 0) (see : F → G)
      → ((f : F) (v : V) (b : Bool) (w : V) (next : F) → AsksValue g f v b w next → asked (see f) v b (see next) × (w ≡ v))
      → (a : Bool) (f : F) (v : V) (b : Bool) (w : V) (next : F) → AsksIf g a f v b w next → AsksWhere asked a (see f) v b w (see next)
  asks_seen asked see tells true f v b w next called = tells f v b w next called
  asks_seen asked see tells false f v b w next none = (none.0, none.1, ap see none.2)

module _ {F V : Type 0} (asked : F → V → Bool → F → Type 0) where
  pub value_stays : (a : Bool) (f : F) (v : V) (b : Bool) (w : V) (next : F) → AsksWhere asked a f v b w next → w ≡ v
  value_stays true f v b w next called = called.1
  value_stays false f v b w next none = none.1

  module _ {K : Type 0} (accepts : K → Bool) (keep : V → Bool) (f : F) (always : AlwaysTells asked f keep) where
    tells : (a : Bool) (v : V) (b : Bool) (w : V) (next : F) → AsksWhere asked a f v b w next
        → (b ≡ cond a (keep v) true) × (w ≡ v) × (next ≡ f)
    tells true v b w next called = let told = always v b next called.0 in (told.0, called.1, told.1)
    tells false v b w next none = none

    -- one whose answers depend on the value alone filters the pairs of these keys
    pub filters_accepted : (old new : List (K × V)) (last : F) → Retains (AsksOfAccepted asked accepts) f old new last
        → new ≡ filter (λ p. cond (accepts p.0) (keep p.1) true) old
    filters_accepted old new last r =
        retained_stepwise (AsksOfAccepted asked accepts) (λ k v. cond (accepts k) (keep v) true) (λ k v. v) f
        (λ k v b w next called. tells (accepts k) v b w next called) old new last r
        ∙ map-id (filter (λ p. cond (accepts p.0) (keep p.1) true) old)
