-- Calls of a function that is lent a pair or a value for reading, or handed what a pop gives.
use Rattle.std.specs.Prelude.{◌≡◌, Bool, true, false, List, Option, option_map}
use Rattle.std.specs.Borrow.{Bor}
use Rattle.std.specs.Fn.{Called, Mut, Once}
use Rattle.ordered_multimap.specs.End.{End}
use Rattle.ordered_multimap.specs.PopAnswers.{popped_of}
use Rattle.ordered_multimap.specs.Popped.{popped_pair}
use Rattle.ordered_multimap.specs.declared.list_ordered_multimap.key_wrapper.KeyWrapper.{KeyWrapper}

module _ {F K V : Type 0} (g : Mut F (Bor K × (Bor V × Unit {0})) Bool) where
  -- a call of f at a `&` to k and one to v may return b, and leave f as next
  pub record AskedOnPair (f : F) (k : K) (v : V) (b : Bool) (next : F) : Type 0 where
    pub key : Bor K
    pub value : Bor V
    pub shows : (key.now ≡ k) × (value.now ≡ v)
    pub called : Called g f (key, (value, tt)) b next

  -- a call of f at a `&` to k and one to v may return b and leave f as next; w, the value after the
  -- call, is v
  abbrev pub AsksOnPair : F → K → V → Bool → V → F → Type 0
  AsksOnPair f k v b w next = AskedOnPair f k v b next × (w ≡ v)

module _ {F V : Type 0} (g : Mut F (Bor V × Unit {0}) Bool) where
  -- a call of f at a `&` to v may return b, and leave f as next
  pub record AskedOnValue (f : F) (v : V) (b : Bool) (next : F) : Type 0 where
    pub value : Bor V
    pub shows : value.now ≡ v
    pub called : Called g f (value, tt) b next

-- `asked f v b next` says that f, asked for v, may return b, and be left as next
module _ {F V : Type 0} (asked : F → V → Bool → F → Type 0) where
  -- f was asked where the key is accepted, and else not: the pair stays, and f is as it was; w, the
  -- value afterwards, is v
  abbrev pub AsksWhere : Bool → F → V → Bool → V → F → Type 0
  AsksWhere true f v b w next = asked f v b next × (w ≡ v)
  AsksWhere false f v b w next = (b ≡ true) × (w ≡ v) × (next ≡ f)

  -- f was asked for the values of the keys that a test accepts alone
  abbrev pub AsksOfAccepted : {K : Type 0} → (K → Bool) → F → K → V → Bool → V → F → Type 0
  AsksOfAccepted accepts f k v b w next = AsksWhere (accepts k) f v b w next

  -- each time that f is asked for v, it returns this, and is left as it was
  abbrev pub AlwaysTells : F → (V → Bool) → Type 0
  AlwaysTells f keep = (v : V) (b : Bool) (next : F) → asked f v b next
      → (b ≡ keep v) × (next ≡ f)

-- a pop at the end gives this
abbrev pub GivesPopped : {K V : Type 0} → (K → K → Bool) → End → List (K × V)
    → Option (KeyWrapper K × V) → Type 0
GivesPopped eq end pairs x = option_map popped_of x ≡ popped_pair eq end pairs

module _ {F K V R : Type 0} (g : Once F (Option (KeyWrapper K × V) × Unit {0}) R)
    (eq : K → K → Bool) (end : End) (pairs : List (K × V)) where
  -- f may be called on whatever a pop at the end gives
  abbrev pub TakesPopped : F → Type 0
  TakesPopped f = (x : Option (KeyWrapper K × V)) → GivesPopped eq end pairs x → g.pre f (x, tt)

  -- f was called on what a pop at the end gives, and returned r
  abbrev pub AnswersPopped : F → R → Type 0
  AnswersPopped f r =
      (x : Option (KeyWrapper K × V)) × GivesPopped eq end pairs x × g.post f (x, tt) r
