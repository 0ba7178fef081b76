-- Lists of pairs in which no pair stands twice, under the keys' equality `eq` and the values'
-- equality `value_eq`, and what an insertion or a removal makes of them.
use Rattle.std.specs.Prelude.{Bool, not, cond, ◌&&◌, List, [], ◌∷◌, filter}
use Rattle.std.specs.List.{IsDistinct, list_any}
use Rattle.ordered_multimap.specs.Lists.{Lists}
use Rattle.ordered_multimap.specs.Changes.{appended, kept}

-- What the pairs say of a value of the keys that a test accepts, as a query does.
module _ {K V : Type 0} (accepts : K → Bool) (value_eq : V → V → Bool) where
  -- whether one of these keys has an equal value
  abbrev pub has_pair_where : List (K × V) → V → Bool
  has_pair_where pairs v = list_any (λ p. accepts p.0 && value_eq v p.1) pairs

  -- the pairs but those of these keys with an equal value
  abbrev pub pairs_but_where : List (K × V) → V → List (K × V)
  pairs_but_where pairs v = filter (λ p. not (accepts p.0 && value_eq v p.1)) pairs

module _ {K V : Type 0} (eq : K → K → Bool) (value_eq : V → V → Bool) where
  -- two pairs are equal if their keys are equal and their values are
  abbrev pub same_pair : K × V → K × V → Bool
  same_pair p q = eq p.0 q.0 && value_eq p.1 q.1

  -- whether an equal pair is listed
  abbrev pub has_pair : List (K × V) → K → V → Bool
  has_pair pairs k v = has_pair_where (eq k) value_eq pairs v

  -- no two pairs are equal
  abbrev pub IsSet : Lists K V → Type 0
  IsSet m = IsDistinct same_pair m.pairs

  -- a pair goes last, unless there is an equal one
  abbrev pub set_inserted : Lists K V → K → V → Lists K V
  set_inserted m k v = cond (has_pair m.pairs k v) m (appended eq m k v)

  -- the pair of the accepted keys with an equal value goes, if there is one, and a key that no pair
  -- names then
  abbrev pub value_removed_where : (K → Bool) → Lists K V → V → Lists K V
  value_removed_where accepts m v = cond (has_pair_where accepts value_eq m.pairs v)
      (kept eq m (pairs_but_where accepts value_eq m.pairs v)) m

  -- the equal pair goes, if there is one, and a key that no pair names then
  abbrev pub value_removed : Lists K V → K → V → Lists K V
  value_removed m k v = value_removed_where (eq k) m v

  -- each pair is inserted in turn
  abbrev pub all_inserted : Lists K V → List (K × V) → Lists K V
  all_inserted m [] = m
  all_inserted m (p ∷ pairs) = all_inserted (set_inserted m p.0 p.1) pairs

  -- the pairs, each only where no earlier one is equal
  abbrev pub first_pairs : List (K × V) → List (K × V)
  first_pairs [] = []
  first_pairs (p ∷ pairs) = p ∷ filter (λ q. not (same_pair p q)) (first_pairs pairs)
