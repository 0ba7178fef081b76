-- What an addition, a removal or a write makes of the two lists.
use Rattle.std.specs.Prelude.{Bool, not, List, [], ◌∷◌, ◌++◌, filter, map}
use Rattle.multimap_walks.specs.declared.End.{End}
use Rattle.ordered_multimap.specs.Lists.{Lists, lists, empty_lists}
use Rattle.ordered_multimap.specs.Pairs.{is_present, pairs_except, pairs_without}
use Rattle.ordered_multimap.specs.Pairs.{with_first_where}
use Rattle.ordered_multimap.specs.Pairs.{with_value_at, end_position}
use Rattle.ordered_multimap.specs.Keys.{stored_key, keys_with, keys_named_by}

-- the first value of the keys that a test accepts is v, where there is one
abbrev pub first_written_where : {K V : Type 0} → (K → Bool) → Lists K V → V → Lists K V
first_written_where accepts m v = lists m.keys (with_first_where accepts m.pairs v)

module _ {K : Type 0} (eq : K → K → Bool) {V : Type 0} where
  -- the pair goes last, under the stored key, and a new key goes last
  abbrev pub appended : Lists K V → K → V → Lists K V
  appended m k v = lists (keys_with eq m.keys k) (m.pairs ++ (stored_key eq m.keys k, v) ∷ [])

  -- the old pairs of the key go, and the pair goes last
  abbrev pub inserted : Lists K V → K → V → Lists K V
  inserted m k v = lists (keys_with eq m.keys k)
      (pairs_without eq m.pairs k ++ (stored_key eq m.keys k, v) ∷ [])

  -- only these pairs stay, and the keys that they name
  abbrev pub kept : Lists K V → List (K × V) → Lists K V
  kept m pairs = lists (keys_named_by eq m.keys pairs) pairs

  -- the pairs of the keys that a test accepts go
  abbrev pub removed_where : (K → Bool) → Lists K V → Lists K V
  removed_where accepts m = kept m (pairs_except accepts m.pairs)

  -- the pairs of the key go
  abbrev pub removed : Lists K V → K → Lists K V
  removed m k = removed_where (eq k) m

  -- the first value of the key is v, where it has one
  abbrev pub first_written : Lists K V → K → V → Lists K V
  first_written m k v = first_written_where (eq k) m v

  -- each pair is appended in turn
  abbrev pub all_appended : Lists K V → List (K × V) → Lists K V
  all_appended m [] = m
  all_appended m (p ∷ pairs) = all_appended (appended m p.0 p.1) pairs

  -- the pairs of the keys that these pairs have go, and each of these is appended in turn
  abbrev pub merged : Lists K V → List (K × V) → Lists K V
  merged m pairs = all_appended (lists m.keys (pairs_except (is_present eq pairs) m.pairs)) pairs

  -- what appending the pairs makes of the empty lists
  abbrev pub built_from : List (K × V) → Lists K V
  built_from pairs = all_appended empty_lists pairs

  -- the keys of the pairs, each only where no earlier pair has an equal one
  abbrev pub first_occurrences : List (K × V) → List K
  first_occurrences [] = []
  first_occurrences (p ∷ pairs) = p.0 ∷ filter (λ k. not (eq p.0 k)) (first_occurrences pairs)

module _ {K : Type 0} (eq : K → K → Bool) {V : Type 0} where
  -- the pairs, each with the listed key that equals its own
  abbrev pub under_listed : List K → List (K × V) → List (K × V)
  under_listed keys pairs = map (λ p. (stored_key eq keys p.0, p.1)) pairs

  -- the lists of these keys and of these pairs
  abbrev pub built_from_both : List K → List (K × V) → Lists K V
  built_from_both keys pairs = lists keys (under_listed keys pairs)

-- the value of the first or the last pair is v, where there is one
abbrev pub end_written : {K V : Type 0} → End → Lists K V → V → Lists K V
end_written end m v = lists m.keys (with_value_at m.pairs (end_position end m.pairs) v)
