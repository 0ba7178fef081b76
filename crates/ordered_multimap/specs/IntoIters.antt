-- The pairs of a map that was taken apart, handed out one by one, each with its key or a clone.
use Rattle.std.specs.Prelude.{◌≡◌, ◌⊎◌, ℕ, List, [], length, Option, Some, None, MatchOption}
use Rattle.std.specs.Prelude.{Result, MatchResult}
use Rattle.std.specs.Map.{keys_of}
use Rattle.multimap_slots.specs.Lists.{IsIn}
use Rattle.multimap_slots.specs.Slots.{Slots, link_at}
use Rattle.multimap_walks.specs.Chained.{AreOwned, chain_of}
use Rattle.multimap_walks.specs.declared.End.{End}
use Rattle.multimap_walks.specs.declared.End.TheVariants.{Front, Back}
use Rattle.multimap_walks.specs.declared.links.KeyLink.{KeyLink}
use Rattle.multimap_walks.specs.declared.links.ValueLink.{ValueLink}
use Rattle.multimap_walks.specs.Walk.{end_item, end_rest}
use Rattle.ordered_multimap.specs.declared.list_ordered_multimap.refused.UnclonedKey.{UnclonedKey}

-- each value's key is listed, and its link has the number of its values that are left
pub record IsCounted {K V : Type 0} (keys : Slots K KeyLink) (values : Slots V ValueLink)
    : Type 0 where
  pub owned : AreOwned keys values
  pub length : (key : ℕ) (l : KeyLink) → IsIn key keys.order → link_at keys key ≡ Some l
      → length (chain_of values key) ≡ l.length

module _ {K V : Type 0} (is_clone : K → K → Type 0) (is_infallible : K → Type 0) where
  -- the stored key itself; or a clone of it, where another of its pairs is left
  abbrev pub IsKeyOf : List (K × V) → K → K → Type 0
  IsKeyOf left stored key = (key ≡ stored) ⊎ (IsIn stored (keys_of left) × is_clone stored key)

  -- the pair with such a key; or the value alone, where another pair of the key is left and a
  -- clone of the key may be refused
  abbrev pub IsHanded : List (K × V) → Result (K × V) (UnclonedKey V) → K × V → Type 0
  IsHanded left given pair =
      MatchResult given (λ g. IsKeyOf left pair.0 g.0 × (g.1 ≡ pair.1))
      (λ e. (e.value ≡ pair.1) × (IsIn pair.0 (keys_of left) × ¬ is_infallible pair.0))

  -- the pair at the end is handed out and the others are left; or none is left, and none was
  abbrev pub HandsOut : End → List (K × V) → Option (Result (K × V) (UnclonedKey V))
      → List (K × V) → Type 0
  HandsOut end old None new = (old ≡ []) × (new ≡ [])
  HandsOut end old (Some given) new =
      MatchOption (end_item end old) ⊥ (IsHanded new given) × (new ≡ end_rest end old)

  -- the first pair that is left, or the last
  abbrev pub HandsFirst : List (K × V) → Option (Result (K × V) (UnclonedKey V))
      → List (K × V) → Type 0
  HandsFirst = HandsOut Front

  abbrev pub HandsLast : List (K × V) → Option (Result (K × V) (UnclonedKey V))
      → List (K × V) → Type 0
  HandsLast = HandsOut Back
