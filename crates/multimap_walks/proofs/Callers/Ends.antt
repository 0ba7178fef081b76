-- Lists with one item more at an end, and a step from either end of a path.
use Rattle.std.proofs.Common.{◌≡◌, ℕ, ◌+◌, ◌-◌, List, [], ◌∷◌, ◌++◌, length, map, Option, Some, unwrap_or, refl, inl, inr, arith}
use Rattle.std.proofs.Common.{◌<◌, IsSome}
use Rattle.std.specs.List.{filter_map}
use Rattle.std.proofs.lemmas.List.{map-append, length-append, take_at}
use Rattle.multimap_slots.specs.Lists.{IsIn, AreDistinct}
use Rattle.multimap_slots.proofs.Callers.PlaceLists.{IsIn-left, IsIn-right, AreDistinct-gone}
use Rattle.multimap_walks.specs.declared.End.{End}
use Rattle.multimap_walks.specs.declared.End.TheVariants.{Front, Back}
use Rattle.multimap_walks.specs.declared.links.ChainEnds.{ChainEnds}
use Rattle.multimap_walks.specs.Ends.{end_place, ends_after, step_from}
use Rattle.multimap_walks.specs.Path.{path, IsPath}
use Rattle.multimap_walks.specs.Walk.{end_rest, with_end}
use Rattle.multimap_walks.proofs.Callers.Paths.{front_stands, back_stands, front_rest, back_rest, front_taken, back_taken, shown_first}
use Rattle.multimap_walks.proofs.Callers.Paths.{shown_last, front_named, back_named}

module _ {X : Type 0} where
  pub end_rest-none : (end : End) → end_rest end (let none : List X = [] in none) ≡ []
  end_rest-none Front = refl
  end_rest-none Back = refl

  pub end_rest-with : (end : End) (x : X) (xs : List X) → end_rest end (with_end end x xs) ≡ xs
  end_rest-with Front x xs = refl
  end_rest-with Back x xs = take_at xs (x ∷ []) (length (xs ++ x ∷ []) - 1) (omega (arith, length-append xs (x ∷ [])))

  pub map-with : {Y : Type 0} (f : X → Y) (end : End) (x : X) (xs : List X)
      → map f (with_end end x xs) ≡ with_end end (f x) (map f xs)
  map-with f Front x xs = refl
  map-with f Back x xs = map-append f xs (x ∷ [])

  -- the item at the end, and the others, are in the list
  pub IsIn-end : (end : End) (x : X) (xs : List X) → IsIn x (with_end end x xs)
  IsIn-end Front x xs = inl refl
  IsIn-end Back x xs = IsIn-right x xs (x ∷ []) (inl refl)

  pub IsIn-rest : (end : End) (x y : X) (xs : List X) → IsIn y xs → IsIn y (with_end end x xs)
  IsIn-rest Front x y xs member = inr member
  IsIn-rest Back x y xs member = IsIn-left y xs (x ∷ []) member

  distinct_before : (xs ys : List X) → AreDistinct (xs ++ ys) → AreDistinct xs
  distinct_before [] ys distinct = tt
  distinct_before (x ∷ xs) ys distinct = (λ member. distinct.0 (IsIn-left x xs ys member), distinct_before xs ys distinct.1)

  -- of distinct items the others are distinct, and the item at the end is none of them
  pub AreDistinct-rest : (end : End) (x : X) (xs : List X) → AreDistinct (with_end end x xs) → AreDistinct xs
  AreDistinct-rest Front x xs distinct = distinct.1
  AreDistinct-rest Back x xs distinct = distinct_before xs (x ∷ []) distinct

  pub AreDistinct-end : (end : End) (x : X) (xs : List X) → AreDistinct (with_end end x xs) → IsIn x xs → ⊥
  AreDistinct-end Front x xs distinct member = distinct.0 member
  AreDistinct-end Back x xs distinct member = AreDistinct-gone xs x [] distinct (IsIn-left x xs [] member)

-- a step over places is one over what they show
pub shows_end : {X : Type 0} (item_of : ℕ → Option X) (end : End) (places : List ℕ) (p : ℕ) (rest : List ℕ) (x : X)
    → places ≡ with_end end p rest → item_of p ≡ Some x → filter_map item_of places ≡ with_end end x (filter_map item_of rest)
shows_end item_of Front places p rest x taken is = shown_first item_of places p rest x taken is
shows_end item_of Back places p rest x taken is = shown_last item_of places p rest x taken is

-- what is left once an end has moved to a place
pub place_after : (end : End) (left : ChainEnds) (place : ℕ) → end_place end (ends_after end left place) ≡ place
place_after Front left place = refl
place_after Back left place = refl

pub length_after : (end : End) (left : ChainEnds) (place : ℕ) → (ends_after end left place).length ≡ left.length - 1
length_after Front left place = refl
length_after Back left place = refl

module _ (stands : ℕ → Type 0) (next previous : ℕ → Option ℕ) (left : ChainEnds) (more : left.length ≡ left.length - 1 + 1)
    (walk : IsPath stands next previous left.first left.last left.length) where
  abbrev n : ℕ
  n = left.length - 1

  pub end_stands : (end : End) → stands (end_place end left)
  end_stands Front = front_stands stands next previous left.first left.last left.length n more walk
  end_stands Back = back_stands stands next previous left.first left.last left.length n more walk

  pub end_named : 0 < n → (end : End) → IsSome (step_from end next previous (end_place end left))
  end_named some Front = front_named stands next previous left.first left.last left.length n more walk some
  end_named some Back = back_named stands next previous left.first left.last left.length n more walk some

  module _ (place : ℕ) where
    abbrev AreAfter : End → Type 0
    AreAfter end =
        IsPath stands next previous (ends_after end left place).first (ends_after end left place).last (ends_after end left place).length

    abbrev IsTaken : End → Type 0
    IsTaken end = path next left.first left.length
        ≡ with_end end (end_place end left) (path next (ends_after end left place).first (ends_after end left place).length)

    abbrev IsNext : End → Type 0
    IsNext end = 0 < n → place ≡ unwrap_or (step_from end next previous (end_place end left)) (end_place end left)

    pub end_leaves : (end : End) → IsNext end → AreAfter end
    end_leaves Front told = front_rest stands next previous left.first left.last left.length n more walk place told
    end_leaves Back told = back_rest stands next previous left.first left.last left.length n more walk place told

    pub end_taken : (end : End) → IsNext end → IsTaken end
    end_taken Front told = front_taken stands next previous left.first left.last left.length n more walk place told
    end_taken Back told = back_taken stands next previous left.first left.last left.length n more walk place told
