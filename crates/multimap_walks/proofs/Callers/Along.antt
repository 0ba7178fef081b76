-- What a walk along the order of a list has left, and what a step at either end gives.
use Rattle.std.proofs.Common.{◌≡◌, ◌≢◌, ℕ, ◌+◌, ◌-◌, ◌<◌, List, [], length, Option, Some, IsSome, unwrap_or}
use Rattle.std.proofs.Common.{refl, sym, ap, ◌∙◌, subst, inl, inr, arith}
use Rattle.std.proofs.lemmas.Bool.{cases_eq}
use Rattle.multimap_slots.specs.Lists.{IsIn, AreDistinct, first_of, last_of, next_of, previous_of}
use Rattle.multimap_walks.specs.declared.End.{End}
use Rattle.multimap_walks.specs.declared.links.ChainEnds.{ChainEnds}
use Rattle.multimap_walks.specs.Along.{all_places, places_left, neighbour_of, AreLeft, items_left, IsAlong}
use Rattle.multimap_walks.specs.Ends.{end_place, ends_after}
use Rattle.multimap_walks.specs.Path.{path, IsPath}
use Rattle.multimap_walks.specs.Walk.{with_end}
use Rattle.multimap_walks.proofs.Callers.Ends.{end_stands, end_leaves, end_named, end_taken, length_after}
use Rattle.multimap_walks.proofs.Callers.Paths.{path_none, Leads-next_of, Leads-previous_of, is_own, path-is, length-path}

module _ (order : List ℕ) where
  abbrev listed : ℕ → Type 0
  listed place = IsIn place order

  -- at first the whole order is left
  pub all_left : AreDistinct order → AreLeft order (all_places order)
  all_left distinct = record {
    places = order;
    onward = Leads-next_of order distinct;
    backward = Leads-previous_of order distinct;
    first = is_own (first_of order);
    last = is_own (last_of order);
    count = refl;
    there = λ p member. member;
  }

  pub left_all : AreDistinct order → places_left order (all_places order) ≡ order
  unfolding all_left
  left_all distinct =
      path-is listed (next_of order) (previous_of order) (unwrap_or (first_of order) 0) (unwrap_or (last_of order) 0) (length order)
      (all_left distinct)

  module _ {X : Type 0} (item_of : ℕ → Option X) where
    -- as many items are shown as places are left
    pub length_along : (left : ChainEnds) → IsAlong order item_of left → length (items_left order item_of left) ≡ left.length
    length_along left walk =
        length-path item_of listed (next_of order) (previous_of order) left.first left.last left.length walk.are_left walk.shown

-- a step at either end of the places that are left
module _ (order : List ℕ) (left : ChainEnds) (more : left.length ≡ left.length - 1 + 1) (are_left : AreLeft order left) (end : End) where
  pub end_listed : IsIn (end_place end left) order
  end_listed = end_stands (listed order) (next_of order) (previous_of order) left more are_left end

  -- where another place is left, a step reaches it
  pub neighbour_stands : 0 < left.length - 1 → IsSome (neighbour_of order end (end_place end left))
  neighbour_stands some = end_named (listed order) (next_of order) (previous_of order) left more are_left some end

  module _ (place : ℕ) (told : place ≡ unwrap_or (neighbour_of order end (end_place end left)) (end_place end left)) where
    pub left_after : AreLeft order (ends_after end left place)
    left_after = end_leaves (listed order) (next_of order) (previous_of order) left more are_left place end (λ _. told)

    pub takes_end : places_left order left ≡ with_end end (end_place end left) (places_left order (ends_after end left place))
    takes_end = end_taken (listed order) (next_of order) (previous_of order) left more are_left place end (λ _. told)

  none_left : (rest : ChainEnds) → rest.length ≡ 0 → places_left order rest ≡ []
  none_left rest none = ap (path (next_of order) rest.first) none

  -- the same where the neighbour was asked for only if another place is left
  module _ (place : ℕ) (told : 0 < left.length - 1 → neighbour_of order end (end_place end left) ≡ Some place) where
    reached : left.length - 1 ≢ 0 → place ≡ unwrap_or (neighbour_of order end (end_place end left)) (end_place end left)
    reached some = ap (λ o. unwrap_or o (end_place end left)) (sym (told (omega (arith, some))))

    pub rest_left : AreLeft order (ends_after end left place)
    rest_left = elim (cases_eq (left.length - 1) 0) [
      | inl none ↦
          let rest = ends_after end left place in
          subst (IsPath (listed order) (next_of order) (previous_of order) rest.first rest.last) (sym (length_after end left place ∙ none))
          (path_none (listed order) (next_of order) (previous_of order) rest.first rest.last)
      | inr some ↦ left_after place (reached some)
    ]

    pub takes_one : places_left order left ≡ with_end end (end_place end left) (places_left order (ends_after end left place))
    takes_one = elim (cases_eq (left.length - 1) 0) [
      | inl none ↦
          let other = unwrap_or (neighbour_of order end (end_place end left)) (end_place end left) in
          takes_end other refl ∙ ap (with_end end (end_place end left))
          (none_left (ends_after end left other) (length_after end left other ∙ none)
          ∙ sym (none_left (ends_after end left place) (length_after end left place ∙ none)))
      | inr some ↦ takes_end place (reached some)
    ]
