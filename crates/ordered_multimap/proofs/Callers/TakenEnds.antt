-- Lists with one item more at an end, and what a step at either end of an owned list gives and leaves.
use Rattle.std.proofs.Common.{◌≡◌, true, List, [], Option, Some, None, refl, sym, ap, ◌∙◌}
use Rattle.multimap_walks.proofs.Callers.Ends.{end_rest-none, end_rest-with}
use Rattle.multimap_walks.specs.declared.End.{End}
use Rattle.multimap_walks.specs.declared.End.TheVariants.{Front, Back}
use Rattle.multimap_walks.specs.Walk.{TakesEnd, end_item, end_rest, with_end}
use Rattle.ordered_multimap.specs.Pairs.{has_items}
use Rattle.ordered_multimap.proofs.Callers.Laws.{end_item-push, has_items-push}

module _ {X : Type 0} where
  pub end_item-with : (end : End) (x : X) (xs : List X) → end_item end (with_end end x xs) ≡ Some x
  end_item-with Front x xs = refl
  end_item-with Back x xs = end_item-push xs x

  pub has_items-with : (end : End) (x : X) (xs : List X) → has_items (with_end end x xs) ≡ true
  has_items-with Front x xs = refl
  has_items-with Back x xs = has_items-push xs x

  pub end_item-none : (end : End) → end_item end (let none : List X = [] in none) ≡ None
  end_item-none Front = refl
  end_item-none Back = refl

  -- the item at the end was given, and the others are left
  pub taken_item : (end : End) (old new : List X) (given : Option X) → TakesEnd end (λ x. x) old given new → given ≡ end_item end old
  taken_item end old new None takes = sym (ap (end_item end) takes.0 ∙ end_item-none end)
  taken_item end old new (Some x) takes = sym (ap (end_item end) takes ∙ end_item-with end x new)

  pub taken_rest : (end : End) (old new : List X) (given : Option X) → TakesEnd end (λ x. x) old given new → new ≡ end_rest end old
  taken_rest end old new None takes = takes.1 ∙ sym (ap (end_rest end) takes.0 ∙ end_rest-none end)
  taken_rest end old new (Some x) takes = sym (ap (end_rest end) takes ∙ end_rest-with end x new)
