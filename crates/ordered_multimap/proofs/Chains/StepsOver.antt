-- A step over places at an end is one over the items that they show.
use Rattle.std.proofs.Common.{◌≡◌, ℕ, List, [], Option, Some, None, IsSome, refl, sym, ap, ◌∙◌}
use Rattle.std.specs.Prelude.{IfSome, option_and_then}
use Rattle.std.specs.List.{filter_map}
use Rattle.multimap_walks.specs.Walk.{end_item, end_rest, with_end, TakesEnd}
use Rattle.multimap_walks.specs.declared.End.{End}
use Rattle.multimap_walks.specs.declared.End.TheVariants.{Front, Back}
use Rattle.multimap_walks.proofs.Callers.Ends.{end_rest-none, end_rest-with, shows_end}
use Rattle.ordered_multimap.proofs.Callers.Laws.{end_item-push}

there : {X : Type 0} (o : Option X) → IsSome o → (x : X) × (o ≡ Some x)
there (Some x) some = (x, refl)
there None some = absurd (let e = some in cc)

module _ {X : Type 0} where
  end_item-none : (end : End) → end_item end (let none : List X = [] in none) ≡ None
  end_item-none Front = refl
  end_item-none Back = refl

  end_item-with : (end : End) (x : X) (xs : List X) → end_item end (with_end end x xs) ≡ Some x
  end_item-with Front x xs = refl
  end_item-with Back x xs = end_item-push xs x

module _ {X : Type 0} (item_of : ℕ → Option X) where
  -- the item at the end is that of the place, and the rest is left
  pub record StepsOver (end : End) (before after : List ℕ) (place : Option ℕ) : Type 0 where
    pub item : option_and_then item_of place ≡ end_item end (filter_map item_of before)
    pub rest : filter_map item_of after ≡ end_rest end (filter_map item_of before)

  pub over_end : (end : End) (before after : List ℕ) (place : Option ℕ) → IfSome place (λ p. IsSome (item_of p))
      → TakesEnd end (λ p. p) before place after → StepsOver end before after place
  over_end end before after None some taken = record {
    item = sym (ap (λ ps. end_item end (filter_map item_of ps)) taken.0 ∙ end_item-none end);
    rest = ap (filter_map item_of) taken.1 ∙ sym (ap (λ ps. end_rest end (filter_map item_of ps)) taken.0 ∙ end_rest-none end);
  }
  over_end end before after (Some p) some taken =
      let x = there (item_of p) some in
      let all = shows_end item_of end before p after x.0 taken x.1 in
      let xs = filter_map item_of after in
      record {
        item = x.1 ∙ sym (ap (end_item end) all ∙ end_item-with end x.0 xs);
        rest = sym (ap (end_rest end) all ∙ end_rest-with end x.0 xs);
      }
