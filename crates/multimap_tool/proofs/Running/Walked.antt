-- Walks that go on by one item, and when a walk lists an item.
use Rattle.std.proofs.Common.{◌≡◌, ℕ, ◌+◌, ◌<◌, ◌≤◌, true, false, Option, List, [], ◌∷◌, ◌++◌, length, drop, get_or, refl, sym, ap, ◌∙◌}
use Rattle.std.proofs.Common.{arith}
use Rattle.std.specs.Prelude.{slice_get}
use Rattle.std.proofs.lemmas.List.{append_assoc, append-nil, drop_more, drop_all}
use Rattle.std.specs.Bool.{IsTrue}
use Rattle.ordered_multimap.specs.End.{End}
use Rattle.ordered_multimap.specs.Pairs.{has_items}
use Rattle.ordered_multimap.specs.Walk.{end_item, end_rest, answers_of_walk, forward}
use Rattle.multimap_tool.specs.Step.{ListsItem}

module _ {X : Type 0} where
  -- what isn't empty has an item
  pub has_items-length : (items : List X) → (length items ≡ 0 → false ≡ true) → IsTrue (has_items items)
  has_items-length [] some = some refl
  has_items-length (x ∷ items) some = refl

  -- a walk answers each letter
  pub ListsItem-word : (items : List X) (word : List End) → IsTrue (has_items word) → ListsItem (answers_of_walk items word)
  ListsItem-word items [] some = some
  ListsItem-word items (end ∷ word) some = refl

  -- one letter more
  pub word_on : (items : List X) (word : List End) (taken all : List (Option X)) (i : ℕ) (end : End) → i < length word
      → taken ++ answers_of_walk items (drop i word) ≡ all
      → (taken ++ end_item (get_or word i end) items ∷ []) ++ answers_of_walk (end_rest (get_or word i end) items) (drop (i + 1) word) ≡ all
  word_on items word taken all i end inside so_far =
      append_assoc taken _ _ ∙ ap (λ rest. taken ++ answers_of_walk items rest) (sym (drop_more word i end inside)) ∙ so_far

  -- no letter is left
  pub word_done : (items : List X) (word : List End) (taken all : List (Option X)) (i : ℕ) → length word ≤ i
      → taken ++ answers_of_walk items (drop i word) ≡ all → taken ≡ all
  word_done items word taken all i ended so_far =
      sym (append-nil taken) ∙ ap (λ rest. taken ++ answers_of_walk items rest) (sym (drop_all i word ended)) ∙ so_far

  -- one item more
  pub forward_on : (items : List X) (taken all : List (Option X)) → 0 < length items
      → taken ++ answers_of_walk items (forward items) ≡ all
      → (taken ++ slice_get items 0 ∷ []) ++ answers_of_walk (drop 1 items) (forward (drop 1 items)) ≡ all
  forward_on [] taken all some so_far = absurd (omega (arith, some))
  forward_on (x ∷ items) taken all some so_far = append_assoc taken _ _ ∙ so_far

  pub one_less : (items : List X) (n count : ℕ) → 0 < length items → n + length items ≡ count → n + 1 + length (drop 1 items) ≡ count
  one_less [] n count some left = absurd (omega (arith, some))
  one_less (x ∷ items) n count some left = omega (arith, left)

  -- no item is left
  pub forward_done : (items : List X) (taken all : List (Option X)) → length items ≡ 0
      → taken ++ answers_of_walk items (forward items) ≡ all → taken ≡ all
  forward_done [] taken all ended so_far = sym (append-nil taken) ∙ so_far
  forward_done (x ∷ items) taken all ended so_far = absurd (omega (arith, ended))
