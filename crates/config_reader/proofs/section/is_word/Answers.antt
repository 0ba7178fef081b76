use Rattle.std.proofs.Common.{◌≡◌, ℕ, Bool, true, false, ◌&&◌, ◌||◌, not, List, [], ◌∷◌, refl, rules, tests}
use Rattle.std.specs.List.{list_any}
use Rattle.std.proofs.lemmas.Iterator.{YieldsList-from_slice}
use Rattle.std.proofs.lemmas.Iterator.Search.{any_from_yields_List}
use Rattle.ordered_multimap.specs.Pairs.{has_items}
use Rattle.config_reader.specs.Sections.{is_outside_sub, is_sub, is_word, needs_quotes}
use Rattle.config_reader.proofs.section.is_word.Goals as goal

-- a list has an item of two kinds if it has one of either
any_or : (p q : ℕ → Bool) (xs : List ℕ) → list_any (λ x. p x || q x) xs ≡ (list_any p xs || list_any q xs)
any_or p q [] = refl
any_or p q (x ∷ xs) = rw (any_or p q xs) (four (p x) (q x) (list_any p xs) (list_any q xs))
  where
    four : (a b c d : Bool) → ((a || b) || (c || d)) ≡ ((a || c) || (b || d))
    four true b c d = refl
    four false true true d = refl
    four false true false d = refl
    four false false c d = refl

word_is_sub : (text : List ℕ) → (is_sub text && not (list_any needs_quotes text)) ≡ is_word text
word_is_sub text = rw (any_or is_outside_sub needs_quotes text)
    (three (has_items text) (list_any is_outside_sub text) (list_any needs_quotes text))
  where
    three : (a b c : Bool) → ((a && not b) && not c) ≡ (a && not (b || c))
    three true true c = refl
    three true false c = refl
    three false b c = refl

pub returns-then-is_sub : goal.returns-then-is_sub
returns-then-is_sub c =
    let text = c.args.text.now in
    let any : c.any.result ≡ list_any needs_quotes text =
    any_from_yields_List needs_quotes _ _ _ c.any.ensures.ran (YieldsList-from_slice text (search rules)) (λ x b q k. search (rules, tests)) in
    let sub : is_sub text ≡ true = search rules in
    rw (any, ← word_is_sub text, sub) refl

pub returns-else-is_sub : goal.returns-else-is_sub
returns-else-is_sub c =
    let sub : is_sub c.args.text.now ≡ false = search rules in
    rw (c.if-is_sub.false, ← word_is_sub c.args.text.now, sub) refl
