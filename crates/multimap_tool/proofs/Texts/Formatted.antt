-- Texts that go on by one reply, or by one item of a list.
use Rattle.std.proofs.Common.{◌≡◌, List, [], ◌∷◌, ◌++◌, ℕ, ◌+◌, ◌<◌, ◌≤◌, length, drop, get_or, map, refl, sym, ap, ◌∙◌}
use Rattle.std.specs.Prelude.{ℤ}
use Rattle.std.proofs.lemmas.List.{append-nil, append_assoc, drop_more, drop_all}
use Rattle.std.specs.List.{flat_map, join_with_byte}
use Rattle.multimap_tool.specs.declared.replies.Reply.{Reply}
use Rattle.multimap_tool.specs.Texts.{reply_text, text_of}

module _ {X : Type 0} (text : X → List ℕ) (c : ℕ) where
  -- the first item, and each other one after the separator
  join_items : (item : X) (items : List X) → join_with_byte c (map text (item ∷ items)) ≡ text item ++ flat_map (λ i. c ∷ text i) items
  join_items item [] = sym (append-nil (text item))
  join_items item (next ∷ items) = ap (λ rest. text item ++ (c ∷ rest)) (join_items next items)

  -- what stands before a list, its first item, and its others
  pub list_after : (front : List ℕ) (items : List X) (item : X) (others : List X) (so_far : List ℕ)
      → items ≡ item ∷ others → so_far ≡ front ++ text item
      → so_far ++ flat_map (λ i. c ∷ text i) others ≡ front ++ join_with_byte c (map text items)
  list_after front items item others so_far parts pushed =
      rw (parts, pushed, append_assoc, join_items) refl

  -- the next item goes behind a separator
  pub items_on : (others : List X) (i : ℕ) (item : X) (front all : List ℕ) → i < length others → item ≡ get_or others i item
      → front ++ flat_map (λ i. c ∷ text i) (drop i others) ≡ all
      → ((front ++ c ∷ []) ++ text item) ++ flat_map (λ i. c ∷ text i) (drop (i + 1) others) ≡ all
  items_on others i item front all inside is so_far =
      let next = drop_more others i item inside ∙ ap (λ x. x ∷ drop (i + 1) others) (sym is) in
      append_assoc (front ++ c ∷ []) _ _ ∙ append_assoc front (c ∷ []) _
      ∙ ap (λ rest. front ++ flat_map (λ i. c ∷ text i) rest) (sym next) ∙ so_far

  -- no item is left
  pub items_done : (others : List X) (i : ℕ) (front all : List ℕ) → length others ≤ i
      → front ++ flat_map (λ i. c ∷ text i) (drop i others) ≡ all → front ≡ all
  items_done others i front all ended so_far =
      sym (append-nil front) ∙ ap (λ rest. front ++ flat_map (λ i. c ∷ text i) rest) (sym (drop_all i others ended)) ∙ so_far

module _ {A : Type 0} where
  -- the next reply and its line feed go to the end
  pub replies_on : (replies : List (Reply ℕ ℤ A)) (i : ℕ) (reply : Reply ℕ ℤ A) (front all : List ℕ) → i < length replies
      → reply ≡ get_or replies i reply
      → front ++ text_of (drop i replies) ≡ all → ((front ++ reply_text reply) ++ 10 ∷ []) ++ text_of (drop (i + 1) replies) ≡ all
  replies_on replies i reply front all inside is so_far =
      let rest = text_of (drop (i + 1) replies) in
      let next = drop_more replies i reply inside ∙ ap (λ r. r ∷ drop (i + 1) replies) (sym is) in
      append_assoc (front ++ reply_text reply) (10 ∷ []) rest ∙ append_assoc front (reply_text reply) (10 ∷ rest)
      ∙ ap (λ t. front ++ t) (sym (append_assoc (reply_text reply) (10 ∷ []) rest))
      ∙ ap (λ rs. front ++ text_of rs) (sym next) ∙ so_far

  -- no reply is left
  pub replies_done : (replies : List (Reply ℕ ℤ A)) (i : ℕ) (front all : List ℕ) → length replies ≤ i
      → front ++ text_of (drop i replies) ≡ all → front ≡ all
  replies_done replies i front all ended so_far =
      sym (append-nil front) ∙ ap (λ rs. front ++ text_of rs) (sym (drop_all i replies ended)) ∙ so_far
