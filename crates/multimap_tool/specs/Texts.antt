-- The text of replies.
use Rattle.std.specs.Prelude.{ℕ, ℤ, true, false, cond, Option, None, Some}
use Rattle.std.specs.Prelude.{List, [], ◌∷◌, ◌++◌, map, codes}
use Rattle.std.specs.Fmt.{decimal, signed_decimal}
use Rattle.std.specs.List.{flat_map, join_with_byte}
use Rattle.multimap_tool.specs.declared.replies.Popped.{Popped}
use Rattle.multimap_tool.specs.declared.replies.Reply.{Reply}
use Rattle.multimap_tool.specs.declared.replies.Reply.TheVariants.{NoMemory, Done, Appended, Truth}
use Rattle.multimap_tool.specs.declared.replies.Reply.TheVariants.{Count, Counts, Value, Old, Pair}
use Rattle.multimap_tool.specs.declared.replies.Reply.TheVariants.{Values, Keys, Pairs, Lists}
use Rattle.multimap_tool.specs.declared.replies.Reply.TheVariants as replies

-- a pair: its key, a colon and its value
abbrev pub pair_text : ℕ × ℤ → List ℕ
pair_text p = decimal p.0 ++ codes ":" ++ signed_decimal p.1

-- a value that was replaced
abbrev pub old_text : ℤ → List ℕ
old_text v = codes "old " ++ signed_decimal v

-- whether the key is the caller's now, then the pair
abbrev pub popped_text : Popped ℕ ℤ → List ℕ
popped_text p =
    cond p.owned (codes "owned ") (codes "borrowed ")
    ++ decimal p.key ++ codes " " ++ signed_decimal p.value

-- a key, an equals sign, and its values with a comma between each two
abbrev pub entry_text : ℕ → List ℤ → List ℕ
entry_text k values = decimal k ++ codes "=" ++ join_with_byte 44 (map signed_decimal values)

module _ {X : Type 0} (text : X → List ℕ) where
  -- what was found, or the word for none
  abbrev pub text_of_option : Option X → List ℕ
  text_of_option None = codes "none"
  text_of_option (Some x) = text x

  -- what a walk gave, or a dash where nothing remained
  abbrev pub text_of_item : Option X → List ℕ
  text_of_item None = codes "-"
  text_of_item (Some x) = text x

  -- items with one space between each two
  abbrev pub list_text : List X → List ℕ
  list_text [] = codes "empty"
  list_text (item ∷ items) = join_with_byte 32 (map text (item ∷ items))

module _ {A : Type 0} where
  abbrev pub reply_text : Reply ℕ ℤ A → List ℕ
  reply_text NoMemory = codes "no memory"
  reply_text Done = codes "done"
  reply_text (Appended true) = codes "more"
  reply_text (Appended false) = codes "new"
  reply_text (Truth true) = codes "yes"
  reply_text (Truth false) = codes "no"
  reply_text (Count count) = decimal count
  reply_text (Counts keys pairs) = decimal keys ++ codes " " ++ decimal pairs
  reply_text (Value value) = text_of_option signed_decimal value
  reply_text (Old value) = text_of_option old_text value
  reply_text (Pair pair) = text_of_option pair_text pair
  reply_text (replies.Popped pair) = text_of_option popped_text pair
  reply_text (Values values) = list_text (text_of_item signed_decimal) values.items
  reply_text (Keys keys) = list_text (text_of_item decimal) keys.items
  reply_text (Pairs pairs) = list_text (text_of_item pair_text) pairs.items
  reply_text (replies.List list) =
      text_of_option (λ entry. entry_text entry.0 entry.1.items) list
  reply_text (Lists lists) = list_text (λ entry. entry_text entry.0 entry.1.items) lists.items

  -- each reply on a line of its own, which a line feed ends
  abbrev pub text_of : List (Reply ℕ ℤ A) → List ℕ
  text_of replies = flat_map (λ reply. reply_text reply ++ 10 ∷ []) replies
