-- How a command is spelled as a line, and how a text is cut into lines.
use Rattle.std.specs.Prelude.{◌≡◌, ◌⊎◌, ◌==◌, ℕ, ◌+◌, ◌<◌, ◌^◌, ℤ, FitsSigned, cond, IsTrue}
use Rattle.std.specs.Prelude.{List, [], ◌∷◌, ◌++◌, length, map, codes}
use mathlib.Core.Logic.{inl, inr}
use Rattle.std.specs.Int.{w64}
use Rattle.std.specs.Fmt.{decimal, signed_decimal}
use Rattle.std.specs.List.{AllByRecursion, AllZip, flat_map}
use Rattle.ordered_multimap.specs.End.{End}
use Rattle.ordered_multimap.specs.End.TheVariants.{Front, Back}
use Rattle.ordered_multimap.specs.Pairs.{has_items}
use Rattle.multimap_tool.specs.declared.commands.Ends.TheVariants.{Forward, Word}
use Rattle.multimap_tool.specs.declared.commands.Command.{Command}
use Rattle.multimap_tool.specs.declared.commands.Command.TheVariants as commands
use Rattle.multimap_tool.specs.declared.commands.Command.TheVariants.{Append, Insert, InsertAll}
use Rattle.multimap_tool.specs.declared.commands.Command.TheVariants.{SetFirst, SetFront, SetBack}
use Rattle.multimap_tool.specs.declared.commands.Command.TheVariants.{OrInsert}
use Rattle.multimap_tool.specs.declared.commands.Command.TheVariants.{Get, All, Has, Len}
use Rattle.multimap_tool.specs.declared.commands.Command.TheVariants.{Remove, RemoveAll}
use Rattle.multimap_tool.specs.declared.commands.Command.TheVariants.{RemoveEntry, RemoveEntryAll}
use Rattle.multimap_tool.specs.declared.commands.Command.TheVariants.{RemoveAt}
use Rattle.multimap_tool.specs.declared.commands.Command.TheVariants.{PopFront, PopBack, Clear}
use Rattle.multimap_tool.specs.declared.commands.Command.TheVariants.{Retain, Reserve, PackToFit}
use Rattle.multimap_tool.specs.declared.commands.Command.TheVariants.{Swap, Json, Json2}
use Rattle.multimap_tool.specs.declared.commands.Command.TheVariants.{Pairs, Keys, Values, KeyLists}
use Rattle.multimap_tool.specs.declared.commands.Command.TheVariants.{Lengths}

-- the letters f and b
abbrev pub letter_of : End → ℕ
letter_of Front = 102
letter_of Back = 98

-- an operand: a key, a value, or the letters of a walk
abbrev pub Operand : Type 0
Operand = ℕ ⊎ (ℤ ⊎ List End)

abbrev pub key_operand : ℕ → Operand
key_operand k = inl k

abbrev pub value_operand : ℤ → Operand
value_operand v = inr (inl v)

abbrev pub word_operand : List End → Operand
word_operand word = inr (inr word)

-- its text, numbers in decimal
abbrev pub operand_text : Operand → List ℕ
operand_text (inl k) = decimal k
operand_text (inr (inl v)) = signed_decimal v
operand_text (inr (inr word)) = map letter_of word

-- a key has 32 bits, a value 64 with its sign, and a walk one letter or more
abbrev pub FitsOperand : Operand → Type 0
FitsOperand (inl k) = k < 2 ^ 32
FitsOperand (inr (inl v)) = FitsSigned w64 v
FitsOperand (inr (inr word)) = IsTrue (has_items word)

module _ {A : Type 0} where
  -- the word that a line begins with, and the operands that follow it
  abbrev pub shape_of : Command ℕ ℤ A → List ℕ × List Operand
  shape_of (Append k v) = (codes "append", key_operand k ∷ value_operand v ∷ [])
  shape_of (Insert k v) = (codes "insert", key_operand k ∷ value_operand v ∷ [])
  shape_of (InsertAll k v) = (codes "insertall", key_operand k ∷ value_operand v ∷ [])
  shape_of (SetFirst k v) = (codes "setfirst", key_operand k ∷ value_operand v ∷ [])
  shape_of (SetFront v) = (codes "setfront", value_operand v ∷ [])
  shape_of (SetBack v) = (codes "setback", value_operand v ∷ [])
  shape_of (OrInsert k v) = (codes "orinsert", key_operand k ∷ value_operand v ∷ [])
  shape_of (Get k) = (codes "get", key_operand k ∷ [])
  shape_of (All k Forward) = (codes "all", key_operand k ∷ [])
  shape_of (All k (Word word)) = (codes "walk", key_operand k ∷ word_operand word.items ∷ [])
  shape_of (Has k) = (codes "has", key_operand k ∷ [])
  shape_of (Len k) = (codes "len", key_operand k ∷ [])
  shape_of commands.Front = (codes "front", [])
  shape_of commands.Back = (codes "back", [])
  shape_of (Remove k) = (codes "remove", key_operand k ∷ [])
  shape_of (RemoveAll k) = (codes "removeall", key_operand k ∷ [])
  shape_of (RemoveEntry k) = (codes "removeentry", key_operand k ∷ [])
  shape_of (RemoveEntryAll k) = (codes "removeentryall", key_operand k ∷ [])
  shape_of (RemoveAt k i) = (codes "removeat", key_operand k ∷ key_operand i ∷ [])
  shape_of PopFront = (codes "popfront", [])
  shape_of PopBack = (codes "popback", [])
  shape_of (Retain v) = (codes "retain", value_operand v ∷ [])
  shape_of (Reserve a b) = (codes "reserve", key_operand a ∷ key_operand b ∷ [])
  shape_of Clear = (codes "clear", [])
  shape_of PackToFit = (codes "packtofit", [])
  shape_of Swap = (codes "swap", [])
  shape_of Json = (codes "json", [])
  shape_of Json2 = (codes "json2", [])
  shape_of (Pairs Forward) = (codes "pairs", [])
  shape_of (Pairs (Word word)) = (codes "walkpairs", word_operand word.items ∷ [])
  shape_of (Keys Forward) = (codes "keys", [])
  shape_of (Keys (Word word)) = (codes "walkkeys", word_operand word.items ∷ [])
  shape_of (Values Forward) = (codes "values", [])
  shape_of (Values (Word word)) = (codes "walkvalues", word_operand word.items ∷ [])
  shape_of KeyLists = (codes "lists", [])
  shape_of Lengths = (codes "lengths", [])

  abbrev pub name_of : Command ℕ ℤ A → List ℕ
  name_of command = (shape_of command).0

  abbrev pub operands_of : Command ℕ ℤ A → List Operand
  operands_of command = (shape_of command).1

  -- the line of a command: its word, and each operand after one space
  abbrev pub spelling_of : Command ℕ ℤ A → List ℕ
  spelling_of command =
      name_of command ++ flat_map (λ text. 32 ∷ text) (map operand_text (operands_of command))

  -- the line spells the command
  pub record Spells (command : Command ℕ ℤ A) (line : List ℕ) : Type 0 where
    pub spellable : AllByRecursion FitsOperand (operands_of command)
    pub spelling : line ≡ spelling_of command

  -- the commands are what the lines spell, in order
  abbrev pub SpellEach : List (Command ℕ ℤ A) → List (List ℕ) → Type 0
  SpellEach commands lines = AllZip Spells commands lines

-- a line is bad if it spells no command
abbrev pub IsBadLine : (A : Type 0) → List ℕ → Type 0
IsBadLine A line = (command : Command ℕ ℤ A) → ¬ (Spells command line)

-- line n, counted from 1, is bad, and those before it spell commands
pub record IsFirstBadLine (A : Type 0) (lines : List (List ℕ)) (n : ℕ) : Type 0 where
  pub before : List (List ℕ)
  pub line : List ℕ
  pub after : List (List ℕ)
  pub commands : List (Command ℕ ℤ A)
  pub parts : lines ≡ before ++ line ∷ after
  pub number : n ≡ length before + 1
  pub good : SpellEach commands before
  pub bad : IsBadLine A line

-- the byte goes to the front of the first line
abbrev pub onto_first_line : ℕ → List (List ℕ) → List (List ℕ)
onto_first_line byte [] = (byte ∷ []) ∷ []
onto_first_line byte (line ∷ lines) = (byte ∷ line) ∷ lines

-- the pieces of a text that a line feed ends, and what is behind the last one unless that is empty
abbrev pub lines_of : List ℕ → List (List ℕ)
lines_of [] = []
lines_of (byte ∷ bytes) =
    cond (byte == 10) ([] ∷ lines_of bytes) (onto_first_line byte (lines_of bytes))
