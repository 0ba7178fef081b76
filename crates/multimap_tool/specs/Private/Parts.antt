-- Words of the parser's own functions. No public clause cites this module.
use Rattle.std.specs.Prelude.{◌≡◌, ◌≢◌, ◌⊎◌, ◌<◌, ◌≤◌, ◌^◌, ℕ, ℤ, pos, nat_eq, FitsSigned, false}
use Rattle.std.specs.Prelude.{IsTrue, List, length, slice_index, map, Option, MatchOption}
use Rattle.std.specs.List.{list_any}
use Rattle.std.specs.Int.{w64}
use Rattle.std.specs.Fmt.{decimal, signed_decimal}
use Rattle.ordered_multimap.specs.End.{End}
use Rattle.ordered_multimap.specs.Pairs.{has_items}
use Rattle.multimap_tool.specs.declared.commands.Command.{Command}
use Rattle.multimap_tool.specs.Spelling.{Operand, letter_of, name_of, operands_of}
use Rattle.multimap_tool.specs.Spelling.{Spells, IsBadLine}

-- the byte stands nowhere in the text
abbrev pub IsWithout : ℕ → List ℕ → Type 0
IsWithout byte text = list_any (nat_eq byte) text ≡ false

-- the command that the line spells, or none if it is bad
abbrev pub IsReadingOf : {A : Type 0} → List ℕ → Option (Command ℕ ℤ A) → Type 0
IsReadingOf {A} line found = MatchOption found (IsBadLine A line) (λ command. Spells command line)

-- the command has this word and these operands
pub record IsCommandOf {A : Type 0} (name : List ℕ) (operands : List Operand)
    (command : Command ℕ ℤ A) : Type 0 where
  pub name_is : name_of command ≡ name
  pub operands_are : operands_of command ≡ operands

-- the command of this word and these operands, or none if there is none
abbrev pub IsFoundFor : {A : Type 0} → List ℕ → List Operand → Option (Command ℕ ℤ A) → Type 0
IsFoundFor {A} name operands found =
    MatchOption found ((command : Command ℕ ℤ A) → ¬ (IsCommandOf name operands command))
    (IsCommandOf name operands)

-- a digit comes first, and a zero only alone
pub record StartsANumber (text : List ℕ) : Type 0 where
  pub some : 0 < length text
  pub least : 48 ≤ slice_index text 0
  pub greatest : slice_index text 0 ≤ 57
  pub alone : slice_index text 0 ≡ 48 → length text ≡ 1

-- a minus sign comes first, and then a digit that is no zero
pub record StartsBelowZero (text : List ℕ) : Type 0 where
  pub some : 1 < length text
  pub sign : slice_index text 0 ≡ 45
  pub least : 49 ≤ slice_index text 1
  pub greatest : slice_index text 1 ≤ 57

abbrev pub StartsAValue : List ℕ → Type 0
StartsAValue text = StartsANumber text ⊎ StartsBelowZero text

-- the key that the text spells, or none if there is none
abbrev pub IsKeyIn : List ℕ → Option ℕ → Type 0
IsKeyIn text found =
    MatchOption found ((k : ℕ) → k < 2 ^ 32 → decimal k ≢ text) (λ k. decimal k ≡ text)

-- the key that the number is, or none if it is below 0 or has more than 32 bits
abbrev pub IsKeyOf : ℤ → Option ℕ → Type 0
IsKeyOf number found =
    MatchOption found ((k : ℕ) → k < 2 ^ 32 → pos k ≢ number) (λ k. pos k ≡ number)

-- the value that the text spells, or none if there is none
abbrev pub IsValueOf : List ℕ → Option ℤ → Type 0
IsValueOf text found = MatchOption found
    ((v : ℤ) → FitsSigned w64 v → signed_decimal v ≢ text) (λ v. signed_decimal v ≡ text)

-- the end that the letter spells, or none if there is none
abbrev pub IsEndOf : ℕ → Option End → Type 0
IsEndOf letter found =
    MatchOption found ((letter ≢ 102) × (letter ≢ 98)) (λ end. letter_of end ≡ letter)

-- letters that spell the text
pub record AreLettersOf (text : List ℕ) (word : List End) : Type 0 where
  pub spelled : map letter_of word ≡ text
  pub some : IsTrue (has_items word)

-- no letters spell the text
abbrev pub IsNoWord : List ℕ → Type 0
IsNoWord text = (word : List End) → ¬ (AreLettersOf text word)
