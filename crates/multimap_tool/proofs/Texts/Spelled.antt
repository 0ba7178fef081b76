-- The commands that a line with given fields can spell.
use Rattle.std.proofs.Common.{◌≡◌, ◌⊎◌, inl, inr, Option, Some, None, subst, ℕ, ◌<◌, ◌≤◌, ◌^◌, List, [], ◌∷◌, ◌++◌, map, length, refl}
use Rattle.std.proofs.Common.{sym, ap, ◌∙◌, arith}
use Rattle.std.specs.Prelude.{ℤ, pos, FitsSigned, IsTrue, slice_index}
use Rattle.std.specs.Int.{w64}
use Rattle.std.specs.Fmt.{decimal, signed_decimal}
use Rattle.std.specs.List.{AllByRecursion, flat_map}
use Rattle.ordered_multimap.specs.End.{End}
use Rattle.ordered_multimap.specs.End.TheVariants.{Front, Back}
use Rattle.ordered_multimap.specs.Pairs.{has_items}
use Rattle.multimap_tool.specs.declared.commands.Ends.TheVariants.{Forward}
use Rattle.multimap_tool.specs.declared.commands.Command.{Command}
use Rattle.multimap_tool.specs.declared.commands.Command.TheVariants.{All, Pairs, Keys, Values}
use Rattle.multimap_tool.specs.Spelling.{Operand, key_operand, value_operand, word_operand, operand_text, FitsOperand, letter_of}
use Rattle.multimap_tool.specs.Spelling.{name_of, operands_of, Spells, IsBadLine}
use Rattle.multimap_tool.specs.Private.Parts.{IsWithout, IsNoWord, StartsAValue, IsValueOf, IsCommandOf, IsFoundFor}
use Rattle.multimap_tool.specs.Private.Parts.{IsReadingOf}
use Rattle.multimap_tool.proofs.Texts.Numbers.{decimal_without_space, signed_without_space, decimal_same, signed_same, no_value}
use Rattle.multimap_tool.proofs.Texts.Fields.{ArePlain, one_operand, two_operands, same_letters}

-- letters are no number
no_number : (text : List ℕ) (word : List End) → map letter_of word ≡ text → IsTrue (has_items word) → StartsAValue text → ⊥
no_number text [] same some starts = absurd (cc)
no_number text (Front ∷ word) same some starts = elim starts [
  | inl number ↦ omega (arith, number.greatest, ap (λ t. slice_index t 0) same)
  | inr below ↦ omega (arith, below.sign, ap (λ t. slice_index t 0) same)
]
no_number text (Back ∷ word) same some starts = elim starts [
  | inl number ↦ omega (arith, number.greatest, ap (λ t. slice_index t 0) same)
  | inr below ↦ omega (arith, below.sign, ap (λ t. slice_index t 0) same)
]

-- what spells neither a value nor letters is no operand
pub no_operand : (text : List ℕ) → IsValueOf text None → IsNoWord text → (o : Operand) → FitsOperand o → operand_text o ≡ text → ⊥
no_operand text not_value not_word (inl k) fits same = not_value (pos k) (record { sfits = omega (arith, fits) }) same
no_operand text not_value not_word (inr (inl v)) fits same = not_value v fits same
no_operand text not_value not_word (inr (inr word)) fits same = not_word word (record { spelled = same; some = fits })

-- a number is a value, or a key that it fits
pub number_operand : (v : ℤ) → FitsSigned w64 v → (o : Operand) → FitsOperand o → operand_text o ≡ signed_decimal v
    → (o ≡ value_operand v) ⊎ ((k : ℕ) × (k < 2 ^ 32) × (pos k ≡ v) × (o ≡ key_operand k))
number_operand v small (inl k) fits same = inr (k, fits, signed_same (pos k) v (record { sfits = omega (arith, fits) }) small same, refl)
number_operand v small (inr (inl w)) fits same = inl (ap value_operand (signed_same w v fits small same))
number_operand v small (inr (inr word)) fits same =
    absurd (no_value (signed_decimal v) (no_number (signed_decimal v) word same fits) v small refl)

-- letters that are no value are the letters of a walk
pub letters_operand : (text : List ℕ) (word : List End) → IsValueOf text None → map letter_of word ≡ text
    → (o : Operand) → FitsOperand o → operand_text o ≡ text → o ≡ word_operand word
letters_operand text word not_value spelled (inl k) fits same = absurd (not_value (pos k) (record { sfits = omega (arith, fits) }) same)
letters_operand text word not_value spelled (inr (inl v)) fits same = absurd (not_value v fits same)
letters_operand text word not_value spelled (inr (inr other)) fits same = ap word_operand (same_letters other word (same ∙ sym spelled))

letters_without_space : (word : List End) → IsWithout 32 (map letter_of word)
letters_without_space [] = refl
letters_without_space (Front ∷ word) = letters_without_space word
letters_without_space (Back ∷ word) = letters_without_space word

text_without_space : (o : Operand) → FitsOperand o → IsWithout 32 (operand_text o)
text_without_space (inl k) fits = decimal_without_space k (omega (arith, fits))
text_without_space (inr (inl v)) fits = signed_without_space v fits
text_without_space (inr (inr word)) fits = letters_without_space word

texts_without_space : (os : List Operand) → AllByRecursion FitsOperand os → AllByRecursion (IsWithout 32) (map operand_text os)
texts_without_space [] fits = tt
texts_without_space (o ∷ os) fits = (text_without_space o fits.0, texts_without_space os fits.1)

-- two operands at most, of which the first is a key
abbrev AreFew : List Operand → Type 0
AreFew [] = Unit {0}
AreFew (o ∷ []) = Unit {0}
AreFew (inl k ∷ p ∷ []) = Unit {0}
AreFew _ = ⊥

two_at_most : (os : List Operand) → AreFew os → length (map operand_text os) ≤ 2
two_at_most [] few = omega arith
two_at_most (o ∷ []) few = omega arith
two_at_most (o ∷ p ∷ []) few = omega arith
two_at_most (inl k ∷ p ∷ q ∷ os) few = absurd few
two_at_most (inr o ∷ p ∷ q ∷ os) few = absurd few

-- the operands of these texts
of_one : (text : List ℕ) (os : List Operand) → AllByRecursion FitsOperand os → map operand_text os ≡ text ∷ []
    → (o : Operand) × FitsOperand o × (operand_text o ≡ text) × (os ≡ o ∷ [])
of_one text [] fits same = absurd (cc)
of_one text (o ∷ []) fits same = (o, fits.0, cc, refl)
of_one text (o ∷ p ∷ os) fits same = absurd (cc)

of_two : (first second : List ℕ) (os : List Operand) → AreFew os → AllByRecursion FitsOperand os
    → map operand_text os ≡ first ∷ second ∷ []
    → (k : ℕ) × (p : Operand) × (k < 2 ^ 32) × FitsOperand p × (decimal k ≡ first) × (operand_text p ≡ second)
    × (os ≡ key_operand k ∷ p ∷ [])
of_two first second [] few fits same = absurd (cc)
of_two first second (o ∷ []) few fits same = absurd (cc)
of_two first second (inl k ∷ p ∷ []) few fits same = (k, p, fits.0, fits.1.0, cc, cc, refl)
of_two first second (inr o ∷ p ∷ os) few fits same = absurd few
of_two first second (o ∷ p ∷ q ∷ os) few fits same = absurd (cc)

module _ {A : Type 0} where
  -- no word has a space
  name_without_space : (command : Command ℕ ℤ A) → IsWithout 32 (name_of command)
  name_without_space (All k Forward) = refl
  name_without_space (Pairs Forward) = refl
  name_without_space (Keys Forward) = refl
  name_without_space (Values Forward) = refl
  name_without_space command = refl

  few_operands : (command : Command ℕ ℤ A) → AreFew (operands_of command)
  few_operands (All k Forward) = tt
  few_operands (Pairs Forward) = tt
  few_operands (Keys Forward) = tt
  few_operands (Values Forward) = tt
  few_operands command = tt

  -- so spaces stand between fields alone
  plain : (command : Command ℕ ℤ A) → AllByRecursion FitsOperand (operands_of command)
      → ArePlain (name_of command) (map operand_text (operands_of command))
  plain command fits = record {
    word = name_without_space command;
    texts = texts_without_space (operands_of command) fits;
    few = two_at_most (operands_of command) (few_operands command);
  }

  -- with one space, a word and an operand
  pub bad_with_one : (word operand : List ℕ) → IsWithout 32 word → IsWithout 32 operand
      → ((o : Operand) → FitsOperand o → operand_text o ≡ operand → (command : Command ℕ ℤ A) → IsCommandOf word (o ∷ []) command → ⊥)
      → IsBadLine A (word ++ 32 ∷ operand)
  bad_with_one word operand without_word without_operand none command spells =
      let fields = one_operand word operand (name_of command) (map operand_text (operands_of command)) without_word without_operand
      (plain command spells.spellable) spells.spelling in
      let o = of_one operand (operands_of command) spells.spellable fields.1 in
      none o.0 o.1 o.2 command (record { name_is = sym fields.0; operands_are = o.3 })

  -- with two spaces or more, a word, a key and an operand
  pub bad_with_two : (word first second : List ℕ) → IsWithout 32 word → IsWithout 32 first
      → ((k : ℕ) (p : Operand) → k < 2 ^ 32 → FitsOperand p → decimal k ≡ first → operand_text p ≡ second → (command : Command ℕ ℤ A)
      → IsCommandOf word (key_operand k ∷ p ∷ []) command → ⊥)
      → IsBadLine A (word ++ 32 ∷ (first ++ 32 ∷ second))
  bad_with_two word first second without_word without_first none command spells =
      let fields = two_operands word first second (name_of command) (map operand_text (operands_of command)) without_word without_first
      (plain command spells.spellable) spells.spelling in
      let os = of_two first second (operands_of command) (few_operands command) spells.spellable fields.1 in
      none os.0 os.1 os.2 os.3 os.4 os.5 command (record { name_is = sym fields.0; operands_are = os.6 })

  -- a word and a number that is neither a value nor a key of it
  pub bad_number : (name : List ℕ) (v : ℤ) → IsWithout 32 name → FitsSigned w64 v
      → ((command : Command ℕ ℤ A) → IsCommandOf name (value_operand v ∷ []) command → ⊥)
      → ((k : ℕ) → k < 2 ^ 32 → pos k ≡ v → (command : Command ℕ ℤ A) → IsCommandOf name (key_operand k ∷ []) command → ⊥)
      → IsBadLine A (name ++ 32 ∷ signed_decimal v)
  bad_number name v without small not_value not_key = bad_with_one name (signed_decimal v) without (signed_without_space v small)
      (λ o fits same command is. elim (number_operand v small o fits same) [
        | inl value ↦ not_value command (subst (λ p. IsCommandOf name (p ∷ []) command) value is)
        | inr key ↦ not_key key.0 key.1 key.2 command (subst (λ p. IsCommandOf name (p ∷ []) command) key.3 is)
      ])

  -- a word, a key and a number that is neither a value nor a number of items behind these
  pub bad_numbers : (name : List ℕ) (key : ℕ) (v : ℤ) → IsWithout 32 name → key < 2 ^ 32 → FitsSigned w64 v
      → ((command : Command ℕ ℤ A) → IsCommandOf name (key_operand key ∷ value_operand v ∷ []) command → ⊥)
      → ((k : ℕ) → k < 2 ^ 32 → pos k ≡ v → (command : Command ℕ ℤ A)
      → IsCommandOf name (key_operand key ∷ key_operand k ∷ []) command → ⊥)
      → IsBadLine A (name ++ 32 ∷ (decimal key ++ 32 ∷ signed_decimal v))
  bad_numbers name key v without within small not_pair not_number = bad_with_two name (decimal key) (signed_decimal v) without
      (decimal_without_space key (omega (arith, within)))
      (λ j o few fits same same_too command other.
      let is : IsCommandOf name (key_operand key ∷ o ∷ []) command = subst (λ i. IsCommandOf name (key_operand i ∷ o ∷ []) command)
      (decimal_same j key (omega (arith, few)) (omega (arith, within)) same) other in
      elim (number_operand v small o fits same_too) [
        | inl value ↦ not_pair command (subst (λ p. IsCommandOf name (key_operand key ∷ p ∷ []) command) value is)
        | inr number ↦ not_number number.0 number.1 number.2 command
            (subst (λ p. IsCommandOf name (key_operand key ∷ p ∷ []) command) number.3 is)
      ])

  -- the line of a word and these operands spells the command that has them
  pub spelled : (name line : List ℕ) (os : List Operand) (command : Command ℕ ℤ A) → AllByRecursion FitsOperand os
      → line ≡ name ++ flat_map (λ text. 32 ∷ text) (map operand_text os) → IsCommandOf name os command → Spells command line
  spelled name line os command fits is found = record {
    spellable = subst (AllByRecursion FitsOperand) (sym found.operands_are) fits;
    spelling = is ∙ (λ i. sym found.name_is i ++ flat_map (λ text. 32 ∷ text) (map operand_text (sym found.operands_are i)));
  }

  -- the same where the word's command was looked for
  pub reading : (name line : List ℕ) (os : List Operand) (found : Option (Command ℕ ℤ A)) → AllByRecursion FitsOperand os
      → line ≡ name ++ flat_map (λ text. 32 ∷ text) (map operand_text os)
      → (((command : Command ℕ ℤ A) → IsCommandOf name os command → ⊥) → IsBadLine A line)
      → IsFoundFor name os found → IsReadingOf line found
  reading name line os None fits is bad found = bad found
  reading name line os (Some command) fits is bad found = spelled name line os command fits is found
