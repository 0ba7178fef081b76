-- The fields of a line, and the commands that they can spell.
use Rattle.std.proofs.Common.{◌≡◌, ◌≢◌, ◌⊎◌, true, nat_eq, true≢false, ℕ, zero, suc, ◌<◌, ◌≤◌, List, [], ◌∷◌, ◌++◌, ◌+◌, length, take}
use Rattle.std.proofs.Common.{get_or, map, refl, sym, ap, ◌∙◌, subst, inl, inr, arith}
use Rattle.std.specs.Bool.{IsTrue}
use Rattle.std.proofs.lemmas.Bool.{false≢true, ne_eqb}
use Rattle.std.proofs.lemmas.List.{append-nil, map-append, take_more, take_all}
use Rattle.std.specs.List.{flat_map, AllByRecursion}
use Rattle.ordered_multimap.specs.End.{End}
use Rattle.ordered_multimap.specs.End.TheVariants.{Front, Back}
use Rattle.multimap_tool.specs.Spelling.{letter_of}
use Rattle.ordered_multimap.specs.Pairs.{has_items}
use Rattle.multimap_tool.specs.Private.Parts.{IsWithout, AreLettersOf, IsNoWord}
use Rattle.multimap_tool.proofs.Texts.Cut.{without-cut, same_cut}

-- a letter is f or b
pub letter_cases : (word : List End) (i : ℕ) → i < length (map letter_of word)
    → (get_or (map letter_of word) i 0 ≡ 102) ⊎ (get_or (map letter_of word) i 0 ≡ 98)
letter_cases [] i inside = absurd (omega (arith, inside))
letter_cases (Front ∷ word) zero inside = inl refl
letter_cases (Back ∷ word) zero inside = inr refl
letter_cases (end ∷ word) (suc i) inside = letter_cases word i (omega (arith, inside))

-- so a text with another byte is no word
pub no_word : (text : List ℕ) (i : ℕ) → i < length text → get_or text i 0 ≢ 102 → get_or text i 0 ≢ 98 → IsNoWord text
no_word text i inside not_front not_back word letters =
    let among : (get_or text i 0 ≡ 102) ⊎ (get_or text i 0 ≡ 98) =
    subst (λ t. i < length t → (get_or t i 0 ≡ 102) ⊎ (get_or t i 0 ≡ 98)) letters.spelled (letter_cases word i) inside in
    elim among [ inl front ↦ not_front front | inr back ↦ not_back back ]

-- a text of no letters is no word
pub no_letters : (text : List ℕ) → true ≡ nat_eq (length text) 0 → IsNoWord text
no_letters [] none [] letters = false≢true letters.some
no_letters [] none (end ∷ word) letters = omega (arith, ap length letters.spelled)
no_letters (byte ∷ text) none word letters = true≢false (none ∙ ne_eqb (length (byte ∷ text)) 0 (λ same. omega (arith, same)))

-- the next letter spells the next end
pub letters_on : (text : List ℕ) (i : ℕ) (word : List End) (end : End) → i < length text → letter_of end ≡ get_or text i 0
    → map letter_of word ≡ take i text → map letter_of (word ++ end ∷ []) ≡ take (i + 1) text
letters_on text i word end inside here so_far = rw (map-append, take_more text i 0 inside, so_far, here) refl

-- the letters of a text that isn't empty
has_letters : (word : List End) → 0 < length (map letter_of word) → IsTrue (has_items word)
has_letters [] some = absurd (omega (arith, some))
has_letters (end ∷ word) some = refl

pub letters_done : (text : List ℕ) (i : ℕ) (word : List End) → 0 < length text → length text ≤ i → map letter_of word ≡ take i text
    → AreLettersOf text word
letters_done text i word some ended so_far =
    let spelled : map letter_of word ≡ text = so_far ∙ take_all i text ended in
    record { spelled = spelled; some = has_letters word (rw spelled some) }

-- the letters of a text are its own
pub same_letters : (word other : List End) → map letter_of word ≡ map letter_of other → word ≡ other
same_letters [] [] same = refl
same_letters [] (end ∷ other) same = absurd (cc)
same_letters (end ∷ word) [] same = absurd (cc)
same_letters (Front ∷ word) (Front ∷ other) same = ap (λ w. Front ∷ w) (same_letters word other (cc))
same_letters (Back ∷ word) (Back ∷ other) same = ap (λ w. Back ∷ w) (same_letters word other (cc))
same_letters (Front ∷ word) (Back ∷ other) same = absurd (omega (arith, ap (λ t. get_or t 0 0) same))
same_letters (Back ∷ word) (Front ∷ other) same = absurd (omega (arith, ap (λ t. get_or t 0 0) same))

-- fields as a line joins them
abbrev joined : List (List ℕ) → List ℕ
joined operands = flat_map (λ operand. 32 ∷ operand) operands

-- a line of these fields is cut at its spaces alone
pub record ArePlain (name : List ℕ) (operands : List (List ℕ)) : Type 0 where
  pub word : IsWithout 32 name
  pub texts : AllByRecursion (IsWithout 32) operands
  pub few : length operands ≤ 2

-- one operand, where there is one space
pub one_operand : (word operand name : List ℕ) (operands : List (List ℕ)) → IsWithout 32 word → IsWithout 32 operand
    → ArePlain name operands
    → word ++ 32 ∷ operand ≡ name ++ joined operands → (word ≡ name) × (operands ≡ operand ∷ [])
one_operand word operand name [] without_word without_operand plain same =
    absurd (without-cut 32 word operand (subst (IsWithout 32) (sym (same ∙ append-nil name)) plain.word))
one_operand word operand name (o ∷ []) without_word without_operand plain same =
    let parts = same_cut 32 word name operand (o ++ []) without_word plain.word same in
    (parts.0, ap (λ x. x ∷ []) (sym (parts.1 ∙ append-nil o)))
one_operand word operand name (o ∷ p ∷ os) without_word without_operand plain same =
    let parts = same_cut 32 word name operand (o ++ joined (p ∷ os)) without_word plain.word same in
    absurd (without-cut 32 o (p ++ joined os) (subst (IsWithout 32) parts.1 without_operand))

-- two operands, where there are two spaces or more
pub two_operands : (word first second name : List ℕ) (operands : List (List ℕ)) → IsWithout 32 word → IsWithout 32 first
    → ArePlain name operands
    → word ++ 32 ∷ (first ++ 32 ∷ second) ≡ name ++ joined operands → (word ≡ name) × (operands ≡ first ∷ second ∷ [])
two_operands word first second name [] without_word without_first plain same =
    absurd (without-cut 32 word (first ++ 32 ∷ second) (subst (IsWithout 32) (sym (same ∙ append-nil name)) plain.word))
two_operands word first second name (o ∷ []) without_word without_first plain same =
    let parts = same_cut 32 word name (first ++ 32 ∷ second) (o ++ []) without_word plain.word same in
    absurd (without-cut 32 first second (subst (IsWithout 32) (sym (parts.1 ∙ append-nil o)) plain.texts.0))
two_operands word first second name (o ∷ p ∷ []) without_word without_first plain same =
    let parts = same_cut 32 word name (first ++ 32 ∷ second) (o ++ joined (p ∷ [])) without_word plain.word same in
    let rest = same_cut 32 first o second (p ++ []) without_first plain.texts.0 parts.1 in
    (parts.0, ap (λ x. x ∷ p ∷ []) (sym rest.0) ∙ ap (λ x. first ∷ x ∷ []) (sym (rest.1 ∙ append-nil p)))
two_operands word first second name (o ∷ p ∷ q ∷ os) without_word without_first plain same = absurd (omega (arith, plain.few))
