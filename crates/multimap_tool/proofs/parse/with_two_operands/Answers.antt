use Rattle.std.proofs.Common.{◌++◌, ◌∷◌, [], sym, ◌∙◌, subst, arith}
use Rattle.std.proofs.lemmas.List.{append-nil}
use Rattle.multimap_tool.specs.Spelling.{key_operand, word_operand}
use Rattle.multimap_tool.specs.Private.Parts.{IsCommandOf}
use Rattle.multimap_tool.proofs.Texts.Numbers.{decimal_same}
use Rattle.multimap_tool.proofs.Texts.Spelled.{bad_with_two, reading, no_operand, letters_operand}
use Rattle.multimap_tool.proofs.parse.with_two_operands.Goals as goal

pub returns-in_default : goal.returns-in_default
returns-in_default g c =
    bad_with_two c.args.name.now c.args.first.now c.args.second.now c.requires.name c.requires.first
    (λ k p small fits same _ command is. c.in_default.ensures k small same)

pub returns-in_default-2 : goal.returns-in_default-2
returns-in_default-2 g c =
    let second = c.args.second.now in
    let no_word = rw c.in_default-2.is at c.in_ok-word.ensures in
    bad_with_two c.args.name.now c.args.first.now second c.requires.name c.requires.first
    (λ k p small fits _ same command is. no_operand second c.in_default-value_of.ensures no_word p fits same)

pub returns : goal.returns
returns g c =
    let name = c.args.name.now in
    let first = c.args.first.now in
    let second = c.args.second.now in
    let key = c.in-Some.key in
    let word = c.in-Some-2.word in
    let letters = rw c.in-Some-2.is at c.in_ok-word.ensures in
    reading name (name ++ 32 ∷ (first ++ 32 ∷ second)) (key_operand key ∷ word_operand word.items ∷ []) c.key_walk_command.result
    (omega arith, (letters.some, tt))
    (λ i. name ++ 32 ∷ (sym c.in-Some.ensures i ++ 32 ∷ (sym letters.spelled ∙ sym (append-nil _)) i))
    (λ none. bad_with_two name first second c.requires.name c.requires.first (λ k p small fits same same_too command is.
    none command (subst (λ j. IsCommandOf name (key_operand j ∷ word_operand word.items ∷ []) command)
    (decimal_same k key (omega (arith, small)) (omega arith) (same ∙ sym c.in-Some.ensures))
    (subst (λ q. IsCommandOf name (key_operand k ∷ q ∷ []) command)
    (letters_operand second word.items c.in_default-value_of.ensures letters.spelled p fits same_too) is))))
    c.key_walk_command.ensures
