use Rattle.std.proofs.Common.{◌++◌, ◌∷◌, [], sym, ap, ◌∙◌, subst}
use Rattle.std.proofs.lemmas.List.{append-nil}
use Rattle.multimap_tool.specs.Spelling.{word_operand}
use Rattle.multimap_tool.specs.Private.Parts.{IsCommandOf}
use Rattle.multimap_tool.proofs.Texts.Spelled.{bad_with_one, reading, no_operand, letters_operand}
use Rattle.multimap_tool.proofs.parse.with_one_operand.Goals as goal

pub returns-in_default-2 : goal.returns-in_default-2
returns-in_default-2 g c =
    let operand = c.args.operand.now in
    let no_word = rw c.in_default-2.is at c.in_ok-word.ensures in
    bad_with_one c.args.name.now operand c.requires.name c.requires.operand
    (λ o fits same command is. no_operand operand c.in_default.ensures no_word o fits same)

pub returns : goal.returns
returns g c =
    let name = c.args.name.now in
    let operand = c.args.operand.now in
    let word = c.in-Some-2.word in
    let letters = rw c.in-Some-2.is at c.in_ok-word.ensures in
    reading name (name ++ 32 ∷ operand) (word_operand word.items ∷ []) c.walk_command.result (letters.some, tt)
    (ap (λ text. name ++ 32 ∷ text) (sym letters.spelled ∙ sym (append-nil _)))
    (λ none. bad_with_one name operand c.requires.name c.requires.operand
    (λ o fits same command is. none command (subst (λ p. IsCommandOf name (p ∷ []) command)
    (letters_operand operand word.items c.in_default.ensures letters.spelled o fits same) is)))
    c.walk_command.ensures
