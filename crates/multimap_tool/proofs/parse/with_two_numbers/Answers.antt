use Rattle.std.proofs.Common.{◌≡◌, ◌++◌, ◌∷◌, [], sym, ap, ◌∙◌, subst, arith}
use Rattle.std.specs.Prelude.{pos}
use Rattle.std.specs.Int.{w64}
use Rattle.std.proofs.lemmas.Int.{to_z-of_z}
use Rattle.std.proofs.lemmas.List.{append-nil}
use Rattle.std.specs.Fmt.{decimal, signed_decimal}
use Rattle.multimap_tool.specs.Spelling.{key_operand, value_operand}
use Rattle.multimap_tool.specs.Private.Parts.{IsCommandOf}
use Rattle.multimap_tool.proofs.Texts.Spelled.{bad_numbers, reading}
use Rattle.multimap_tool.proofs.parse.with_two_numbers.Goals as goal

pub returns-in_default-key_of : goal.returns-in_default-key_of
returns-in_default-key_of g c =
    let name = c.args.name.now in
    let key = c.args.key in
    let number = c.args.number in
    let same = to_z-of_z w64 number c.ranges.number in
    bad_numbers name key number c.requires (omega arith) c.ranges.number
    (λ command is. c.in_default.ensures command
    (subst (λ v. IsCommandOf name (key_operand key ∷ value_operand v ∷ []) command) (sym same) is))
    (λ k small items command is. c.in_default-key_of.ensures k small (items ∙ sym same))

pub returns : goal.returns
returns g c =
    let name = c.args.name.now in
    let key = c.args.key in
    let number = c.args.number in
    let same = to_z-of_z w64 number c.ranges.number in
    let items = c.in-Some-key_of.items in
    let items_are : pos items ≡ number = c.in-Some-key_of.ensures ∙ same in
    reading name (name ++ 32 ∷ (decimal key ++ 32 ∷ signed_decimal number)) (key_operand key ∷ key_operand items ∷ [])
    c.number_command.result (omega arith, (omega arith, tt))
    (ap (λ text. name ++ 32 ∷ (decimal key ++ 32 ∷ text)) (ap signed_decimal (sym items_are) ∙ sym (append-nil (decimal items))))
    (λ none. bad_numbers name key number c.requires (omega arith) c.ranges.number
    (λ command is. c.in_default.ensures command
    (subst (λ v. IsCommandOf name (key_operand key ∷ value_operand v ∷ []) command) (sym same) is))
    (λ k small other command is. let one : pos k ≡ pos items = other ∙ sym items_are in let k_is : k ≡ items = cc in
    none command (subst (λ j. IsCommandOf name (key_operand key ∷ key_operand j ∷ []) command) k_is is)))
    c.number_command.ensures
