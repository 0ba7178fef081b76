use Rattle.std.proofs.Common.{◌≡◌, ◌++◌, ◌∷◌, [], sym, ap, ◌∙◌, subst, arith}
use Rattle.std.specs.Prelude.{pos}
use Rattle.std.specs.Int.{w64}
use Rattle.std.proofs.lemmas.Int.{to_z-of_z}
use Rattle.std.proofs.lemmas.List.{append-nil}
use Rattle.std.specs.Fmt.{decimal, signed_decimal}
use Rattle.multimap_tool.specs.Spelling.{key_operand, value_operand}
use Rattle.multimap_tool.specs.Private.Parts.{IsCommandOf}
use Rattle.multimap_tool.proofs.Texts.Spelled.{bad_number, reading}
use Rattle.multimap_tool.proofs.parse.with_one_number.Goals as goal

pub returns-in_default-key_of : goal.returns-in_default-key_of
returns-in_default-key_of g c =
    let name = c.args.name.now in
    let number = c.args.number in
    let same = to_z-of_z w64 number c.ranges.number in
    bad_number name number c.requires c.ranges.number
    (λ command is. c.in_default.ensures command (subst (λ v. IsCommandOf name (value_operand v ∷ []) command) (sym same) is))
    (λ k small key command is. c.in_default-key_of.ensures k small (key ∙ sym same))

pub returns : goal.returns
returns g c =
    let name = c.args.name.now in
    let number = c.args.number in
    let same = to_z-of_z w64 number c.ranges.number in
    let key = c.in-Some-key_of.key in
    let key_is : pos key ≡ number = c.in-Some-key_of.ensures ∙ same in
    reading name (name ++ 32 ∷ signed_decimal number) (key_operand key ∷ []) c.key_command.result (omega arith, tt)
    (ap (λ text. name ++ 32 ∷ text) (ap signed_decimal (sym key_is) ∙ sym (append-nil (decimal key))))
    (λ none. bad_number name number c.requires c.ranges.number
    (λ command is. c.in_default.ensures command (subst (λ v. IsCommandOf name (value_operand v ∷ []) command) (sym same) is))
    (λ k small other command is. let one : pos k ≡ pos key = other ∙ sym key_is in let k_is : k ≡ key = cc in
    none command (subst (λ j. IsCommandOf name (key_operand j ∷ []) command) k_is is)))
    c.key_command.ensures
