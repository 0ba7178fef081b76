use Rattle.std.proofs.Common.{subst, rules}
use Rattle.std.specs.Prelude.{FitsSigned}
use Rattle.std.specs.Int.{w64}
use Rattle.std.proofs.lemmas.Int.{to_z-of_z}
use Rattle.multimap_tool.specs.Private.Parts.{IsKeyOf}
use Rattle.multimap_tool.proofs.Texts.Numbers.{key_in_value, no_key_in}
use Rattle.multimap_tool.proofs.parse.operands.key_in.Goals as goal

pub returns-in_default : goal.returns-in_default
returns-in_default c = no_key_in c.args.text.now c.in_default.ensures

pub returns : goal.returns
returns c =
    let value = c.in-Some.value in
    let fits : FitsSigned w64 value = search rules in
    key_in_value c.args.text.now value c.key_of.result fits c.in-Some.ensures
    (subst (λ v. IsKeyOf v c.key_of.result) (to_z-of_z w64 value fits) c.key_of.ensures)
