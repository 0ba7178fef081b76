use Rattle.std.proofs.Common.{◌∙◌, sym, subst, true≢false}
use Rattle.std.specs.Int.{w64}
use Rattle.std.specs.Str.Parse.{ParsesSigned}
use Rattle.multimap_tool.specs.Private.Parts.{IsValueOf}
use Rattle.multimap_tool.proofs.Texts.Numbers.{no_value, no_value_text, value_parsed}
use Rattle.multimap_tool.proofs.parse.operands.value_of.Goals as goal

pub returns-then-not-starts_a_value : goal.returns-then-not-starts_a_value
returns-then-not-starts_a_value c = no_value c.args.text.now
    (λ starts. true≢false (sym (c.starts_a_value.ensures.1 starts) ∙ c.if-not-starts_a_value.true))

pub returns-in_default : goal.returns-in_default
returns-in_default c = no_value_text c.args.text.now c.in_default.ensures.cases.0

pub returns : goal.returns
returns c =
    let text = c.args.text.now in
    let parses = subst (λ t. ParsesSigned w64 10 t c.parse.result) c.in-Ok.ensures.cases.0 c.parse.ensures.value.0 in
    subst (IsValueOf text) (sym c.ok.ensures.value)
    (value_parsed text c.parse.result (c.starts_a_value.ensures.0 c.if-not-starts_a_value.false) parses)
