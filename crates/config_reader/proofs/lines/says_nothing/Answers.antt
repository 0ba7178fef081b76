use Rattle.std.proofs.Common.{◌≡◌, ◌∙◌, ap, rules, sym}
use Rattle.std.specs.Str.{trim}
use Rattle.config_reader.specs.Lines.{begins_nothing}
use Rattle.config_reader.proofs.Sections.{nothing_begins}
use Rattle.config_reader.proofs.lines.says_nothing.Goals as goal

pub returns-in-Some : goal.returns-in-Some
returns-in-Some c =
    let word : trim c.args.line.now ≡ c.as_bytes.result.now = search rules in
    c.is_mark.ensures ∙ sym (ap begins_nothing (word ∙ c.in-Some.ensures.cases.0))

pub returns-in-None : goal.returns-in-None
returns-in-None c =
    let word : trim c.args.line.now ≡ c.as_bytes.result.now = search rules in
    sym (ap begins_nothing word ∙ nothing_begins c.as_bytes.result.now c.in-None.ensures.cases)
