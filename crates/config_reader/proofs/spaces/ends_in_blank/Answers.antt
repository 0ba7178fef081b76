use Rattle.std.proofs.Common.{◌∙◌, ap, sym}
use Rattle.config_reader.specs.Sections.{ends_in_blank}
use Rattle.config_reader.proofs.Sections.{last_blank}
use Rattle.config_reader.proofs.spaces.ends_in_blank.Goals as goal

pub returns-in-Some : goal.returns-in-Some
returns-in-Some c =
    c.is_blank.ensures ∙ sym (ap ends_in_blank c.in-Some.ensures.cases.0 ∙ last_blank c.in-Some.field-0-1.now c.in-Some.last.now)
