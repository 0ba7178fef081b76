use Rattle.std.proofs.Common.{◌≡◌, inr, rules, true}
use Rattle.config_reader.specs.Sections.{is_sub, is_word}
use Rattle.config_reader.proofs.Opened.{section_opens}
use Rattle.config_reader.proofs.section.Section.of_parts.Goals as goal

pub returns-clause-written : goal.returns-clause-written
returns-clause-written c = λ trimmed.
    let allowed : is_word c.args.word.now ≡ true = search rules in
    let sub_allowed : is_sub c.args.sub.now ≡ true = search rules in
    section_opens c.args.word.now c.args.sub.now c.utf8.word c.utf8.sub trimmed allowed (inr sub_allowed)
