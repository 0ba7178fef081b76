use Rattle.std.proofs.Common.{◌≡◌, [], inl, refl, rules, true}
use Rattle.config_reader.specs.Sections.{is_word}
use Rattle.config_reader.proofs.Opened.{section_opens}
use Rattle.config_reader.proofs.section.Section.of_word.Goals as goal

pub returns-clause-written : goal.returns-clause-written
returns-clause-written c = λ trimmed no_dot.
    let allowed : is_word c.args.word.now ≡ true = search rules in
    section_opens c.args.word.now [] c.utf8.word ([], (refl, refl)) trimmed allowed (inl (refl, no_dot))
