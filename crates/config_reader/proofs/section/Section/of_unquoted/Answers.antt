use Rattle.std.proofs.Common.{◌∙◌, ap, arith, inl, inr, sym}
use Rattle.config_reader.specs.Lines.{says_nothing}
use Rattle.config_reader.proofs.Cuts.{no_byte}
use Rattle.config_reader.proofs.Sections.{word_refused}
use Rattle.config_reader.proofs.section.Section.of_unquoted.Goals.{in_default-via-in-Some+else-says_nothing, in_default-via-in_default}
use Rattle.config_reader.proofs.section.Section.of_unquoted.Goals as goal

pub returns-in_default-clause-refused : goal.returns-in_default-clause-refused
returns-in_default-clause-refused c =
    let inside = c.args.inside.now in
    elim c.in_default.branch [
      | in_default-via-in-Some+else-says_nothing w ↦
          let cut = w.in-Some.ensures.byte (omega arith) (λ f o r. r) in
          word_refused inside (inr (ap says_nothing (sym cut.1) ∙ sym w.says_nothing.ensures ∙ w.if-says_nothing.false))
      | in_default-via-in_default w ↦ word_refused inside (inl (no_byte 93 inside (w.in_default.ensures.byte (omega arith) (λ f o r. r))))
    ]
