use Rattle.std.proofs.Common.{◌≡◌, ◌∙◌, ◌++◌, ap, arith, false, inl, inr, sym}
use Rattle.std.proofs.lemmas.Grind.{common_steps}
use Rattle.std.proofs.lemmas.Str.{encode_ascii}
use Rattle.config_reader.specs.Sections.{is_closed}
use Rattle.config_reader.proofs.Sections.{not_closed, quotes_refused, stripped}
use Rattle.config_reader.proofs.section.Section.of_quoted.Goals.{in_default-strip_prefix-via-in-Some-strip_prefix+else-says_nothing}
use Rattle.config_reader.proofs.section.Section.of_quoted.Goals.{in_default-strip_prefix-via-in_default-strip_prefix}
use Rattle.config_reader.proofs.section.Section.of_quoted.Goals as goal

pub returns-in-Some-strip_prefix-clause-opened : goal.returns-in-Some-strip_prefix-clause-opened
returns-in-Some-strip_prefix-clause-opened c = grind (arith, common_steps)

pub returns-in_default-strip_prefix-clause-refused : goal.returns-in_default-strip_prefix-clause-refused
returns-in_default-strip_prefix-clause-refused c =
    let cut = c.in-Some.ensures.byte (omega arith) (λ w o r. r) in
    let behind = c.in-Some.behind.now in
    let none : is_closed behind ≡ false = elim c.in_default-strip_prefix.branch [
      | in_default-strip_prefix-via-in-Some-strip_prefix+else-says_nothing w ↦
          not_closed behind (inr (
            w.in-Some-strip_prefix.behind.now,
            stripped 93 behind w.in-Some-strip_prefix.behind.now (omega arith) w.in-Some-strip_prefix.ensures.cases,
            sym w.says_nothing.ensures ∙ w.if-says_nothing.false,
          ))
      | in_default-strip_prefix-via-in_default-strip_prefix w ↦
          not_closed behind (inl (λ rest is. w.in_default-strip_prefix.ensures.cases rest
          (is ∙ ap (λ first. first ++ rest) (sym (encode_ascii 93 (omega arith))))))
    ] in
    quotes_refused c.args.word.now c.args.quoted.now (ap is_closed (sym cut.1) ∙ none)
