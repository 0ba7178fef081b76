use Rattle.std.proofs.Common.{◌∙◌, arith, inl, inr, sym}
use Rattle.config_reader.proofs.Called.{IfErr-then, IfOk-both}
use Rattle.config_reader.proofs.Cuts.{found_byte, no_byte}
use Rattle.config_reader.proofs.Sections.{opened_with, opened_without, some_bracket}
use Rattle.config_reader.proofs.section.Section.of_line.Goals.{in_default-via-in-Some+else-not-contains, in_default-via-in_default}
use Rattle.config_reader.proofs.section.Section.of_line.Goals as goal

pub returns-in-Some-clause-opened : goal.returns-in-Some-clause-opened
returns-in-Some-clause-opened c =
    let inside = c.args.inside.now in
    let cut = c.in-Some.ensures.byte (omega arith) (λ w o r. r) in
    let none = sym (found_byte 93 c.in-Some.word.now c.contains.result (omega arith) c.contains.ensures.cases) ∙ c.if-not-contains.true in
    IfOk-both c.of_quoted.result
    (λ section opened same. opened_with inside c.in-Some.word.now c.in-Some.quoted.now cut.2 cut.0 cut.1 none ∙ opened)
    c.of_quoted.ensures.opened c.of_quoted.ensures.opened

pub returns-in-Some-clause-refused : goal.returns-in-Some-clause-refused
returns-in-Some-clause-refused c =
    let inside = c.args.inside.now in
    let cut = c.in-Some.ensures.byte (omega arith) (λ w o r. r) in
    let none = sym (found_byte 93 c.in-Some.word.now c.contains.result (omega arith) c.contains.ensures.cases) ∙ c.if-not-contains.true in
    IfErr-then c.of_quoted.result
    (λ error refused. opened_with inside c.in-Some.word.now c.in-Some.quoted.now cut.2 cut.0 cut.1 none ∙ refused)
    c.of_quoted.ensures.refused

pub returns-in_default-clause-opened : goal.returns-in_default-clause-opened
returns-in_default-clause-opened c =
    let inside = c.args.inside.now in
    elim c.in_default.branch [
      | in_default-via-in-Some+else-not-contains w ↦
          let cut = w.in-Some.ensures.byte (omega arith) (λ f o r. r) in
          let some = sym (found_byte 93 w.in-Some.word.now w.contains.result (omega arith) w.contains.ensures.cases)
          ∙ w.if-not-contains.false in
          IfOk-both c.of_unquoted.result
          (λ section opened same. opened_without inside (inr (some_bracket inside w.in-Some.word.now cut.0 some)) ∙ opened)
          c.of_unquoted.ensures.opened c.of_unquoted.ensures.opened
      | in_default-via-in_default w ↦
          let none = no_byte 34 inside (w.in_default.ensures.byte (omega arith) (λ f o r. r)) in
          IfOk-both c.of_unquoted.result
          (λ section opened same. opened_without inside (inl none) ∙ opened)
          c.of_unquoted.ensures.opened c.of_unquoted.ensures.opened
    ]

pub returns-in_default-clause-refused : goal.returns-in_default-clause-refused
returns-in_default-clause-refused c =
    let inside = c.args.inside.now in
    elim c.in_default.branch [
      | in_default-via-in-Some+else-not-contains w ↦
          let cut = w.in-Some.ensures.byte (omega arith) (λ f o r. r) in
          let some = sym (found_byte 93 w.in-Some.word.now w.contains.result (omega arith) w.contains.ensures.cases)
          ∙ w.if-not-contains.false in
          IfErr-then c.of_unquoted.result
          (λ error refused. opened_without inside (inr (some_bracket inside w.in-Some.word.now cut.0 some)) ∙ refused)
          c.of_unquoted.ensures.refused
      | in_default-via-in_default w ↦
          let none = no_byte 34 inside (w.in_default.ensures.byte (omega arith) (λ f o r. r)) in
          IfErr-then c.of_unquoted.result (λ error refused. opened_without inside (inl none) ∙ refused) c.of_unquoted.ensures.refused
    ]
