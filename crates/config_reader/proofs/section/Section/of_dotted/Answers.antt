use Rattle.std.proofs.Common.{◌++◌, ◌∙◌, ap, arith, drop, subst, sym, take}
use Rattle.std.proofs.lemmas.Str.{encode_ascii}
use Rattle.std.specs.Str.{chars, trim}
use Rattle.config_reader.specs.Names.{Lacks}
use Rattle.config_reader.specs.Sections.{IsTrimmed, is_sub, is_word}
use Rattle.config_reader.proofs.Blanks.{lacks_part}
use Rattle.config_reader.proofs.Called.{IfOk-both, IfOk-three, by_dot, by_word, lacks}
use Rattle.config_reader.proofs.Opened.{front_trimmed, trim_trimmed}
use Rattle.config_reader.proofs.Sections.{dotted_at, undotted}
use Rattle.config_reader.proofs.WholeLines.{cut_at}
use Rattle.config_reader.proofs.section.Section.of_dotted.Goals as goal

pub returns-in-Some-clause-called : goal.returns-in-Some-clause-called
returns-in-Some-clause-called c =
    let text = c.args.text.now in
    let found = c.in-Some.ensures.cases in
    let at = found.2.1.split ∙ ap (λ first. first ++ drop found.1 text) (encode_ascii 46 (omega arith)) in
    IfOk-both c.of_parts.result
    (λ section word name. by_dot text (take found.0 text) (drop found.1 text) section (cut_at text found.0 found.1 46 at)
    (lacks 46 (take found.0 text) (omega arith) found.2.0)
    (word ∙ c.trim.ensures.trim ∙ ap trim found.3) (name ∙ found.4))
    c.of_parts.ensures.word c.of_parts.ensures.sub

pub returns-in-None-clause-called : goal.returns-in-None-clause-called
returns-in-None-clause-called c =
    let text = c.args.text.now in
    IfOk-both c.of_word.result
    (λ section word name. by_word text section (lacks 46 text (omega arith) c.in-None.ensures.cases)
    (word ∙ c.trim-in-None.ensures.trim) name)
    c.of_word.ensures.word c.of_word.ensures.sub

pub returns-in-Some-clause-dotted : goal.returns-in-Some-clause-dotted
returns-in-Some-clause-dotted c =
    let text = c.args.text.now in
    let cut = c.in-Some.ensures.byte (omega arith) (λ w o r. r) in
    IfOk-three c.of_parts.result
    (λ section word name allowed. dotted_at section text cut.2
    (word ∙ c.trim.ensures.trim ∙ ap trim cut.0) (name ∙ cut.1)
    (ap is_word word ∙ allowed.0) (ap is_sub name ∙ allowed.1))
    c.of_parts.ensures.word c.of_parts.ensures.sub c.of_parts.ensures.allowed

pub returns-in-None-clause-dotted : goal.returns-in-None-clause-dotted
returns-in-None-clause-dotted c =
    let text = c.args.text.now in
    IfOk-three c.of_word.result
    (λ section word name allowed. undotted section text (c.in-None.ensures.byte (omega arith) (λ w o r. r))
    (word ∙ c.trim-in-None.ensures.trim) name (ap is_word word ∙ allowed))
    c.of_word.ensures.word c.of_word.ensures.sub c.of_word.ensures.allowed

pub returns-in-Some-clause-written : goal.returns-in-Some-clause-written
returns-in-Some-clause-written c =
    let found = c.in-Some.ensures.cases in
    c.of_parts.ensures.written
    (front_trimmed c.args.text.now _ found.0 found.1 46 (omega arith) found.2.1.split c.utf8.text (c.trim.ensures.trim ∙ ap trim found.3))

pub returns-in-None-clause-written : goal.returns-in-None-clause-written
returns-in-None-clause-written c =
    let text = c.args.text.now in
    let part = c.trim-in-None.ensures.value in
    c.of_word.ensures.written
    (subst (λ t. IsTrimmed (chars t)) (sym c.trim-in-None.ensures.trim) (trim_trimmed text c.utf8.text))
    (subst (Lacks 46) (sym part.2) (lacks_part 46 part.0 part.1 text (lacks 46 text (omega arith) c.in-None.ensures.cases)))
