use Rattle.std.proofs.Common.{◌≡◌, ◌-◌, [], ◌∷◌, ◌++◌, ◌∙◌, ap, arith, drop, length, subst, sym, take}
use Rattle.std.proofs.Math.Seq.{drop-length}
use Rattle.std.specs.Str.{trim}
use Rattle.std.proofs.lemmas.Str.{encode_ascii}
use Rattle.config_reader.specs.Names.{Lacks}
use Rattle.config_reader.proofs.Blanks.{lacks_part}
use Rattle.config_reader.proofs.Called.{IfOk-both, by_quotes, lacks, without_quotes}
use Rattle.config_reader.proofs.Opened.{front_trimmed}
use Rattle.config_reader.proofs.WholeLines.{cut_at}
use Rattle.config_reader.proofs.section.Section.parse.Goals as goal

pub returns-in_default-clause-called : goal.returns-in_default-clause-called
returns-in_default-clause-called c =
    let trimmed = c.trim_end.result.now in
    IfOk-both c.of_dotted.result
    (λ section called same. without_quotes c.args.text.now trimmed section c.trim_end.ensures.trim
    (lacks 34 trimmed (omega arith) c.in_default.ensures.cases) called)
    c.of_dotted.ensures.called c.of_dotted.ensures.called

pub returns-in-Some-strip_suffix-clause-called : goal.returns-in-Some-strip_suffix-clause-called
returns-in-Some-strip_suffix-clause-called c =
    let text = c.trim_end.result.now in
    let part = c.trim_end.ensures.value in
    let quoted = c.in-Some.quoted.now in
    let found = c.in-Some.ensures.cases in
    let at = found.2.1.split ∙ ap (λ first. first ++ drop found.1 text) (encode_ascii 34 (omega arith)) in
    let end = c.in-Some-strip_suffix.ensures.cases in
    let end_at = end.1.1.split ∙ ap (λ first. first ++ drop (length quoted) quoted) (encode_ascii 34 (omega arith)) in
    let name_is : quoted ≡ c.in-Some-strip_suffix.sub.now ++ 34 ∷ [] =
    cut_at quoted (length quoted - end.0) (length quoted) 34 end_at
    ∙ ap (λ rest. take (length quoted - end.0) quoted ++ 34 ∷ rest) (drop-length quoted)
    ∙ ap (λ name. name ++ 34 ∷ []) (sym end.2) in
    IfOk-both c.of_parts.result
    (λ section word name. by_quotes c.args.text.now text (take found.0 text) c.in-Some-strip_suffix.sub.now section c.trim_end.ensures.trim
    (λ none. subst (Lacks 34) (sym part.1) (lacks_part 34 0 part.0 c.args.text.now none))
    (cut_at text found.0 found.1 34 at ∙ ap (λ rest. take found.0 text ++ 34 ∷ rest) (sym found.4 ∙ name_is))
    (lacks 34 (take found.0 text) (omega arith) found.2.0)
    (word ∙ c.trim.ensures.trim ∙ ap trim found.3) name)
    c.of_parts.ensures.word c.of_parts.ensures.sub

pub returns-in-Some-strip_suffix-clause-written : goal.returns-in-Some-strip_suffix-clause-written
returns-in-Some-strip_suffix-clause-written c =
    let found = c.in-Some.ensures.cases in
    c.of_parts.ensures.written
    (front_trimmed c.trim_end.result.now _ found.0 found.1 34 (omega arith) found.2.1.split c.trim_end.utf8
    (c.trim.ensures.trim ∙ ap trim found.3))
