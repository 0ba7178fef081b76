use Rattle.std.proofs.Common.{◌≡◌, ◌∙◌, ◌∷◌, ◌++◌, true, false, ap, arith, refl, sym}
use Rattle.std.proofs.lemmas.Str.{encode_ascii}
use Rattle.std.specs.Str.{trim_start}
use Rattle.config_reader.specs.Lines.{first_line, says_nothing}
use Rattle.config_reader.specs.Written.{texts_of}
use Rattle.config_reader.proofs.Kept.{silence_kept}
use Rattle.config_reader.proofs.Sections.{stripped}
use Rattle.config_reader.proofs.WholeLines.{read_on}
use Rattle.config_reader.proofs.reader.Reader.read_item.Goals as goal

pub returns-then-says_nothing-clause-kept : goal.returns-then-says_nothing-clause-kept
returns-then-says_nothing-clause-kept c = λ all is.
    let old = c.args.self.now in
    read_on (texts_of c.args.config.now.lists.pairs) old.between.now old.rest.now c.first_line.result.1.now all is
    c.first_line.ensures.lines

pub returns-then-says_nothing-clause-reads : goal.returns-then-says_nothing-clause-reads
returns-then-says_nothing-clause-reads c = λ some kept.
    let says : says_nothing (first_line c.args.self.now.rest.now) ≡ true =
    ap says_nothing (sym c.first_line.ensures.line) ∙ sym c.says_nothing.ensures ∙ c.if-says_nothing.true in
    silence_kept c.args.self.now _ c.args.self.now.rank c.args.config.now.lists kept some says c.first_line.ensures.behind refl refl refl
    refl

pub returns-in-Some-clause-reads : goal.returns-in-Some-clause-reads
returns-in-Some-clause-reads c = λ some kept.
    let says : says_nothing (first_line c.args.self.now.rest.now) ≡ false =
    ap says_nothing (sym c.first_line.ensures.line) ∙ sym c.says_nothing.ensures ∙ c.if-says_nothing.false in
    let begins : trim_start (first_line c.args.self.now.rest.now) ≡ 91 ∷ c.in-Some.inside.now =
    sym (c.trim_start.ensures.trim ∙ ap trim_start c.first_line.ensures.line)
    ∙ stripped 91 c.trim_start.result.now c.in-Some.inside.now (omega arith) c.in-Some.ensures.cases in
    c.read_section.ensures.reads (record { some = some; says = says; begins = begins; behind_is = c.first_line.ensures.behind }) kept

pub returns-in-None-clause-reads : goal.returns-in-None-clause-reads
returns-in-None-clause-reads c = λ some kept.
    let says : says_nothing (first_line c.args.self.now.rest.now) ≡ false =
    ap says_nothing (sym c.first_line.ensures.line) ∙ sym c.says_nothing.ensures ∙ c.if-says_nothing.false in
    let same : c.trim_start.result.now ≡ trim_start (first_line c.args.self.now.rest.now) =
    c.trim_start.ensures.trim ∙ ap trim_start c.first_line.ensures.line in
    c.read_setting.ensures.reads (record {
      some = some;
      line_is = c.first_line.ensures.line;
      says = says;
      other = λ inside begins. c.in-None.ensures.cases inside
          (same ∙ begins ∙ ap (λ first. first ++ inside) (sym (encode_ascii 91 (omega arith))));
    }) kept

pub returns-in-None-clause-refused : goal.returns-in-None-clause-refused
returns-in-None-clause-refused c = λ some.
    let says : says_nothing (first_line c.args.self.now.rest.now) ≡ false =
    ap says_nothing (sym c.first_line.ensures.line) ∙ sym c.says_nothing.ensures ∙ c.if-says_nothing.false in
    let same : c.trim_start.result.now ≡ trim_start (first_line c.args.self.now.rest.now) =
    c.trim_start.ensures.trim ∙ ap trim_start c.first_line.ensures.line in
    c.read_setting.ensures.refused (record {
      some = some;
      line_is = c.first_line.ensures.line;
      says = says;
      other = λ inside begins. c.in-None.ensures.cases inside
          (same ∙ begins ∙ ap (λ first. first ++ inside) (sym (encode_ascii 91 (omega arith))));
    })
