use Rattle.std.proofs.Common.{◌++◌, ◌∙◌, ap, arith, drop, sym, take}
use Rattle.std.proofs.lemmas.Str.{encode_ascii}
use Rattle.config_reader.proofs.Called.{lacks, last_cut, no_cut}
use Rattle.config_reader.proofs.WholeLines.{cut_at}
use Rattle.config_reader.proofs.name.split_at_last_dot.Goals as goal

pub returns-in-Some-clause-dot : goal.returns-in-Some-clause-dot
returns-in-Some-clause-dot c = λ front behind is none.
    let text = c.args.text.now in
    let found = c.in-Some.ensures.cases in
    let at = found.2.1.split ∙ ap (λ first. first ++ drop found.1 text) (encode_ascii 46 (omega arith)) in
    let cut = last_cut 46 (take found.0 text) (drop found.1 text) front behind
    (sym (cut_at text found.0 found.1 46 at) ∙ is) (lacks 46 (drop found.1 text) (omega arith) found.2.0) none in
    (found.3 ∙ cut.0, found.4 ∙ cut.1)

pub returns-in-Some-clause-none : goal.returns-in-Some-clause-none
returns-in-Some-clause-none c = λ none.
    let text = c.args.text.now in
    let found = c.in-Some.ensures.cases in
    let at = found.2.1.split ∙ ap (λ first. first ++ drop found.1 text) (encode_ascii 46 (omega arith)) in
    no_cut 46 text (take found.0 text) (drop found.1 text) (cut_at text found.0 found.1 46 at) none

pub returns-in-None-clause-dot : goal.returns-in-None-clause-dot
returns-in-None-clause-dot c = λ front behind is none.
    no_cut 46 c.args.text.now front behind is (lacks 46 c.args.text.now (omega arith) c.in-None.ensures.cases)
