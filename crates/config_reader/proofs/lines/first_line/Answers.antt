use Rattle.std.proofs.Common.{sym, subst, ap, ◌∙◌, ◌++◌, drop, arith}
use Rattle.std.proofs.lemmas.Str.{encode_ascii}
use Rattle.config_reader.specs.Lines.{IsBehindLines}
use Rattle.config_reader.proofs.Cuts.{all_before, none_after}
use Rattle.config_reader.proofs.WholeLines.{behind_all, behind_feed, cut_at}
use Rattle.config_reader.proofs.lines.first_line.Goals as goal

pub returns-in-Some-clause-line : goal.returns-in-Some-clause-line
returns-in-Some-clause-line c = (c.in-Some.ensures.byte (omega arith) (λ w o r. r)).0

pub returns-in-Some-clause-behind : goal.returns-in-Some-clause-behind
returns-in-Some-clause-behind c = (c.in-Some.ensures.byte (omega arith) (λ w o r. r)).1

pub returns-in-Some-clause-lines : goal.returns-in-Some-clause-lines
returns-in-Some-clause-lines c =
    let text = c.args.text.now in
    let cut = c.in-Some.ensures.cases in
    subst (IsBehindLines text) (sym cut.4)
    (behind_feed text _ _ (cut_at text cut.0 cut.1 10 (cut.2.1.split ∙ ap (λ first. first ++ drop cut.1 text) (encode_ascii 10 (omega arith)))))

pub returns-in-None-clause-line : goal.returns-in-None-clause-line
returns-in-None-clause-line c = sym (all_before 10 c.args.text.now (c.in-None.ensures.byte (omega arith) (λ w o r. r)))

pub returns-in-None-clause-behind : goal.returns-in-None-clause-behind
returns-in-None-clause-behind c = sym (none_after 10 c.args.text.now (c.in-None.ensures.byte (omega arith) (λ w o r. r)))

pub returns-in-None-clause-lines : goal.returns-in-None-clause-lines
returns-in-None-clause-lines c = behind_all c.args.text.now
