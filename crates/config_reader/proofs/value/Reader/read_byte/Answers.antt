use Rattle.std.proofs.Common.{ap, ◌∙◌, rules}
use Rattle.config_reader.specs.Values.{read_on}
use Rattle.config_reader.proofs.Values.{bad_read, end_read, none_left, step_read}
use Rattle.config_reader.proofs.value.Reader.read_byte.Goals as goal

pub returns-in_default-clause-ends : goal.returns-in_default-clause-ends
returns-in_default-clause-ends c = search (rules, none_left)

pub returns-then-is_end-clause-ends : goal.returns-then-is_end-clause-ends
returns-then-is_end-clause-ends c = search (rules, end_read)

pub returns-in_err-mode-clause-bad : goal.returns-in_err-mode-clause-bad
returns-in_err-mode-clause-bad c = search (rules, bad_read)

pub returns-clause-goes : goal.returns-clause-goes
returns-clause-goes c =
    let old = c.args.self.now in
    ap (read_on old.mode old.value.items old.gap.items) c.in-Some.ensures.cases.0
    ∙ step_read old.mode old.value.items old.gap.items c.in-Some.byte.now c.in-Some.behind.now (c.in_ok-mode.mode, c.in_ok-mode.effect)
    (search rules) (search rules)
    ∙ search rules
