use Rattle.std.proofs.Common.{◌≡◌, ◌∙◌, None, ap, arith, rules}
use Rattle.std.specs.Str.{trim}
use Rattle.config_reader.specs.Said.{setting_at}
use Rattle.config_reader.proofs.Cuts.{alone_at, alone_refused, with_value_at}
use Rattle.config_reader.proofs.setting.setting_of.Goals as goal

pub returns-in_default-clause-setting : goal.returns-in_default-clause-setting
returns-in_default-clause-setting c = λ is.
    alone_at c.args.rest.now c.args.line.now c.in_ok-key_of.field-0.0.now c.first_line.result.1.now is
    (c.in_default.ensures.byte (omega arith) (λ w o r. r))
    c.in_ok-key_of.ensures.key c.in_ok-key_of.ensures.allowed c.first_line.ensures.behind

pub returns-clause-setting : goal.returns-clause-setting
returns-clause-setting c = λ is.
    let cut = c.in-Some.ensures.byte (omega arith) (λ w o r. r) in
    with_value_at c.args.rest.now c.args.line.now c.in_ok-key.key.0.now _ c.in_ok-value.behind.now is cut.2
    (c.in_ok-key.ensures.key ∙ ap trim cut.0) c.in_ok-key.ensures.allowed c.in_ok-value.ensures.value

pub returns-in_err-key_of-clause-refused : goal.returns-in_err-key_of-clause-refused
returns-in_err-key_of-clause-refused c = λ is.
    let refused : setting_at c.args.rest.now ≡ None =
    alone_refused c.args.rest.now c.args.line.now is (c.in_default.ensures.byte (omega arith) (λ w o r. r)) c.in_err-key_of.ensures.refused in
    search rules
