use Rattle.std.proofs.Common.{ap, arith, sym, ◌∙◌}
use Rattle.std.specs.Char.{is_ascii_uppercase}
use Rattle.std.specs.List.{list_any}
use Rattle.config_reader.proofs.Cuts.{none_after}
use Rattle.config_reader.proofs.section.has_capital_behind_dot.Goals as goal

pub returns-in-Some : goal.returns-in-Some
returns-in-Some c =
    let cut = c.in-Some.ensures.byte (omega arith) (λ w o r. r) in
    c.has_capital.ensures ∙ ap (list_any is_ascii_uppercase) cut.1

pub returns-in-None : goal.returns-in-None
returns-in-None c =
    ap (list_any is_ascii_uppercase) (sym (none_after 46 c.args.name.now (c.in-None.ensures.byte (omega arith) (λ w o r. r))))
