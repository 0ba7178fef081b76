use Rattle.std.proofs.Common.{◌≡◌, ◌∙◌, ◌==◌, false, ap, arith, rules, sym}
use Rattle.std.specs.Cow.{cow_str_bytes}
use Rattle.std.specs.List.{list_any}
use Rattle.config_reader.proofs.Cuts.{found_byte}
use Rattle.config_reader.proofs.list.add_value.Goals as goal

pub returns-then-not-contains : goal.returns-then-not-contains
returns-then-not-contains c =
    let text = c.as_str.result.now in
    let same : text ≡ cow_str_bytes c.args.lines.now.text = search rules in
    let none : list_any (λ b. b == 61) (cow_str_bytes c.args.lines.now.text) ≡ false =
    ap (list_any (λ b. b == 61)) (sym same) ∙ sym (found_byte 61 text c.contains.result (omega arith) c.contains.ensures.cases) ∙ c.if-not-contains.true in
    search rules
