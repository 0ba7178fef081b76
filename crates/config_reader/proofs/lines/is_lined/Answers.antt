use Rattle.std.proofs.Common.{sym, ◌∙◌, arith, rules}
use Rattle.config_reader.proofs.WholeLines.{last_byte}
use Rattle.config_reader.proofs.lines.is_lined.Goals as goal

pub returns : goal.returns
returns c = c.ends_with.ensures.byte (omega arith) (omega arith) (λ w o r. r) ∙ sym (last_byte c.args.text.now (search rules))
