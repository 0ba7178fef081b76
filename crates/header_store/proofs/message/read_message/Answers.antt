use Rattle.std.proofs.Common.{◌≡◌, ◌∙◌, ap, drop, length, sym}
use Rattle.program_parts.specs.Lines.{without_mark}
use Rattle.header_store.specs.Message.{start_in}
use Rattle.header_store.proofs.message.read_message.Goals as goal

pub returns-clause-read : goal.returns-clause-read
returns-clause-read c =
    let text = without_mark c.args.input.now in
    let behind : c.split_start.result.1.now ≡ drop (length (start_in text)) text =
    c.split_start.ensures.behind ∙ ap (λ text. drop (length (start_in text)) text) c.without_mark-text.ensures in
    rw (sym behind) c.in_ok-rest.ensures.read
