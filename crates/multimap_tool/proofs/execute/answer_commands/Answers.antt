use Rattle.std.proofs.Common.{◌∙◌, ap}
use Rattle.multimap_tool.specs.Texts.{text_of}
use Rattle.multimap_tool.proofs.Running.Runs.{if_ok}
use Rattle.multimap_tool.proofs.execute.answer_commands.Goals as goal

pub returns : goal.returns
returns g c =
    let run = c.in_ok-replies.ensures in
    if_ok c.format_replies.result (λ text told. (c.in_ok-replies.replies.items, run.0, run.1, told ∙ ap text_of c.deref.ensures.value))
    c.format_replies.ensures.ok
