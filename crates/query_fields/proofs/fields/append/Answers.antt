use Rattle.std.proofs.Common.{ap, ◌∙◌}
use Rattle.query_fields.specs.Queries.{texts_of}
use Rattle.query_fields.proofs.ReadBy.{appended_texts}
use Rattle.query_fields.proofs.fields.append.Goals as goal

pub returns-clause-added : goal.returns-clause-added
returns-clause-added c =
    ap (λ lists. texts_of lists.pairs) c.in_ok-append.ensures.ok.lists
    ∙ appended_texts c.args.fields.now.lists c.args.name c.args.value
