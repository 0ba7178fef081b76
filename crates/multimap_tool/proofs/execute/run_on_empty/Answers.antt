use Rattle.std.proofs.Common.{nat_eq, subst, rules}
use Rattle.multimap_tool.specs.Answers.{keeps_at_least}
use Rattle.multimap_tool.specs.Runs.{IsRun}
use Rattle.multimap_tool.proofs.Running.Runs.{IsRun-more, if_ok}
use Rattle.multimap_tool.proofs.execute.run_on_empty.Goals as goal

pub returns : goal.returns
returns g c =
    let last = c.run.new.map.lists in
    if_ok c.run.result (λ replies ran. (
      last,
      subst (λ m. IsRun keeps_at_least nat_eq c.args.commands.now m replies.items last) c.new-map.ensures.new.empty
          (IsRun-more _ keeps_at_least nat_eq (λ x k v b w t. (search rules, search rules)) c.args.commands.now _ replies.items last ran),
    )) c.run.ensures.ok
