use Rattle.std.proofs.Common.{ap, ◌∙◌}
use Rattle.std.specs.Prelude.{is_ok}
use Rattle.ordered_multimap.specs.Renames.{is_taken}
use Rattle.ordered_multimap_callers.proofs.MovedLemmas.{renamed-where}
use Rattle.ordered_multimap_callers.proofs.sorted.rename_by.Goals as goal

pub returns-in-Ok-clause-done : goal.returns-in-Ok-clause-done
returns-in-Ok-clause-done g c =
    let accepts = g.Q.KeyQuery.equivalent c.args.query in let keys = c.args.map.now.lists.keys in
    ap is_ok c.in-Ok.ensures.answer
    ∙ renamed-where accepts keys (is_taken g.K.PartialEq.eq accepts c.args.new_key keys) c.args.new_key

pub returns-in-Err-clause-done : goal.returns-in-Err-clause-done
returns-in-Err-clause-done g c =
    let accepts = g.Q.KeyQuery.equivalent c.args.query in let keys = c.args.map.now.lists.keys in
    ap is_ok c.in-Err.ensures.answer
    ∙ renamed-where accepts keys (is_taken g.K.PartialEq.eq accepts c.args.new_key keys) c.args.new_key
