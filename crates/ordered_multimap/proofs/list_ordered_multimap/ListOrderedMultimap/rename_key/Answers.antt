use Rattle.std.proofs.Common.{Bool, find, ap, sym, ◌∙◌}
use Rattle.ordered_multimap.specs.Renames.{is_taken}
use Rattle.ordered_multimap.proofs.Agreement.TakenKeys.{answer-absent, answer-renamed, answer-taken}
use Rattle.ordered_multimap.proofs.list_ordered_multimap.ListOrderedMultimap.rename_key.Goals as goal

pub returns-in-None-hash_at-clause-answer : goal.returns-in-None-hash_at-clause-answer
returns-in-None-hash_at-clause-answer g c =
    let eq = g.K.PartialEq.eq in let keys = c.args.self.now.lists.keys in
    let stands = rw c.in-Some.is at c.look_up.ensures.stored in
    let listed = sym (rw c.in-Some.is at c.look_up.ensures.listed) in
    let taken = c.in-None-hash_at.ensures.taken stands.stored stands.own in
    sym (answer-taken eq (g.Q.KeyQuery.equivalent c.args.key) c.args.new_key keys listed
    (ap (λ (t : g.row.K.Denot → Bool). is_taken eq t c.args.new_key keys) stands.same ∙ sym taken))

pub returns-in-None-clause-answer : goal.returns-in-None-clause-answer
returns-in-None-clause-answer g c =
    let lacks = rw c.in-None.is at c.look_up.ensures.absent in
    sym (answer-absent g.K.PartialEq.eq (g.Q.KeyQuery.equivalent c.args.key) c.args.new_key c.args.self.now.lists.keys lacks.unlisted)

pub returns-in-Some-hash_at-clause-answer : goal.returns-in-Some-hash_at-clause-answer
returns-in-Some-hash_at-clause-answer g c =
    let eq = g.K.PartialEq.eq in let keys = c.args.self.now.lists.keys in
    let stands = rw c.in-Some.is at c.look_up.ensures.stored in
    let free = c.in-Some-hash_at.ensures.taken stands.stored stands.own in
    sym (answer-renamed eq (g.Q.KeyQuery.equivalent c.args.key) c.args.new_key keys c.rename_at.result
    (ap (λ (t : g.row.K.Denot → Bool). find t keys) stands.same ∙ c.rename_at.ensures.old stands.stored stands.own)
    (ap (λ (t : g.row.K.Denot → Bool). is_taken eq t c.args.new_key keys) stands.same ∙ sym free))
