use Rattle.std.proofs.Common.{Bool, ap, refl, sym, true≢false, ◌∙◌}
use Rattle.ordered_multimap.specs.Private.KeyMoves.{moved_to_end}
use Rattle.ordered_multimap.proofs.Agreement.MovedKeys.{moved-lacking}
use Rattle.ordered_multimap.proofs.list_ordered_multimap.ListOrderedMultimap.move_to_end.Goals as goal

pub returns-in-Some-clause-moved : goal.returns-in-Some-clause-moved
returns-in-Some-clause-moved g c =
    let stands = rw c.in-Some.is at c.look_up.ensures.stored in
    let present = rw c.in-Some.is at c.look_up.ensures.present in
    record {
      lists = c.move_at.ensures.lists stands.stored stands.own
          ∙ sym (ap (λ (t : g.row.K.Denot → Bool). moved_to_end c.args.end t c.args.self.now.lists) stands.same);
      numbers = c.move_at.ensures.numbers;
      absent = λ none. absurd (true≢false (present ∙ none));
    }

pub returns-in-None-clause-moved : goal.returns-in-None-clause-moved
returns-in-None-clause-moved g c =
    let lacks = rw c.in-None.is at c.look_up.ensures.absent in
    record {
      lists = sym (moved-lacking (g.Q.KeyQuery.equivalent c.args.key) c.args.self.now.lists lacks c.args.end);
      numbers = record { rooms = record { keys = refl; values = refl; slots = refl; hasher = refl }; tape = refl };
      absent = λ _. refl;
    }
