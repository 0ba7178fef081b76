use Rattle.std.proofs.Common.{◌≡◌, ℕ, Bool, false, None, sym, ◌∙◌, inl, rules}
use Rattle.ordered_multimap.specs.Lists.{Lists}
use Rattle.ordered_multimap.specs.Pairs.{is_present}
use Rattle.ordered_multimap.proofs.Callers.RemovedAt.{removed_at-absent, removable_value_at-absent}
use Rattle.multimap_tool.specs.declared.commands.Command.TheVariants.{RemoveAt}
use Rattle.multimap_tool.specs.declared.replies.Reply.TheVariants.{Value}
use Rattle.multimap_tool.specs.Step.{IsOwnStep}
use Rattle.multimap_tool.proofs.run.change.remove_at.Goals as goal

-- nothing changes of an absent key, and no value is told
absent_step : {K V A : Type 0} (eq : K → K → Bool) (k : K) (i : ℕ) (m n : Lists K V) → n ≡ m → is_present eq m.pairs k ≡ false
    → IsOwnStep eq {A = A} (RemoveAt k i) m (Value None) n
absent_step eq k i m n same absent = inl (sym (removable_value_at-absent eq k m.pairs i absent), same ∙ sym (removed_at-absent eq k m i absent))

pub returns-in-Vacant : goal.returns-in-Vacant
returns-in-Vacant g c = record {
  step = absent_step g.K.PartialEq.eq c.args.key c.args.index c.args.map.now.lists _ (search rules) (sym c.in-Vacant.ensures.occupied);
  rooms = search rules;
  finds_room = tt;
  makes_room = tt;
}

pub returns-in-Occupied : goal.returns-in-Occupied
returns-in-Occupied g c = search rules
