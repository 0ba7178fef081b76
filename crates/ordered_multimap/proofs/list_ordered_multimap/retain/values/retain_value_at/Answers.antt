use Rattle.ordered_multimap.proofs.Remove.RetainingStep.{asked_key_link, asked_row}
use Rattle.ordered_multimap.proofs.list_ordered_multimap.retain.values.retain_value_at.Goals as goal

pub ask_value-stays-requires-clause-owned : goal.ask_value-stays-requires-clause-owned
ask_value-stays-requires-clause-owned g c = record { listed = c.requires.pair.listed; owned = c.requires.pair.chained.owned }

pub take_pair-requires-clause-links : goal.take_pair-requires-clause-links
take_pair-requires-clause-links g c = asked_key_link c.requires.pair c.ask_value-stays.ensures.asked c.ask_value-stays.ensures.key_link

pub take_pair-requires-clause-row : goal.take_pair-requires-clause-row
take_pair-requires-clause-row g c = asked_row c.requires.pair c.ask_value-stays.ensures.asked c.ask_value-stays.ensures.key_link

pub returns-then-not-stays-clause-retains : goal.returns-then-not-stays-clause-retains
returns-then-not-stays-clause-retains g c = record {
  answer = c.ask_value-stays.result.0;
  asked = c.ask_value-stays.new.values;
  asks = c.ask_value-stays.ensures.asked;
  rest = rw c.if-not-stays.true (c.take_pair.result, c.take_pair.ensures);
}
