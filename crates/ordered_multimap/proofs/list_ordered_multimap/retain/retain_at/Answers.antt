use Rattle.ordered_multimap.proofs.Remove.RetainingStep.{asked_key_link, asked_row}
use Rattle.ordered_multimap.proofs.list_ordered_multimap.retain.retain_at.Goals as goal

pub ask-stays-requires-clause-owned : goal.ask-stays-requires-clause-owned
ask-stays-requires-clause-owned g c = record { listed = c.requires.pair.listed; owned = c.requires.pair.chained.owned }

pub take_pair-requires-clause-links : goal.take_pair-requires-clause-links
take_pair-requires-clause-links g c = asked_key_link c.requires.pair c.ask-stays.ensures.asked c.ask-stays.ensures.key_link

pub take_pair-requires-clause-row : goal.take_pair-requires-clause-row
take_pair-requires-clause-row g c = asked_row c.requires.pair c.ask-stays.ensures.asked c.ask-stays.ensures.key_link

pub returns-then-not-stays : goal.returns-then-not-stays
returns-then-not-stays g c = record {
  answer = c.ask-stays.result.0;
  asked = c.ask-stays.new.values;
  asks = c.ask-stays.ensures.asked;
  rest = rw c.if-not-stays.true (c.take_pair.result, c.take_pair.ensures);
}
