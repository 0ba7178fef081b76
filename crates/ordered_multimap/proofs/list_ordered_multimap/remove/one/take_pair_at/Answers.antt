use Rattle.ordered_multimap.proofs.Chains.Parts.{key_link_at}
use Rattle.ordered_multimap.proofs.list_ordered_multimap.remove.one.take_pair_at.Goals as goal

pub take_pair-requires-clause-links : goal.take_pair-requires-clause-links
take_pair-requires-clause-links g c =
    let s = c.requires in
    record {
      listed = s.listed;
      key_link_is = key_link_at c.args.keys.now c.args.values.now.list c.args.place c.link_of.ensures.link c.listed_link-key_link.ensures.link_is;
      sound = s.sound;
      chained = s.chained;
    }

pub take_pair-requires-clause-row : goal.take_pair-requires-clause-row
take_pair-requires-clause-row g c = λ l is.
    c.requires.row l c.listed_link-key_link.result is (key_link_at c.args.keys.now c.args.values.now.list c.args.place c.link_of.ensures.link c.listed_link-key_link.ensures.link_is l is)
