use Rattle.std.proofs.Common.{sym, subst, arith}
use Rattle.multimap_slots.specs.Lists.{IsIn}
use Rattle.multimap_slots.specs.Slots.{Slots, IsSound}
use Rattle.multimap_walks.specs.declared.links.KeyLink.{KeyLink}
use Rattle.ordered_multimap.proofs.Append.Steps.{IsSound-with_link}
use Rattle.ordered_multimap.proofs.Append.Inserted.{chain_some, chained-behind, longer}
use Rattle.ordered_multimap.proofs.list_ordered_multimap.remove.chain.replace_chain.Goals as goal

pub unlink_older-requires-clause-chain : goal.unlink_older-requires-clause-chain
unlink_older-requires-clause-chain g c =
    let s = c.requires.chain in let h = s.chains in
    let p = c.push_behind.ensures.pushed in
    record {
      listed = subst (λ (k : Slots g.row.K.Denot KeyLink). IsIn c.args.place k.order) (sym p.keys_are) s.listed;
      chains = record {
        keys_sound = subst IsSound (sym p.keys_are) (IsSound-with_link c.args.keys.now c.args.place _ s.listed h.keys_sound);
        sound = p.sound;
        chained = chained-behind h.keys_sound h.chained c.args.place s.listed h.sound p;
      };
    }

pub unlink_older-requires-clause-more : goal.unlink_older-requires-clause-more
unlink_older-requires-clause-more g c = λ l is.
    let s = c.requires.chain in let h = s.chains in
    omega (
      arith,
      longer h.keys_sound h.chained c.args.place s.listed h.sound c.push_behind.ensures.pushed l is,
      chain_some h.keys_sound h.chained c.args.place s.listed,
    )
