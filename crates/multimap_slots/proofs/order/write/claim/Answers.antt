use Rattle.std.proofs.Common.{arith, refl, sym}
use Rattle.multimap_slots.proofs.Nodes.FreePlaces.{Claims-some, Claims-none}
use Rattle.multimap_slots.proofs.order.write.claim.Goals as goal

pub returns-in-Some-clause-claims : goal.returns-in-Some-clause-claims
returns-in-Some-clause-claims g c =
    record { items = Claims-some _ _ _ _ _ (sym c.in-Some.ensures.place) c.index_mut-slot.ensures.value _ c.requires.frees; capacity = refl }

pub returns-in-None-clause-claims : goal.returns-in-None-clause-claims
returns-in-None-clause-claims g c =
    record {
      items = Claims-none _ _ _ _ _ (sym c.in-None.ensures.place) (omega (arith, c.args.nodes.now.ok)) c.push_reserved.ensures.items;
      capacity = c.push_reserved.ensures.capacity;
    }
