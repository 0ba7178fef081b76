use Rattle.std.proofs.Common.{◌≡◌, ◌/◌, ap, ◌∙◌, arith, false, refl, subst, sym}
use Rattle.multimap_slots.specs.Slots.{Slots}
use Rattle.multimap_walks.specs.declared.links.ChainEnds.{ChainEnds}
use Rattle.multimap_walks.specs.declared.links.KeyLink.{KeyLink}
use Rattle.ordered_multimap.specs.Private.Remove.{HasChainBeforeRoom, ReplacesChain}
use Rattle.ordered_multimap.proofs.Append.Inserted.{chain-relocated, has_value, inserts-over, over_keys, over_values}
use Rattle.ordered_multimap.proofs.Append.Replaced.{head_stays, replaced}
use Rattle.ordered_multimap.proofs.Compact.Relinked.{with_link-again}
use Rattle.ordered_multimap.proofs.list_ordered_multimap.insert.insert_behind.Goals as goal

pub make_end_room-requires-clause-slots : goal.make_end_room-requires-clause-slots
make_end_room-requires-clause-slots g c =
    let s = c.requires.chain in
    omega (arith, c.requires.fits, has_value s.chains.keys_sound s.chains.chained c.args.place s.listed)

pub take_listed-old-requires : goal.take_listed-old-requires
take_listed-old-requires g c =
    let link = c.listed_link_mut-link in
    head_stays link.result.now (chain-relocated c.requires.chain c.make_end_room.ensures.relocated) link.ensures.value.link_is
    c.push_value-end.ensures.pushed

pub replace_chain-first-requires : goal.replace_chain-first-requires
replace_chain-first-requires g c =
    let e = c.make_end_room.ensures in
    let same = with_link-again c.make_end_room.new.keys c.args.place _ _ c.listed_link_mut-link.ensures.value.link_is refl in
    subst (λ (k : Slots g.row.K.Denot KeyLink). HasChainBeforeRoom k c.make_end_room.new.values c.args.place) same
    (record { chain = chain-relocated c.requires.chain e.relocated; room = e.end_room })

pub returns-then-link-eq1-clause-inserted : goal.returns-then-link-eq1-clause-inserted
returns-then-link-eq1-clause-inserted g c =
    let e = c.make_end_room.ensures in
    let link = c.listed_link_mut-link in
    let comes = c.push_value-end.ensures in
    let leaves = c.take_listed-old.ensures in
    let ends : ChainEnds = record { first = 0; last = 0; length = 0 } in (
      ends,
      inserts-over c.requires.chain e.relocated e.taken
          (omega (arith, c.requires.fits, e.same_length, ap (λ n. n / 2) e.capacities.capacity))
          (replaced link.result.now (chain-relocated c.requires.chain e.relocated) link.ensures.value.link_is c.if-link-eq1.true
          comes.pushed comes.last leaves.removed leaves.freed ends),
    )

pub returns-clause-inserted : goal.returns-clause-inserted
returns-clause-inserted g c =
    let e = c.make_end_room.ensures in
    let same = with_link-again c.make_end_room.new.keys c.args.place _ _ c.listed_link_mut-link.ensures.value.link_is refl in (
      c.replace_chain-first.result.1,
      inserts-over c.requires.chain e.relocated e.taken
          (omega (arith, c.requires.fits, e.same_length, ap (λ n. n / 2) e.capacities.capacity))
          (subst (λ (k : Slots g.row.K.Denot KeyLink). ReplacesChain false (λ v. c.replace_chain-first.result.0.value ≡ v) k
          c.replace_chain-first.new.keys c.make_end_room.new.values c.replace_chain-first.new.values c.args.place c.args.value
          c.replace_chain-first.result.1) (sym same) c.replace_chain-first.ensures),
    )

pub returns-clause-capacities : goal.returns-clause-capacities
returns-clause-capacities g c = record {
  keys_capacity = over_keys c.replace_chain-first.ensures ∙ c.make_end_room.ensures.capacities.keys_capacity;
  capacity = over_values c.replace_chain-first.ensures ∙ c.make_end_room.ensures.capacities.capacity;
}
