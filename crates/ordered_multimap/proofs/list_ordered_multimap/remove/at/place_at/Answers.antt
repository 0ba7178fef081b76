use Rattle.std.proofs.Common.{◌≡◌, ◌+◌, ◌-◌, ℕ, suc, slice_get, Some, sym, ap, ◌∙◌, subst, arith}
use Rattle.multimap_walks.specs.Chained.{chain_of}
use Rattle.ordered_multimap.proofs.Chains.Indexes.{head_indexed, indexed_listed, next_indexed, previous_indexed, tail_indexed}
use Rattle.ordered_multimap.proofs.list_ordered_multimap.remove.at.place_at.Goals as goal

-- from the head

pub loop-init : goal.loop-init
loop-init g c = head_indexed c.requires.chain.chains.sound c.requires.chain.chains.chained c.args.place c.listed_link-link.result
    c.requires.chain.listed
    c.listed_link-link.ensures.link_is

pub link_of-requires : goal.link_of-requires
link_of-requires g c = indexed_listed c.args.values.now.list c.args.place c.loop.counter c.loop.found c.loop.invariant

pub loop-preserved : goal.loop-preserved
loop-preserved g c =
    let l = c.listed_link-link.result in
    let i : ℕ = c.loop.counter in
    let among = c.requires.among l c.listed_link-link.ensures.link_is in
    let on : suc i ≡ i + 1 = omega arith in
    subst (λ n. slice_get (chain_of c.args.values.now.list c.args.place) n ≡ Some c.unwrap_or-found.result) on
    (next_indexed c.requires.chain.chains.sound c.requires.chain.chains.chained c.args.place l c.requires.chain.listed
    c.listed_link-link.ensures.link_is i c.loop.found
    c.link_of.result (omega (arith, among, c.loop-test.true)) c.loop.invariant c.link_of.ensures.link
    ∙ ap Some (sym c.unwrap_or-found.ensures))

-- from the tail

pub loop-2-init : goal.loop-2-init
loop-2-init g c =
    let l = c.listed_link-link.result in
    let among = c.requires.among l c.listed_link-link.ensures.link_is in
    let behind : ℕ = l.length - c.args.index - 1 in
    tail_indexed c.requires.chain.chains.sound c.requires.chain.chains.chained c.args.place l c.requires.chain.listed
    c.listed_link-link.ensures.link_is
    (c.args.index + (behind - 0)) (omega (arith, among))

pub link_of-requires-in-loop-2 : goal.link_of-requires-in-loop-2
link_of-requires-in-loop-2 g c =
    let behind : ℕ = c.listed_link-link.result.length - c.args.index - 1 in
    indexed_listed c.args.values.now.list c.args.place (c.args.index + (behind - c.loop-2.counter)) c.loop-2.found c.loop-2.invariant

pub loop-2-preserved : goal.loop-2-preserved
loop-2-preserved g c =
    let behind : ℕ = c.listed_link-link.result.length - c.args.index - 1 in
    let i : ℕ = c.args.index + (behind - (c.loop-2.counter + 1)) in
    let on : c.args.index + (behind - c.loop-2.counter) ≡ suc i = omega (arith, c.loop-2-test.true) in
    previous_indexed c.requires.chain.chains.sound c.requires.chain.chains.chained c.args.place i c.loop-2.found
    c.link_of-in-loop-2.result
    (subst (λ n. slice_get (chain_of c.args.values.now.list c.args.place) n ≡ Some c.loop-2.found) on c.loop-2.invariant)
    c.link_of-in-loop-2.ensures.link
    ∙ ap Some (sym c.unwrap_or-found-in-loop-2.ensures)
