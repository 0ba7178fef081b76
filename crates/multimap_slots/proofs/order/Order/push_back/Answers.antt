use Rattle.std.proofs.Common.{◌≡◌, ◌∷◌, [], ◌++◌, length, refl, ap, sym, subst, ◌∙◌, arith}
use Rattle.std.proofs.lemmas.List.{length-map}
use Rattle.multimap_slots.specs.Private.ListLayout.{IsFreeList, nexts, states, links, put}
use Rattle.multimap_slots.proofs.Changes.Put.{map-put, length-put}
use Rattle.multimap_slots.proofs.Nodes.OneField.{within_low, within_more}
use Rattle.multimap_slots.proofs.Nodes.Linked.{back-is, last-within, walk-length, walk-order}
use Rattle.multimap_slots.proofs.Nodes.Pushed.{IsOrdered-push}
use Rattle.multimap_slots.proofs.order.Order.push_back.Goals as goal

pub claim-place-requires : goal.claim-place-requires
claim-place-requires g c =
    let room = rw (← c.self.view_is) at c.requires in
    record {
      vacant = c.self.invariant.vacant;
      frees = c.self.invariant.frees;
      room = λ none. omega (arith, room, none, c.self.invariant.total, walk-length c.self.invariant);
    }

pub listed-requires : goal.listed-requires
listed-requires g c =
    within_low _ (length c.self.inside.nodes.items) (omega (arith, c.self.inside.nodes.ok))
    (last-within c.self.invariant _ _ (back-is c.self.invariant) (λ x i. i))

pub some-end-requires : goal.some-end-requires
some-end-requires g c = omega (arith, c.claim-place.ensures.within, c.claim-place.new.nodes.ok)

pub set_next-requires : goal.set_next-requires
set_next-requires g c =
    within_more _ _ _ (rw c.claim-place.ensures.claims.items.written (length-put _ _ _))
    (last-within c.self.invariant _ _ (back-is c.self.invariant) (λ x i. i))

pub invariant_of-self : goal.invariant_of-self
invariant_of-self g c =
    rw c.some-end.ensures
    (IsOrdered-push c.self.invariant c.claim-place.ensures.claims.items c.none.ensures (ap (λ s. s.previous) c.listed.ensures)
    (ap (λ s. s.state) c.listed.ensures)
    (rw c.some-end.ensures at c.set_next.ensures.items)).ordered

pub returns : goal.returns
returns g c =
    let claims = c.claim-place.ensures.claims.items in
    let tied = c.set_next.ensures.items in
    let pushed = IsOrdered-push c.self.invariant claims c.none.ensures (ap (λ s. s.previous) c.listed.ensures)
    (ap (λ s. s.state) c.listed.ensures) (rw c.some-end.ensures at tied) in
    rw (← c.self.view_is) (record {
      was_free = claims.was_free;
      within = rw length-map claims.within;
      within_links = rw length-map claims.within;
      fills = λ at_end. rw length-map (omega (
        arith,
        claims.fills
            (rw length-map at at_end) c.self.invariant.vacant c.self.invariant.frees,
        c.self.invariant.total,
        walk-length c.self.invariant,
      ));
      behind = λ full.
          let none : c.self.invariant.vacant ≡ 0 = omega (
            arith,
            full,
            c.self.invariant.total,
            walk-length c.self.invariant,
            length-map c.self.inside.nodes.items
                (λ n. n.standing.state),
          ) in
          rw length-map (claims.behind (subst
          (λ n. IsFreeList (nexts c.self.inside.nodes.items) (states c.self.inside.nodes.items) n c.self.inside.free)
          none c.self.invariant.frees));
      order = walk-order pushed.ordered ∙ pushed.order_is ∙ ap (λ ps. ps ++ c.claim-place.result ∷ []) (sym (walk-order c.self.invariant));
      states = tied.states ∙ ap states claims.written ∙ map-put _ _ _ _
          ∙ ap (λ s. put (states c.self.inside.nodes.items) c.claim-place.result s.state) c.listed.ensures;
      links = tied.links ∙ ap links claims.written ∙ map-put _ _ _ _;
      detached = refl;
      capacity = c.set_next.ensures.capacity ∙ c.claim-place.ensures.claims.capacity;
    })
