use Rattle.std.proofs.Common.{◌+◌, [], ◌∷◌, ◌++◌, sym, subst, ◌∙◌, true≢false, arith}
use Rattle.ordered_multimap.proofs.Clone.Ranks.{AreNoted, ranks-end, ranks-hole, ranks-listed, ranks-start}
use Rattle.ordered_multimap.proofs.list_ordered_multimap.clone.ranks.ranks_of.Goals as goal
use Rattle.ordered_multimap.proofs.list_ordered_multimap.clone.ranks.ranks_of.Goals.{then-is_listed, else-is_listed}

pub loop-place-init : goal.loop-place-init
loop-place-init g c = record {
  noted = subst (λ rs. AreNoted c.args.values.now.list.order rs 0 0) (sym c.in_ok-ranks.ensures.items) (ranks-start _);
}

pub loop-place-preserved : goal.loop-place-preserved
loop-place-preserved g c =
    let order = c.args.values.now.list.order in
    let ranks = c.loop-place.ranks.items ++ c.loop-place.rank ∷ [] in
    let now = c.loop-place.invariant.noted in
    let next : AreNoted order ranks c.if-is_listed.rank (c.loop-place.place + 1) = elim c.if-is_listed.branch [
      | then-is_listed w ↦ subst (λ r. AreNoted order ranks r (c.loop-place.place + 1)) (sym w.rank-is)
          (ranks-listed c.len-len.ensures.rises now (c.is_listed.ensures.0 w.if-is_listed.true))
      | else-is_listed w ↦ subst (λ r. AreNoted order ranks r (c.loop-place.place + 1)) (sym w.rank-is)
          (ranks-hole c.len-len.ensures.rises now (λ i. true≢false (sym (c.is_listed.ensures.1 i) ∙ w.if-is_listed.false)))
    ] in
    record { noted = subst (λ rs. AreNoted order rs c.if-is_listed.rank (c.loop-place.place + 1)) (sym c.push_reserved.ensures.items) next }

pub returns : goal.returns
returns g c =
    ranks-end c.loop-place.invariant.noted (λ q i. omega (arith, c.push_place-end.ensures.within q i, c.loop-place-test.false))
