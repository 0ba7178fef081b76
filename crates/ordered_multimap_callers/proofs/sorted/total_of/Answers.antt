use Rattle.std.proofs.Common.{◌≡◌, ◌+◌, ◌-◌, ◌^◌, min, sym, ap, ◌∙◌, arith}
use Rattle.ordered_multimap_callers.specs.Totals.{total}
use Rattle.ordered_multimap_callers.proofs.TotalLemmas.{total_behind, total_behind-stopped}
use Rattle.ordered_multimap_callers.proofs.sorted.total_of.Goals as goal

pub loop-value-init : goal.loop-value-init
loop-value-init g c = (search arith, ap (λ w. total w.left) c.into_iter-value-iterator.ensures.into_iter_gives)

pub loop-value-preserved : goal.loop-value-preserved
loop-value-preserved g c = (
  search arith,
  ap (λ sum. total_behind sum c.next.new.self.left) c.saturating_add-sum.ensures
      ∙ total_behind-stopped (c.loop-value.sum + c.in-Some.value.now) c.next.new.self.left
      ∙ ap (total_behind c.loop-value.sum) (sym c.in-Some.ensures.steps.0)
      ∙ c.loop-value.invariant.1,
)

pub returns : goal.returns
returns g c =
    let is_number : c.loop-value.sum ≡ min c.loop-value.sum (2 ^ 64 - 1) = search arith in
    is_number ∙ ap (total_behind c.loop-value.sum) (sym c.in-None.ensures.steps.0.0) ∙ c.loop-value.invariant.1
