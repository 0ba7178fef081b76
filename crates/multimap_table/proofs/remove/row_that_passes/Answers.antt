use Rattle.std.proofs.Common.{◌≡◌, ◌/◌, ◌<◌, length, get_or, subst, ap, ◌∙◌, arith}
use native.Mathlib.Decide.{dec_lt}
use Rattle.multimap_table.specs.Private.Entries.{row_at}
use Rattle.multimap_table.specs.Private.Layout.{Passes, distance, probe_start}
use Rattle.multimap_table.proofs.remove.row_that_passes.Goals.{then-tags-lane-ne0+else-distance, else-tags-lane-ne0}
use Rattle.multimap_table.proofs.remove.row_that_passes.Goals as goal

pub loop-lane-preserved : goal.loop-lane-preserved
loop-lane-preserved c = λ lane from below full passes.
    let count = length c.args.tags.now / 16 in
    elim (dec_lt lane c.loop-lane.lane) [
      | yes q ↦ c.loop-lane.invariant lane from q full passes
      | no q ↦
          let at : lane ≡ c.loop-lane.lane = omega arith in
          let group : c.loop-lane.lane / 16 ≡ c.args.group = omega arith in
          let start = probe_start count (row_at c.args.rows.now c.loop-lane.lane).hash in
          let here : Passes c.args.tags.now c.args.rows.now c.loop-lane.lane c.args.earlier = subst
          (λ n. Passes c.args.tags.now c.args.rows.now n c.args.earlier) at passes in
          let nearer : distance count start c.args.earlier < distance count start c.args.group = subst
          (λ n. distance count start c.args.earlier < distance count start n) group here in
          elim c.if-tags-lane-ne0.branch [
            | then-tags-lane-ne0+else-distance w ↦
                omega (
                  arith,
                  w.if-distance.false,
                  w.distance.ensures ∙ ap (λ s. distance count s c.args.earlier) w.probe_start-start.ensures.value,
                  w.distance-then-tags-lane-ne0.ensures ∙ ap (λ s. distance count s c.args.group) w.probe_start-start.ensures.value,
                  nearer,
                )
            | else-tags-lane-ne0 w ↦ omega (arith, w.if-tags-lane-ne0.false, subst (λ n. 0 < get_or c.args.tags.now n 0) at full)
          ]
    ]
