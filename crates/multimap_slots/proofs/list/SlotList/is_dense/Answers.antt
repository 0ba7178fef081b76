use Rattle.std.proofs.Common.{refl, arith}
use Rattle.multimap_slots.proofs.Callers.DensePlaces.{dense-end, dense-listed, dense-not, dense-start, dense-step, place_differs}
use Rattle.multimap_slots.proofs.Callers.DensePlaces.{place_same}
use Rattle.multimap_slots.proofs.list.SlotList.is_dense.Goals as goal

pub loop-place-init : goal.loop-place-init
loop-place-init g c = record { begins = dense-start _ _ c.front_place-following.ensures }

pub returns-then-ne : goal.returns-then-ne
returns-then-ne g c = (
  λ e. absurd (cc),
  λ dense. absurd (dense-not c.loop-place.invariant.begins (omega (arith, c.len-len.ensures.len, c.loop-place-test.true))
      (λ same. place_differs _ _ c.if-ne.ensures same) dense),
)

pub next_listed_place-following-requires : goal.next_listed_place-following-requires
next_listed_place-following-requires g c = dense-listed c.loop-place.invariant.begins (place_same _ _ c.if-ne.ensures)

pub loop-place-preserved : goal.loop-place-preserved
loop-place-preserved g c = record {
  begins = dense-step c.loop-place.invariant.begins (place_same _ _ c.if-ne.ensures)
      c.next_listed_place-following.result c.next_listed_place-following.ensures;
}

pub returns : goal.returns
returns g c = (
  λ _. dense-end c.loop-place.invariant.begins (omega (arith, c.len-len.ensures.len, c.loop-place-test.false)),
  λ _. refl,
)
