use Rattle.std.proofs.Common.{IsPermutation, [], ◌∷◌, ◌++◌, refl, sym, ap, ◌∙◌, subst, arith}
use Rattle.multimap_layer_tests.proofs.tests.moved.make_rotated.Goals as goal

-- The last item changes with the one before it, and then with the first.
pub set_order-requires : goal.set_order-requires
set_order-requires c =
    let first = c.in-Ok.first in
    let second = c.in-Ok-push_back.second in
    let third = c.in-Ok-push_back-2.third in
    let order_is = c.in-Ok-push_back-2.ensures.pushed.order ∙ ap (λ ps. ps ++ third ∷ [])
    (c.in-Ok-push_back.ensures.pushed.order ∙ ap (λ ps. ps ++ second ∷ [])
    (c.in-Ok.ensures.pushed.order ∙ ap (λ ps. ps ++ first ∷ []) c.clear.ensures.empty.order)) in
    subst (λ ps. IsPermutation ps (third ∷ first ∷ second ∷ [])) (sym order_is) (record {
      moves = (0, 1) ∷ (1, 2) ∷ [];
      below = (omega arith, omega arith, (omega arith, omega arith, tt));
      is = refl;
    })
