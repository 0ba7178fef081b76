-- How a place that moves to an end of the order keeps the nodes linked.
use Rattle.std.proofs.Common.{◌≡◌, ◌≢◌, ◌⊎◌, ℕ, ◌+◌, List, [], ◌∷◌, ◌++◌, length, get_or, Option, Some, None, refl, sym, ap}
use Rattle.std.proofs.Common.{subst, ◌∙◌, inl, inr, arith}
use Rattle.std.proofs.lemmas.Bool.{cases_eq}
use Rattle.std.proofs.lemmas.List.{length-append}
use Rattle.multimap_slots.specs.declared.order.node.Node.{Node}
use Rattle.multimap_slots.specs.declared.order.node.State.TheVariants.{Free}
use Rattle.multimap_slots.specs.Lists.{IsIn, AreDistinct, first_of, last_of, without, moved_last, moved_first}
use Rattle.multimap_slots.specs.Private.Paths.{after, IsPath, walk}
use Rattle.multimap_slots.specs.Private.ListLayout.{nexts, previouses, states, IsOrdered, SetsNext, SetsPrevious, Unlinks}
use Rattle.multimap_slots.proofs.Callers.PlaceLists.{Split, IsIn-append, IsIn-left, IsIn-right, IsIn-was, IsIn-besides, AreDistinct-push}
use Rattle.multimap_slots.proofs.Callers.PlaceLists.{AreDistinct-remove, without-split}
use Rattle.multimap_slots.proofs.Nodes.Paths.{last_or_in, path-first, path-last, path-push, path-lead}
use Rattle.multimap_slots.proofs.Nodes.OneField.{length-states}
use Rattle.multimap_slots.proofs.Nodes.FreePlaces.{free-agree, free_here}
use Rattle.multimap_slots.proofs.Nodes.Linked.{HasOrder, walk-order, split_in, split_distinct, split_gone, neighbours}
use Rattle.multimap_slots.proofs.Nodes.Unlinked.{path-unlinked, unlinked-states, was_before}

module _ {L : Type 0} where
  module _ {old both : List (Node L)} {front back free front1 back1 : Option ℕ} {len detached place : ℕ}
      (o : IsOrdered old front back free len detached) (s : Split place o.order)
      (u : Unlinks old both front front1 back back1 place) where
    path : IsPath (after front1 (nexts u.tied)) (after back1 (previouses both)) None (s.front ++ s.back)
    path = path-unlinked o s u

    from : get_or (previouses old) place None ≡ last_of s.front
    from = (neighbours o s).0

    -- the last and the first of the others
    pub last-others : back1 ≡ last_of (s.front ++ s.back)
    last-others = path-last (after front1 (nexts u.tied)) (after back1 (previouses both)) None (s.front ++ s.back) path

    pub first-others : front1 ≡ first_of (s.front ++ s.back)
    first-others = path-first (after front1 (nexts u.tied)) (after back1 (previouses both)) None (s.front ++ s.back) path

    pub others-listed : (x : ℕ) → IsIn x (s.front ++ s.back) → IsIn x o.order
    others-listed x i = rw s.is (IsIn-was x s.front place s.back i)

    gone : IsIn place (s.front ++ s.back) → ⊥
    gone = split_gone o s

    last_listed : (ps : List ℕ) (q : ℕ) → ((x : ℕ) → IsIn x ps → IsIn x o.order) → last_of ps ≡ Some q → IsIn q o.order
    last_listed ps q listed e = elim (last_or_in None ps) [
      | inl none ↦ absurd (let e' = sym none ∙ e in cc)
      | inr some ↦ subst (λ x. IsIn x o.order) (let e' = sym some.1 ∙ e in cc) (listed some.0 some.2)
    ]

    not_free : (q : ℕ) → get_or (states old) q Free ≡ Free → IsIn q o.order → ⊥
    not_free q is_free i = let bad = sym (o.listed q i) ∙ is_free in cc

    -- the same places are listed in another order, and the free ones are linked as they were
    reordered : {new : List (Node L)} {front' back' : Option ℕ} (order : List ℕ)
        → IsPath (after front' (nexts new)) (after back' (previouses new)) None order → AreDistinct order
        → ((x : ℕ) → IsIn x order → (x ≡ place) ⊎ IsIn x (s.front ++ s.back))
        → ((x : ℕ) → (x ≡ place) ⊎ IsIn x (s.front ++ s.back) → IsIn x order)
        → length order ≡ length (s.front ++ s.back) + 1 → states new ≡ states both
        → ((q : ℕ) → (IsIn q o.order → ⊥) → get_or (nexts new) q None ≡ get_or (nexts both) q None)
        → HasOrder new front' back' free len detached order
    reordered {new} {front'} {back'} order new_path distinct into out_of long same kept = record {
      ordered = record {
        order = order;
        path = new_path;
        distinct = distinct;
        listed = λ p i. ap (λ ss. get_or ss p Free) all_same ∙ o.listed p (listed_of p (into p i));
        all_in = λ p e. out_of p (side p (o.all_in p (sym (ap (λ ss. get_or ss p Free) all_same) ∙ e)));
        counted = omega (
          arith,
          o.counted,
          long,
          length-append s.front s.back,
          ap length s.is,
          length-append s.front (place ∷ s.back),
        );
        vacant = o.vacant;
        total = omega (arith, o.total, length-states new old all_same);
        frees = free-agree (nexts old) (nexts new) (states old) (states new) o.vacant free (λ q k below later.
            let here = free_here (nexts old) (states old) k q later in
            record {
              within = rw all_same here.0;
              state = ap (λ ss. get_or ss q Free) all_same ∙ here.1;
              next = kept q (not_free q here.1) ∙ ap (λ ns. get_or ns q None) u.backward.nexts
                  ∙ u.forth.nexts.kept (Some q)
                  (λ e. not_free q here.1 (last_listed s.front q (was_before s) (sym from ∙ sym e)));
            }) o.frees;
        apart = rw all_same o.apart;
      };
      order_is = refl;
    }
      where
        all_same : states new ≡ states old
        all_same = same ∙ unlinked-states o s u

        listed_of : (p : ℕ) → (p ≡ place) ⊎ IsIn p (s.front ++ s.back) → IsIn p o.order
        listed_of p (inl e) = subst (λ x. IsIn x o.order) (sym e) (split_in o s)
        listed_of p (inr i) = others-listed p i

        side : (p : ℕ) → IsIn p o.order → (p ≡ place) ⊎ IsIn p (s.front ++ s.back)
        side p i = elim (cases_eq p place) [
          | inl e ↦ inl e
          | inr d ↦ inr (IsIn-besides p s.front place s.back d (subst (IsIn p) s.is i))
        ]

    not_place : (q : ℕ) → (IsIn q o.order → ⊥) → q ≢ place
    not_place q absent e = absent (subst (λ x. IsIn x o.order) (sym e) (split_in o s))

    same_some : (x y : ℕ) → Some x ≡ Some y → x ≡ y
    same_some x y e = cc

    -- the place is tied behind the last of the others
    pub IsOrdered-last : {once twice new : List (Node L)} {front2 front3 back2 : Option ℕ}
        → SetsNext both once front1 front2 back1 (Some place) → SetsPrevious once twice back1 back2 (Some place) back1
        → SetsNext twice new front2 front3 (Some place) None
        → HasOrder new front3 (Some place) free len detached ((s.front ++ s.back) ++ place ∷ [])
    IsOrdered-last {once} {twice} {new} {front2} {front3} {back2} first second third =
        reordered ((s.front ++ s.back) ++ place ∷ [])
        (path-push (after front1 (nexts u.tied)) (after back1 (previouses both)) (after front3 (nexts new))
        (after (Some place) (previouses new)) None (s.front ++ s.back) place
        (λ e. cc) gone (λ x i e. cc) (AreDistinct-remove s.front place s.back (split_distinct o s))
        (λ x not_last not_place.
        third.nexts.kept x not_place ∙ ap (λ ns. after front2 ns x) second.nexts
        ∙ first.nexts.kept x (λ e. not_last (e ∙ last-others)) ∙ ap (λ ns. after front1 ns x) u.backward.nexts)
        (third.nexts.kept (last_of (s.front ++ s.back)) gone_last
        ∙ ap (λ ns. after front2 ns (last_of (s.front ++ s.back))) second.nexts
        ∙ ap (after front2 (nexts once)) (sym last-others) ∙ first.nexts.moved)
        third.nexts.moved
        (λ x d. ap (λ ps. get_or ps x None) third.previouses
        ∙ second.previouses.kept (Some x) (λ e. d (same_some x place e))
        ∙ ap (λ ps. get_or ps x None) first.previouses)
        (ap (λ ps. get_or ps place None) third.previouses ∙ second.previouses.moved ∙ last-others)
        refl path)
        (AreDistinct-push (s.front ++ s.back) place gone (AreDistinct-remove s.front place s.back (split_distinct o s)))
        (λ x i. elim (IsIn-append x (s.front ++ s.back) (place ∷ []) i) [
          | inl j ↦ inr j
          | inr j ↦ elim j [ inl e ↦ inl e | inr none ↦ absurd none ]
        ])
        (λ x side. elim side [
          | inl e ↦ IsIn-right x (s.front ++ s.back) (place ∷ []) (inl e)
          | inr j ↦ IsIn-left x (s.front ++ s.back) (place ∷ []) j
        ])
        (length-append (s.front ++ s.back) (place ∷ []))
        (third.states ∙ second.states ∙ first.states)
        (λ q absent.
        third.nexts.kept (Some q) (λ e. not_place q absent (same_some q place e))
        ∙ ap (λ ns. get_or ns q None) second.nexts
        ∙ first.nexts.kept (Some q) (λ e. absent (last_listed (s.front ++ s.back) q others-listed (sym last-others ∙ sym e))))
      where
        gone_last : last_of (s.front ++ s.back) ≡ Some place → ⊥
        gone_last e = elim (last_or_in None (s.front ++ s.back)) [
          | inl none ↦ absurd (let e' = sym none ∙ e in cc)
          | inr some ↦ gone (subst (λ x. IsIn x (s.front ++ s.back)) (let e' = sym some.1 ∙ e in cc) some.2)
        ]

    -- the place is tied before the first of the others
    pub IsOrdered-first : {once twice new : List (Node L)} {front2 back2 back3 : Option ℕ}
        → SetsPrevious both once back1 back2 front1 (Some place) → SetsNext once twice front1 front2 (Some place) front1
        → SetsPrevious twice new back2 back3 (Some place) None
        → HasOrder new (Some place) back3 free len detached (place ∷ (s.front ++ s.back))
    IsOrdered-first {once} {twice} {new} {front2} {back2} {back3} first second third =
        reordered (place ∷ (s.front ++ s.back))
        (path-lead (after front1 (nexts u.tied)) (after back1 (previouses both)) (after (Some place) (nexts new))
        (after back3 (previouses new)) (s.front ++ s.back) place
        gone (AreDistinct-remove s.front place s.back (split_distinct o s))
        (λ x d. ap (λ ns. get_or ns x None) third.nexts
        ∙ second.nexts.kept (Some x) (λ e. d (same_some x place e))
        ∙ ap (λ ns. get_or ns x None) first.nexts ∙ ap (λ ns. get_or ns x None) u.backward.nexts)
        (ap (λ ns. get_or ns place None) third.nexts ∙ second.nexts.moved ∙ first-others)
        refl
        (λ x not_first not_place.
        third.previouses.kept x not_place ∙ ap (λ ps. after back2 ps x) second.previouses
        ∙ first.previouses.kept x (λ e. not_first (e ∙ first-others)))
        (third.previouses.kept (first_of (s.front ++ s.back)) gone_first
        ∙ ap (λ ps. after back2 ps (first_of (s.front ++ s.back))) second.previouses
        ∙ ap (after back2 (previouses once)) (sym first-others) ∙ first.previouses.moved)
        third.previouses.moved
        path)
        (gone, AreDistinct-remove s.front place s.back (split_distinct o s))
        (λ x i. i)
        (λ x side. side)
        (omega arith)
        (third.states ∙ second.states ∙ first.states)
        (λ q absent.
        ap (λ ns. get_or ns q None) third.nexts
        ∙ second.nexts.kept (Some q) (λ e. not_place q absent (same_some q place e))
        ∙ ap (λ ns. get_or ns q None) first.nexts)
      where
        first_in : (ps : List ℕ) → first_of ps ≡ Some place → IsIn place ps
        first_in [] e = absurd (let e' = e in cc)
        first_in (p ∷ ps) e = inl (let e' = e in cc)

        gone_first : first_of (s.front ++ s.back) ≢ Some place
        gone_first e = gone (first_in (s.front ++ s.back) e)

    -- the order that is walked then
    others-walked : without (walk (after front (nexts old)) None len) place ≡ (s.front ++ s.back)
    others-walked = ap (λ ps. without ps place) (walk-order o ∙ s.is) ∙ without-split s.front place s.back gone

    module _ {new : List (Node L)} {front' back' : Option ℕ} where
      pub walk-last : HasOrder new front' back' free len detached ((s.front ++ s.back) ++ place ∷ [])
          → walk (after front' (nexts new)) None len ≡ moved_last (walk (after front (nexts old)) None len) place
      walk-last r = walk-order r.ordered ∙ r.order_is ∙ ap (λ ps. ps ++ place ∷ []) (sym others-walked)

      pub walk-first : HasOrder new front' back' free len detached (place ∷ (s.front ++ s.back))
          → walk (after front' (nexts new)) None len ≡ moved_first (walk (after front (nexts old)) None len) place
      walk-first r = walk-order r.ordered ∙ r.order_is ∙ ap (λ ps. place ∷ ps) (sym others-walked)
