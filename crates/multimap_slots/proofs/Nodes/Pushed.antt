-- How a place that comes into the order keeps the nodes linked.
use Rattle.std.proofs.Common.{◌≡◌, ◌≢◌, ◌⊎◌, ℕ, ◌+◌, ◌≤◌, List, [], ◌∷◌, ◌++◌, length, get_or, Option, Some, None, refl, sym, ap}
use Rattle.std.proofs.Common.{subst, ◌∙◌, inl, inr, arith}
use Rattle.std.proofs.lemmas.Bool.{cases_eq}
use Rattle.std.proofs.lemmas.List.{length-map, length_push}
use Rattle.multimap_slots.specs.declared.order.node.Node.{Node}
use Rattle.multimap_slots.specs.declared.order.node.State.TheVariants.{Listed, Free}
use Rattle.multimap_slots.specs.Lists.{IsIn}
use Rattle.multimap_slots.specs.Private.Paths.{after}
use Rattle.multimap_slots.specs.Private.ListLayout.{one_if_detached, count_detached, nexts, previouses, states, put, IsFreeList, IsOrdered}
use Rattle.multimap_slots.specs.Private.ListLayout.{Claims}
use Rattle.multimap_slots.specs.Private.ListLayout.{SetsNext}
use Rattle.multimap_slots.proofs.Callers.PlaceLists.{IsIn-append, IsIn-left, IsIn-right, AreDistinct-push}
use Rattle.multimap_slots.proofs.Nodes.Paths.{last_or_in, path-push}
use Rattle.multimap_slots.proofs.Changes.Put.{map-put, get_or-put_same, get_or-put_other}
use Rattle.multimap_slots.proofs.Nodes.OneField.{length-states}
use Rattle.multimap_slots.proofs.Nodes.FreePlaces.{free-agree, free_here}
use Rattle.multimap_slots.proofs.Nodes.Linked.{HasOrder, back-is}
use Rattle.multimap_slots.proofs.Nodes.Detached.{count_detached-put}

module _ {L : Type 0} where
  -- a place that wasn't listed is written as a listed one behind the last, with the free and the detached places that are left
  record Enters (old written : List (Node L)) (back free' : Option ℕ) (len detached' place : ℕ) : Type 0 where
    within : place ≤ length old
    unlisted : get_or (states old) place Free ≢ Listed
    vacant : ℕ
    total : len + 1 + vacant + detached' ≡ length written
    frees : IsFreeList (nexts written) (states written) vacant free'
    apart : detached' ≡ count_detached (states written)
    nexts_are : nexts written ≡ put (nexts old) place None
    previouses_are : previouses written ≡ put (previouses old) place back
    states_are : states written ≡ put (states old) place Listed

  module _ {old written : List (Node L)} {front back free free' : Option ℕ} {len detached detached' place : ℕ}
      (o : IsOrdered old front back free len detached) (enters : Enters old written back free' len detached' place) where
    absent : IsIn place o.order → ⊥
    absent i = enters.unlisted (o.listed place i)

    next_other : (x : Option ℕ) → x ≢ Some place → after front (nexts written) x ≡ after front (nexts old) x
    next_other None d = refl
    next_other (Some q) d =
        ap (λ xs. get_or xs q None) enters.nexts_are
        ∙ get_or-put_other (nexts old) place q None None (omega (arith, enters.within, length-map old (λ (n : Node L). n.next)))
        (λ e. d (ap Some e))

    previous_other : (q : ℕ) → q ≢ place → get_or (previouses written) q None ≡ get_or (previouses old) q None
    previous_other q d =
        ap (λ xs. get_or xs q None) enters.previouses_are
        ∙ get_or-put_other (previouses old) place q back None (omega (arith, enters.within, length-map old (λ (n : Node L). n.standing.previous))) d

    state_other : (q : ℕ) → q ≢ place → get_or (states written) q Free ≡ get_or (states old) q Free
    state_other q d =
        ap (λ xs. get_or xs q Free) enters.states_are
        ∙ get_or-put_other (states old) place q Listed Free (omega (arith, enters.within, length-map old (λ (n : Node L). n.standing.state))) d

    next_here : get_or (nexts written) place None ≡ None
    next_here =
        ap (λ xs. get_or xs place None) enters.nexts_are
        ∙ get_or-put_same (nexts old) place None None (omega (arith, enters.within, length-map old (λ (n : Node L). n.next)))

    previous_here : get_or (previouses written) place None ≡ back
    previous_here =
        ap (λ xs. get_or xs place None) enters.previouses_are
        ∙ get_or-put_same (previouses old) place back None (omega (arith, enters.within, length-map old (λ (n : Node L). n.standing.previous)))

    state_here : get_or (states written) place Free ≡ Listed
    state_here =
        ap (λ xs. get_or xs place Free) enters.states_are
        ∙ get_or-put_same (states old) place Listed Free (omega (arith, enters.within, length-map old (λ (n : Node L). n.standing.state)))

    -- the place is tied behind the last
    IsOrdered-enter : {new : List (Node L)} {front' : Option ℕ} → SetsNext written new front front' back (Some place)
        → HasOrder new front' (Some place) free' (len + 1) detached' (o.order ++ place ∷ [])
    IsOrdered-enter {new} {front'} tied =
        record {
          ordered = record {
            order = o.order ++ place ∷ [];
            path = path-push (after front (nexts old)) (after back (previouses old)) (after front' (nexts new))
                (after (Some place) (previouses new)) None o.order place
                (λ e. cc) absent (λ x i e. cc) o.distinct
                (λ x not_last not_place. tied.nexts.kept x (λ e. not_last (e ∙ back-is o)) ∙ next_other x not_place)
                (ap (after front' (nexts new)) (sym (back-is o)) ∙ tied.nexts.moved)
                (tied.nexts.kept (Some place) (λ e. back_not place refl (sym e)) ∙ next_here)
                (λ x d. ap (λ xs. get_or xs x None) tied.previouses ∙ previous_other x d)
                (ap (λ xs. get_or xs place None) tied.previouses ∙ previous_here ∙ back-is o)
                refl o.path;
            distinct = AreDistinct-push o.order place absent o.distinct;
            listed = λ p i. ap (λ xs. get_or xs p Free) tied.states ∙ listed_then p (IsIn-append p o.order (place ∷ []) i);
            all_in = λ p e. all_in_then p (sym (ap (λ xs. get_or xs p Free) tied.states) ∙ e);
            counted = omega (arith, o.counted, length_push o.order place);
            vacant = enters.vacant;
            total = omega (arith, enters.total, length-states new written tied.states);
            frees = free-agree (nexts written) (nexts new) (states written) (states new) enters.vacant free' (λ q m below later.
                let here = free_here (nexts written) (states written) m q later in
                record {
                  within = rw tied.states here.0;
                  state = rw tied.states here.1;
                  next = tied.nexts.kept (Some q) (λ e. back_not_free q here.1 (sym e));
                }) enters.frees;
            apart = enters.apart ∙ sym (ap count_detached tied.states);
          };
          order_is = refl;
        }
      where
        back_in : (q : ℕ) → back ≡ Some q → IsIn q o.order
        back_in q e = elim (last_or_in None o.order) [
          | inl none ↦ absurd (let e' = sym none ∙ sym (back-is o) ∙ e in cc)
          | inr some ↦ subst (λ x. IsIn x o.order) (let e' = sym some.1 ∙ sym (back-is o) ∙ e in cc) some.2
        ]

        back_not : (q : ℕ) → q ≡ place → back ≡ Some q → ⊥
        back_not q same e = absent (subst (λ x. IsIn x o.order) same (back_in q e))

        back_not_free : (q : ℕ) → get_or (states written) q Free ≡ Free → back ≡ Some q → ⊥
        back_not_free q is_free e =
            let same = state_other q (λ d. back_not q d e) in
            let was = o.listed q (back_in q e) in
            let bad = sym was ∙ sym same ∙ is_free in cc

        listed_then : (p : ℕ) → IsIn p o.order ⊎ IsIn p (place ∷ []) → get_or (states written) p Free ≡ Listed
        listed_then p (inl i) = state_other p (λ e. absent (subst (λ x. IsIn x o.order) e i)) ∙ o.listed p i
        listed_then p (inr i) = elim i [ inl e ↦ ap (λ x. get_or (states written) x Free) e ∙ state_here | inr none ↦ absurd none ]

        all_in_then : (p : ℕ) → get_or (states written) p Free ≡ Listed → IsIn p (o.order ++ place ∷ [])
        all_in_then p e = elim (cases_eq p place) [
          | inl same ↦ IsIn-right p o.order (place ∷ []) (inl same)
          | inr differs ↦ IsIn-left p o.order (place ∷ []) (o.all_in p (sym (state_other p differs) ∙ e))
        ]

  -- a place that was claimed comes last
  pub IsOrdered-push : {old claimed new : List (Node L)} {front back free front' free' : Option ℕ} {len detached place : ℕ} {node : Node L}
      (o : IsOrdered old front back free len detached) → Claims old claimed free free' node place
      → node.next ≡ None → node.standing.previous ≡ back → node.standing.state ≡ Listed
      → SetsNext claimed new front front' back (Some place)
      → HasOrder new front' (Some place) free' (len + 1) detached (o.order ++ place ∷ [])
  IsOrdered-push {old} {claimed} {front = front} {back} {free} {free' = free'} {len} {detached} {place} {node} o cl is_last is_behind
      is_listed tied =
      IsOrdered-enter o (record {
        within = cl.within;
        unlisted = λ e. let bad = sym e ∙ cl.was_free in cc;
        vacant = left.0;
        total = omega (arith, left.1, o.total);
        frees = left.2;
        apart = o.apart ∙ sym kept_apart;
        nexts_are = ap nexts cl.written ∙ map-put (λ n. n.next) old place node ∙ ap (put (nexts old) place) is_last;
        previouses_are = ap previouses cl.written ∙ map-put (λ n. n.standing.previous) old place node ∙ ap (put (previouses old) place) is_behind;
        states_are = made ∙ ap (put (states old) place) is_listed;
      }) tied
    where
      made : states claimed ≡ put (states old) place node.standing.state
      made = ap states cl.written ∙ map-put (λ n. n.standing.state) old place node

      kept_apart : count_detached (states claimed) ≡ count_detached (states old)
      kept_apart =
          omega (
            arith,
            ap count_detached made,
            count_detached-put
                (states old) place node.standing.state,
            ap one_if_detached cl.was_free,
            ap one_if_detached is_listed,
          )

      left : (m : ℕ) × (m + length old + 1 ≡ o.vacant + length claimed) × IsFreeList (nexts claimed) (states claimed) m free'
      left = cl.frees o.vacant o.frees
