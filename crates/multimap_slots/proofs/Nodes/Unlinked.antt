-- How the nodes stay linked where a place leaves the order, and where a detached one is freed.
use Rattle.std.proofs.Common.{◌≡◌, ◌≢◌, ℕ, suc, ◌+◌, ◌-◌, ◌<◌, List, ◌∷◌, ◌++◌, length, get_or, set, Option, Some, None, refl, sym, ap}
use Rattle.std.proofs.Common.{subst, ◌∙◌, inl, inr, arith}
use Rattle.std.proofs.lemmas.Bool.{cases_eq}
use Rattle.std.proofs.lemmas.List.{length-map, length-set, get_or-set_same, get_or-set_other, length-append}
use Rattle.std.proofs.lemmas.List.Sums.{sum_by-set}
use Rattle.multimap_slots.specs.declared.order.node.Node.{Node}
use Rattle.multimap_slots.specs.declared.order.node.State.{State}
use Rattle.multimap_slots.specs.declared.order.node.State.TheVariants.{Listed, Free, Detached}
use Rattle.multimap_slots.specs.Lists.{IsIn, first_of, last_of, without}
use Rattle.multimap_slots.specs.Private.Paths.{after, IsPath, walk}
use Rattle.multimap_slots.specs.Private.ListLayout.{one_if_detached, count_detached, nexts, previouses, states, links, IsFreeList}
use Rattle.multimap_slots.specs.Private.ListLayout.{IsOrdered, CanUnlink, Unlinks, SetsDetached, Releases}
use Rattle.multimap_slots.proofs.Callers.PlaceLists.{Split, IsIn-left, IsIn-right, IsIn-was, IsIn-besides, AreDistinct-remove}
use Rattle.multimap_slots.proofs.Callers.PlaceLists.{without-split}
use Rattle.multimap_slots.proofs.Nodes.Paths.{last_or_in, path-agree, path-remove}
use Rattle.multimap_slots.proofs.Nodes.OneField.{length-states}
use Rattle.multimap_slots.proofs.Nodes.FreePlaces.{free-agree, free_here}
use Rattle.multimap_slots.proofs.Nodes.Linked.{HasOrder, walk-order, split_at, split_in, split_within, split_distinct, split_gone}
use Rattle.multimap_slots.proofs.Nodes.Linked.{neighbours, last-within, first-listed}

-- the place has this state, and each other node keeps its own and the place behind it
pub record Marks {L : Type 0} (old new : List (Node L)) (place : ℕ) (state : State) : Type 0 where
  pub nexts : (q : ℕ) → q ≢ place → get_or (nexts new) q None ≡ get_or (nexts old) q None
  pub previouses : (q : ℕ) → q ≢ place → get_or (previouses new) q None ≡ get_or (previouses old) q None
  pub states : states new ≡ set (states old) place state

-- what stands before a place stands in the whole list
pub was_before : {p : ℕ} {ps : List ℕ} (s : Split p ps) → (x : ℕ) → IsIn x s.front → IsIn x ps
was_before {p} s x i = rw s.is (IsIn-left x s.front (p ∷ s.back) i)

-- and so does what stands behind it
pub was_behind : {p : ℕ} {ps : List ℕ} (s : Split p ps) → (x : ℕ) → IsIn x s.back → IsIn x ps
was_behind {p} s x i = rw s.is (IsIn-right x s.front (p ∷ s.back) (inr i))

module _ {L : Type 0} where
  Marks-free : (old new : List (Node L)) (place : ℕ) (free : Option ℕ) → Releases old new place free → Marks old new place Free
  Marks-free old new place free freed = record {
    nexts = λ q d. ap (λ ns. get_or ns q None) freed.nexts ∙ get_or-set_other (nexts old) place q free None d;
    previouses = freed.previouses;
    states = freed.states;
  }

  Marks-detached : (old new : List (Node L)) (place : ℕ) → SetsDetached old new place → Marks old new place Detached
  Marks-detached old new place written = record {
    nexts = λ q d. ap (λ ns. get_or ns q None) written.nexts;
    previouses = written.previouses;
    states = written.states;
  }

  module _ {old new : List (Node L)} {place : ℕ} {state : State} (m : Marks old new place state) where
    marks-length : length new ≡ length old
    marks-length =
        sym (length-map new (λ (n : Node L). n.standing.state)) ∙ ap length m.states ∙ length-set (states old) place state
        ∙ length-map old (λ (n : Node L). n.standing.state)

    marks-same : place < length old → get_or (states new) place Free ≡ state
    marks-same within = ap (λ xs. get_or xs place Free) m.states ∙ get_or-set_same (states old) place state Free (rw length-map within)

    marks-other : (p : ℕ) → p ≢ place → get_or (states new) p Free ≡ get_or (states old) p Free
    marks-other p d = ap (λ xs. get_or xs p Free) m.states ∙ get_or-set_other (states old) place p state Free d

    -- a place that was not free is on no list of free ones
    marks-frees : get_or (states old) place Free ≢ Free → (n : ℕ) (at : Option ℕ) → IsFreeList (nexts old) (states old) n at
        → IsFreeList (nexts new) (states new) n at
    marks-frees taken n at = free-agree (nexts old) (nexts new) (states old) (states new) n at (λ q k below later.
        let here = free_here (nexts old) (states old) k q later in
        let differs : q ≢ place = λ e. taken (subst (λ x. get_or (states old) x Free ≡ Free) e here.1) in
        record {
          within = rw length-map (omega (arith, marks-length, rw length-map at here.0));
          state = marks-other q differs ∙ here.1;
          next = m.nexts q differs;
        })

    marks-count : place < length old → count_detached (states new) + one_if_detached (get_or (states old) place Free) ≡ count_detached
        (states old) + one_if_detached state
    marks-count within =
        ap (λ ss. count_detached ss + one_if_detached (get_or (states old) place Free)) m.states
        ∙ sum_by-set one_if_detached (states old) place state Free (rw length-map within)

  -- a listed place can be unlinked
  pub can_unlink : {nodes : List (Node L)} {front back free : Option ℕ} {len detached place : ℕ}
      (o : IsOrdered nodes front back free len detached) → IsIn place (walk (after front (nexts nodes)) None len) → CanUnlink nodes place
  can_unlink {place = place} o i =
      let s = split_at o place i in
      record {
        within = split_within o s;
        before = last-within o _ s.front (neighbours o s).0 (was_before s);
        behind = first-listed o _ s.back (neighbours o s).1 (was_behind s);
      }

  module _ {old both : List (Node L)} {front back free front' back' : Option ℕ} {len detached place : ℕ}
      (o : IsOrdered old front back free len detached) (s : Split place o.order)
      (u : Unlinks old both front front' back back' place) where
    pub unlinked-states : states both ≡ states old
    unlinked-states = u.backward.states ∙ u.forth.states

    pub unlinked-links : links both ≡ links old
    unlinked-links = u.backward.links ∙ u.forth.links

    -- once the neighbours are tied to each other, the path leads around the place
    pub path-unlinked : IsPath (after front' (nexts u.tied)) (after back' (previouses both)) None (s.front ++ s.back)
    path-unlinked =
        path-remove (after front (nexts old)) (after back (previouses old)) (after front' (nexts u.tied))
        (after back' (previouses both)) None s.front place s.back
        (λ x j e. cc) (split_distinct o s)
        (record {
          moved = ap (after front' (nexts u.tied)) (sym from) ∙ u.forth.nexts.moved ∙ to;
          kept = λ x d. u.forth.nexts.kept x (λ e. d (e ∙ from));
        })
        (record {
          moved = ap (after back' (previouses both)) (sym to) ∙ u.backward.previouses.moved ∙ from;
          kept = λ x d. u.backward.previouses.kept x (λ e. d (e ∙ to)) ∙ ap (λ ps. after back ps x) u.forth.previouses;
        })
        (subst (IsPath (after front (nexts old)) (after back (previouses old)) None) s.is o.path)
      where
        from : get_or (previouses old) place None ≡ last_of s.front
        from = (neighbours o s).0

        to : get_or (nexts old) place None ≡ first_of s.back
        to = (neighbours o s).1

  module _ {old both new : List (Node L)} {front back free front' back' : Option ℕ} {len detached
      place : ℕ} {state : State} (o : IsOrdered old front back free len detached) (s : Split place o.order)
      (u : Unlinks old both front front' back back' place) (m : Marks both new place state) where
    same_states : states both ≡ states old
    same_states = unlinked-states o s u

    same_length : length both ≡ length old
    same_length = length-states both old same_states

    within_both : place < length both
    within_both = omega (arith, same_length, split_within o s)

    was_listed : get_or (states both) place Free ≡ Listed
    was_listed = ap (λ xs. get_or xs place Free) same_states ∙ o.listed place (split_in o s)

    from : get_or (previouses old) place None ≡ last_of s.front
    from = (neighbours o s).0

    -- the place before leads to another one, and it is not free
    previous_not_free : (q : ℕ) → get_or (states old) q Free ≡ Free → get_or (previouses old) place None ≡ Some q → ⊥
    previous_not_free q is_free e = elim (last_or_in None s.front) [
      | inl none ↦ absurd (let e' = sym none ∙ sym from ∙ e in cc)
      | inr some ↦
          let same : some.0 ≡ q = let e' = sym some.1 ∙ sym from ∙ e in cc in
          let j : IsIn q o.order = rw s.is (IsIn-left q s.front (place ∷ s.back) (subst (λ x. IsIn x s.front) same some.2)) in
          let bad = sym (o.listed q j) ∙ is_free in cc
    ]

    -- the free places are as they were
    frees_kept : IsFreeList (nexts new) (states new) o.vacant free
    frees_kept =
        marks-frees m (λ e. let bad = sym was_listed ∙ e in cc) o.vacant free
        (free-agree (nexts old) (nexts both) (states old) (states both) o.vacant free (λ q k below later.
        let here = free_here (nexts old) (states old) k q later in
        record {
          within = rw same_states here.0;
          state = ap (λ xs. get_or xs q Free) same_states ∙ here.1;
          next = ap (λ ns. get_or ns q None) u.backward.nexts ∙ u.forth.nexts.kept (Some q) (λ e. previous_not_free q here.1 (sym e));
        }) o.frees)

    -- the neighbours are tied to each other, and the place has a state of its own
    IsOrdered-unlink : state ≢ Listed → (free' : Option ℕ) (vacant' : ℕ) → vacant' + one_if_detached state ≡ o.vacant + 1
        → IsFreeList (nexts new) (states new) vacant' free'
        → HasOrder new front' back' free' (len - 1) (detached + one_if_detached state) (s.front ++ s.back)
    IsOrdered-unlink unlisted free' vacant' one_more frees = record {
      ordered = record {
        order = s.front ++ s.back;
        path = path-agree (after front' (nexts u.tied)) (after back' (previouses both)) (after front' (nexts new))
            (after back' (previouses new)) None (s.front ++ s.back)
            refl refl
            (λ x j. (m.nexts x (differs_in x j) ∙ ap (λ ns. get_or ns x None) u.backward.nexts, m.previouses x (differs_in x j)))
            (path-unlinked o s u);
        distinct = AreDistinct-remove s.front place s.back (split_distinct o s);
        listed = λ p j. state_other p (differs_in p j) ∙ o.listed p (rw s.is (IsIn-was p s.front place s.back j));
        all_in = λ p e. elim (cases_eq p place) [
          | inl same ↦ absurd (unlisted (sym (marks-same m within_both) ∙ ap (λ x. get_or (states new) x Free) (sym same) ∙ e))
          | inr differs ↦ IsIn-besides p s.front place s.back differs (rw s.is at (o.all_in p (sym (state_other p differs) ∙ e)))
        ];
        counted = omega (arith, o.counted, longer, length-append s.front s.back);
        vacant = vacant';
        total = omega (arith, o.total, o.counted, longer, one_more, marks-length m, same_length);
        frees = frees;
        apart = omega (arith, o.apart, ap count_detached same_states, ap one_if_detached was_listed, marks-count m within_both);
      };
      order_is = refl;
    }
      where
        differs_in : (x : ℕ) → IsIn x (s.front ++ s.back) → x ≢ place
        differs_in x j e = split_gone o s (subst (λ y. IsIn y (s.front ++ s.back)) e j)

        longer : length o.order ≡ length s.front + suc (length s.back)
        longer = ap length s.is ∙ length-append s.front (place ∷ s.back)

        state_other : (p : ℕ) → p ≢ place → get_or (states new) p Free ≡ get_or (states old) p Free
        state_other p d = marks-other m p d ∙ ap (λ xs. get_or xs p Free) same_states

  module _ {old both new : List (Node L)} {front back free front' back' : Option ℕ} {len detached place : ℕ}
      (o : IsOrdered old front back free len detached) (s : Split place o.order)
      (u : Unlinks old both front front' back back' place) where
    -- the place that has left is neither listed nor free
    pub IsOrdered-detach : SetsDetached both new place → HasOrder new front' back' free (len - 1) (detached + 1) (s.front ++ s.back)
    IsOrdered-detach written =
        IsOrdered-unlink o s u m (λ e. cc) free o.vacant refl (frees_kept o s u m)
      where
        m : Marks both new place Detached
        m = Marks-detached both new place written

    -- the place that has left is the first free one
    pub IsOrdered-release : Releases both new place free
        → HasOrder new front' back' (Some place) (len - 1) detached (s.front ++ s.back)
    IsOrdered-release freed =
        subst (λ d. HasOrder new front' back' (Some place) (len - 1) d (s.front ++ s.back)) none_more
        (IsOrdered-unlink o s u m (λ e. cc) (Some place) (suc o.vacant) (omega arith) (
          place,
          refl,
          rw length-map (omega (arith, marks-length m, within_both o s u m)),
          marks-same m (within_both o s u m),
          subst (IsFreeList (nexts new) (states new) o.vacant) (sym behind) (frees_kept o s u m),
        ))
      where
        m : Marks both new place Free
        m = Marks-free both new place free freed

        none_more : detached + 0 ≡ detached
        none_more = omega arith

        behind : get_or (nexts new) place None ≡ free
        behind = ap (λ ns. get_or ns place None) freed.nexts
            ∙ get_or-set_same (nexts both) place free None (rw length-map (within_both o s u m))

  -- a detached place is the first free one
  pub IsOrdered-free : {old new : List (Node L)} {front back free : Option ℕ} {len detached place : ℕ}
      (o : IsOrdered old front back free len detached)
      → get_or (states old) place Free ≡ Detached → place < length old → Releases old new place free
      → HasOrder new front back (Some place) len (detached - 1) o.order
  IsOrdered-free {old} {new} {front} {back} {free} {len} {detached} {place} o apart within freed = record {
    ordered = record {
      order = o.order;
      path = path-agree (after front (nexts old)) (after back (previouses old)) (after front (nexts new))
          (after back (previouses new)) None o.order
          refl refl (λ x j. (m.nexts x (differs_in x j), m.previouses x (differs_in x j))) o.path;
      distinct = o.distinct;
      listed = λ p i. marks-other m p (differs_in p i) ∙ o.listed p i;
      all_in = λ p e. elim (cases_eq p place) [
        | inl same ↦ absurd (let bad = sym (marks-same m within) ∙ ap (λ x. get_or (states new) x Free) (sym same) ∙ e in cc)
        | inr differs ↦ o.all_in p (sym (marks-other m p differs) ∙ e)
      ];
      counted = o.counted;
      vacant = suc o.vacant;
      total = omega (arith, o.total, o.apart, fewer, marks-length m);
      frees = (
        place,
        refl,
        rw length-map (omega (arith, marks-length m, within)),
        marks-same m within,
        subst (IsFreeList (nexts new) (states new) o.vacant)
            (sym (ap (λ ns. get_or ns place None) freed.nexts ∙ get_or-set_same (nexts old) place free None (rw length-map within)))
            (marks-frees m (λ e. let bad = sym apart ∙ e in cc) o.vacant free o.frees),
      );
      apart = omega (arith, o.apart, fewer);
    };
    order_is = refl;
  }
    where
      m : Marks old new place Free
      m = Marks-free old new place free freed

      fewer : count_detached (states new) + 1 ≡ count_detached (states old)
      fewer = omega (arith, marks-count m within, ap one_if_detached apart)

      differs_in : (x : ℕ) → IsIn x o.order → x ≢ place
      differs_in x i e = let bad = sym (o.listed x i) ∙ ap (λ y. get_or (states old) y Free) e ∙ apart in cc

  -- the order without the place, as it is walked
  module _ {nodes new : List (Node L)} {front back free front' back' free' : Option ℕ} {len len' detached detached' place : ℕ}
      (o : IsOrdered nodes front back free len detached) (s : Split place o.order)
      (r : HasOrder new front' back' free' len' detached' (s.front ++ s.back)) where
    pub walk-removed : walk (after front' (nexts new)) None len' ≡ without (walk (after front (nexts nodes)) None len) place
    walk-removed =
        walk-order r.ordered ∙ r.order_is ∙ sym (without-split s.front place s.back (split_gone o s))
        ∙ ap (λ ps. without ps place) (sym s.is ∙ sym (walk-order o))

    pub length-walk_removed : length (walk (after front' (nexts new)) None len') + 1 ≡ length (walk (after front (nexts nodes)) None len)
    length-walk_removed =
        omega (
          arith,
          ap length (walk-order r.ordered ∙ r.order_is),
          length-append s.front s.back,
          ap length
              (walk-order o ∙ s.is),
          length-append s.front (place ∷ s.back),
        )

  -- the same order is walked alike
  pub walk-kept : {nodes new : List (Node L)} {front back free front' back' free' : Option ℕ} {len len' detached detached' : ℕ}
      (o : IsOrdered nodes front back free len detached) (r : HasOrder new front' back' free' len' detached' o.order)
      → walk (after front' (nexts new)) None len' ≡ walk (after front (nexts nodes)) None len
  walk-kept o r = walk-order r.ordered ∙ r.order_is ∙ sym (walk-order o)
