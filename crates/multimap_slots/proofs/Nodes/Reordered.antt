-- Nodes that are linked in another order of the same places.
use Rattle.std.proofs.Common.{◌≡◌, ℕ, zero, suc, ◌-◌, IfSome, ◌<◌, ◌≤◌, List, [], ◌∷◌, length, get_or, drop, Option, Some, None, refl, sym}
use Rattle.std.proofs.Common.{ap}
use Rattle.std.proofs.Common.{subst, ◌∙◌, inl, inr, arith}
use Rattle.std.proofs.lemmas.List.Sorted.{length_permutation}
use Rattle.std.proofs.Math.Seq.{drop-cons}
use Rattle.std.specs.Prelude.{IsPermutation}
use Rattle.multimap_slots.specs.declared.order.node.Node.{Node}
use Rattle.multimap_slots.specs.Lists.{IsIn, AreDistinct, first_of}
use Rattle.multimap_slots.specs.Private.Paths.{after, IsMoved, IsPath, walk}
use Rattle.multimap_slots.specs.Private.ListLayout.{Places, nexts, previouses, states, links, IsOrdered, SetsNext, SetsPrevious}
use Rattle.multimap_slots.specs.Private.Reorders.{LinksInOrder}
use Rattle.multimap_slots.proofs.Callers.Permuted.{permuted_in, permuted_was_in, permuted_distinct}
use Rattle.multimap_slots.proofs.Nodes.Paths.{IsAway, path-agree}
use Rattle.multimap_slots.proofs.Nodes.FreePlaces.{free-agree, free_here}
use Rattle.multimap_slots.proofs.Nodes.OneField.{length-states}
use Rattle.multimap_slots.proofs.Nodes.Linked.{HasOrder, walk-order}

-- the places are linked to each other, whatever stands before the first
abbrev pub AreTied : (Option ℕ → Option ℕ) → (Option ℕ → Option ℕ) → List ℕ → Type 0
AreTied forth back [] = Unit {0}
AreTied forth back (q ∷ qs) = IsPath forth back (Some q) qs

same_place : (x y : ℕ) → Some x ≡ Some y → x ≡ y
same_place x y e = cc

-- one place more, or the list's end, is tied to the first of them
pub tied_more : (forth back forth' back' : Option ℕ → Option ℕ) (a : Option ℕ) (ps : List ℕ) → IsAway a ps → AreDistinct ps
    → IsMoved forth forth' a (first_of ps) → IsMoved back back' (first_of ps) a
    → AreTied forth back ps → IsPath forth' back' a ps
tied_more forth back forth' back' a [] away distinct forward backward tied = (forward.moved, backward.moved)
tied_more forth back forth' back' a (q ∷ qs) away distinct forward backward tied = (
  forward.moved,
  backward.moved,
  path-agree forth back forth' back' (Some q) qs
      (forward.kept (Some q) (λ e. away q (inl refl) (sym e)))
      (backward.kept None (λ e. cc))
      (λ x i. (
        forward.kept (Some x) (λ e. away x (inr i) (sym e)),
        backward.kept (Some x) (λ e. distinct.0 (subst (λ y. IsIn y qs) (same_place x q e) i)),
      ))
      tied,
)

-- the places from `left` on are linked, and the others are as they were
pub record IsTail {L : Type 0} (old new : List (Node L)) (front back first : Option ℕ) (places : List ℕ) : Type 0 where
  pub tied : AreTied (after front (nexts new)) (after back (previouses new)) places
  pub first_is : first ≡ first_of places
  pub others : (p : ℕ) → ¬ IsIn p places → get_or (nexts new) p None ≡ get_or (nexts old) p None
  pub states : states new ≡ states old
  pub links : links new ≡ links old

module _ {L : Type 0} {old now mid new : List (Node L)} {front back front' back' first : Option ℕ} {ps : List ℕ} where
  pub tail_more : (p : ℕ) → (IsIn p ps → ⊥) → AreDistinct ps → IsTail old now front back first ps
      → SetsNext now mid front front' (Some p) first → SetsPrevious mid new back back' first (Some p)
      → IsTail old new front' back' (Some p) (p ∷ ps)
  tail_more p absent distinct t n b = record {
    tied = tied_more (after front (nexts now)) (after back (previouses now)) (after front' (nexts new)) (after back' (previouses new))
        (Some p) ps (λ x i e. absent (subst (λ y. IsIn y ps) (same_place x p (sym e)) i)) distinct
        (rw (b.nexts, ← t.first_is) n.nexts) (rw (← t.first_is, ← n.previouses) b.previouses) t.tied;
    first_is = refl;
    others = λ q away.
        ap (λ ns. get_or ns q None) b.nexts
        ∙ n.nexts.kept (Some q) (λ e. away (inl (same_place q p e)))
        ∙ t.others q (λ i. away (inr i));
    states = b.states ∙ n.states ∙ t.states;
    links = b.links ∙ n.links ∙ t.links;
  }

  pub tail_whole : AreDistinct ps → IsTail old now front back first ps
      → SetsNext now mid front front' None first → SetsPrevious mid new back back' first None
      → LinksInOrder old new front' back' ps
  tail_whole distinct t n b = record {
    path = tied_more (after front (nexts now)) (after back (previouses now)) (after front' (nexts new)) (after back' (previouses new))
        None ps (λ x i e. cc) distinct
        (rw (b.nexts, ← t.first_is) n.nexts) (rw (← t.first_is, ← n.previouses) b.previouses) t.tied;
    others = λ q away.
        ap (λ ns. get_or ns q None) b.nexts
        ∙ n.nexts.kept (Some q) (λ e. cc)
        ∙ t.others q away;
    states = b.states ∙ n.states ∙ t.states;
    links = b.links ∙ n.links ∙ t.links;
  }

-- the places from a number on
pub IsIn-drop : (x : ℕ) (ps : List ℕ) (n : ℕ) → IsIn x (drop n ps) → IsIn x ps
IsIn-drop x ps zero i = i
IsIn-drop x [] (suc n) i = i
IsIn-drop x (p ∷ ps) (suc n) i = inr (IsIn-drop x ps n i)

AreDistinct-drop : (ps : List ℕ) (n : ℕ) → AreDistinct ps → AreDistinct (drop n ps)
AreDistinct-drop ps zero distinct = distinct
AreDistinct-drop [] (suc n) distinct = distinct
AreDistinct-drop (p ∷ ps) (suc n) distinct = AreDistinct-drop ps n distinct.1

-- the place before those from `left` on
pub drop_at : (ps : List ℕ) (left : ℕ) → 0 < left → left ≤ length ps → drop (left - 1) ps ≡ get_or ps (left - 1) 0 ∷ drop left ps
drop_at ps left some within =
    drop-cons ps (left - 1) 0 (omega arith)
    ∙ ap (λ n. get_or ps (left - 1) 0 ∷ drop n ps) up
  where
    up : suc (left - 1) ≡ left
    up = omega arith

pub IsIn-at : (ps : List ℕ) (left : ℕ) → 0 < left → left ≤ length ps → IsIn (get_or ps (left - 1) 0) ps
IsIn-at ps left some within =
    IsIn-drop (get_or ps (left - 1) 0) ps (left - 1)
    (subst (λ qs. IsIn (get_or ps (left - 1) 0) qs) (sym (drop_at ps left some within)) (inl refl))

pub AreDistinct-at : (ps : List ℕ) (left : ℕ) → 0 < left → left ≤ length ps → AreDistinct ps
    → AreDistinct (get_or ps (left - 1) 0 ∷ drop left ps)
AreDistinct-at ps left some within distinct = subst AreDistinct (drop_at ps left some within) (AreDistinct-drop ps (left - 1) distinct)

-- what is so of each place is so of the first of those from a number on
pub first_so : (P : ℕ → Type 0) (ps : List ℕ) (n : ℕ) (first : Option ℕ) → first ≡ first_of (drop n ps)
    → ((x : ℕ) → IsIn x ps → P x) → IfSome first P
first_so P ps n first e each = first_of_some (drop n ps) first e (λ x i. each x (IsIn-drop x ps n i))
  where
    first_of_some : (qs : List ℕ) (first : Option ℕ) → first ≡ first_of qs → ((x : ℕ) → IsIn x qs → P x) → IfSome first P
    first_of_some [] first e each = rw e tt
    first_of_some (q ∷ qs) first e each = rw e (each q (inl refl))

module _ {L : Type 0} {nodes : List (Node L)} {front back free : Option ℕ} {len detached : ℕ}
    (o : IsOrdered nodes front back free len detached)
  where
    -- the listed places are linked in another order
    pub IsOrdered-reorder : {new : List (Node L)} {front' back' : Option ℕ} {places : List ℕ} → IsPermutation o.order places
        → LinksInOrder nodes new front' back' places → HasOrder new front' back' free len detached places
    IsOrdered-reorder {new} {places = places} same linked = record {
      ordered = record {
        order = places;
        path = linked.path;
        distinct = permuted_distinct same o.distinct;
        listed = λ p i. rw linked.states (o.listed p (permuted_was_in same p i));
        all_in = λ p e. permuted_in same p (o.all_in p (rw linked.states at e));
        counted = o.counted ∙ sym (length_permutation o.order places same);
        vacant = o.vacant;
        total = o.total ∙ sym (length-states new nodes linked.states);
        frees = free-agree (nexts nodes) (nexts new) (states nodes) (states new) o.vacant free (λ q m below later.
            let here = free_here (nexts nodes) (states nodes) m q later in
            record {
              within = rw linked.states here.0;
              state = rw linked.states here.1;
              next = linked.others q (λ i.
                  let bad = sym (o.listed q (permuted_was_in same q i)) ∙ here.1 in
                  cc);
            }) o.frees;
        apart = rw linked.states o.apart;
      };
      order_is = refl;
    }

-- the places that are found from the front
pub walk-reordered : {L : Type 0} {nodes : List (Node L)} {front back free : Option ℕ} {len detached : ℕ} {order : List ℕ}
    → HasOrder nodes front back free len detached order → walk (after front (nexts nodes)) None len ≡ order
walk-reordered h = walk-order h.ordered ∙ h.order_is

-- what is seen of an order, field by field
pub Places-same : {L : Type 0} {old new : Places L} → new.order ≡ old.order → new.states ≡ old.states → new.links ≡ old.links
    → new.capacity ≡ old.capacity → new.detached ≡ old.detached → new ≡ old
Places-same a b c d e = λ i. record {
  order = a i;
  states = b i;
  links = c i;
  capacity = d i;
  detached = e i;
}
