-- What linked nodes tell of their order, and how a push and a removal keep it.
use Rattle.std.proofs.Common.{◌≡◌, ◌≢◌, ℕ, ◌<◌, ◌≤◌, List, [], ◌∷◌, ◌++◌, length, get_or, set, IfSome, Option, None, refl, sym, ap, subst}
use Rattle.std.proofs.Common.{◌∙◌}
use Rattle.std.proofs.Common.{inl, inr}
use Rattle.std.proofs.lemmas.Bool.{cases_lt}
use Rattle.std.proofs.lemmas.List.{length-map, get_or_past}
use Rattle.multimap_slots.specs.declared.order.node.Node.{Node}
use Rattle.multimap_slots.specs.declared.order.node.State.TheVariants.{Listed, Free, Detached}
use Rattle.multimap_slots.specs.Lists.{IsIn, AreDistinct, first_of, last_of, next_of, previous_of}
use Rattle.multimap_slots.specs.Private.Paths.{after, IsPath, walk}
use Rattle.multimap_slots.specs.Private.ListLayout.{nexts, previouses, states, IsOrdered}
use Rattle.multimap_slots.proofs.Callers.PlaceLists.{Split, IsIn-left, IsIn-right, IsIn-split, AreDistinct-gone, next_of-split}
use Rattle.multimap_slots.proofs.Callers.PlaceLists.{previous_of-split}
use Rattle.multimap_slots.proofs.Nodes.Paths.{last_or_in, walk-path, path-last, path-neighbours}
use Rattle.multimap_slots.proofs.Nodes.Detached.{apart-detached, count_detached-some}
use Rattle.multimap_slots.proofs.Nodes.OneField.{field_read, length-states, nexts-relink, previouses-relink, states-relink}

module _ {L : Type 0} where
  pub IsOrdered-empty : IsOrdered {L = L} [] None None None 0 0
  IsOrdered-empty = record {
    order = [];
    path = (refl, refl);
    distinct = tt;
    listed = λ p i. absurd i;
    all_in = λ p e. absurd (let e' = e in cc);
    counted = refl;
    vacant = 0;
    total = refl;
    frees = refl;
    apart = refl;
  }

  -- the nodes are linked in just this order
  pub record HasOrder (nodes : List (Node L)) (front back free : Option ℕ) (len detached : ℕ) (order : List ℕ) : Type 0 where
    pub ordered : IsOrdered nodes front back free len detached
    pub order_is : ordered.order ≡ order

  module _ {nodes : List (Node L)} {front back free : Option ℕ} {len detached : ℕ} (o : IsOrdered nodes front back free len detached) where
    pub walk-order : walk (after front (nexts nodes)) None len ≡ o.order
    walk-order = rw o.counted (walk-path (after front (nexts nodes)) (after back (previouses nodes)) None o.order o.path)

    pub walk-length : length (walk (after front (nexts nodes)) None len) ≡ len
    walk-length = ap length walk-order ∙ sym o.counted

    pub back-is : back ≡ last_of o.order
    back-is = path-last (after front (nexts nodes)) (after back (previouses nodes)) None o.order o.path

    -- a place that isn't free is within
    pub taken-within : (p : ℕ) → get_or (states nodes) p Free ≢ Free → p < length nodes
    taken-within p taken = elim (cases_lt p (length nodes)) [
      | inl below ↦ below
      | inr past ↦ absurd (taken (get_or_past (states nodes) p Free (rw length-map past)))
    ]

    pub IsIn-within : (p : ℕ) → IsIn p o.order → p < length nodes
    IsIn-within p i = taken-within p (λ e. let bad = sym (o.listed p i) ∙ e in cc)

    -- a place that is neither free nor listed
    pub apart-is : (p : ℕ) → (IsIn p (walk (after front (nexts nodes)) None len) → ⊥) → get_or (states nodes) p Free ≢ Free
        → get_or (states nodes) p Free ≡ Detached
    apart-is p absent taken =
        apart-detached (get_or (states nodes) p Free) (λ e. absent (rw walk-order (o.all_in p e))) taken

    -- where a place is neither free nor listed, one at least counts as detached
    pub apart-some : (p : ℕ) → (IsIn p (walk (after front (nexts nodes)) None len) → ⊥) → get_or (states nodes) p Free ≢ Free
        → 1 ≤ detached
    apart-some p absent taken = rw o.apart (count_detached-some (states nodes) p (apart-is p absent taken))

    -- where a place stands in the order
    pub split_at : (p : ℕ) → IsIn p (walk (after front (nexts nodes)) None len) → Split p o.order
    split_at p i = IsIn-split p o.order (rw walk-order at i)

    module _ {p : ℕ} (s : Split p o.order) where
      pub split_in : IsIn p o.order
      split_in = rw s.is (IsIn-right p s.front (p ∷ s.back) (inl refl))

      pub split_within : p < length nodes
      split_within = IsIn-within p split_in

      pub split_distinct : AreDistinct (s.front ++ p ∷ s.back)
      split_distinct = subst AreDistinct s.is o.distinct

      pub split_gone : IsIn p (s.front ++ s.back) → ⊥
      split_gone = AreDistinct-gone s.front p s.back split_distinct

      pub neighbours : (get_or (previouses nodes) p None ≡ last_of s.front) × (get_or (nexts nodes) p None ≡ first_of s.back)
      neighbours =
          path-neighbours (after front (nexts nodes)) (after back (previouses nodes)) None s.front p s.back
          (subst (IsPath (after front (nexts nodes)) (after back (previouses nodes)) None) s.is o.path)

      pub next-is : get_or (nexts nodes) p None ≡ next_of o.order p
      next-is =
          neighbours.1 ∙ sym (next_of-split s.front p s.back (λ i. split_gone (IsIn-left p s.front s.back i)))
          ∙ ap (λ ps. next_of ps p) (sym s.is)

      pub previous-is : get_or (previouses nodes) p None ≡ previous_of o.order p
      previous-is =
          neighbours.0 ∙ sym (previous_of-split s.front p s.back (λ i. split_gone (IsIn-right p s.front s.back i)))
          ∙ ap (λ ps. previous_of ps p) (sym s.is)

    -- a listed place is within the nodes
    pub listed-within : (p : ℕ) → IsIn p (walk (after front (nexts nodes)) None len) → p < length nodes
    listed-within p i = IsIn-within p (rw walk-order at i)

    -- what the node of a listed place, which was read, tells of the places around it
    module _ (p : ℕ) (i : IsIn p (walk (after front (nexts nodes)) None len)) (read : Node L) (reading : read ≡ get_or nodes p read) where
      pub next-read : read.next ≡ next_of (walk (after front (nexts nodes)) None len) p
      next-read =
          field_read (λ n. n.next) nodes p read None (listed-within p i) reading ∙ next-is (split_at p i)
          ∙ ap (λ ps. next_of ps p) (sym walk-order)

      pub previous-read : read.standing.previous ≡ previous_of (walk (after front (nexts nodes)) None len) p
      previous-read =
          field_read (λ n. n.standing.previous) nodes p read None (listed-within p i) reading ∙ previous-is (split_at p i)
          ∙ ap (λ ps. previous_of ps p) (sym walk-order)

    -- the last of some listed places is within the nodes
    pub last-within : (a : Option ℕ) (ps : List ℕ) → a ≡ last_of ps → ((x : ℕ) → IsIn x ps → IsIn x o.order)
        → IfSome a (λ q. q < length nodes)
    last-within a ps e listed = elim (last_or_in None ps) [
      | inl none ↦ rw (e ∙ none) tt
      | inr some ↦ rw (e ∙ some.1) (IsIn-within some.0 (listed some.0 some.2))
    ]

    -- the first of some listed places is marked so
    pub first-listed : (a : Option ℕ) (ps : List ℕ) → a ≡ first_of ps → ((x : ℕ) → IsIn x ps → IsIn x o.order)
        → IfSome a (λ q. get_or (states nodes) q Free ≡ Listed)
    first-listed a [] e listed = rw e tt
    first-listed a (p ∷ ps) e listed = rw e (o.listed p (listed p (inl refl)))

    -- what the state of a node that was read says
    pub state_tells : (p : ℕ) (read : Node L) → p < length nodes → read ≡ get_or nodes p read
        → (IsIn p (walk (after front (nexts nodes)) None len) → read.standing.state ≡ Listed)
        × (read.standing.state ≡ Listed → IsIn p (walk (after front (nexts nodes)) None len))
    state_tells p read within reading = (
      λ i. field_read (λ n. n.standing.state) nodes p read Free within reading ∙ o.listed p (rw walk-order at i),
      λ e. rw walk-order (o.all_in p (sym (field_read (λ n. n.standing.state) nodes p read Free within reading) ∙ e)),
    )

module _ {L : Type 0} {nodes : List (Node L)} {front back free : Option ℕ} {len detached : ℕ} where
  -- nodes that differ in their links alone are linked alike
  IsOrdered-same : {new : List (Node L)} → nexts new ≡ nexts nodes → previouses new ≡ previouses nodes → states new ≡ states nodes
      → IsOrdered nodes front back free len detached → IsOrdered new front back free len detached
  IsOrdered-same {new} same_nexts same_previouses same_states o = record {
    order = o.order;
    path = rw (same_nexts, same_previouses) o.path;
    distinct = o.distinct;
    listed = λ p i. rw same_states (o.listed p i);
    all_in = λ p e. o.all_in p (rw same_states at e);
    counted = o.counted;
    vacant = o.vacant;
    total = o.total ∙ sym (length-states new nodes same_states);
    frees = rw (same_nexts, same_states) o.frees;
    apart = rw same_states o.apart;
  }

  -- another link in a node that was read
  pub IsOrdered-relink : (p : ℕ) (read : Node L) (link : L) → read ≡ get_or nodes p read
      → IsOrdered nodes front back free len detached → IsOrdered (set nodes p (record read { link = link })) front back free len detached
  IsOrdered-relink p read link reading o =
      IsOrdered-same (nexts-relink nodes p read link reading) (previouses-relink nodes p read link reading)
      (states-relink nodes p read link reading) o
