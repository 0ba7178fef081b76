-- How the nodes of a slot list lie. No public clause cites this module.
use Rattle.std.specs.Prelude.{◌≡◌, ◌≢◌, ℕ, zero, suc, ◌+◌, ◌<◌, ◌≤◌}
use Rattle.std.specs.Prelude.{Option, Some, None, IsSome, IfSome}
use Rattle.std.specs.Prelude.{List, [], ◌∷◌, ◌++◌, map, get_or, slice_get, slice_set, length}
use Rattle.std.specs.Prelude.{Result, OnErr, OnOk}
use Rattle.std.specs.List.{sum_by}
use Rattle.multimap_slots.specs.declared.order.node.Node.{Node}
use Rattle.multimap_slots.specs.declared.order.node.State.{State}
use Rattle.multimap_slots.specs.declared.order.node.State.TheVariants.{Listed, Free, Detached}
use Rattle.multimap_slots.specs.Lists.{IsIn, AreDistinct, without}
use Rattle.multimap_slots.specs.Private.Paths.{after, IsMoved, IsPath}
use Rattle.multimap_slots.specs.Slots.{Slots, DoublesIfGrown, HasRoomFor, KeepsItems}

-- the listed places in order, the state and the link of each place, how many places fit, and how
-- many of them are detached
pub record Places (L : Type 0) : Type 0 where
  pub order : List ℕ
  pub states : List State
  pub links : List L
  pub capacity : ℕ
  pub detached : ℕ

-- one for a detached place
abbrev pub one_if_detached : State → ℕ
one_if_detached Listed = 0
one_if_detached Free = 0
one_if_detached Detached = 1

-- how many places are detached
abbrev pub count_detached : List State → ℕ
count_detached states = sum_by one_if_detached states

-- so many free places are linked from here
abbrev pub IsFreeList : List (Option ℕ) → List State → ℕ → Option ℕ → Type 0
IsFreeList nexts states zero at = at ≡ None
IsFreeList nexts states (suc n) at =
    (p : ℕ) × (at ≡ Some p) × (p < length states) × (get_or states p Free ≡ Free)
    × IsFreeList nexts states n (get_or nexts p None)

-- a list with one item written, at a place of the list or right behind it
abbrev pub put : {X : Type 0} → List X → ℕ → X → List X
put [] i x = x ∷ []
put (y ∷ ys) zero x = x ∷ ys
put (y ∷ ys) (suc i) x = y ∷ put ys i x

module _ {L : Type 0} where
  -- there is no place, whatever its state, and so many fit
  pub record HasNoPlaces (o : Places L) (capacity : ℕ) : Type 0 where
    pub order : o.order ≡ []
    pub states : o.states ≡ []
    pub links : o.links ≡ []
    pub detached : o.detached ≡ 0
    pub capacity_is : o.capacity ≡ capacity

  -- no place is listed twice, just those that are marked so are listed, each has a link, none is
  -- detached where their number is 0, and there is room for all
  pub record AreSound (o : Places L) : Type 0 where
    pub distinct : AreDistinct o.order
    pub listed : (p : ℕ) → IsIn p o.order → get_or o.states p Free ≡ Listed
    pub all_in : (p : ℕ) → get_or o.states p Free ≡ Listed → IsIn p o.order
    pub linked : (p : ℕ) → IsIn p o.order → IsSome (slice_get o.links p)
    pub none_detached : o.detached ≡ 0 → (p : ℕ) → get_or o.states p Free ≢ Detached
    pub among : length o.order + o.detached ≤ length o.states
    pub fits : length o.states ≤ o.capacity

  -- these places differ, and each is detached
  pub record AreAllDetached (o : Places L) (places : List ℕ) : Type 0 where
    pub distinct : AreDistinct places
    pub each : (p : ℕ) → IsIn p places → get_or o.states p Free ≡ Detached

  -- so many places are neither listed nor detached, and there is room for all places
  pub record HasFree (o : Places L) (free : ℕ) : Type 0 where
    pub vacant : length o.order + free + o.detached ≡ length o.states
    pub fits : length o.states ≤ o.capacity

  -- the place is neither listed nor free
  pub record IsDetached (o : Places L) (place : ℕ) : Type 0 where
    pub not_listed : ¬ IsIn place o.order
    pub not_free : get_or o.states place Free ≢ Free

  -- only the capacity may differ
  abbrev pub KeepsPlaces : Places L → Places L → Type 0
  KeepsPlaces old new = new ≡ record old { capacity = new.capacity }

  -- these are the order and the states now; each place has its link, and as many places fit
  pub record Relists (order : List ℕ) (states : List State) (old new : Places L) : Type 0 where
    pub order_is : new.order ≡ order
    pub states_are : new.states ≡ states
    pub links : new.links ≡ old.links
    pub capacity : new.capacity ≡ old.capacity

  -- the listed place is detached, and there is room for all places
  pub record DetachesPlace (old new : Places L) (place : ℕ) : Type 0 where
    pub was_listed : get_or old.states place Free ≡ Listed
    pub apart : IsDetached new place
    pub relists : Relists (without old.order place) (slice_set old.states place Detached) old new
    pub shorter : length new.order + 1 ≡ length old.order
    pub detached : new.detached ≡ old.detached + 1
    pub among : new.detached ≤ length old.states
    pub fits : length old.states ≤ old.capacity

  -- the detached place is free, and there is room for all places
  pub record FreesDetached (old new : Places L) (place : ℕ) : Type 0 where
    pub relists : Relists old.order (slice_set old.states place Free) old new
    pub detached : new.detached + 1 ≡ old.detached
    pub among : old.detached ≤ length old.states
    pub fits : length old.states ≤ old.capacity

  -- the listed place is free
  pub record RemovesPlace (old new : Places L) (place : ℕ) : Type 0 where
    pub relists : Relists (without old.order place) (slice_set old.states place Free) old new
    pub shorter : length new.order + 1 ≡ length old.order
    pub detached : new.detached ≡ old.detached

  -- the place behind each node
  abbrev pub nexts : List (Node L) → List (Option ℕ)
  nexts nodes = map (λ n. n.next) nodes

  -- the place before each node
  abbrev pub previouses : List (Node L) → List (Option ℕ)
  previouses nodes = map (λ n. n.standing.previous) nodes

  -- the state of each node
  abbrev pub states : List (Node L) → List State
  states nodes = map (λ n. n.standing.state) nodes

  -- the link of each node
  abbrev pub links : List (Node L) → List L
  links nodes = map (λ n. n.link) nodes

  -- the place behind `from` is written, where none is the list's own end, and nothing else
  pub record SetsNext (old new : List (Node L)) (front front' from to : Option ℕ) : Type 0 where
    pub nexts : IsMoved (after front (nexts old)) (after front' (nexts new)) from to
    pub previouses : previouses new ≡ previouses old
    pub states : states new ≡ states old
    pub links : links new ≡ links old

  -- the place before `from` is written, where none is the list's own end, and nothing else
  pub record SetsPrevious (old new : List (Node L)) (back back' from to : Option ℕ) : Type 0 where
    pub previouses : IsMoved (after back (previouses old)) (after back' (previouses new)) from to
    pub nexts : nexts new ≡ nexts old
    pub states : states new ≡ states old
    pub links : links new ≡ links old

  -- the place is within, and so are the places before and behind it; the one behind is listed
  pub record CanUnlink (nodes : List (Node L)) (place : ℕ) : Type 0 where
    pub within : place < length nodes
    pub before : IfSome (get_or (previouses nodes) place None) (λ p. p < length nodes)
    pub behind : IfSome (get_or (nexts nodes) place None)
        (λ p. get_or (states nodes) p Free ≡ Listed)

  -- the places before and behind this one are tied to each other, or to the list's own ends, and
  -- nothing else is written
  pub record Unlinks (old new : List (Node L)) (front front' back back' : Option ℕ) (place : ℕ)
      : Type 0 where
    pub tied : List (Node L)
    pub forth : SetsNext old tied front front' (get_or (previouses old) place None)
        (get_or (nexts old) place None)
    pub backward : SetsPrevious tied new back back' (get_or (nexts old) place None)
        (get_or (previouses old) place None)

  -- the place is free, ahead of the free places from `free` on, and nothing else changes but what
  -- stood before it
  pub record Releases (old new : List (Node L)) (place : ℕ) (free : Option ℕ) : Type 0 where
    pub nexts : nexts new ≡ slice_set (nexts old) place free
    pub previouses : (q : ℕ) → q ≢ place
        → get_or (previouses new) q None ≡ get_or (previouses old) q None
    pub states : states new ≡ slice_set (states old) place Free
    pub links : links new ≡ links old

  -- the place is detached, and nothing else changes but what stood before it
  pub record SetsDetached (old new : List (Node L)) (place : ℕ) : Type 0 where
    pub nexts : nexts new ≡ nexts old
    pub previouses : (q : ℕ) → q ≢ place
        → get_or (previouses new) q None ≡ get_or (previouses old) q None
    pub states : states new ≡ slice_set (states old) place Detached
    pub links : links new ≡ links old

  -- the nodes are linked in one order, and each other place is detached or on the list of free ones
  pub record IsOrdered (nodes : List (Node L)) (front back free : Option ℕ) (len detached : ℕ)
      : Type 0 where
    pub order : List ℕ
    pub path : IsPath (after front (nexts nodes)) (after back (previouses nodes)) None order
    pub distinct : AreDistinct order
    pub listed : (p : ℕ) → IsIn p order → get_or (states nodes) p Free ≡ Listed
    pub all_in : (p : ℕ) → get_or (states nodes) p Free ≡ Listed → IsIn p order
    pub counted : len ≡ length order
    pub vacant : ℕ
    pub total : len + vacant + detached ≡ length nodes
    pub frees : IsFreeList (nexts nodes) (states nodes) vacant free
    pub apart : detached ≡ count_detached (states nodes)

  -- a free place is listed last, with this link, and as many places fit
  pub record AddsLast (old new : Places L) (place : ℕ) (link : L) : Type 0 where
    pub was_free : get_or old.states place Free ≡ Free
    pub within : place ≤ length old.states
    pub within_links : place ≤ length old.links
    pub fills : place ≡ length old.states
        → length old.order + old.detached ≡ length old.states
    pub behind : length old.order ≡ length old.states → place ≡ length old.states
    pub order : new.order ≡ old.order ++ place ∷ []
    pub states : new.states ≡ put old.states place Listed
    pub links : new.links ≡ put old.links place link
    pub detached : new.detached ≡ old.detached
    pub capacity : new.capacity ≡ old.capacity

  -- a free place can be found, on the list of them or behind the nodes
  pub record CanClaim (nodes : List (Node L)) (free : Option ℕ) (capacity : ℕ) : Type 0 where
    pub vacant : ℕ
    pub frees : IsFreeList (nexts nodes) (states nodes) vacant free
    pub room : vacant ≡ 0 → length nodes < capacity

  -- a free place has this node now
  pub record Claims (old new : List (Node L)) (free free' : Option ℕ) (node : Node L) (place : ℕ)
      : Type 0 where
    pub within : place ≤ length old
    pub was_free : get_or (states old) place Free ≡ Free
    pub written : new ≡ put old place node
    pub fills : place ≡ length old → (n : ℕ) → IsFreeList (nexts old) (states old) n free → n ≡ 0
    pub behind : free ≡ None → place ≡ length old
    pub frees : (n : ℕ) → IsFreeList (nexts old) (states old) n free
        → (m : ℕ) × (m + length old + 1 ≡ n + length new)
        × IsFreeList (nexts new) (states new) m free'

-- so many more items fit, or they were refused; only the capacity may differ, and where it rises it
-- at least doubles
pub record GrowsFor {T L X E : Type 0} (more : ℕ) (old new : Slots T L) (result : Result X E)
    : Type 0 where
  pub room : OnOk result (HasRoomFor new more)
  pub refused : OnErr result (new.capacity ≡ old.capacity)
  pub unchanged : KeepsItems old new
  pub rises : old.capacity ≤ new.capacity
  pub doubles : DoublesIfGrown old.capacity new.capacity

-- each place has an item exactly if it is not free
pub record IsFilled {T : Type 0} (items : List (Option T)) (order : List ℕ) (states : List State)
    : Type 0 where
  pub same_length : length items ≡ length states
  pub filled : (p : ℕ) → IsIn p order → IsSome (get_or items p None)
  pub kept : (p : ℕ) → get_or states p Free ≡ Detached → IsSome (get_or items p None)
  pub empty : (p : ℕ) → get_or states p Free ≡ Free → get_or items p None ≡ None
