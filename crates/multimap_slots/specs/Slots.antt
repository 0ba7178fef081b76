-- What a contract sees of a slot list, and what each change of it leaves.
use Rattle.std.specs.Prelude.{◌≡◌, ◌≢◌, ℕ, ◌+◌, ◌*◌, ◌<◌, ◌≤◌}
use Rattle.std.specs.Prelude.{Option, Some, None, IsSome}
use Rattle.std.specs.Prelude.{List, [], ◌∷◌, ◌++◌, slice_get, slice_set, get_or, length}
use Rattle.multimap_slots.specs.Lists.{IsIn, AreDistinct, without}

-- the listed places in order, the item and the link of each place, and how many items fit
pub record Slots (T L : Type 0) : Type 0 where
  pub order : List ℕ
  pub items : List (Option T)
  pub links : List L
  pub capacity : ℕ

-- a capacity that rises at least doubles
abbrev pub DoublesIfGrown : ℕ → ℕ → Type 0
DoublesIfGrown old new = old < new → old * 2 ≤ new

module _ {T L : Type 0} where
  -- the item at the place, if there is one
  abbrev pub item_at : Slots T L → ℕ → Option T
  item_at s p = get_or s.items p None

  -- the link of the place, if there is one
  abbrev pub link_at : Slots T L → ℕ → Option L
  link_at s p = slice_get s.links p

  -- there is no item, listed or not
  pub record IsEmpty (s : Slots T L) : Type 0 where
    pub order : s.order ≡ []
    pub items : s.items ≡ []

  -- no place is listed twice, each has an item and a link, and there is room for all
  pub record IsSound (s : Slots T L) : Type 0 where
    pub distinct : AreDistinct s.order
    pub filled : (p : ℕ) → IsIn p s.order → IsSome (item_at s p)
    pub linked : (p : ℕ) → IsIn p s.order → IsSome (link_at s p)
    pub fits : length s.order ≤ s.capacity

  -- so many more items fit
  abbrev pub HasRoomFor : Slots T L → ℕ → Type 0
  HasRoomFor s n = length s.order + n ≤ s.capacity

  -- each slot in use has an item of the list
  abbrev pub HasNoHole : Slots T L → Type 0
  HasNoHole s = length s.items ≡ length s.order

  -- only the capacity may differ
  abbrev pub KeepsItems : Slots T L → Slots T L → Type 0
  KeepsItems old new = new ≡ record old { capacity = new.capacity }

  -- the place is listed, with this item
  pub record HasItem (s : Slots T L) (place : ℕ) (item : T) : Type 0 where
    pub listed : IsIn place s.order
    pub item_is : item_at s place ≡ Some item

  -- the place is listed, with this link
  pub record HasLink (s : Slots T L) (place : ℕ) (link : L) : Type 0 where
    pub listed : IsIn place s.order
    pub link_is : link_at s place ≡ Some link

  -- the place is listed, with this item and this link
  pub record HasSlot (s : Slots T L) (place : ℕ) (item : T) (link : L) : Type 0 where
    pub listed : IsIn place s.order
    pub item_is : item_at s place ≡ Some item
    pub link_is : link_at s place ≡ Some link

  -- each other place has the item and the link that it had
  pub record KeepsOthers (old new : Slots T L) (place : ℕ) : Type 0 where
    pub items : (q : ℕ) → q ≢ place → item_at new q ≡ item_at old q
    pub links : (q : ℕ) → q ≢ place → link_at new q ≡ link_at old q

  -- the item is the last in the list, at a place that had none
  pub record PushesBack (old new : Slots T L) (place : ℕ) (item : T) (link : L) : Type 0 where
    pub was_absent : ¬ IsIn place old.order
    pub was_free : item_at old place ≡ None
    pub order : new.order ≡ old.order ++ place ∷ []
    pub item_is : item_at new place ≡ Some item
    pub link_is : link_at new place ≡ Some link
    pub others : KeepsOthers old new place

  -- the place has left the list, the item that stood there has gone, and as many fit as before
  pub record Removes (old new : Slots T L) (place : ℕ) (item : T) : Type 0 where
    pub was_listed : IsIn place old.order
    pub had : item_at old place ≡ Some item
    pub order : new.order ≡ without old.order place
    pub shorter : length new.order + 1 ≡ length old.order
    pub freed : item_at new place ≡ None
    pub others : KeepsOthers old new place
    pub capacity : new.capacity ≡ old.capacity

  -- the place has left the list, and an item is kept there
  pub record IsDetached (s : Slots T L) (place : ℕ) : Type 0 where
    pub not_listed : ¬ IsIn place s.order
    pub has_item : IsSome (item_at s place)

  -- these places differ, and an item is detached at each
  pub record AreDetached (s : Slots T L) (places : List ℕ) : Type 0 where
    pub distinct : AreDistinct places
    pub each : (p : ℕ) → IsIn p places → IsDetached s p

  -- the place isn't listed, and this item is kept there with this link
  pub record HasDetached (s : Slots T L) (place : ℕ) (item : T) (link : L) : Type 0 where
    pub not_listed : ¬ IsIn place s.order
    pub item_is : item_at s place ≡ Some item
    pub link_is : link_at s place ≡ Some link

  -- the place has left the list, and its item is kept there with its link
  pub record Detaches (old new : Slots T L) (place : ℕ) : Type 0 where
    pub order : new.order ≡ without old.order place
    pub shorter : length new.order + 1 ≡ length old.order
    pub items : new.items ≡ old.items
    pub links : new.links ≡ old.links

  -- the item that was kept at the place has gone, and the list is as it was
  pub record TakesDetached (old new : Slots T L) (place : ℕ) (item : T) : Type 0 where
    pub had : item_at old place ≡ Some item
    pub order : new.order ≡ old.order
    pub freed : item_at new place ≡ None
    pub others : KeepsOthers old new place

  -- no place is listed, the items that stood there have gone, each detached item is as it was, and
  -- as many fit as before
  pub record ClearsListed (old new : Slots T L) : Type 0 where
    pub order : new.order ≡ []
    pub freed : (p : ℕ) → IsIn p old.order → item_at new p ≡ None
    pub detached : (p : ℕ) (item : T) (link : L) → HasDetached old p item link
        → HasDetached new p item link
    pub capacity : new.capacity ≡ old.capacity

  -- the listed places stand in this order, and nothing else differs
  abbrev pub in_order : Slots T L → List ℕ → Slots T L
  in_order s places = record s { order = places }

  -- another item stands at the place
  abbrev pub with_item : Slots T L → ℕ → T → Slots T L
  with_item s place item = record s { items = slice_set s.items place (Some item) }

  -- the place has another link
  abbrev pub with_link : Slots T L → ℕ → L → Slots T L
  with_link s place link = record s { links = slice_set s.links place link }
