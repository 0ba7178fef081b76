-- What a ghost field says squashed can be read off it: it has one proof at most, or is computed.
use Rattle.std.proofs.Common.{◌≡◌, ℕ, false, true, List, [], ◌∷◌, length, reverse, Option, Some, IsSome, get_or, sym, ap, ◌∙◌, subst, inl}
use Rattle.std.proofs.Common.{inr, ◌≤◌}
use Rattle.std.specs.Prelude.{IfSome}
use Rattle.std.specs.Coded.{×_prop, Unit-prop}
use Rattle.std.proofs.Math.Logic.{∥∥₁_elim, ∥∥₁_map}
use Rattle.std.proofs.Props.{props}
use Rattle.std.proofs.lemmas.Bool.{cases_eq}
use Rattle.multimap_slots.specs.Lists.{IsIn, AreDistinct, first_of, last_of, next_of, previous_of}
use Rattle.multimap_slots.specs.Slots.{Slots, IsSound, item_at, link_at}
use Rattle.multimap_slots.specs.SlotCells.{lent_slots, IsLeft}
use Rattle.multimap_slots.specs.declared.cells_of.SlotCells.{SlotCells}
use Rattle.multimap_walks.specs.declared.links.ChainEnds.{ChainEnds}
use Rattle.multimap_walks.specs.declared.links.KeyLink.{KeyLink}
use Rattle.multimap_walks.specs.declared.links.ValueLink.{ValueLink}
use Rattle.multimap_walks.specs.Along.{AreLeft, places_left}
use Rattle.multimap_walks.specs.Chained.{AreOwned, Stands, next_place, places_along, previous_place}
use Rattle.multimap_walks.specs.Lending.{AreUntaken, CanLend}
use Rattle.multimap_walks.specs.Path.{path, IsPath, Leads}
use Rattle.multimap_walks.specs.RestWalk.{CanReadChain, CanReadPairs}
use Rattle.multimap_walks.proofs.Callers.Paths.{path-is}

pub Leads-prop : (names : ℕ → Option ℕ) (ps : List ℕ) → IsProp (Leads names ps)
Leads-prop names [] = Unit-prop
Leads-prop names (p ∷ ps) =
    let here : IsProp (IfSome (first_of ps) (λ q. names p ≡ Some q)) = Prim.hlevel props in
    ×_prop here (Leads-prop names ps)

pub AreDistinct-prop : (ps : List ℕ) → IsProp (AreDistinct ps)
AreDistinct-prop [] = Unit-prop
AreDistinct-prop (p ∷ ps) =
    let here : IsProp (IsIn p ps → ⊥) = Prim.hlevel props in
    ×_prop here (AreDistinct-prop ps)

-- that a place is in a list is found by a search
pub read_member : (p : ℕ) (ps : List ℕ) → ∥ IsIn p ps ∥₁ → IsIn p ps
read_member p [] some =
    let none : IsProp ⊥ = Prim.hlevel props in
    ∥∥₁_elim some none (λ member. member)
read_member p (q ∷ ps) some = elim (cases_eq p q) [
  | inl same ↦ inl same
  | inr differs ↦ inr (read_member p ps (∥∥₁_map some (λ member. elim member [
    | inl here ↦ absurd (differs here)
    | inr later ↦ later
  ])))
]

-- places in a row are those along the links
module _ (stands : ℕ → Type 0) (next previous : ℕ → Option ℕ) (front back n : ℕ)
    (read : (p : ℕ) → ∥ stands p ∥₁ → stands p) (some : ∥ IsPath stands next previous front back n ∥₁) where
  along : List ℕ
  along = path next front n

  along-is : (x : IsPath stands next previous front back n) → x.places ≡ along
  unfolding along
  along-is x = sym (path-is stands next previous front back n x)

  pub read_path : IsPath stands next previous front back n
  read_path =
      let first_prop : IsProp (IfSome (first_of along) (λ p. p ≡ front)) = Prim.hlevel props in
      let last_prop : IsProp (IfSome (last_of along) (λ p. p ≡ back)) = Prim.hlevel props in
      let count_prop : IsProp (length along ≡ n) = Prim.hlevel props in
      record {
        places = along;
        onward = ∥∥₁_elim some (Leads-prop next along) (λ x. subst (Leads next) (along-is x) x.onward);
        backward =
            ∥∥₁_elim some (Leads-prop previous (reverse along)) (λ x. subst (λ ps. Leads previous (reverse ps)) (along-is x) x.backward);
        first = ∥∥₁_elim some first_prop (λ x. subst (λ ps. IfSome (first_of ps) (λ p. p ≡ front)) (along-is x) x.first);
        last = ∥∥₁_elim some last_prop (λ x. subst (λ ps. IfSome (last_of ps) (λ p. p ≡ back)) (along-is x) x.last);
        count = ∥∥₁_elim some count_prop (λ x. sym (ap length (along-is x)) ∙ x.count);
        there = λ p member. read p (∥∥₁_map some (λ x. x.there p (subst (IsIn p) (sym (along-is x)) member)));
      }

-- that places of the order are left
pub read_left : (order : List ℕ) (left : ChainEnds) → ∥ AreLeft order left ∥₁ → AreLeft order left
read_left order left some =
    read_path (λ p. IsIn p order) (next_of order) (previous_of order) left.first left.last left.length (λ p. read_member p order) some

module _ {T L : Type 0} where
  pub read_sound : (s : Slots T L) → ∥ IsSound s ∥₁ → IsSound s
  read_sound s some =
      let filled_prop : (p : ℕ) → IsProp (IsSome (item_at s p)) = λ p. Prim.hlevel props in
      let linked_prop : (p : ℕ) → IsProp (IsSome (link_at s p)) = λ p. Prim.hlevel props in
      let fits_prop : IsProp (length s.order ≤ s.capacity) = Prim.hlevel props in
      record {
        distinct = ∥∥₁_elim some (AreDistinct-prop s.order) (λ x. x.distinct);
        filled = λ p member. ∥∥₁_elim some (filled_prop p) (λ x. x.filled p member);
        linked = λ p member. ∥∥₁_elim some (linked_prop p) (λ x. x.linked p member);
        fits = ∥∥₁_elim some fits_prop (λ x. x.fits);
      }

  module _ {A F : Type 0} (cells : SlotCells T L A F) where
    read_is_left : (p : ℕ) → ∥ IsLeft cells p ∥₁ → IsLeft cells p
    read_is_left p some =
        let filled_prop : IsProp (IsSome (item_at (lent_slots cells) p)) = Prim.hlevel props in
        let untaken_prop : IsProp (get_or cells.cells.left p false ≡ true) = Prim.hlevel props in
        record {
          listed = read_member p (lent_slots cells).order (∥∥₁_map some (λ x. x.listed));
          filled = ∥∥₁_elim some filled_prop (λ x. x.filled);
          untaken = ∥∥₁_elim some untaken_prop (λ x. x.untaken);
        }

    pub read_untaken : (places : List ℕ) → ∥ AreUntaken cells places ∥₁ → AreUntaken cells places
    read_untaken places some = record {
      distinct = ∥∥₁_elim some (AreDistinct-prop places) (λ x. x.distinct);
      each = λ p member. read_is_left p (∥∥₁_map some (λ x. x.each p member));
    }

    pub read_lends : (left : ChainEnds) → ∥ CanLend cells left ∥₁ → CanLend cells left
    read_lends left some =
        let order = (lent_slots cells).order in
        record {
          sound = read_sound (lent_slots cells) (∥∥₁_map some (λ x. x.sound));
          are_left = read_left order left (∥∥₁_map some (λ x. x.are_left));
          untaken = read_untaken (places_left order left) (∥∥₁_map some (λ x. x.untaken));
        }

module _ {V A F : Type 0} (cells : SlotCells V ValueLink A F) (left : ChainEnds) where
  pub read_owned : {K : Type 0} (keys : Slots K KeyLink) → ∥ AreOwned keys (lent_slots cells) ∥₁ → AreOwned keys (lent_slots cells)
  read_owned keys some = λ place l member link. read_member l.key keys.order (∥∥₁_map some (λ x. x place l member link))

  pub read_pairs : {K : Type 0} (keys : Slots K KeyLink) → ∥ CanReadPairs cells left keys ∥₁ → CanReadPairs cells left keys
  read_pairs keys some = record {
    sound = read_sound keys (∥∥₁_map some (λ x. x.sound));
    owned = read_owned keys (∥∥₁_map some (λ x. x.owned));
    lends = read_lends cells left (∥∥₁_map some (λ x. x.lends));
  }

  stands : (p : ℕ) → ∥ Stands (lent_slots cells) false p ∥₁ → Stands (lent_slots cells) false p
  stands p some =
      let item_prop : IsProp (IsSome (item_at (lent_slots cells) p)) = Prim.hlevel props in
      (read_member p (lent_slots cells).order (∥∥₁_map some (λ x. x.0)), ∥∥₁_elim some item_prop (λ x. x.1))

  pub read_chain : ∥ CanReadChain cells left ∥₁ → CanReadChain cells left
  read_chain some =
      let values = lent_slots cells in
      record {
        chain =
            read_path (Stands values false) (next_place values) (previous_place values) left.first left.last left.length stands
            (∥∥₁_map some (λ x. x.chain));
        untaken = read_untaken cells (places_along values left.first left.length) (∥∥₁_map some (λ x. x.untaken));
      }
