-- The ranks of places, noted one after another, and the ranks of the places that links name.
use Rattle.std.proofs.Common.{◌≡◌, ℕ, ◌+◌, ◌<◌, ◌≤◌, List, [], ◌∷◌, ◌++◌, length, Some, refl, sym, ap, ◌∙◌, subst, inl, inr, arith}
use Rattle.std.proofs.Common.{append_assoc, length-append}
use Rattle.std.proofs.Common.{Option, None, IfSome, option_map, ◌^◌}
use Rattle.std.proofs.lemmas.Bool.{cases_eq, eq-eqb, ne_eqb}
use Rattle.std.proofs.lemmas.List.{get_or_append_left, get_or_push}
use Rattle.multimap_slots.specs.Lists.{IsIn, Rises, first_of}
use Rattle.multimap_slots.specs.Slots.{Slots, link_at}
use Rattle.multimap_slots.proofs.Callers.PlaceLists.{IsIn-append, IsIn-kept, IsIn-right}
use Rattle.multimap_walks.specs.declared.links.KeyLink.{KeyLink}
use Rattle.multimap_walks.specs.declared.links.ValueLink.{ValueLink}
use Rattle.multimap_walks.specs.Chained.{chain_of, is_value_of, position_in}
use Rattle.ordered_multimap.specs.Private.Copies.{AreRanks, HasRankedEnds, HasRankedNeighbours}
use Rattle.ordered_multimap.specs.Private.KeyRelocations.{new_place_in}
use Rattle.multimap_walks.specs.Packed.{HasSmallPlaces}
use Rattle.ordered_multimap.specs.Private.Relocations.{AreChained, relocated_value}
use Rattle.ordered_multimap.proofs.Callers.Places.{begins, last_of-member, position_in-split}
use Rattle.ordered_multimap.proofs.Chains.Neighbours.{first_of-member, next_of-members, previous_of-members}

-- the ranks of all places below this one are noted, and so many values stand before it
pub record AreNoted (order ranks : List ℕ) (rank place : ℕ) : Type 0 where
  pub done : List ℕ
  pub rest : List ℕ
  pub order_is : order ≡ done ++ rest
  pub below : (q : ℕ) → IsIn q done → q < place
  pub above : (q : ℕ) → IsIn q rest → place ≤ q
  pub rank_is : rank ≡ length done
  pub length_is : length ranks ≡ place
  pub each : (q : ℕ) → IsIn q done → new_place_in ranks q ≡ position_in order q

pub ranks-start : (order : List ℕ) → AreNoted order [] 0 0
ranks-start order = record {
  done = [];
  rest = order;
  order_is = refl;
  below = λ q i. absurd i;
  above = λ q i. omega arith;
  rank_is = refl;
  length_is = refl;
  each = λ q i. absurd i;
}

rises-right : (front back : List ℕ) → Rises (front ++ back) → Rises back
rises-right [] back rises = rises
rises-right (p ∷ front) back rises = rises-right front back rises.1

-- the lowest place of the rest, where it is in the rest, stands first
lowest_first : (rest : List ℕ) (place : ℕ) → Rises rest → IsIn place rest → ((q : ℕ) → IsIn q rest → place ≤ q) → first_of rest ≡ Some place
lowest_first [] place rises i above = absurd i
lowest_first (p ∷ rest) place rises (inl same) above = ap Some (sym same)
lowest_first (p ∷ rest) place rises (inr later) above = absurd (omega (arith, rises.0 place later, above p (inl refl)))

module _ {order ranks : List ℕ} {rank place : ℕ} (rises : Rises order) (noted : AreNoted order ranks rank place) where
  old_rank : (q : ℕ) → IsIn q noted.done → new_place_in (ranks ++ rank ∷ []) q ≡ position_in order q
  old_rank q i = get_or_append_left ranks (rank ∷ []) 0 q (omega (arith, noted.below q i, noted.length_is)) ∙ noted.each q i

  length_after : length (ranks ++ rank ∷ []) ≡ place + 1
  length_after = omega (arith, length-append ranks (rank ∷ []), noted.length_is)

  rest_rises : Rises noted.rest
  rest_rises = rises-right noted.done noted.rest (subst Rises noted.order_is rises)

  -- a value stands at the place
  pub ranks-listed : IsIn place order → AreNoted order (ranks ++ rank ∷ []) (rank + 1) (place + 1)
  ranks-listed listed =
      let in_rest : IsIn place noted.rest = elim (IsIn-append place noted.done noted.rest (subst (IsIn place) noted.order_is listed)) [
        | inl before ↦ absurd (omega (arith, noted.below place before))
        | inr later ↦ later
      ] in
      let b = begins noted.rest place (lowest_first noted.rest place rest_rises in_rest noted.above) in
      let split : order ≡ noted.done ++ place ∷ b.rest = noted.order_is ∙ ap (λ ps. noted.done ++ ps) b.is in
      record {
        done = noted.done ++ place ∷ [];
        rest = b.rest;
        order_is = split ∙ sym (append_assoc noted.done (place ∷ []) b.rest);
        below = λ q i. elim (IsIn-append q noted.done (place ∷ []) i) [
          | inl old ↦ omega (arith, noted.below q old)
          | inr last ↦ elim last [ inl same ↦ omega (arith, same) | inr none ↦ absurd none ]
        ];
        above = λ q i. let higher : place < q = (subst Rises b.is rest_rises).0 q i in omega (arith, higher);
        rank_is = omega (arith, noted.rank_is, length-append noted.done (place ∷ []));
        length_is = length_after;
        each = λ q i. elim (IsIn-append q noted.done (place ∷ []) i) [
          | inl old ↦ old_rank q old
          | inr last ↦ elim last [
            | inl same ↦ ap (new_place_in (ranks ++ rank ∷ [])) same ∙ get_or_push ranks rank 0 place noted.length_is ∙ noted.rank_is
                ∙ sym (position_in-split noted.done place b.rest (λ j. omega (arith, noted.below place j)))
                ∙ sym (ap (λ ps. position_in ps place) split) ∙ ap (position_in order) (sym same)
            | inr none ↦ absurd none
          ]
        ];
      }

  -- none stands there
  pub ranks-hole : (IsIn place order → ⊥) → AreNoted order (ranks ++ rank ∷ []) rank (place + 1)
  ranks-hole unlisted = record {
    done = noted.done;
    rest = noted.rest;
    order_is = noted.order_is;
    below = λ q i. omega (arith, noted.below q i);
    above = λ q i. elim (cases_eq q place) [
      | inl same ↦ absurd (unlisted (subst (IsIn place) (sym noted.order_is)
          (IsIn-right place noted.done noted.rest (subst (λ p. IsIn p noted.rest) same i))))
      | inr differs ↦ omega (arith, noted.above q i, differs)
    ];
    rank_is = noted.rank_is;
    length_is = length_after;
    each = old_rank;
  }

-- all places in use are behind
pub ranks-end : {order ranks : List ℕ} {rank place : ℕ} → AreNoted order ranks rank place → ((q : ℕ) → IsIn q order → q < place)
    → AreRanks order (λ q. q < length ranks) (new_place_in ranks)
ranks-end {order} {ranks} {place = place} noted within = record {
  within = λ q i. omega (arith, within q i, noted.length_is);
  each = λ q i. elim (IsIn-append q noted.done noted.rest (subst (IsIn q) noted.order_is i)) [
    | inl before ↦ noted.each q before
    | inr later ↦ absurd (omega (arith, within q i, noted.above q later))
  ];
}

-- fewer places stand before one that is listed than are listed
position_below : (order : List ℕ) (q : ℕ) → IsIn q order → position_in order q < length order
position_below [] q i = absurd i
position_below (p ∷ order) q i = elim (cases_eq p q) [
  | inl same ↦ rw (eq-eqb p q same) (omega arith)
  | inr differs ↦ rw (ne_eqb p q differs) (elim i [
    | inl here ↦ absurd (differs (sym here))
    | inr later ↦ omega (arith, position_below order q later)
  ])
]

if_small : (f : ℕ → ℕ) (o : Option ℕ) → ((q : ℕ) → o ≡ Some q → f q + 1 < 2 ^ 64) → IfSome (option_map f o) (λ p. p + 1 < 2 ^ 64)
if_small f None each = tt
if_small f (Some q) each = each q refl

-- each place of a value that a link names has a rank
module _ {K V : Type 0} {keys : Slots K KeyLink} {values : Slots V ValueLink} {has_rank : ℕ → Type 0} {rank : ℕ → ℕ}
    (chains : AreChained keys values) (are : AreRanks values.order has_rank rank) where
  in_chain : (key q : ℕ) → IsIn q (chain_of values key) → has_rank q
  in_chain key q i = are.within q (IsIn-kept (is_value_of values key) q values.order i).0

  pub ranked_ends : (q : ℕ) (l : KeyLink) → IsIn q keys.order → link_at keys q ≡ Some l → HasRankedEnds has_rank l
  ranked_ends q l listed is = record {
    head = in_chain q l.head (first_of-member (chain_of values q) l.head (chains.chained.head q l listed is));
    tail = in_chain q l.tail (last_of-member (chain_of values q) l.tail (chains.chained.tail q l listed is));
  }

  pub ranked_neighbours : (q : ℕ) (l : ValueLink) → IsIn q values.order → link_at values q ≡ Some l → HasRankedNeighbours has_rank l
  ranked_neighbours q l listed is = record {
    previous = λ p e. in_chain l.key p (previous_of-members (chain_of values l.key) q p (chains.chained.previous q l listed is ∙ e)).1;
    next = λ p e. in_chain l.key p (next_of-members (chain_of values l.key) q p (chains.chained.next q l listed is ∙ e)).1;
  }

  small_rank : length values.order < 2 ^ 64 → (key q : ℕ) → IsIn q (chain_of values key) → rank q + 1 < 2 ^ 64
  small_rank counted key q i =
      let listed = (IsIn-kept (is_value_of values key) q values.order i).0 in
      omega (arith, are.each q listed, position_below values.order q listed, counted)

  -- these ranks are small
  pub ranked_small : length values.order < 2 ^ 64 → (q : ℕ) (l : ValueLink) → IsIn q values.order → link_at values q ≡ Some l
      → HasSmallPlaces (relocated_value rank l)
  ranked_small counted q l listed is = record {
    previous = if_small rank l.previous (λ p e.
        small_rank counted l.key p (previous_of-members (chain_of values l.key) q p (chains.chained.previous q l listed is ∙ e)).1);
    next = if_small rank l.next (λ p e.
        small_rank counted l.key p (next_of-members (chain_of values l.key) q p (chains.chained.next q l listed is ∙ e)).1);
  }
