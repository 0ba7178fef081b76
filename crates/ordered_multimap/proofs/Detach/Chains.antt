-- The values of a chain are detached one after another, and are then those of a drain.
use Rattle.std.proofs.Common.{◌≡◌, ◌≢◌, ℕ, false, not, List, [], ◌∷◌, ◌++◌, length, reverse, get_or, slice_get, Option, Some, None, IsSome}
use Rattle.std.proofs.Common.{option_and_then, sym, ap, ◌∙◌, subst, true≢false}
use Rattle.std.specs.Prelude.{IfSome}
use Rattle.std.proofs.lemmas.List.{reverse-append}
use Rattle.multimap_slots.specs.Lists.{IsIn, AreDistinct, first_of, last_of}
use Rattle.multimap_slots.specs.Slots.{IsSound, Slots, item_at, link_at}
use Rattle.multimap_slots.proofs.Callers.PlaceLists.{IsIn-kept, IsIn-left}
use Rattle.multimap_walks.specs.declared.links.ChainEnds.{ChainEnds}
use Rattle.multimap_walks.specs.declared.links.KeyLink.{KeyLink}
use Rattle.multimap_walks.specs.declared.links.ValueLink.{ValueLink}
use Rattle.multimap_walks.specs.Path.{Leads}
use Rattle.multimap_walks.specs.Chained.{IsChain, IsChained, IsDetachedChain, Stands, chain_of, is_value_of, next_place, previous_place}
use Rattle.multimap_walks.specs.Chained.{values_at}
use Rattle.multimap_walks.proofs.Callers.Paths.{Leads-agree, Leads-left, is_one, path-is}
use Rattle.multimap_walks.proofs.Callers.Chains.{along_whole, chain_whole}
use Rattle.ordered_multimap.specs.Detaches.{IsDrained, drained, drained_places}
use Rattle.ordered_multimap.specs.Private.Remove.{HoldsValues, IsTaking, KeepsContents, among}
use Rattle.ordered_multimap.proofs.Callers.Places.{AreDistinct-filter, filter_map-agree}
use Rattle.ordered_multimap.proofs.Remove.WholeKeys.{not_true}
use Rattle.ordered_multimap.proofs.Remove.ValueByValue.{among_in, gone_whole}
use Rattle.ordered_multimap.proofs.Detach.DrainSteps.{drained-chain, drained-kept, left-kept, places_of-chain}

-- the last part of a row
Leads-right : (names : ℕ → Option ℕ) (xs ys : List ℕ) → Leads names (xs ++ ys) → Leads names ys
Leads-right names [] ys leads = leads
Leads-right names (x ∷ xs) ys leads = Leads-right names xs ys leads.1

AreDistinct-left : (xs ys : List ℕ) → AreDistinct (xs ++ ys) → AreDistinct xs
AreDistinct-left [] ys distinct = tt
AreDistinct-left (x ∷ xs) ys distinct = (λ i. distinct.0 (IsIn-left x xs ys i), AreDistinct-left xs ys distinct.1)

first_of-left : (xs ys : List ℕ) (p : ℕ) → first_of (xs ++ ys) ≡ Some p → IfSome (first_of xs) (λ q. q ≡ p)
first_of-left [] ys p is = tt
first_of-left (x ∷ xs) ys p is = let same : x ≡ p = cc in same

module _ {K V : Type 0} {keys : Slots K KeyLink} {values : Slots V ValueLink} (sound : IsSound values) (chained : IsChained keys values)
    (key : ℕ) where
  module _ (l : KeyLink) (listed : IsIn key keys.order) (link_is : link_at keys key ≡ Some l) (n : ℕ) (following : Option ℕ)
      (new : Slots V ValueLink)
      (ends : ChainEnds) (first_is : ends.first ≡ l.head) (count_is : ends.length ≡ n)
      (taking : IsTaking (chain_of values key) n following values new)
      (last_is : last_of taking.gone ≡ Some ends.last) (kept : KeepsContents values new) where
    gone : List ℕ
    gone = taking.gone

    whole : IsChain values false l.head l.tail l.length
    whole = chain_whole keys values key l sound chained (record { listed = listed; link_is = link_is })

    parts : whole.places ≡ gone ++ taking.rest
    unfolding gone
    parts =
        sym (path-is (Stands values false) (next_place values) (previous_place values) l.head l.tail l.length whole)
        ∙ along_whole keys values key l sound chained (record { listed = listed; link_is = link_is }) ∙ taking.parts

    next_same : (p : ℕ) → next_place values p ≡ next_place new p
    next_same p = ap (λ ls. option_and_then (λ m. m.next) (slice_get ls p)) (sym kept.links)

    previous_same : (p : ℕ) → previous_place values p ≡ previous_place new p
    previous_same p = ap (λ ls. option_and_then (λ m. m.previous) (slice_get ls p)) (sym kept.links)

    item_same : (p : ℕ) → item_at new p ≡ item_at values p
    item_same p = ap (λ (is : List (Option V)). get_or is p None) kept.items

    distinct : AreDistinct gone
    unfolding gone
    distinct = AreDistinct-left gone taking.rest
        (subst AreDistinct taking.parts (AreDistinct-filter (is_value_of values key) values.order sound.distinct))

    was_listed : (p : ℕ) → IsIn p gone → IsIn p values.order
    unfolding gone
    was_listed p member = (IsIn-kept (is_value_of values key) p values.order
        (subst (IsIn p) (sym taking.parts) (IsIn-left p gone taking.rest member))).0

    unlisted : (p : ℕ) → IsIn p gone → ¬ IsIn p new.order
    unfolding gone
    unlisted p member i =
        let stays = (IsIn-kept (λ q. not (among gone q)) p values.order (subst (IsIn p) taking.taken.order i)).1 in
        true≢false (sym (among_in gone p member) ∙ not_true (among gone p) stays)

    chain : IsDetachedChain new ends.first ends.last ends.length
    unfolding gone
    chain = record {
      places = gone;
      onward = Leads-agree (next_place values) (next_place new) gone (λ p member. next_same p)
          (Leads-left (next_place values) gone taking.rest (subst (Leads (next_place values)) parts whole.onward));
      backward = Leads-agree (previous_place values) (previous_place new) (reverse gone) (λ p member. previous_same p)
          (Leads-right (previous_place values) (reverse taking.rest) (reverse gone)
          (subst (Leads (previous_place values)) (ap reverse parts ∙ reverse-append gone taking.rest) whole.backward));
      first = first_of-left gone taking.rest ends.first
          (ap first_of (sym taking.parts) ∙ chained.head key l listed link_is ∙ ap Some (sym first_is));
      last = is_one (last_of gone) ends.last last_is;
      count = taking.count ∙ sym count_is;
      there = λ p member. record {
        not_listed = unlisted p member;
        has_item = subst IsSome (sym (item_same p))
            (sound.filled p (was_listed p member));
      };
    }

    drain : IsDrained new ends
    unfolding chain
    drain = drained-chain new ends chain distinct

    given : drained new ends ≡ values_at values taking.gone
    unfolding chain gone
    given =
        ap (values_at new) (places_of-chain new ends chain)
        ∙ filter_map-agree (item_at new) (item_at values) taking.gone (λ p member. item_same p)

    -- what was detached is what a drain gives
    pub holds_gone : HoldsValues new ends (values_at values taking.gone)
    holds_gone = record { chain = drain; left = given }

    -- all were detached
    pub holds_whole : n ≡ length (chain_of values key) → HoldsValues new ends (values_at values (chain_of values key))
    holds_whole all = record { chain = drain; left = given ∙ ap (values_at values) (gone_whole taking all) }

-- a link of a listed value was mended
module _ {V : Type 0} (values values_after : Slots V ValueLink) (ends : ChainEnds) (place : ℕ) (listed : IsIn place values.order)
    (rest : values_after ≡ record values { links = values_after.links })
    (links : (q : ℕ) → q ≢ place → link_at values_after q ≡ link_at values q) (drain : IsDrained values ends) where
  unlisted_after : (p : ℕ) → IsIn p (drained_places values ends) → ¬ IsIn p values_after.order
  unlisted_after p member i = (drain.there p member).not_listed (subst (λ (s : Slots V ValueLink). IsIn p s.order) rest i)

  items_after : (p : ℕ) → IsIn p (drained_places values ends) → item_at values_after p ≡ item_at values p
  items_after p member = ap (λ (s : Slots V ValueLink). item_at s p) rest

  links_after : (p : ℕ) → IsIn p (drained_places values ends) → link_at values_after p ≡ link_at values p
  links_after p member = links p (λ same. (drain.there p member).not_listed (subst (λ x. IsIn x values.order) (sym same) listed))

  pub mended_drain : {items : List V} → drained values ends ≡ items → HoldsValues values_after ends items
  mended_drain left = record {
    chain = drained-kept values_after ends drain unlisted_after items_after links_after;
    left = left-kept values_after ends drain unlisted_after items_after links_after ∙ left;
  }
