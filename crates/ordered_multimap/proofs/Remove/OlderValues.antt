-- Where only the last value of a key stays, key list, table and values agree, and the lists are without the older pairs.
use Rattle.std.proofs.Common.{◌≡◌, ℕ, Bool, true, List, [], ◌∷◌, ◌++◌, Option, Some, None, refl, sym, ap, ◌∙◌, subst, inl, arith}
use Rattle.std.proofs.lemmas.List.{append-nil}
use Rattle.std.specs.Cmp.{IsEquivalence}
use Rattle.std.specs.List.{filter_map}
use Rattle.std.specs.Ordering.{nat_cmp}
use Rattle.std.specs.FinMap.{FinMap}
use Rattle.multimap_slots.specs.Lists.{IsIn, AreDistinct, next_of}
use Rattle.multimap_slots.specs.Slots.{Slots, link_at}
use Rattle.multimap_slots.proofs.Callers.PlaceLists.{AreDistinct-gone, IsIn-kept, IsIn-left, IsIn-right, next_of-split}
use Rattle.multimap_walks.specs.declared.links.KeyLink.{KeyLink}
use Rattle.multimap_walks.specs.declared.links.ValueLink.{ValueLink}
use Rattle.multimap_walks.specs.Chained.{is_value_of, chain_of, pair_at, pairs_of}
use Rattle.ordered_multimap.specs.Lists.{lists}
use Rattle.ordered_multimap.specs.Pairs.{pairs_without}
use Rattle.ordered_multimap.specs.Agrees.{Agrees, HasKey, items_of, lists_of}
use Rattle.ordered_multimap.specs.Private.Remove.{TakesOlder, TakesValues, among}
use Rattle.ordered_multimap.proofs.Agreement.Agreed.{value_owner}
use Rattle.ordered_multimap.proofs.Agreement.Kept.{push_inj}
use Rattle.ordered_multimap.proofs.Remove.OneStays.{StaysAlone, agrees-alone, items_of-alone, pair, pairs_of-alone, pairs_were}
use Rattle.ordered_multimap.proofs.Remove.ValueByValue.{among-none, distinct, taking-whole}

module _ {K V : Type 0} {eq : K → K → Bool} (laws : IsEquivalence eq) {hash : K → ℕ} {keys keys_after : Slots K KeyLink}
    {rows : FinMap nat_cmp ℕ} {values values_after : Slots V ValueLink}
    (agrees : Agrees eq hash keys rows values) (k : K) (place : ℕ) (has : HasKey eq keys k place)
    (takes : TakesOlder keys keys_after values values_after place) where
  -- what has left is the chain without its last place
  pub parts : chain_of values place ≡ takes.taking.gone ++ takes.link.tail ∷ []
  parts = taking-whole takes.count takes.link.tail takes.taking
      (omega (arith, takes.older, agrees.chained.length place takes.link has.listed takes.link_is))

  pub tail_own : (IsIn takes.link.tail values.order) × (is_value_of values place takes.link.tail ≡ true)
  tail_own = IsIn-kept (is_value_of values place) takes.link.tail values.order
      (subst (IsIn takes.link.tail) (sym parts) (IsIn-right takes.link.tail takes.taking.gone (takes.link.tail ∷ []) (inl refl)))

  tail_apart : ¬ IsIn takes.link.tail takes.taking.gone
  tail_apart i = AreDistinct-gone takes.taking.gone takes.link.tail []
      (subst AreDistinct parts (distinct agrees.values_sound agrees.chained place)) (IsIn-left takes.link.tail takes.taking.gone [] i)

  -- none is behind the last one
  tail_next : (l : ValueLink) → link_at values takes.link.tail ≡ Some l → l.next ≡ None
  tail_next l is =
      sym (agrees.chained.next takes.link.tail l tail_own.0 is)
      ∙ ap (λ key. next_of (chain_of values key) takes.link.tail) (value_owner keys values place takes.link.tail l is tail_own.1)
      ∙ ap (λ ps. next_of ps takes.link.tail) parts ∙ next_of-split takes.taking.gone takes.link.tail [] tail_apart

  alone : StaysAlone keys keys_after values values_after place takes.link.tail
  alone = record {
    link = takes.link;
    link_is = takes.link_is;
    before = takes.taking.gone;
    behind = [];
    parts = parts;
    left = takes.left;
    taken = subst (λ ps. TakesValues (among ps) values takes.left) (sym (append-nil takes.taking.gone)) takes.taking.taken;
    rest = takes.rest;
    alone = λ l is. takes.alone l is ∙ ap (λ (o : Option ℕ). Some (record l { previous = None; next = o }))
        (tail_next l (sym (takes.taking.taken.links takes.link.tail (among-none takes.taking.gone takes.link.tail tail_apart)) ∙ is));
    links = takes.links;
    keys_are = takes.keys_are;
  }

  module _ (front : List ℕ) (order_is : values.order ≡ front ++ takes.link.tail ∷ []) where
    pub agrees-older : Agrees eq hash keys_after rows values_after
    agrees-older = agrees-alone laws agrees k place takes.link.tail has alone front [] order_is

    pub lists_of-older : (before : List (K × V)) (p : K × V) → pairs_of keys values ≡ before ++ p ∷ []
        → lists_of keys_after values_after ≡ lists (items_of keys) (pairs_without eq before k ++ p ∷ [])
    lists_of-older before p is =
        let last = pair laws agrees k place takes.link.tail has alone front [] order_is in
        let both = push_inj (filter_map (pair_at keys values) front) before (last.key, last.value) p
        (sym (pairs_were laws agrees k place takes.link.tail has alone front [] order_is) ∙ is) in
        (λ i. lists (items_of-alone laws agrees k place takes.link.tail has alone i)
        (pairs_of-alone laws agrees k place takes.link.tail has alone front [] order_is i))
        ∙ (λ i. lists (items_of keys) (pairs_without eq (both.0 i) k ++ both.1 i ∷ []))
