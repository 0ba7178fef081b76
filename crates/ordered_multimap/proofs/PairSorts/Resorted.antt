-- Values that have come to another tape: key list, table and values agree, on the same keys and on the pairs in the new order.
use Rattle.std.proofs.Common.{◌≡◌, ℕ, Bool, List, length, Some, IsSome, refl, sym, ap, ◌∙◌, subst}
use Rattle.std.specs.List.{filter_map, IsDistinct}
use Rattle.std.specs.Prelude.{IsPermutation}
use Rattle.std.specs.Ordering.{nat_cmp}
use Rattle.std.specs.FinMap.{FinMap}
use Rattle.multimap_slots.specs.Lists.{IsIn}
use Rattle.multimap_slots.specs.Slots.{Slots, item_at}
use Rattle.multimap_walks.specs.declared.links.KeyLink.{KeyLink}
use Rattle.multimap_walks.specs.declared.links.ValueLink.{ValueLink}
use Rattle.multimap_walks.specs.Chained.{pair_at, pairs_of}
use Rattle.ordered_multimap.specs.Agrees.{Agrees, items_of, lists_of}
use Rattle.ordered_multimap.specs.Lists.{lists}
use Rattle.ordered_multimap.specs.Private.PairSorts.{AreResorted}
use Rattle.ordered_multimap.proofs.Agreement.Agreed.{pair_in}
use Rattle.ordered_multimap.proofs.KeySorts.Reordered.{permuted-found}

-- a value that is listed has a pair
pub has_pair : {K V : Type 0} {eq : K → K → Bool} {hash : K → ℕ} {keys : Slots K KeyLink} {rows : FinMap nat_cmp ℕ}
    {values : Slots V ValueLink} → Agrees eq hash keys rows values → (p : ℕ) → IsIn p values.order → IsSome (pair_at keys values p)
has_pair agrees p i = subst IsSome (sym (pair_in agrees p i).pair_is) refl

module _ {K V : Type 0} {eq : K → K → Bool} {hash : K → ℕ} {keys keys_after : Slots K KeyLink} {rows : FinMap nat_cmp ℕ}
    {values sorted : Slots V ValueLink} {places : List ℕ} (agrees : Agrees eq hash keys rows values)
    (r : AreResorted keys keys_after values sorted places) where
  order : keys_after.order ≡ keys.order
  order = ap (λ (ks : Slots K KeyLink). ks.order) r.kept.rest

  pub agrees-resorted : Agrees eq hash keys_after rows sorted
  agrees-resorted = record {
    keys_sound = r.chains.keys_sound;
    values_sound = r.chains.sound;
    chained = r.chains.chained;
    distinct = subst (λ ks. IsDistinct eq (items_of ks)) (sym r.kept.rest) agrees.distinct;
    hashed = λ p k l i item is.
        let h = r.kept.hashes p l is in
        h.same ∙ agrees.hashed p k h.link (subst (IsIn p) order i)
        (ap (λ (ks : Slots K KeyLink). item_at ks p) (sym r.kept.rest) ∙ item) h.link_is;
    in_table = λ p l i is.
        let h = r.kept.hashes p l is in
        agrees.in_table p h.link (subst (IsIn p) order i) h.link_is ∙ ap Some (sym h.same);
    listed = λ p h e. subst (IsIn p) (sym order) (agrees.listed p h e);
    counted = agrees.counted ∙ ap length (sym order);
  }

  pub lists_of-resorted : lists_of keys_after sorted ≡ lists (items_of keys) (filter_map (pair_at keys values) places)
  lists_of-resorted = λ i. lists (items_of (r.kept.rest i)) (r.pairs i)

  -- the pairs are the same
  pub pairs-permuted : IsPermutation values.order places → IsPermutation (pairs_of keys values) (pairs_of keys_after sorted)
  pairs-permuted same = rw r.pairs (permuted-found (pair_at keys values) values.order (has_pair agrees) same)
