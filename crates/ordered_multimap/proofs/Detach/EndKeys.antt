-- The key at an end of the keys.
use Rattle.std.proofs.Common.{◌≡◌, ℕ, Bool, Option, Some, None, sym, ap, ◌∙◌}
use Rattle.std.specs.Cmp.{IsEquivalence}
use Rattle.std.specs.Ordering.{nat_cmp}
use Rattle.std.specs.Prelude.{IfNone, IfSome}
use Rattle.std.specs.FinMap.{FinMap}
use Rattle.std.specs.declared.cmp.PartialEq as equality
use Rattle.std.specs.declared.hash.Hash as hash
use Rattle.std.specs.declared.hash.Hasher as hasher
use Rattle.std.specs.declared.hash.BuildHasher as builder
use Rattle.multimap_slots.specs.Slots.{Slots, item_at}
use Rattle.multimap_slots.specs.Tapes.{Taped}
use Rattle.multimap_walks.specs.declared.End.{End}
use Rattle.multimap_walks.specs.declared.links.ChainEnds.{ChainEnds}
use Rattle.multimap_walks.specs.declared.links.KeyLink.{KeyLink}
use Rattle.multimap_walks.specs.declared.links.ValueLink.{ValueLink}
use Rattle.multimap_walks.specs.Walk.{end_item}
use Rattle.ordered_multimap.specs.Agrees.{Agrees, HasKey, items_of}
use Rattle.ordered_multimap.specs.declared.list_ordered_multimap.drain.EntryValuesDrain as drains
use Rattle.ordered_multimap.specs.Changes.{removed}
use Rattle.ordered_multimap.specs.Drains.{DrainsEntry}
use Rattle.ordered_multimap.specs.Multimap.{Multimap}
use Rattle.ordered_multimap.specs.Private.KeySteps.{DetachesValues, HasEndKey}
use Rattle.ordered_multimap.specs.Private.RemoveOne.{end_of_list}
use Rattle.ordered_multimap.specs.Rooms.{SameRooms}
use Rattle.ordered_multimap.proofs.Agreement.LookUps.{own_key, stored_at}
use Rattle.ordered_multimap.proofs.Append.Rooms.{map_of}
use Rattle.ordered_multimap.proofs.Callers.TakenEnds.{end_item-none}
use Rattle.ordered_multimap.proofs.Detach.Drains.{drains_entry}
use Rattle.ordered_multimap.proofs.Remove.AtEnds.{at_end, end_listed, none_at_end}

module _ {K V S : Type 0} {eq : K → K → Bool} (laws : IsEquivalence eq) {hash : K → ℕ} {keys : Slots K KeyLink}
    {rows : FinMap nat_cmp ℕ} (values : Taped V ValueLink) (agrees : Agrees eq hash keys rows values.list) (row_capacity : ℕ)
    (state : S) (left : ChainEnds) (end : End) where
  -- it stands at the place at that end of the order
  pub end_key_found : (at : Option ℕ) → at ≡ end_of_list end keys.order
      → IfSome at (HasEndKey eq end (map_of keys row_capacity values state left))
  end_key_found None is = tt
  end_key_found (Some place) is =
      let own = own_key laws agrees place (end_listed end keys.order place (sym is)) in
      let has : HasKey eq keys own.1.stored place = record {
        listed = own.1.listed;
        stored = own.1.stored;
        item_is = own.1.item_is;
        equal = laws.refl own.1.stored;
      } in
      record {
        key = own.1.stored;
        there = has;
        stored = sym (stored_at laws agrees own.1.stored place own.1.stored has own.1.item_is);
        at_end = (at_end (item_at keys) end keys.order place own.1.stored agrees.keys_sound.distinct (sym is) own.1.item_is).item;
      }

-- and where there is no place, there is no key
pub end_key_none : {K : Type 0} (keys : Slots K KeyLink) (end : End) (at : Option ℕ) → at ≡ end_of_list end keys.order
    → IfNone at (end_item end (items_of keys) ≡ None)
end_key_none keys end None is = ap (end_item end) (none_at_end (item_at keys) end keys.order (sym is)) ∙ end_item-none end
end_key_none keys end (Some place) is = tt

-- a drain over a map from which a key was taken, if there was one
pub drains_if_some : {K V S A H : Type 0} {e : equality.Ghosts K} {k : hash.Ghosts K} {b : builder.Ghosts S H} {h : hasher.Ghosts H}
    (eq : K → K → Bool) {old m : Multimap K V S} (d : drains.EntryValuesDrain K V S A H e k b h) (key : Option K)
    → IfSome key (λ j. DetachesValues eq old m j (removed eq old.lists j)) → SameRooms old m → d.map.now ≡ m
    → IfSome key (λ j. DrainsEntry eq old j d)
drains_if_some eq d None detached rooms same = tt
drains_if_some eq d (Some j) detached rooms same = drains_entry d detached rooms same
