-- A key that a test accepts, which stays at its place.
use Rattle.std.proofs.Common.{◌≡◌, ℕ, Bool, [], ◌∷◌, Result, OnOk, OnErr, Ok, Err, sym, ◌∙◌, subst}
use Rattle.std.specs.Ordering.{nat_cmp}
use Rattle.std.specs.FinMap.{FinMap}
use Rattle.multimap_slots.specs.Lists.{IsIn}
use Rattle.multimap_slots.specs.Slots.{Slots, with_link}
use Rattle.multimap_slots.proofs.Callers.PlaceLists.{IsIn-left}
use Rattle.multimap_walks.specs.declared.links.KeyLink.{KeyLink}
use Rattle.multimap_walks.specs.declared.links.ValueLink.{ValueLink}
use Rattle.ordered_multimap.specs.Agrees.{HasKeyWhere}
use Rattle.ordered_multimap.specs.Private.Append.{AppendsBehind, AppendsFirst}
use Rattle.ordered_multimap.specs.Private.Relocations.{AreRelocated}
use Rattle.ordered_multimap.specs.Private.Remove.{InsertsBehind}
use Rattle.ordered_multimap.proofs.Append.Steps.{old_other}

module _ {K : Type 0} (accepts : K → Bool) (place : ℕ) where
  -- the key has another link
  linked_stays : {keys keys_after : Slots K KeyLink} (at : ℕ) (link : KeyLink) → keys_after ≡ with_link keys at link
      → HasKeyWhere accepts keys place → HasKeyWhere accepts keys_after place
  linked_stays at link is has = subst (λ s. HasKeyWhere accepts s place) (sym is)
      (record { listed = has.listed; stored = has.stored; item_is = has.item_is; equal = has.equal })

  module _ {V : Type 0} where
    pub relocated_stays : {keys keys_after : Slots K KeyLink} {values values_after : Slots V ValueLink}
        → AreRelocated keys keys_after values values_after → HasKeyWhere accepts keys place → HasKeyWhere accepts keys_after place
    relocated_stays r has = record {
      listed = subst (IsIn place) (sym r.relocates.key_order) has.listed;
      stored = has.stored;
      item_is = r.relocates.key_items place ∙ has.item_is;
      equal = has.equal;
    }

    appended_stays : {keys keys_after : Slots K KeyLink} {values values_after : Slots V ValueLink} {v : V} {at : ℕ}
        → AppendsBehind keys keys_after values values_after at v → HasKeyWhere accepts keys place → HasKeyWhere accepts keys_after place
    appended_stays {at = at} done has = linked_stays at _ done.pushed.keys_are (relocated_stays done.relocated has)

    pub inserted_stays : {keys keys_after : Slots K KeyLink} {values values_after : Slots V ValueLink} {v : V} {at : ℕ}
        → InsertsBehind keys keys_after values values_after at v → HasKeyWhere accepts keys place → HasKeyWhere accepts keys_after place
    inserted_stays {at = at} done has = linked_stays at _ done.older.keys_are
        (linked_stays at _ done.pushed.keys_are (relocated_stays done.relocated has))

    -- after either outcome of an append
    pub behind_stays : (keys keys_after : Slots K KeyLink) (values values_after : Slots V ValueLink) (v : V) (at : ℕ)
        → HasKeyWhere accepts keys place → {X E : Type 0} (r : Result X E) → OnOk r (AppendsBehind keys keys_after values values_after at v)
        → OnErr r (AreRelocated keys keys_after values values_after) → HasKeyWhere accepts keys_after place
    behind_stays keys keys_after values values_after v at has (Ok x) done relocated = appended_stays done has
    behind_stays keys keys_after values values_after v at has (Err e) done relocated = relocated_stays relocated has

    -- after either outcome of an append of another key
    pub first_stays : (keys keys_after : Slots K KeyLink) (rows rows_after : FinMap nat_cmp ℕ) (values values_after : Slots V ValueLink)
        (hash : ℕ) (k : K) (v : V) → HasKeyWhere accepts keys place → {X E : Type 0} (r : Result X E)
        → OnOk r (AppendsFirst keys keys_after rows rows_after values values_after hash k v)
        → OnErr r (AreRelocated keys keys_after values values_after × (rows_after ≡ rows)) → HasKeyWhere accepts keys_after place
    first_stays keys keys_after rows rows_after values values_after hash k v has (Ok x) done kept =
        let now = relocated_stays done.relocated has in
        let pushed = done.row.key_pushed in
        record {
          listed = subst (IsIn place) (sym pushed.order) (IsIn-left place done.keys_reserved.order (done.place ∷ []) now.listed);
          stored = now.stored;
          item_is = pushed.others.items place (old_other pushed place now.listed) ∙ now.item_is;
          equal = now.equal;
        }
    first_stays keys keys_after rows rows_after values values_after hash k v has (Err e) done kept = relocated_stays kept.0 has
