-- A key that a query finds leaves with its row and all its values: what the call on the query gives then.
use Rattle.std.proofs.Common.{◌≡◌, ℕ, Bool, true, slice_get, option_map, Option, Some, find, sym, ap, ◌∙◌, subst}
use Rattle.std.specs.Cmp.{IsEquivalence}
use Rattle.std.specs.List.{list_any}
use Rattle.multimap_slots.specs.Slots.{Slots}
use Rattle.multimap_slots.specs.Tapes.{Taped}
use Rattle.multimap_table.specs.Table.{Table}
use Rattle.multimap_walks.specs.declared.links.ChainEnds.{ChainEnds}
use Rattle.multimap_walks.specs.declared.links.KeyLink.{KeyLink}
use Rattle.multimap_walks.specs.declared.links.ValueLink.{ValueLink}
use Rattle.multimap_walks.specs.Chained.{pairs_of}
use Rattle.ordered_multimap.specs.Agrees.{HasKeyWhere, IsMap, StandsAt, items_of, lists_of}
use Rattle.ordered_multimap.specs.Changes.{removed_where}
use Rattle.ordered_multimap.specs.Keys.{stored_where}
use Rattle.ordered_multimap.specs.Pairs.{values_where}
use Rattle.ordered_multimap.specs.Private.KeySteps.{DetachesWhere}
use Rattle.ordered_multimap.specs.Private.Remove.{TakesRow, UnlinksKey}
use Rattle.ordered_multimap.specs.Removals.{IsRemovedWhere}
use Rattle.ordered_multimap.proofs.Agreement.AbsentKeys.{has_first}
use Rattle.ordered_multimap.proofs.Agreement.Queries.{found_at, listed_as_found, present_where, removes_where, stands_at, stored_is}
use Rattle.ordered_multimap.proofs.Agreement.Queries.{value_of_pair}
use Rattle.ordered_multimap.proofs.Append.Rooms.{map_of}
use Rattle.ordered_multimap.proofs.Remove.WholeEntries.{entry_detached, entry_lost, entry_rooms}
use Rattle.ordered_multimap.proofs.Remove.WholeKeys.{entry_is, removed_key}

module _ {K V : Type 0} {eq : K → K → Bool} (laws : IsEquivalence eq) {hash : K → ℕ} {keys keys_after : Slots K KeyLink}
    {table table_after : Table} {values values_after : Taped V ValueLink} {keeps : Bool} {gives : V → Type 0} {place : ℕ} {key : K}
    {ends : ChainEnds} (m : IsMap eq hash keys table.rows values)
    (t : UnlinksKey keeps gives keys keys_after values values_after place key ends) (row : TakesRow table table_after place)
    (accepts : K → Bool) (respects : (x y : K) → accepts x ≡ true → accepts y ≡ eq x y) (has : HasKeyWhere accepts keys place) where
  stands : StandsAt eq accepts keys place
  stands = stands_at laws accepts respects keys (Some place) has

  is_listed : true ≡ list_any accepts (items_of keys)
  is_listed = listed_as_found m.agrees accepts (Some place) has tt

  -- the key that left is the first one that the query accepts
  pub found_key : Some key ≡ find accepts (items_of keys)
  found_key = found_at stands (items_of keys) is_listed (λ k own. sym (removed_key laws m.agrees k place own t.removed))

  -- whatever key stands for an absent one
  pub found_as : (k : K) → key ≡ stored_where accepts (items_of keys) k
  found_as k =
      sym (removed_key laws m.agrees stands.stored place stands.own t.removed)
      ∙ stored_is eq accepts stands.stored stands.same (items_of keys) k (sym is_listed)

  pub found_stored_key : (k : K)
      → Some key ≡ option_map (λ _. stored_where accepts (items_of keys) k) (slice_get (values_where accepts (pairs_of keys values.list)) 0)
  found_stored_key k =
      ap Some (found_as k)
      ∙ sym (has_first accepts (pairs_of keys values.list) _ (present_where m.agrees accepts ∙ sym is_listed))

  -- with the first value that it had
  module _ {v : V} (given : (u : V) → gives u → v ≡ u) where
    pub found_value : Some v ≡ slice_get (values_where accepts (pairs_of keys values.list)) 0
    found_value =
        value_of_pair _ _ (key, v)
        (sym (entry_is laws m.agrees stands.stored place stands.own t.removed (λ l u l_is u_is. given u (t.first l u l_is u_is))))
        ∙ sym (ap (λ (test : K → Bool). slice_get (values_where test (pairs_of keys values.list)) 0) stands.same)

    pub found_pair : (k : K) → option_map {U = K × V} (λ u. (stored_where accepts (items_of keys) k, u))
        (slice_get (values_where accepts (pairs_of keys values.list)) 0) ≡ Some (key, v)
    found_pair k =
        let pair : K → Option (K × V) = λ s. Some (s, v) in
        ap (option_map {U = K × V} (λ u. (stored_where accepts (items_of keys) k, u))) (sym found_value) ∙ ap pair (sym (found_as k))

  -- what the call leaves
  module _ {S : Type 0} (state : S) (left : ChainEnds) where
    pub found_removed : IsRemovedWhere accepts eq (map_of keys table.capacity values state left)
        (map_of keys_after table_after.capacity values_after state left)
    found_removed =
        removes_where eq accepts stands.stored stands.same (entry_lost laws m t row state left left stands.stored stands.own)
        (entry_rooms laws m t row state left left)

    pub found_detached : keeps ≡ true → DetachesWhere accepts (map_of keys table.capacity values state left)
        (map_of keys_after table_after.capacity values_after state ends) (removed_where eq accepts (lists_of keys values.list))
    found_detached kept =
        subst (λ (test : K → Bool). DetachesWhere test (map_of keys table.capacity values state left)
        (map_of keys_after table_after.capacity values_after state ends) (removed_where eq test (lists_of keys values.list)))
        (sym stands.same) (entry_detached laws m t row state left kept stands.stored stands.own)
