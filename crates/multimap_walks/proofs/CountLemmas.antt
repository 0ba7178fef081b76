-- As many items are left, to be read or to be lent, as places.
use Rattle.std.proofs.Common.{◌≡◌, ℕ, List, Some, arith, ap, false, length, sym}
use Rattle.multimap_slots.specs.Slots.{Slots, item_at}
use Rattle.multimap_slots.specs.SlotCells.{lent_slots}
use Rattle.multimap_slots.specs.declared.cells_of.SlotCells.{SlotCells}
use Rattle.multimap_slots.specs.declared.link_form.LinkForm.{Ghosts as Form}
use Rattle.multimap_walks.specs.declared.links.ChainEnds.{ChainEnds}
use Rattle.multimap_walks.specs.declared.links.KeyLink.{KeyLink}
use Rattle.multimap_walks.specs.declared.links.ValueLink.{ValueLink}
use Rattle.multimap_walks.specs.declared.writing.chain.EntryValuesMut.{EntryValuesMut}
use Rattle.multimap_walks.specs.declared.writing.pairs.IterMut.{IterMut}
use Rattle.multimap_walks.specs.declared.writing.values.ValuesMut.{ValuesMut}
use Rattle.multimap_walks.specs.Chained.{pair_at}
use Rattle.multimap_walks.specs.Lending.{CanLend}
use Rattle.multimap_walks.specs.RestWalk.{CanReadChain, CanReadPairs, entry_rest, pairs_rest, values_rest}
use Rattle.multimap_walks.specs.Walk.{TellsLength}
use Rattle.multimap_walks.specs.WritingWalk.{entry_values_mut_rest, iter_mut_rest, values_mut_rest}
use Rattle.multimap_walks.proofs.Callers.Along.{length_along}
use Rattle.multimap_walks.proofs.Callers.Chains.{length-left}
use Rattle.multimap_walks.proofs.PairLemmas.{pair_some}
use Rattle.multimap_walks.proofs.Callers.Squashed.{read_chain, read_lends, read_pairs}

-- what `size_hint` answers where the number is that of the items
pub tells_length : {X : Type 0} (items : List X) (n : ℕ) → n ≡ length items → TellsLength (n, Some n) items
tells_length items n is = (λ _. omega (arith, is), (tt, omega (arith, is)), is, ap (λ k. Some k) is)

module _ {V A F : Type 0} (cells : SlotCells V ValueLink A F) (left : ChainEnds) where
  abbrev values : Slots V ValueLink
  values = lent_slots cells

  pub values_counted : CanLend cells left → left.length ≡ length (values_rest cells left)
  values_counted can =
      sym (length_along values.order (item_at values) left (record { shown = can.sound.filled; are_left = can.are_left }))

  pub pairs_rest_counted : {K : Type 0} (keys : Slots K KeyLink) → CanReadPairs cells left keys
      → left.length ≡ length (pairs_rest cells left keys)
  pairs_rest_counted keys can =
      let shown = pair_some keys values can.sound can.lends.sound can.owned in
      sym (length_along values.order (pair_at keys values) left (record { shown = shown; are_left = can.lends.are_left }))

  pub entry_rest_counted : CanReadChain cells left → left.length ≡ length (entry_rest cells left)
  entry_rest_counted can = sym (length-left values false left.first left.last left.length can.chain)

module _ {K V A F : Type 0} {form : Form F ValueLink} where
  pub iter_mut_counted : (w : IterMut K V A F form) → w.left.length ≡ length (iter_mut_rest w)
  iter_mut_counted w = pairs_rest_counted w.values w.left w.keys.now (read_pairs w.values w.left w.keys.now w.readable)

  pub values_mut_counted : (w : ValuesMut K V A F form) → w.left.length ≡ length (values_mut_rest w)
  values_mut_counted w = values_counted w.values w.left (read_lends w.values w.left w.readable)

  pub entry_values_mut_counted : (w : EntryValuesMut K V A F form) → w.left.length ≡ length (entry_values_mut_rest w)
  entry_values_mut_counted w = entry_rest_counted w.values w.left (read_chain w.values w.left w.readable)
