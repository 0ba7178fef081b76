-- The laws of a key with a value to write, of one with a value that left, and of one with a walk or a drain, where there are some.
use mathlib.Core.Path.{refl}
use mathlib.Core.List.{[], ◌∷◌}
use denote.RattleType.{RattleType}
use denote.Param.Laws.{Laws, is_one, of_field, row_shared}
use denote.Param.Shared.{copy_shared, mut_ref_shared}
use denote.Ref.{NamedLft, MutRef, ShrRef}
use denote.Struct.Field.{shr_ref_field, mut_ref_field}
use denote.Struct.Laws.{shr_ref_laws, shr_ref_copy, mut_ref_laws}
use denote.Struct.Tuple.{Tuple, tuple_laws}
use Rattle.std.specs.contracts.option.Option.{the_row as Opt}
use Rattle.std.proofs.option.Option.TheLaws.{the_row_laws as Opt-laws}
use Rattle.std.specs.declared.alloc.Allocator.{Ghosts}
use Rattle.std.specs.declared.cmp.PartialEq as equality
use Rattle.std.specs.declared.hash.Hash as hash
use Rattle.std.specs.declared.hash.Hasher as hasher
use Rattle.std.specs.declared.hash.BuildHasher as builder
use Rattle.multimap_walks.specs.contracts.packed.PackedLink as PL-type
use Rattle.multimap_walks.specs.contracts.packed.PackedLinkLinkFormValueLink.TheImpl.{ghosts as form}
use Rattle.multimap_walks.proofs.packed.PackedLink.TheLaws as PL-laws
use Rattle.multimap_walks.specs.contracts.writing.chain.EntryValuesMut as W-type
use Rattle.multimap_walks.proofs.writing.chain.EntryValuesMut.TheLaws as W-laws
use Rattle.ordered_multimap.specs.contracts.list_ordered_multimap.drain.EntryValuesDrain as Drain
use Rattle.ordered_multimap.proofs.list_ordered_multimap.drain.EntryValuesDrain.TheLaws as Drain-laws
use Rattle.ordered_multimap.specs.contracts.list_ordered_multimap.key_wrapper.KeyWrapper as Key
use Rattle.ordered_multimap.proofs.list_ordered_multimap.key_wrapper.KeyWrapper.TheLaws as Key-laws

module _ (ℓ : NamedLft) (K V : RattleType) where
  abbrev pub LentPair : RattleType
  LentPair = Tuple (ShrRef ℓ.mir ℓ.lft K ∷ MutRef ℓ.mir ℓ.lft V ∷ [])

  pub lent_pair_laws : Laws K → Laws V → Laws (Opt LentPair)
  lent_pair_laws LK LV =
      let key = is_one K LK in let value = is_one V LV in
      Opt-laws LentPair (tuple_laws (ShrRef ℓ.mir ℓ.lft K ∷ MutRef ℓ.mir ℓ.lft V ∷ []) (
        of_field (shr_ref_field ℓ K key) (shr_ref_laws ℓ K key) refl
            (copy_shared (shr_ref_field ℓ K key) (shr_ref_copy ℓ K key LK.shr_laws)),
        (of_field (mut_ref_field ℓ V value) (mut_ref_laws ℓ V value) refl (mut_ref_shared ℓ V value (row_shared V LV)), tt),
      ))

  -- a key with a value that left
  abbrev pub PoppedPair : RattleType
  PoppedPair = Tuple (Key.the_row ℓ K ∷ V ∷ [])

  pub popped_pair_laws : Laws K → Laws V → Laws (Opt PoppedPair)
  popped_pair_laws LK LV =
      Opt-laws PoppedPair (tuple_laws (Key.the_row ℓ K ∷ V ∷ []) (Key-laws.the_row_laws ℓ K LK, (LV, tt)))

module _ (ℓ : NamedLft) (K W : RattleType) where
  -- a key with what is made of its values
  abbrev pub LentKey : RattleType
  LentKey = Tuple (ShrRef ℓ.mir ℓ.lft K ∷ W ∷ [])

  pub lent_key_laws : Laws K → Laws W → Laws (Opt LentKey)
  lent_key_laws LK LW =
      let key = is_one K LK in
      Opt-laws LentKey (tuple_laws (ShrRef ℓ.mir ℓ.lft K ∷ W ∷ []) (
        of_field (shr_ref_field ℓ K key) (shr_ref_laws ℓ K key) refl
            (copy_shared (shr_ref_field ℓ K key) (shr_ref_copy ℓ K key LK.shr_laws)),
        (LW, tt),
      ))

-- a key with its values
module _ (ℓ : NamedLft) (K V A : RattleType) (al : Ghosts A.Denot) where
  pub lent_values_laws : Laws K → Laws V → Laws A → Laws (Opt (LentKey ℓ K (W-type.the_row ℓ K V A PL-type.the_row form al)))
  lent_values_laws LK LV LA = lent_key_laws ℓ K (W-type.the_row ℓ K V A PL-type.the_row form al) LK (W-laws.the_row_laws ℓ K V A PL-type.the_row form al LK LV LA PL-laws.the_row_laws)

-- a key with a drain of its values
module _ (ℓ : NamedLft) (K V S A H : RattleType) (e : equality.Ghosts K.Denot) (k : hash.Ghosts K.Denot)
    (b : builder.Ghosts S.Denot H.Denot) (h : hasher.Ghosts H.Denot) (al : Ghosts A.Denot) where
  abbrev pub DrainedKey : RattleType
  DrainedKey = Tuple (K ∷ Drain.the_row ℓ K V S A H e k b h al ∷ [])

  pub drained_key_laws : Laws K → Laws V → Laws S → Laws A → Laws H → Laws (Opt DrainedKey)
  drained_key_laws LK LV LS LA LH =
      Opt-laws DrainedKey (tuple_laws (K ∷ Drain.the_row ℓ K V S A H e k b h al ∷ [])
      (LK, (Drain-laws.the_row_laws ℓ K V S A H e k b h al LK LV LS LA LH, tt)))
