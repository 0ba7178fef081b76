-- What a walk over keys for writing shows of its map: that its slots agree, and mean its lists. Assumes `Logic`.
use Rattle.std.proofs.Common.{◌≡◌, ℕ, ◌+◌, Bool, List, [], ◌∷◌, refl, ap, subst}
use Rattle.std.specs.Ordering.{nat_cmp}
use Rattle.std.specs.FinMap.{FinMap}
use seplogic.Ra.Ura.{Ura}
use mir.Syntax.{Ty, named, erased, mut, ty_ref}
use mir.Val.{Val, vptr}
use base.Logic.{SProp, ent, sep}
use base.Fraction.{full_share}
use base.Fml.{Fml, Lft, Share, fat, flft, fsep, ftrue}
use prog.Memory.{align, size, up}
use types.Logic.{Logic, sem}
use types.Kit.{‵, raw, ◌⊛◌, some, ◌$◌, !, qed, done, drop, feq_i, feq_l, fjoin3, fsplit3, move, now, pick, rewrite, split, split3, updating}
use types.Kit.{use0, use1, use2, use3}
use types.Mut.{close_ref, open_ref}
use contract.Monad.{fact, fact_i}
use borrow.Table.OneValue.{part_in_at, part_out_at}
use denote.Laws.{Is, shows}
use denote.Memory.{lone, mem, part_at, part_of, pointee}
use denote.RattleType.{RattleType}
use denote.Ref.{MutBor, MutRef, mut_Lawful, mut_vals}
use denote.Steps.{closes, only, opens, peeks}
use denote.Struct.Members.{Member}
use denote.Struct.Parts.{PartsBack}
use denote.Struct.Pick.{field_back, field_out}
use Rattle.std.specs.declared.alloc.Allocator as alloc
use Rattle.std.specs.declared.cmp.PartialEq as equality
use Rattle.std.specs.declared.hash.Hash as hashed
use Rattle.std.specs.declared.hash.Hasher as hasher
use Rattle.std.specs.declared.hash.BuildHasher as builder
use Rattle.multimap_walks.specs.contracts.links.ChainEnds as C-type
use Rattle.multimap_walks.proofs.links.ChainEnds.TheLaws as C-laws
use Rattle.ordered_multimap.specs.Agrees.{Agrees, lists_of}
use Rattle.ordered_multimap.specs.Multimap.{Multimap}
use Rattle.ordered_multimap.specs.contracts.list_ordered_multimap.ListOrderedMultimap as M-type
use Rattle.ordered_multimap.specs.contracts.list_ordered_multimap.key_values_mut.KeyValuesMut as E-type

-- the map's slots agree, and mean its lists
pub record SlotsAgree {K V S : Type 0} (eq : K → K → Bool) (m : Multimap K V S) : Type 0 where
  pub hash : K → ℕ
  pub rows : FinMap nat_cmp ℕ
  pub agrees : Agrees eq hash m.slots.keys rows m.slots.values
  pub lists : lists_of m.slots.keys m.slots.values ≡ m.lists

module _ {M : Type 1} {𝓤 : Ura M} (𝓛 : Logic 𝓤) (K V S A H : RattleType) (e : equality.Ghosts K.Denot) (k : hashed.Ghosts K.Denot)
    (b : builder.Ghosts S.Denot H.Denot) (h : hasher.Ghosts H.Denot) (heap : alloc.Ghosts A.Denot) (κ κ' : Lft) (q q' : Share) where
  abbrev R : RattleType
  R = M-type.the_row K V S A H e k b h heap

  abbrev E : RattleType
  E = E-type.the_row (record { mir = named 1; lft = κ' }) K V S A H e k b h heap

  -- the borrow of the walk is opened, and that of its map in it; both are closed again
  pub walk_shows : (w : MutBor E.Denot)
      → ent 𝓤 (sep 𝓤 (sem 𝓛 ((MutRef (named 0) κ E).own_val w (mut_vals w))) (sep 𝓤 (sem 𝓛 (flft κ q)) (sem 𝓛 (flft κ' q'))))
      (𝓛.H.⇛ (sep 𝓤 (fact 𝓤 (SlotsAgree e.eq w.now.map.now)) (sep 𝓤 (sem 𝓛 ((MutRef (named 0) κ E).own_val w (mut_vals w)))
      (sep 𝓤 (sem 𝓛 (flft κ q)) (sem 𝓛 (flft κ' q'))))))
  unfolding part_of
  walk_shows w =
      let MR : RattleType = MutRef (named 1) κ' R in let CE : RattleType = C-type.the_row in
      let ms : List Member = record { row = MR; ty = lone MR.mir } ∷ record { row = CE; ty = lone CE.mir } ∷ [] in
      let s : E.Denot = w.now in let at : ℕ = w.ref_ptr.0 in let o : ℕ = w.ref_ptr.1 in
      let m : MutBor R.Denot = s.map in let mb : ℕ = m.ref_ptr.0 in let mo : ℕ = m.ref_ptr.1 in
      let ro : ℕ = o + up (align (lone MR.mir)) 0 in
      let eo : ℕ = o + up (align (lone CE.mir)) (up (align (lone MR.mir)) 0 + size (lone MR.mir)) in
      let τ : Ty = ty_ref erased mut (pointee R.written) in let Left : Fml = part_at CE full_share s.left at eo in
      let Back : SProp 𝓤 = PartsBack 𝓛 full_share [] ms at o in let Agree : Type 0 = SlotsAgree e.eq m.now in
      let Own : Fml = (MutRef (named 0) κ E).own_val w (mut_vals w) in
      qed 𝓛 (‵ Own ∷ ‵ (flft κ q) ∷ ‵ (flft κ' q') ∷ [])
      {P = 𝓛.H.⇛ (sep 𝓤 (fact 𝓤 Agree) (sep 𝓤 (sem 𝓛 Own) (sep 𝓤 (sem 𝓛 (flft κ q)) (sem 𝓛 (flft κ' q')))))} (updating ! $
      fsplit3 ! $ drop ! $ open_ref ! tt (mem E) {x = s} {b = at} {o = o} $
      -- [the walk; the open borrow; obs; auth; the token of 'map]
      use1 𝓛 (‵ (part_at MR full_share m at ro) ⊛ (‵ (fsep Left ftrue) ⊛ raw Back))
      (field_out 𝓛 full_share [] ms (mut_Lawful 𝓛 (named 1) κ' R, (C-laws.the_row_laws.lawful 𝓛, tt)) (m, (s.left, tt)) at o 0) $ split3 ! $
      use1 𝓛 (some (λ (v : Val). ‵ (fat full_share τ at ro v) ⊛ ‵ (MR.own_val m (v ∷ []))))
      (part_out_at 𝓛 MR refl full_share m at ro τ refl) $ pick ! (λ v. split ! $ move ! (1 ∷ []) $ fsplit3 ! $
      feq_l ! (λ ev. rewrite ! 2 (λ (u : Val). ‵ (fat full_share τ at ro u)) (ap only ev) refl $
      -- [obs of the map; its borrow; its cell; the ends; the way back; the open borrow; obs; auth; the token of 'map]
      move ! (0 ∷ 1 ∷ 8 ∷ []) $ opens ! tt R mb mo (λ us. move ! (1 ∷ []) $ peeks ! R (Is R) (shows 𝓛 R) m.now us (λ is. move ! (1 ∷ []) $
      closes ! tt R m.now us mb mo $ feq_i ! (List Val) (mut_vals m) (mut_vals m) refl $ fjoin3 ! $ move ! (2 ∷ 0 ∷ []) $
      use2 𝓛 (‵ (part_at MR full_share m at ro)) (part_in_at 𝓛 MR refl full_share m at ro τ refl (vptr mb mo)) $
      -- [the reference to the map; the token of 'map; the ends; the way back; the open borrow; obs; auth]
      move ! (0 ∷ 2 ∷ 3 ∷ []) $ use3 𝓛 (‵ (part_at E full_share s at o)) (field_back 𝓛 full_share [] ms (m, (s.left, tt)) at o 0) $
      move ! (0 ∷ 2 ∷ 3 ∷ 4 ∷ []) $ close_ref ! tt (mem E) s {b = at} {o = o} $
      feq_i ! (List Val) (mut_vals w) (mut_vals w) refl $ fjoin3 ! $
      -- [the walk; its token; the token of 'map]
      let agree : Agree = subst (SlotsAgree e.eq) is.0.1.0
      (record { hash = _; rows = is.0.0.table.rows; agrees = is.0.1.1.agrees; lists = refl }) in
      use0 𝓛 (raw (fact 𝓤 Agree)) (fact_i 𝓤 Agree _ agree) $ now ! $ done !)))))
