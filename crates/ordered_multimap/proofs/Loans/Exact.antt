-- What a map ends as, once a walk that wrote its values has ended: all its values, exactly. Assumes `Logic`.
use mathlib.Core.Path.{◌≡◌, refl, ap, sym, subst, ◌∙◌}
use mathlib.Core.List.{List, [], ◌∷◌}
use seplogic.Ra.Ura.{Ura}
use base.Logic.{all_i, emp, ent, sep, wand, all_e, apply∗}
use base.Fml.{Fml, GName, fex, fres}
use base.Stored.{Gv}
use types.Logic.{Logic, sem}
use types.Kit.{rewrite, ‵, raw, ◌$◌, ◌∵◌, !, qed, move, use0, use1, use2, each, assume, done, pick, fpack, fjoin, some as some_of}
use denote.RattleType.{RattleType}
use denote.Follow.{follows, followed}
use Rattle.std.specs.Borrow.{Bor, MutBor}
use Rattle.std.specs.Prelude.{Option, Some, IfNone}
use Rattle.std.specs.HashMap.Lent.{HashMembers}
use Rattle.std.specs.declared.alloc.Allocator as alloc
use Rattle.std.specs.declared.cmp.PartialEq as equality
use Rattle.std.specs.declared.hash.Hash as hashed
use Rattle.std.specs.declared.hash.Hasher as hasher
use Rattle.std.specs.declared.hash.BuildHasher as builder
use Rattle.multimap_slots.specs.CellsLends.{with_refilled}
use Rattle.multimap_slots.specs.Ownership.{final}
use Rattle.multimap_slots.specs.Ended.{become, ends_with}
use Rattle.multimap_slots.specs.declared.cells.Cells.{Cells}
use Rattle.multimap_walks.specs.WritingWalk.{entry_values_mut_name, entry_values_mut_values}
use Rattle.multimap_walks.specs.declared.End.{End}
use Rattle.ordered_multimap.specs.ValueCells.{EntryWalk, ValueCells}
use Rattle.ordered_multimap.specs.Entries.{with_entry_items, with_map_values}
use Rattle.ordered_multimap.specs.EntryLends.{EndsEntry, entry_row, lends_values_to_entry}
use Rattle.ordered_multimap.specs.Exact.{EntryWalksAreExact, InnerWalksAreExact, IsEndedWalk, KeyWalksAreExact, WalksAreExact}
use Rattle.ordered_multimap.specs.Exact.{ended_entry, ended_map, ends_by_items, ends_exactly, entry_ends_exactly, walk_ends_exactly}
use Rattle.ordered_multimap.specs.Lists.{lists}
use Rattle.ordered_multimap.specs.Multimap.{Multimap}
use Rattle.ordered_multimap.specs.PopAnswers.{map_row}
use Rattle.ordered_multimap.specs.ValuesLent.{EndsMap, pairs_ended, with_items, with_values, with_values_of}
use Rattle.ordered_multimap.specs.WalkLends.{EndsStepped, IsStepped, lends_key_values, walk_row, with_walk_items}
use Rattle.ordered_multimap.proofs.Loans.Rested.{SoMet, so_out}

-- where the lender follows the loan of a walk: from what is so of the lender once the slots ended with some items, to what the walk's end says
module _ {M : Type 1} {𝓤 : Ura M} (𝓛 : Logic 𝓤) (R V : RattleType) (F : R.Denot → R.Denot) (lent : List (Option V.Denot) → R.Denot)
    (γ : GName) (c : Cells V.Denot) (says : List (Option V.Denot) → Fml)
    (is : (ws : List (Option V.Denot)) → final V c.lender_context ws ≡ R.coded.code (lent ws))
    (to : (ws : List (Option V.Denot)) → ent 𝓤 (sem 𝓛 (fres γ (R.coded.code (F (lent ws))))) (sem 𝓛 (says ws))) where
  open 𝓛 use {A as B}

  by_items : ent 𝓤 (sep 𝓤 (sem 𝓛 (follows R R γ c.lender_loan F)) (sem 𝓛 (ends_with V c))) (sem 𝓛 (ends_by_items V c says))
  by_items = qed 𝓛 (‵ (follows R R γ c.lender_loan F) ∷ ‵ (ends_with V c) ∷ []) ∵
      each ! (λ (ws : List (Option V.Denot)). wand 𝓤 (sem 𝓛 (become V c.names c.items c.left ws)) (sem 𝓛 (says ws))) (λ ws.
      assume ! (‵ (become V c.names c.items c.left ws)) $ move ! (2 ∷ []) $
      use1 𝓛 (raw (wand 𝓤 (sem 𝓛 (become V c.names c.items c.left ws)) (B.res c.lender_loan (final V c.lender_context ws))))
      (all_e 𝓤 (λ (vs : List (Option V.Denot)). wand 𝓤 (sem 𝓛 (become V c.names c.items c.left vs))
      (B.res c.lender_loan (final V c.lender_context vs))) ws) $
      move ! (1 ∷ 0 ∷ []) $ use2 𝓛 (‵ (fres c.lender_loan (final V c.lender_context ws)))
      (apply∗ 𝓤 (sem 𝓛 (become V c.names c.items c.left ws)) (B.res c.lender_loan (final V c.lender_context ws))) $
      rewrite ! 0 (λ (g : Gv). ‵ (fres c.lender_loan g)) (is ws) refl $ move ! (1 ∷ 0 ∷ []) $
      use2 𝓛 (‵ (fres γ (R.coded.code (F (lent ws))))) (followed 𝓛 R R F γ c.lender_loan (lent ws)) $
      use1 𝓛 (‵ (says ws)) (to ws) $ done !)

-- the map whose slots of values have these items, by its pairs
ended : {K V S : Type 0} (m : Multimap K V S) (ws : List (Option V))
    → (with_values m ws).lists.pairs ≡ pairs_ended m.lists.pairs m.slots.values.order ws → with_values m ws ≡ ended_map m ws
ended m ws pairs = ap (λ (ps : List (_ × _)). record m {
  lists = lists m.lists.keys ps;
  slots = record m.slots { values = with_refilled m.slots.values ws };
}) pairs

module _ {M : Type 1} {𝓤 : Ura M} (𝓛 : Logic 𝓤) (K V S A H : RattleType) (key : HashMembers K.Denot)
    (build : builder.Ghosts S.Denot H.Denot) (hash : hasher.Ghosts H.Denot) (heap : alloc.Ghosts A.Denot) where
  abbrev R : RattleType
  R = map_row K V S A H key build hash heap

  -- from the clauses of the call that made the walk, and of the walk's end
  pub exactly : (m : Multimap K.Denot V.Denot S.Denot) (γ : GName) (made : ValueCells V.Denot A.Denot) (c : Cells V.Denot)
      → EndsMap K V S m made → c.lender_context ≡ made.cells.lender_context
      → ent 𝓤 (sep 𝓤 (sem 𝓛 (follows R R γ c.lender_loan (with_values_of m))) (sem 𝓛 (ends_with V c))) (sem 𝓛 (ends_exactly K V S m γ c))
  exactly m γ made c ends same = by_items 𝓛 R V (with_values_of m) (with_items m) γ c (λ ws. fres γ (R.coded.code (ended_map m ws)))
      (λ ws. ap (λ hs. final V hs ws) same ∙ ends.ends ws) (λ ws. qed 𝓛 (‵ (fres γ (R.coded.code (with_values m ws))) ∷ []) ∵
      rewrite ! 0 (λ (n : Multimap K.Denot V.Denot S.Denot). ‵ (fres γ (R.coded.code n))) (ended m ws (ends.pairs ws)) refl $ done !)

  pub walks_are_exact : ent 𝓤 (emp 𝓤) (sem 𝓛 (WalksAreExact K V S A H key build hash heap))
  walks_are_exact =
      all_i 𝓤 _ (λ m. all_i 𝓤 _ (λ γ. all_i 𝓤 _ (λ made. all_i 𝓤 _ (λ c. all_i 𝓤 _ (λ ends. all_i 𝓤 _ (λ same.
      qed 𝓛 [] ∵ assume ! (‵ (follows R R γ c.lender_loan (with_values_of m))) $ assume ! (‵ (ends_with V c)) $ move ! (1 ∷ 0 ∷ []) $
      use2 𝓛 (‵ (ends_exactly K V S m γ c)) (exactly m γ made c ends same) $ done !))))))

module _ {M : Type 1} {𝓤 : Ura M} (𝓛 : Logic 𝓤) (K V S A H : RattleType) (e : equality.Ghosts K.Denot) (k : hashed.Ghosts K.Denot)
    (b : builder.Ghosts S.Denot H.Denot) (h : hasher.Ghosts H.Denot) (heap : alloc.Ghosts A.Denot) where
  abbrev E : RattleType
  E = entry_row K V S A H e k b h heap

  abbrev W : RattleType
  W = walk_row K V S A H e k b h heap

  pub entry_exactly : (o : MutBor E.Denot) (made : ValueCells V.Denot A.Denot) (c : Cells V.Denot)
      → EndsEntry K V S A H heap o.now made → c.lender_context ≡ made.cells.lender_context
      → ent 𝓤 (sep 𝓤 (sem 𝓛 (lends_values_to_entry K V S A H heap o c.lender_loan)) (sem 𝓛 (ends_with V c)))
      (sem 𝓛 (entry_ends_exactly K V S A H heap o c))
  entry_exactly o made c ends same =
      let m : Multimap K.Denot V.Denot S.Denot = o.now.map.now in
      let over : List (Option V.Denot) → List (K.Denot × V.Denot) → E.Denot = λ ws ps. record {
        map = record o.now.map {
          now = record m { lists = lists m.lists.keys ps; slots = record m.slots { values = with_refilled m.slots.values ws } };
        };
        place = o.now.place;
        first = o.now.first;
        listed = o.now.listed;
        begins = o.now.begins;
      } in
      by_items 𝓛 E V (λ n. with_map_values o.now n.map.now) (with_entry_items o.now) o.ghost_name c
      (λ ws. fres o.ghost_name (E.coded.code (ended_entry o.now ws))) (λ ws. ap (λ hs. final V hs ws) same ∙ ends.ends ws)
      (λ ws. qed 𝓛 (‵ (fres o.ghost_name (E.coded.code (over ws (with_values m ws).lists.pairs))) ∷ []) ∵
      rewrite ! 0 (λ (ps : List (K.Denot × V.Denot)). ‵ (fres o.ghost_name (E.coded.code (over ws ps)))) (ends.pairs ws) refl $ done !)

  pub walk_exactly : (end : End) (w : MutBor W.Denot) (r : Bor K.Denot × EntryWalk K.Denot V.Denot A.Denot) (c : Cells V.Denot)
      → EndsStepped K V S A H heap end w.now r → c.lender_context ≡ (entry_values_mut_values r.1).cells.lender_context
      → c.lender_loan ≡ entry_values_mut_name r.1
      → ent 𝓤 (sep 𝓤 (sem 𝓛 (lends_key_values K V S A H heap end w (Some r))) (sem 𝓛 (ends_with V c)))
      (sem 𝓛 (walk_ends_exactly K V S A H heap end w c))
  walk_exactly end w r c stepped same name =
      let m : Multimap K.Denot V.Denot S.Denot = w.now.map.now in
      let Steps : W.Denot → W.Denot → Type 0 = λ v n. IsStepped end w.now v.map.now n in
      let Rests : W.Denot → Type 0 = λ n. IfNone (Some r) (n ≡ w.now) in
      let Ended : List (Option V.Denot) → Type 0 = λ ws. (n : W.Denot) × IsEndedWalk end w.now ws n in
      let Ends : (ws : List (Option V.Denot)) → Ended ws → Fml = λ ws n. fres w.ghost_name (W.coded.code n.0) in
      let lent : List (Option V.Denot) → W.Denot = with_walk_items stepped.walk in
      qed 𝓛 (‵ (lends_key_values K V S A H heap end w (Some r)) ∷ ‵ (ends_with V c) ∷ []) ∵
      use1 𝓛 (some_of (λ (s : SoMet W W Steps Rests). ‵ (follows W W w.ghost_name (entry_values_mut_name r.1) s.0.0)))
      (so_out W W Steps Rests 𝓛 w.ghost_name (entry_values_mut_name r.1)) $ pick ! (λ s.
      rewrite ! 0 (λ (δ : GName). ‵ (follows W W w.ghost_name δ s.0.0)) (sym name) refl $
      use2 𝓛 (‵ (walk_ends_exactly K V S A H heap end w c))
      (by_items 𝓛 W V s.0.0 lent w.ghost_name c (λ ws. fex (Ended ws) (Ends ws))
      (λ ws. ap (λ hs. final V hs ws) same ∙ stepped.ends.ends ws) (λ ws.
      let st = s.1 (lent ws) in
      let pairs : (with_values m ws).lists.pairs ≡ pairs_ended m.lists.pairs m.slots.values.order ws =
      subst (λ (b : MutBor (Multimap K.Denot V.Denot S.Denot)). (with_values b.now ws).lists.pairs
      ≡ pairs_ended b.now.lists.pairs b.now.slots.values.order ws) stepped.same_map (stepped.ends.pairs ws) in
      qed 𝓛 (‵ (fres w.ghost_name (W.coded.code (s.0.0 (lent ws)))) ∷ []) ∵
      fpack ! (Ended ws) (Ends ws) (
        s.0.0 (lent ws),
        record {
          map = st.values ∙ ended m ws pairs;
          same_name = st.same_name;
          same_place = st.same_place;
          keys = st.keys;
        },
      ) $ done !)) $ done !)

  pub inner_walks_are_exact : ent 𝓤 (emp 𝓤) (sem 𝓛 (InnerWalksAreExact K V S A H e k b h heap))
  inner_walks_are_exact =
      qed 𝓛 [] ∵ use0 𝓛 (‵ (KeyWalksAreExact K V S A H e k b h heap)) (all_i 𝓤 _ (λ end. all_i 𝓤 _ (λ w. all_i 𝓤 _ (λ r. all_i 𝓤 _ (λ c.
      all_i 𝓤 _ (λ stepped. all_i 𝓤 _ (λ same. all_i 𝓤 _ (λ name.
      qed 𝓛 [] ∵ assume ! (‵ (lends_key_values K V S A H heap end w (Some r))) $ assume ! (‵ (ends_with V c)) $ move ! (1 ∷ 0 ∷ []) $
      use2 𝓛 (‵ (walk_ends_exactly K V S A H heap end w c)) (walk_exactly end w r c stepped same name) $ done !)))))))) $
      use0 𝓛 (‵ (EntryWalksAreExact K V S A H e k b h heap)) (all_i 𝓤 _ (λ o. all_i 𝓤 _ (λ made. all_i 𝓤 _ (λ c. all_i 𝓤 _ (λ ends.
      all_i 𝓤 _ (λ same. qed 𝓛 [] ∵ assume ! (‵ (lends_values_to_entry K V S A H heap o c.lender_loan)) $ assume ! (‵ (ends_with V c)) $
      move ! (1 ∷ 0 ∷ []) $ use2 𝓛 (‵ (entry_ends_exactly K V S A H heap o c)) (entry_exactly o made c ends same) $ done !)))))) $
      fjoin ! $ done !
