-- A set whose map gave the key at an end away, with a drain of its values. Assumes `Logic`.
use Rattle.std.proofs.Common.{◌≡◌, Bool, sym, ◌∙◌, subst, option_map}
use mathlib.Core.List.{[], ◌∷◌}
use mathlib.Core.Option as maybe
use seplogic.Ra.Ura.{Ura}
use base.Logic.{SProp, ent, sep}
use base.Fml.{Fml, GName, fex, fres}
use types.Logic.{Logic, sem}
use types.Kit.{‵, raw, ◌⊛◌, ◌$◌, ◌∵◌, !, qed, move, split, join, use2, fpick, fpack, done}
use contract.Monad.{fact}
use denote.RattleType.{RattleType}
use denote.Ref.{MutBor}
use denote.Follow.{follows, followed, follows_so, follows_then, such_by, follows_by}
use denote.Steps.{heard}
use Rattle.std.specs.Borrow.{name_if_some}
use Rattle.std.specs.Cmp.{IsEquivalence}
use Rattle.std.specs.Prelude.{Option, Some, None, IfNone, IfSome, OnSome}
use Rattle.std.specs.declared.alloc.Allocator as allocator
use Rattle.std.specs.declared.cmp.PartialEq as equality
use Rattle.std.specs.declared.hash.Hash as hash
use Rattle.std.specs.declared.hash.Hasher as hasher
use Rattle.std.specs.declared.hash.BuildHasher as builder
use Rattle.ordered_multimap.specs.declared.list_ordered_multimap.drain.EntryValuesDrain as drains
use Rattle.ordered_multimap.specs.contracts.list_ordered_multimap.ListOrderedMultimap as MapRow
use Rattle.ordered_multimap.specs.Drains.{DrainsEntry}
use Rattle.ordered_multimap.specs.End.{End}
use Rattle.ordered_multimap.specs.Multimap.{Multimap}
use Rattle.ordered_multimap.specs.Walk.{end_item}
use Rattle.ordered_multimap.proofs.Loans.Outlived.{states}
use Rattle.set_ordered_multimap.specs.contracts.set.SetOrderedMultimap as SetRow
use Rattle.set_ordered_multimap.specs.Set.{IsSet}
use Rattle.set_ordered_multimap.proofs.Callers.Sets.{IsSet-removed}

-- a lender whose part was lent on ends as that part says, which may be lent on under a name
module _ {M : Type 1} {𝓤 : Ura M} (𝓛 : Logic 𝓤) (R T : RattleType) (γ δ : GName) (F : T.Denot → R.Denot)
    (P : T.Denot → T.Denot → Type 0) (P₀ : T.Denot → Type 0) (Q : T.Denot → R.Denot → Type 0) (Q₀ : R.Denot → Type 0)
    (to : (w n : T.Denot) → P w n → Q w (F n)) (to₀ : (n : T.Denot) → P₀ n → Q₀ (F n)) where
  abbrev Some_part : Type 0
  Some_part = (s : (T.Denot → T.Denot) × T.Denot) × ((w : T.Denot) → P w (s.0 w)) × P₀ s.1

  abbrev Some_whole : Type 0
  Some_whole = (s : (T.Denot → R.Denot) × R.Denot) × ((w : T.Denot) → Q w (s.0 w)) × Q₀ s.1

  pub rests_as_part : (m : maybe.Option GName) → ent 𝓤 (sep 𝓤 (sem 𝓛 (follows R T γ δ F)) (sem 𝓛 (follows_so T T δ m P P₀)))
      (sem 𝓛 (follows_so R T γ m Q Q₀))
  unfolding such_by follows_by
  rests_as_part maybe.none =
      let Ends : Some_part → Fml = λ s. follows_by T.Denot T.Denot T.coded.code T.coded.code δ maybe.none s.0.0 s.0.1 in
      let Rests : Some_whole → Fml = λ s. follows_by R.Denot T.Denot R.coded.code T.coded.code γ maybe.none s.0.0 s.0.1 in
      qed 𝓛 (‵ (follows R T γ δ F) ∷ ‵ (fex Some_part Ends) ∷ []) ∵ move ! (1 ∷ []) $ fpick ! (λ s. move ! (1 ∷ 0 ∷ []) $
      use2 𝓛 (‵ (fres γ (R.coded.code (F s.0.1)))) (followed 𝓛 R T F γ δ s.0.1) $
      fpack ! Some_whole Rests (((λ w. F (s.0.0 w)), F s.0.1), (λ w. to w (s.0.0 w) (s.1 w)), to₀ s.0.1 s.2) $ done !)
  rests_as_part (maybe.some ε) =
      let Ends : Some_part → Fml = λ s. follows_by T.Denot T.Denot T.coded.code T.coded.code δ (maybe.some ε) s.0.0 s.0.1 in
      let Rests : Some_whole → Fml = λ s. follows_by R.Denot T.Denot R.coded.code T.coded.code γ (maybe.some ε) s.0.0 s.0.1 in
      qed 𝓛 (‵ (follows R T γ δ F) ∷ ‵ (fex Some_part Ends) ∷ []) ∵ move ! (1 ∷ []) $ fpick ! (λ s. move ! (1 ∷ 0 ∷ []) $
      use2 𝓛 (‵ (follows R T γ ε (λ w. F (s.0.0 w)))) (follows_then 𝓛 R T T F s.0.0 γ δ ε) $
      fpack ! Some_whole Rests (((λ w. F (s.0.0 w)), F s.0.1), (λ w. to w (s.0.0 w) (s.1 w)), to₀ s.0.1 s.2) $ done !)

module _ {M : Type 1} {𝓤 : Ura M} (𝓛 : Logic 𝓤) (K V S A H : RattleType) (e : equality.Ghosts K.Denot) (k : hash.Ghosts K.Denot)
    (b : builder.Ghosts S.Denot H.Denot) (h : hasher.Ghosts H.Denot) (al : allocator.Ghosts A.Denot) (end : End) where
  abbrev Map : RattleType
  Map = MapRow.the_row K V S A H e k b h al

  abbrev Whole : RattleType
  Whole = SetRow.the_row K V S A H e k b h al

  abbrev Lists : Type 0
  Lists = Multimap K.Denot V.Denot S.Denot

  abbrev Out : Type 0
  Out = Option (K.Denot × drains.EntryValuesDrain K.Denot V.Denot S.Denot A.Denot H.Denot e k b h)

  abbrev HasKey : Lists → Out → Type 0
  HasKey m o = option_map (λ x. x.0) o ≡ end_item end m.lists.keys

  abbrev Drains : Lists → Out → Type 0
  Drains m o = IfSome o (λ x. DrainsEntry e.eq m x.0 x.1)

  -- what the map's call says, and what the set's does
  abbrev pub pops_key : MutBor Lists → Out → SProp 𝓤
  pops_key r o = sep 𝓤 (sem 𝓛 (follows_so Map Map r.ghost_name (name_if_some (λ p. p.1.map.ghost_name) o) (λ x n. OnSome o (n ≡ x))
      (λ n. IfNone o (n ≡ r.now)))) (sep 𝓤 (fact 𝓤 (HasKey r.now o)) (sep 𝓤 (fact 𝓤 (Drains r.now o))
      (fact 𝓤 (IfSome o (λ x. x.1.map.ghost_name ≡ r.ghost_name)))))

  module _ (value_eq : V.Denot → V.Denot → Bool) (keys : IsEquivalence e.eq) (values : IsEquivalence value_eq) where
    abbrev StaysSet : Lists → Out → Type 0
    StaysSet m o = IfSome o (λ x. IsSet e.eq value_eq m.lists → IsSet e.eq value_eq x.1.map.now.lists)

    abbrev pub pops_set_key : MutBor Lists → Out → SProp 𝓤
    pops_set_key s o = sep 𝓤 (sem 𝓛 (follows_so Whole Map s.ghost_name (name_if_some (λ p. p.1.map.ghost_name) o) (λ x n. OnSome o (n ≡ x))
        (λ n. IfNone o (n ≡ s.now)))) (sep 𝓤 (fact 𝓤 (HasKey s.now o)) (sep 𝓤 (fact 𝓤 (Drains s.now o)) (fact 𝓤 (StaysSet s.now o))))

    stays_set : (m : Lists) (o : Out) → Drains m o → StaysSet m o
    stays_set m (Some x) drained = λ set. subst (IsSet e.eq value_eq) (sym drained.lists)
        (IsSet-removed keys values (e.eq x.0) m.lists set)
    stays_set m None drained = tt

    pub pops_key_as_part : (s r : MutBor Lists) → r.now ≡ s.now → (o : Out)
        → ent 𝓤 (sep 𝓤 (sem 𝓛 (follows Whole Map s.ghost_name r.ghost_name (λ m. m))) (pops_key r o)) (pops_set_key s o)
    pops_key_as_part s r seen o =
        let name = name_if_some (λ (p : K.Denot × drains.EntryValuesDrain K.Denot V.Denot S.Denot A.Denot H.Denot e k b h). p.1.map.ghost_name) o in
        let Part : Fml = follows_so Map Map r.ghost_name name (λ x n. OnSome o (n ≡ x)) (λ n. IfNone o (n ≡ r.now)) in
        let Rests : Fml = follows_so Whole Map s.ghost_name name (λ x n. OnSome o (n ≡ x)) (λ n. IfNone o (n ≡ s.now)) in
        qed 𝓛 (‵ (follows Whole Map s.ghost_name r.ghost_name (λ m. m)) ∷ (‵ Part ⊛ raw (fact 𝓤 (HasKey r.now o)) ⊛
        raw (fact 𝓤 (Drains r.now o)) ⊛ raw (fact 𝓤 (IfSome o (λ x. x.1.map.ghost_name ≡ r.ghost_name)))) ∷ []) ∵
        move ! (1 ∷ []) $ split ! $ move ! (1 ∷ []) $ split ! $ heard ! (HasKey r.now o) (λ key. split ! $
        heard ! (Drains r.now o) (λ drained. heard ! (IfSome o (λ x. x.1.map.ghost_name ≡ r.ghost_name)) (λ _.
        let drains_it : Drains s.now o = subst (λ m. Drains m o) seen drained in
        move ! (1 ∷ 0 ∷ []) $ use2 𝓛 (‵ Rests) (rests_as_part 𝓛 Whole Map s.ghost_name r.ghost_name (λ m. m)
        (λ x n. OnSome o (n ≡ x)) (λ n. IfNone o (n ≡ r.now)) (λ x n. OnSome o (n ≡ x)) (λ n. IfNone o (n ≡ s.now))
        (λ w n is. is) (none_stays o) name) $
        states ! (StaysSet s.now o) (stays_set s.now o drains_it) $ states ! (Drains s.now o) drains_it $ join ! $
        states ! (HasKey s.now o) (subst (λ m. HasKey m o) seen key) $ join ! $ move ! (1 ∷ 0 ∷ []) $ join ! $ done !)))
      where
        none_stays : (o : Out) (n : Lists) → IfNone o (n ≡ r.now) → IfNone o (n ≡ s.now)
        none_stays (Some x) n is = tt
        none_stays None n is = is ∙ seen
