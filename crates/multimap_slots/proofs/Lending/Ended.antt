-- What the slots end as. Assumes `Logic`.
use mathlib.Core.Path.{◌≡◌, refl, sym}
use Prim.Native.Nat.{ℕ, zero, suc, ◌+◌}
use mathlib.Core.List.{List, [], ◌∷◌}
use mathlib.Core.Bool.{Bool, true, false}
use seplogic.Ra.Ura.{Ura}
use base.Logic.{ent, sep, wand, all_e, apply∗, never_e, id⊢}
use base.Fml.{Fml, Lft, GName, ftrue, ffalse, fres, fall, fwand}
use base.Stored.{Gv, coded_list}
use types.Logic.{Logic, sem}
use types.Kit.{rewrite, ‵, raw, later, ◌$◌, ◌∵◌, !, qed, by, move, keep, use1, use2, fsplit, fjoin, feq_l, each, assume, await, updating}
use types.Kit.{now, done}
use types.SemTy.{SemTy}
use types.Follow.{after, followed as follow_after}
use types.Tokens.{name_done}
use lib.Dec.{T as Holds}
use lib.ListN.{replicate, get_or, set}
use denote.Follow.{follows, followed}
use mir.Syntax.{Ty}
use mir.Val.{Val, has_ty, WT}
use denote.Laws.{Typed}
use denote.RattleType.{RattleType}
use denote.Memory.{mem}
use Rattle.std.specs.Prelude.{Option, Some, None}
use Rattle.std.specs.contracts.option.Option.{the_row as Opt}
use Rattle.multimap_slots.specs.Ownership.{final, loans, ends_now, tied_now}
use Rattle.multimap_slots.proofs.Loans.Tied.{ends, tied}
use Rattle.multimap_slots.specs.Ended.{stays, become}

-- a row of one value is that value
pub one_of : (τ : Ty) (vs : List Val) → Typed (τ ∷ []) vs → (v : Val) × (vs ≡ v ∷ []) × (Holds (has_ty τ v) × WT v)
one_of τ [] t = absurd t
one_of τ (v ∷ []) t = (v, refl, t.0)
one_of τ (v ∷ w ∷ vs) t = absurd t.1

false-true : {A : Type 1} → false ≡ true → A
false-true e = absurd (let e' = e in cc)

module _ {M : Type 1} {𝓤 : Ura M} (𝓛 : Logic 𝓤) (κ : Lft) (X : RattleType) (b : ℕ) where
  open 𝓛 use {H, A}

  abbrev T : SemTy
  T = mem (Opt X)

  abbrev code : List T.rep → Gv
  code = (coded_list T.coded).code

  -- the loans that are left end with what stands there
  pub left_stays : (γs : List GName) (xs : List T.rep) (ls : List Bool) (o : ℕ)
      → ent 𝓤 (sem 𝓛 (loans κ X b γs xs ls o)) (H.⇛ (sem 𝓛 (stays T γs xs ls)))
  left_stays [] [] [] o = qed 𝓛 (‵ ftrue ∷ []) ∵ updating ! $ now ! $ done !
  left_stays [] [] (l ∷ ls) o = never_e 𝓤 _
  left_stays [] (x ∷ xs) ls o = never_e 𝓤 _
  left_stays (γ ∷ γs) [] ls o = never_e 𝓤 _
  left_stays (γ ∷ γs) (x ∷ xs) [] o = never_e 𝓤 _
  left_stays (γ ∷ γs) (x ∷ xs) (true ∷ ls) o =
      qed 𝓛 (‵ (loans κ X b (γ ∷ γs) (x ∷ xs) (true ∷ ls) o) ∷ []) ∵ updating ! $ fsplit ! $ fsplit ! $ name_done ! tt $ move ! (2 ∷ []) $
      use1 𝓛 (later (‵ (stays T γs xs ls))) (left_stays γs xs ls (o + T.size)) $ await ! tt $ move ! (1 ∷ 0 ∷ []) $ fjoin ! $ now ! $
      keep ! (0 ∷ []) $ done !
  left_stays (γ ∷ γs) (x ∷ xs) (false ∷ ls) o = left_stays γs xs ls (o + T.size)

  not_so : (γs : List GName) (xs : List T.rep) (ls : List Bool) (ws : List T.rep)
      → ent 𝓤 (sep 𝓤 (sem 𝓛 (stays T γs xs ls)) (sem 𝓛 ffalse)) (sem 𝓛 (ends_now X γs ls ws))
  not_so γs xs ls ws = qed 𝓛 (‵ (stays T γs xs ls) ∷ ‵ ffalse ∷ []) ∵ keep ! (1 ∷ []) $ by ! (never_e 𝓤 (sem 𝓛 (ends_now X γs ls ws)))

  pub ends_all : (γs : List GName) (xs : List T.rep) (ls : List Bool) (ws : List T.rep)
      → ent 𝓤 (sep 𝓤 (sem 𝓛 (stays T γs xs ls)) (sem 𝓛 (become X γs xs ls ws))) (sem 𝓛 (ends_now X γs ls ws))
  ends_all [] [] [] [] = qed 𝓛 (‵ ftrue ∷ ‵ ftrue ∷ []) ∵ keep ! (0 ∷ []) $ done !
  ends_all (γ ∷ γs) (x ∷ xs) (true ∷ ls) (w ∷ ws) =
      qed 𝓛 (‵ (stays T (γ ∷ γs) (x ∷ xs) (true ∷ ls)) ∷ ‵ (become X (γ ∷ γs) (x ∷ xs) (true ∷ ls) (w ∷ ws)) ∷ []) ∵ fsplit ! $
      move ! (2 ∷ []) $ fsplit ! $ feq_l ! (λ e.
      rewrite ! 1 (λ (z : T.rep). ‵ (fres γ (T.coded.code z))) (sym e) refl $ move ! (2 ∷ 0 ∷ []) $
      use2 𝓛 (‵ (ends_now X γs ls ws)) (ends_all γs xs ls ws) $ move ! (1 ∷ 0 ∷ []) $ fjoin ! $ done !)
  ends_all (γ ∷ γs) (x ∷ xs) (false ∷ ls) (Some w ∷ ws) =
      qed 𝓛 (‵ (stays T γs xs ls) ∷ ‵ (become X (γ ∷ γs) (x ∷ xs) (false ∷ ls) (Some w ∷ ws)) ∷ []) ∵ move ! (1 ∷ []) $ fsplit ! $
      move ! (2 ∷ 1 ∷ []) $
      use2 𝓛 (‵ (ends_now X γs ls ws)) (ends_all γs xs ls ws) $ move ! (1 ∷ 0 ∷ []) $ fjoin ! $ done !
  ends_all [] [] [] (w ∷ ws) = not_so [] [] [] (w ∷ ws)
  ends_all [] [] (l ∷ ls) ws = not_so [] [] (l ∷ ls) ws
  ends_all [] (x ∷ xs) [] [] = not_so [] (x ∷ xs) [] []
  ends_all [] (x ∷ xs) [] (w ∷ ws) = not_so [] (x ∷ xs) [] (w ∷ ws)
  ends_all [] (x ∷ xs) (l ∷ ls) ws = not_so [] (x ∷ xs) (l ∷ ls) ws
  ends_all (γ ∷ γs) [] ls ws = not_so (γ ∷ γs) [] ls ws
  ends_all (γ ∷ γs) (x ∷ xs) [] ws = not_so (γ ∷ γs) (x ∷ xs) [] ws
  ends_all (γ ∷ γs) (x ∷ xs) (true ∷ ls) [] = not_so (γ ∷ γs) (x ∷ xs) (true ∷ ls) []
  ends_all (γ ∷ γs) (x ∷ xs) (false ∷ ls) [] = not_so (γ ∷ γs) (x ∷ xs) (false ∷ ls) []
  ends_all (γ ∷ γs) (x ∷ xs) (false ∷ ls) (None ∷ ws) = not_so (γ ∷ γs) (x ∷ xs) (false ∷ ls) (None ∷ ws)

  pub all_end : (δ : GName) (hs : Option (List (Bool × Gv))) (γs : List GName) (xs : List T.rep) (ls : List Bool)
      → ent 𝓤 (sep 𝓤 (sem 𝓛 (tied_now X δ hs γs ls)) (sem 𝓛 (stays T γs xs ls)))
      (sem 𝓛 (fall (List T.rep) (λ ws. fwand (become X γs xs ls ws) (fres δ (final X hs ws)))))
  all_end δ hs γs xs ls = qed 𝓛 (‵ (tied_now X δ hs γs ls) ∷ ‵ (stays T γs xs ls) ∷ []) ∵ each !
      (λ (ws : List T.rep). wand 𝓤 (sem 𝓛 (become X γs xs ls ws)) (A.res δ (final X hs ws))) (λ ws.
      assume ! (‵ (become X γs xs ls ws)) $ move ! (2 ∷ 0 ∷ []) $ use2 𝓛 (‵ (ends_now X γs ls ws)) (ends_all γs xs ls ws) $
      move ! (1 ∷ []) $ use1 𝓛 (raw (wand 𝓤 (sem 𝓛 (ends_now X γs ls ws)) (A.res δ (final X hs ws))))
      (all_e 𝓤 (λ (vs : List T.rep). wand 𝓤 (sem 𝓛 (ends_now X γs ls vs)) (A.res δ (final X hs vs))) ws) $
      move ! (1 ∷ 0 ∷ []) $ by ! (apply∗ 𝓤 (sem 𝓛 (ends_now X γs ls ws)) (A.res δ (final X hs ws))))

  -- at first each slot is left
  first_ends : (γs : List GName) (n : ℕ) (ws : List T.rep) → ent 𝓤 (sem 𝓛 (ends_now X γs (replicate n true) ws)) (sem 𝓛 (ends T γs ws))
  first_ends [] zero [] = id⊢ 𝓤 _
  first_ends [] zero (w ∷ ws) = never_e 𝓤 _
  first_ends [] (suc n) [] = never_e 𝓤 _
  first_ends [] (suc n) (w ∷ ws) = never_e 𝓤 _
  first_ends (γ ∷ γs) zero [] = never_e 𝓤 _
  first_ends (γ ∷ γs) zero (w ∷ ws) = never_e 𝓤 _
  first_ends (γ ∷ γs) (suc n) [] = never_e 𝓤 _
  first_ends (γ ∷ γs) (suc n) (w ∷ ws) = qed 𝓛 (‵ (ends_now X (γ ∷ γs) (replicate (suc n) true) (w ∷ ws)) ∷ []) ∵ fsplit ! $
      move ! (1 ∷ []) $
      use1 𝓛 (‵ (ends T γs ws)) (first_ends γs n ws) $ move ! (1 ∷ 0 ∷ []) $ fjoin ! $ done !

  pub tied_first : (δ : GName) (γs : List GName) (n : ℕ) → ent 𝓤 (sem 𝓛 (tied T δ γs)) (sem 𝓛 (tied_now X δ None γs (replicate n true)))
  tied_first δ γs n = qed 𝓛 (‵ (tied T δ γs) ∷ []) ∵ each !
      (λ (ws : List T.rep). wand 𝓤 (sem 𝓛 (ends_now X γs (replicate n true) ws)) (A.res δ (code ws))) (λ ws.
      assume ! (‵ (ends_now X γs (replicate n true) ws)) $ use1 𝓛 (‵ (ends T γs ws)) (first_ends γs n ws) $
      move ! (1 ∷ []) $ use1 𝓛 (raw (wand 𝓤 (sem 𝓛 (ends T γs ws)) (A.res δ (code ws))))
      (all_e 𝓤 (λ (vs : List T.rep). wand 𝓤 (sem 𝓛 (ends T γs vs)) (A.res δ (code vs))) ws) $
      move ! (1 ∷ 0 ∷ []) $ by ! (apply∗ 𝓤 (sem 𝓛 (ends T γs ws)) (A.res δ (code ws))))

  -- what another name follows this one to
  module _ (R U : SemTy) (mk : U.rep → R.rep) (u : List T.rep → U.rep) (δ ε : GName) (hs is : Option (List (Bool × Gv)))
      (from : (ws : List T.rep) → U.coded.code (u ws) ≡ final X hs ws)
      (to : (ws : List T.rep) → R.coded.code (mk (u ws)) ≡ final X is ws) where
    pub tied_on : (γs : List GName) (ls : List Bool)
        → ent 𝓤 (sep 𝓤 (sem 𝓛 (tied_now X δ hs γs ls)) (sem 𝓛 (after R U ε δ mk))) (sem 𝓛 (tied_now X ε is γs ls))
    tied_on γs ls = qed 𝓛 (‵ (tied_now X δ hs γs ls) ∷ ‵ (after R U ε δ mk) ∷ []) ∵ each !
        (λ (ws : List T.rep). wand 𝓤 (sem 𝓛 (ends_now X γs ls ws)) (A.res ε (final X is ws))) (λ ws.
        assume ! (‵ (ends_now X γs ls ws)) $
        move ! (1 ∷ []) $ use1 𝓛 (raw (wand 𝓤 (sem 𝓛 (ends_now X γs ls ws)) (A.res δ (final X hs ws))))
        (all_e 𝓤 (λ (vs : List T.rep). wand 𝓤 (sem 𝓛 (ends_now X γs ls vs)) (A.res δ (final X hs vs))) ws) $
        move ! (1 ∷ 0 ∷ []) $ use2 𝓛 (‵ (fres δ (final X hs ws))) (apply∗ 𝓤 (sem 𝓛 (ends_now X γs ls ws)) (A.res δ (final X hs ws))) $
        rewrite ! 0 (λ (g : Gv). ‵ (fres δ g)) (sym (from ws)) refl $ move ! (1 ∷ 0 ∷ []) $
        use2 𝓛 (‵ (fres ε (R.coded.code (mk (u ws))))) (follow_after 𝓛 R U mk ε δ (u ws)) $
        rewrite ! 0 (λ (g : Gv). ‵ (fres ε g)) (to ws) refl $ done !)

  -- one more is taken, under the name ε
  module _ (ε : GName) where
    none_taken : (F : Fml) (γs : List GName) (ls : List Bool) (ws : List T.rep)
        → ent 𝓤 (sep 𝓤 (sem 𝓛 F) (sem 𝓛 ffalse)) (sem 𝓛 (ends_now X γs ls ws))
    none_taken F γs ls ws = qed 𝓛 (‵ F ∷ ‵ ffalse ∷ []) ∵ keep ! (1 ∷ []) $ by ! (never_e 𝓤 (sem 𝓛 (ends_now X γs ls ws)))

    abbrev Followed : GName → Fml
    Followed γ = follows (Opt X) X γ ε (λ w. Some w)

    one_more : (γs : List GName) (ls : List Bool) (i : ℕ) (ws : List T.rep) → get_or ls i false ≡ true
        → ent 𝓤 (sep 𝓤 (sem 𝓛 (Followed (get_or γs i 0))) (sem 𝓛 (ends_now X (set γs i ε) (set ls i false) ws)))
        (sem 𝓛 (ends_now X γs ls ws))
    one_more [] [] i ws e = false-true e
    one_more [] (l ∷ ls) zero ws e = none_taken (Followed 0) [] (l ∷ ls) ws
    one_more [] (l ∷ ls) (suc i) ws e = none_taken (Followed 0) [] (l ∷ ls) ws
    one_more (γ ∷ γs) [] i ws e = false-true e
    one_more (γ ∷ γs) (false ∷ ls) zero ws e = false-true e
    one_more (γ ∷ γs) (true ∷ ls) zero [] e = none_taken (Followed γ) (γ ∷ γs) (true ∷ ls) []
    one_more (γ ∷ γs) (true ∷ ls) zero (None ∷ ws) e = none_taken (Followed γ) (γ ∷ γs) (true ∷ ls) (None ∷ ws)
    one_more (γ ∷ γs) (true ∷ ls) zero (Some w ∷ ws) e =
        qed 𝓛 (‵ (Followed γ) ∷ ‵ (ends_now X (ε ∷ γs) (false ∷ ls) (Some w ∷ ws)) ∷ []) ∵ move ! (1 ∷ []) $ fsplit ! $
        move ! (2 ∷ 0 ∷ []) $
        use2 𝓛 (‵ (fres γ (T.coded.code (Some w)))) (followed 𝓛 (Opt X) X (λ w. Some w) γ ε w) $ fjoin ! $ done !
    one_more (γ ∷ γs) (true ∷ ls) (suc i) [] e = none_taken (Followed (get_or γs i 0)) (γ ∷ γs) (true ∷ ls) []
    one_more (γ ∷ γs) (true ∷ ls) (suc i) (w ∷ ws) e =
        qed 𝓛 (‵ (Followed (get_or γs i 0)) ∷ ‵ (ends_now X (γ ∷ set γs i ε) (true ∷ set ls i false) (w ∷ ws)) ∷ []) ∵ move ! (1 ∷ []) $
        fsplit ! $ move ! (2 ∷ 1 ∷ []) $
        use2 𝓛 (‵ (ends_now X γs ls ws)) (one_more γs ls i ws e) $ move ! (1 ∷ 0 ∷ []) $ fjoin ! $ done !
    one_more (γ ∷ γs) (false ∷ ls) (suc i) [] e = none_taken (Followed (get_or γs i 0)) (γ ∷ γs) (false ∷ ls) []
    one_more (γ ∷ γs) (false ∷ ls) (suc i) (None ∷ ws) e = none_taken (Followed (get_or γs i 0)) (γ ∷ γs) (false ∷ ls) (None ∷ ws)
    one_more (γ ∷ γs) (false ∷ ls) (suc i) (Some w ∷ ws) e =
        qed 𝓛 (‵ (Followed (get_or γs i 0)) ∷ ‵ (ends_now X (γ ∷ set γs i ε) (false ∷ set ls i false) (Some w ∷ ws)) ∷ []) ∵ move !
        (1 ∷ []) $ fsplit ! $ move ! (2 ∷ 1 ∷ []) $
        use2 𝓛 (‵ (ends_now X γs ls ws)) (one_more γs ls i ws e) $ move ! (1 ∷ 0 ∷ []) $ fjoin ! $ done !

    pub tied_taken : (δ : GName) (hs : Option (List (Bool × Gv))) (γs : List GName) (ls : List Bool) (i : ℕ) → get_or ls i false ≡ true
        → ent 𝓤 (sep 𝓤 (sem 𝓛 (tied_now X δ hs γs ls)) (sem 𝓛 (Followed (get_or γs i 0))))
        (sem 𝓛 (tied_now X δ hs (set γs i ε) (set ls i false)))
    tied_taken δ hs γs ls i e = qed 𝓛 (‵ (tied_now X δ hs γs ls) ∷ ‵ (Followed (get_or γs i 0)) ∷ []) ∵
        each ! (λ (ws : List T.rep). wand 𝓤 (sem 𝓛 (ends_now X (set γs i ε) (set ls i false) ws)) (A.res δ (final X hs ws))) (λ ws.
        assume ! (‵ (ends_now X (set γs i ε) (set ls i false) ws)) $ move ! (2 ∷ 0 ∷ []) $
        use2 𝓛 (‵ (ends_now X γs ls ws)) (one_more γs ls i ws e) $
        move ! (1 ∷ []) $ use1 𝓛 (raw (wand 𝓤 (sem 𝓛 (ends_now X γs ls ws)) (A.res δ (final X hs ws))))
        (all_e 𝓤 (λ (vs : List T.rep). wand 𝓤 (sem 𝓛 (ends_now X γs ls vs)) (A.res δ (final X hs vs))) ws) $
        move ! (1 ∷ 0 ∷ []) $ by ! (apply∗ 𝓤 (sem 𝓛 (ends_now X γs ls ws)) (A.res δ (final X hs ws))))

    -- no loan that is left has the name
    pub renamed : (γs : List GName) (xs : List T.rep) (ls : List Bool) (i o : ℕ)
        → ent 𝓤 (sem 𝓛 (loans κ X b γs xs (set ls i false) o)) (sem 𝓛 (loans κ X b (set γs i ε) xs (set ls i false) o))
    renamed [] xs ls i o = id⊢ 𝓤 _
    renamed (γ ∷ γs) [] ls i o = never_e 𝓤 _
    renamed (γ ∷ γs) (x ∷ xs) [] i o = never_e 𝓤 _
    renamed (γ ∷ γs) (x ∷ xs) (l ∷ ls) zero o = id⊢ 𝓤 _
    renamed (γ ∷ γs) (x ∷ xs) (true ∷ ls) (suc i) o =
        qed 𝓛 (‵ (loans κ X b (γ ∷ γs) (x ∷ xs) (true ∷ set ls i false) o) ∷ []) ∵ fsplit ! $ move ! (1 ∷ []) $
        use1 𝓛 (‵ (loans κ X b (set γs i ε) xs (set ls i false) (o + T.size))) (renamed γs xs ls i (o + T.size)) $ move ! (1 ∷ 0 ∷ []) $
        fjoin ! $ done !
    renamed (γ ∷ γs) (x ∷ xs) (false ∷ ls) (suc i) o = renamed γs xs ls i (o + T.size)
