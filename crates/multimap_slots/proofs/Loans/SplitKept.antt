-- The loan of a slice of slots becomes a loan of each slot, under a name of its own, at which an item stands at the end exactly where one
-- stood. Assumes `Logic`.
use mathlib.Core.Path.{◌≡◌, refl, ap}
use Prim.Native.Nat.{ℕ, suc, ◌+◌}
use mathlib.Core.List.{List, [], ◌∷◌}
use mathlib.Core.Bool.{Bool, true, false}
use lib.ListN.{length, replicate}
use seplogic.Ra.Ura.{Ura}
use base.Logic.{SProp, ent, sep, ex, wand, emp, all_e, apply∗, never_e, id⊢}
use base.Fml.{Fml, Lft, GName, Share, ftrue, ffalse, fsep, flft, fobs, fres, fbor}
use base.Stored.{Gv, coded_list}
use types.Logic.{Logic, sem}
use types.Kit.{‵, raw, ◌⊛◌, some, later, ◌$◌, ◌∵◌, !, qed, by, move, keep, drop, use1, use2, use3, split, split3}
use types.Kit.{join, group, pick, fsplit, fjoin, feq_i, feq_l, each, assume, show, await, updating, now, done}
use types.SemTy.{SemTy, Body, Arr, cells}
use types.Tokens.{name_done}
use types.Mut.{open_ref}
use types.Follow.{after, after₂, takes_two, takes_part, followed₂}
use denote.RattleType.{RattleType}
use denote.Memory.{mem}
use denote.Steps.{nothing}
use Rattle.std.specs.Prelude.{Option, Some, None, is_some}
use Rattle.std.specs.contracts.option.Option.{the_row as Opt}
use Rattle.multimap_slots.specs.Ownership.{Kept, loans}
use Rattle.multimap_slots.proofs.Loans.Tied.{ends, tied}
use Rattle.multimap_slots.specs.Taken.{refilled}

false-true : {A : Type 1} → false ≡ true → A
false-true e = absurd (let e' = e in cc)

pub length-refilled : {X : Type 0} (xs ys : List (Option X)) → length (refilled xs ys) ≡ length xs
length-refilled [] ys = refl
length-refilled (x ∷ xs) [] = ap suc (length-refilled xs [])
length-refilled (None ∷ xs) (y ∷ ys) = ap suc (length-refilled xs ys)
length-refilled (Some x ∷ xs) (None ∷ ys) = ap suc (length-refilled xs ys)
length-refilled (Some x ∷ xs) (Some y ∷ ys) = ap suc (length-refilled xs ys)

module _ (X : RattleType) where
  abbrev O : SemTy
  O = mem (Opt X)

  abbrev pub kept_cells : List (Option X.Denot) → List (Option X.Denot) → ℕ → ℕ → Fml
  kept_cells [] [] b o = ftrue
  kept_cells [] (w ∷ ws) b o = ffalse
  kept_cells (x ∷ xs) [] b o = ffalse
  kept_cells (x ∷ xs) (w ∷ ws) b o = fsep ((Kept X x).own_at w b o) (kept_cells xs ws b (o + O.size))

  abbrev pub AllKept : List (Option X.Denot) → SemTy
  AllKept xs = record { rep = List (Option X.Denot); coded = coded_list O.coded; size = 0; own_at = kept_cells xs }

module _ {M : Type 1} {𝓤 : Ura M} (𝓛 : Logic 𝓤) (X : RattleType) (κ : Lft) (q : Share) (b : ℕ) where
  open 𝓛 use {H, A}

  abbrev T : SemTy
  T = mem (Opt X)

  abbrev code : List T.rep → Gv
  code = (coded_list T.coded).code

  kept_in : (xs : List T.rep) (o : ℕ) → ent 𝓤 (sem 𝓛 (cells T xs b o)) (sem 𝓛 (kept_cells X xs xs b o))
  kept_in [] o = id⊢ 𝓤 _
  kept_in (x ∷ xs) o = qed 𝓛 (‵ (cells T (x ∷ xs) b o) ∷ []) ∵ fsplit ! $ move ! (1 ∷ []) $
      use1 𝓛 (‵ (kept_cells X xs xs b (o + T.size))) (kept_in xs (o + T.size)) $
      move ! (1 ∷ []) $ feq_i ! Bool (is_some x) (is_some x) refl $ fjoin ! $ fjoin ! $ done !

  one_more : (xs ws : List T.rep) (x w r : T.rep) (o : ℕ)
      → ent 𝓤 (sem 𝓛 (kept_cells X xs ws b (o + T.size))) (sem 𝓛 (cells T (refilled xs ws) b (o + T.size)))
      → (is_some w ≡ is_some x → r ≡ w)
      → ent 𝓤 (sem 𝓛 (kept_cells X (x ∷ xs) (w ∷ ws) b o)) (sem 𝓛 (cells T (r ∷ refilled xs ws) b o))
  one_more xs ws x w r o rest is = qed 𝓛 (‵ (kept_cells X (x ∷ xs) (w ∷ ws) b o) ∷ []) ∵ fsplit ! $ fsplit ! $ feq_l ! (λ e.
      types.Kit.rewrite ! 0 (λ (z : T.rep). ‵ (T.own_at z b o)) (mathlib.Core.Path.sym (is e)) refl $ move ! (1 ∷ []) $
      use1 𝓛 (‵ (cells T (refilled xs ws) b (o + T.size))) rest $ move ! (1 ∷ 0 ∷ []) $ fjoin ! $ done !)

  kept_back : (xs ws : List T.rep) (o : ℕ) → ent 𝓤 (sem 𝓛 (kept_cells X xs ws b o)) (sem 𝓛 (cells T (refilled xs ws) b o))
  kept_back [] [] o = id⊢ 𝓤 _
  kept_back [] (w ∷ ws) o = never_e 𝓤 _
  kept_back (x ∷ xs) [] o = never_e 𝓤 _
  kept_back (None ∷ xs) (None ∷ ws) o = one_more xs ws None None None o (kept_back xs ws (o + T.size)) (λ e. refl)
  kept_back (None ∷ xs) (Some w ∷ ws) o = one_more xs ws None (Some w) None o (kept_back xs ws (o + T.size))
      (λ e. absurd (let e' = e in cc))
  kept_back (Some x ∷ xs) (None ∷ ws) o = one_more xs ws (Some x) None (Some x) o (kept_back xs ws (o + T.size))
      (λ e. absurd (let e' = e in cc))
  kept_back (Some x ∷ xs) (Some w ∷ ws) o = one_more xs ws (Some x) (Some w) (Some w) o (kept_back xs ws (o + T.size)) (λ e. refl)

  all_back : (xs ws : List T.rep) (o : ℕ) → ent 𝓤 (sep 𝓤 (sem 𝓛 (kept_cells X xs ws b o)) (emp 𝓤))
      (sem 𝓛 ((Arr T (length xs)).own_at (refilled xs ws) b o))
  all_back xs ws o = qed 𝓛 (‵ (kept_cells X xs ws b o) ∷ raw (emp 𝓤) ∷ []) ∵ keep ! (0 ∷ []) $
      use1 𝓛 (‵ (cells T (refilled xs ws) b o)) (kept_back xs ws o) $
      feq_i ! ℕ (length (refilled xs ws)) (length xs) (length-refilled xs ws) $ fjoin ! $ done !

  abbrev pub all_left : List T.rep → List Bool
  all_left xs = replicate (length xs) true

  abbrev Split : List T.rep → ℕ → GName → List GName → SProp 𝓤
  Split xs o δ γs = sep 𝓤 (sem 𝓛 (loans κ X b γs xs (all_left xs) o)) (sep 𝓤 (A.lft κ q) (sem 𝓛 (tied T δ γs)))

  none_at : (δ : GName) (ws : List T.rep) → ent 𝓤 (A.res δ (code [])) (wand 𝓤 (sem 𝓛 (ends T [] ws)) (A.res δ (code ws)))
  none_at δ [] = qed 𝓛 (‵ (fres δ (code [])) ∷ []) ∵ assume ! (‵ ftrue) $ keep ! (1 ∷ []) $ done !
  none_at δ (w ∷ ws) = qed 𝓛 (‵ (fres δ (code [])) ∷ []) ∵ assume {P = A.res δ (code (w ∷ ws))} ! (‵ ffalse) $ keep ! (0 ∷ []) $
      by ! (never_e 𝓤 (A.res δ (code (w ∷ ws))))

  none_tied : (δ : GName) → ent 𝓤 (A.res δ (code [])) (sem 𝓛 (tied T δ []))
  none_tied δ = qed 𝓛 (‵ (fres δ (code [])) ∷ []) ∵ each ! (λ (ws : List T.rep). wand 𝓤 (sem 𝓛 (ends T [] ws)) (A.res δ (code ws)))
      (λ ws. by ! (none_at δ ws))

  more_at : (δ γ₁ γ₂ : GName) (γs : List GName) (ws : List T.rep)
      → ent 𝓤 (sep 𝓤 (sem 𝓛 (after₂ (Arr T 0) T (Arr T 0) δ γ₁ γ₂ ◌∷◌)) (sem 𝓛 (tied T γ₂ γs)))
      (wand 𝓤 (sem 𝓛 (ends T (γ₁ ∷ γs) ws)) (A.res δ (code ws)))
  more_at δ γ₁ γ₂ γs [] = qed 𝓛 (‵ (after₂ (Arr T 0) T (Arr T 0) δ γ₁ γ₂ ◌∷◌) ∷ ‵ (tied T γ₂ γs) ∷ []) ∵ assume {P = A.res δ (code [])} !
      (‵ ffalse) $ keep ! (0 ∷ []) $ by ! (never_e 𝓤 (A.res δ (code [])))
  more_at δ γ₁ γ₂ γs (w ∷ ws) =
      qed 𝓛 (‵ (after₂ (Arr T 0) T (Arr T 0) δ γ₁ γ₂ ◌∷◌) ∷ ‵ (tied T γ₂ γs) ∷ []) ∵ assume !
      (‵ (fsep (fres γ₁ (T.coded.code w)) (ends T γs ws))) $ fsplit ! $
      -- [the first's last value; the others'; after; tied]
      move ! (3 ∷ []) $ use1 𝓛 (raw (wand 𝓤 (sem 𝓛 (ends T γs ws)) (A.res γ₂ (code ws))))
      (all_e 𝓤 (λ (vs : List T.rep). wand 𝓤 (sem 𝓛 (ends T γs vs)) (A.res γ₂ (code vs))) ws) $
      move ! (2 ∷ 0 ∷ []) $ use2 𝓛 (‵ (fres γ₂ (code ws))) (apply∗ 𝓤 (sem 𝓛 (ends T γs ws)) (A.res γ₂ (code ws))) $
      move ! (1 ∷ 0 ∷ []) $ join ! $ by ! (followed₂ 𝓛 (Arr T 0) T (Arr T 0) ◌∷◌ δ γ₁ γ₂ w ws)

  more_tied : (δ γ₁ γ₂ : GName) (γs : List GName)
      → ent 𝓤 (sep 𝓤 (sem 𝓛 (after₂ (Arr T 0) T (Arr T 0) δ γ₁ γ₂ ◌∷◌)) (sem 𝓛 (tied T γ₂ γs))) (sem 𝓛 (tied T δ (γ₁ ∷ γs)))
  more_tied δ γ₁ γ₂ γs = qed 𝓛 (‵ (after₂ (Arr T 0) T (Arr T 0) δ γ₁ γ₂ ◌∷◌) ∷ ‵ (tied T γ₂ γs) ∷ []) ∵
      each ! (λ (ws : List T.rep). wand 𝓤 (sem 𝓛 (ends T (γ₁ ∷ γs) ws)) (A.res δ (code ws))) (λ ws. by ! (more_at δ γ₁ γ₂ γs ws))

  mend : (o : ℕ) (y : T.rep) (ys : List T.rep) (w : T.rep) (ws : List T.rep)
      → ent 𝓤 (sep 𝓤 (sem 𝓛 ((Kept X y).own_at w b o)) (sep 𝓤 (sem 𝓛 (kept_cells X ys ws b (o + T.size))) (emp 𝓤)))
      (sem 𝓛 (kept_cells X (y ∷ ys) (w ∷ ws) b o))
  mend o y ys w ws = qed 𝓛 (‵ ((Kept X y).own_at w b o) ∷ ‵ (kept_cells X ys ws b (o + T.size)) ∷ raw (emp 𝓤) ∷ []) ∵ keep ! (0 ∷ 1 ∷ []) $
      fjoin ! $ done !

  split_kept : (xs : List T.rep) (o : ℕ) (δ : GName)
      → ent 𝓤 (sep 𝓤 (A.obs δ (code xs)) (sep 𝓤 (A.bor κ (Body (AllKept X xs) b o δ)) (A.lft κ q))) (H.⇛ (ex 𝓤 (Split xs o δ)))
  split_kept [] o δ = qed 𝓛 (‵ (fobs δ (code [])) ∷ ‵ (fbor κ (Body (AllKept X []) b o δ)) ∷ ‵ (flft κ q) ∷ []) ∵ updating ! $
      name_done ! tt $ use1 𝓛 (‵ (tied T δ [])) (none_tied δ) $ nothing ! $ now ! $ show ! (Split [] o δ) [] $ keep ! (0 ∷ 3 ∷ 1 ∷ []) $
      done !
  split_kept (y ∷ ys) o δ =
      qed 𝓛 (‵ (fobs δ (code (y ∷ ys))) ∷ ‵ (fbor κ (Body (AllKept X (y ∷ ys)) b o δ)) ∷ ‵ (flft κ q) ∷ []) ∵ updating ! $
      open_ref ! tt (AllKept X (y ∷ ys)) {x = y ∷ ys} {b = b} {o = o} $ fsplit ! $
      nothing ! $ move ! (3 ∷ 4 ∷ 5 ∷ 1 ∷ 2 ∷ 0 ∷ []) $ group ! 6 $
      use1 𝓛 (later (some (λ (γs : GName × GName). (‵ (fobs γs.0 (T.coded.code y)) ⊛ ‵ (fbor κ (Body (Kept X y) b o γs.0))) ⊛
      (‵ (fobs γs.1 (code ys)) ⊛ ‵ (fbor κ (Body (AllKept X ys) b (o + T.size) γs.1)))
      ⊛ ‵ (flft κ q) ⊛ ‵ (after₂ (Arr T 0) T (Arr T 0) δ γs.0 γs.1 ◌∷◌))))
      (takes_two 𝓛 (AllKept X (y ∷ ys)) (Kept X y) (AllKept X ys) ◌∷◌ κ q b o b o b (o + T.size) δ (emp 𝓤) (mend o y ys) (code (y ∷ ys))
      (code (y ∷ ys)) y ys) $ await ! tt $ pick ! (λ γs. split3 ! $
      -- [the first; the rest; the token and after]
      move ! (2 ∷ []) $ split ! $ move ! (3 ∷ []) $ split ! $ move ! (0 ∷ 1 ∷ 2 ∷ []) $
      use3 𝓛 (later (some (λ (ns : List GName). ‵ (loans κ X b ns ys (all_left ys) (o + T.size)) ⊛ ‵ (flft κ q) ⊛ ‵ (tied T γs.1 ns))))
      (split_kept ys (o + T.size) γs.1) $ await ! tt $ pick ! (λ ns. split3 ! $
      -- [the loans; the token; tied; after; the first]
      move ! (3 ∷ 2 ∷ []) $ use2 𝓛 (‵ (tied T δ (γs.0 ∷ ns))) (more_tied δ γs.0 γs.1 ns) $
      move ! (3 ∷ []) $ split ! $ fjoin ! $ move ! (0 ∷ 2 ∷ []) $ fjoin ! $
      now ! $ show ! (Split (y ∷ ys) o δ) (γs.0 ∷ ns) $ keep ! (0 ∷ 2 ∷ 1 ∷ []) $ done !))

  abbrev pub Lends : List T.rep → ℕ → GName → GName × List GName → SProp 𝓤
  Lends xs o γ d = sep 𝓤 (sem 𝓛 (loans κ X b d.1 xs (all_left xs) o))
      (sep 𝓤 (A.lft κ q) (sep 𝓤 (sem 𝓛 (tied T d.0 d.1)) (sem 𝓛 (after (Arr T 0) (Arr T 0) γ d.0 (refilled xs)))))

  pub lends_slots : (xs : List T.rep) (o : ℕ) (γ : GName)
      → ent 𝓤 (sep 𝓤 (A.obs γ (code xs)) (sep 𝓤 (A.bor κ (Body (Arr T (length xs)) b o γ)) (A.lft κ q))) (H.⇛ (ex 𝓤 (Lends xs o γ)))
  lends_slots xs o γ =
      qed 𝓛 (‵ (fobs γ (code xs)) ∷ ‵ (fbor κ (Body (Arr T (length xs)) b o γ)) ∷ ‵ (flft κ q) ∷ []) ∵ updating ! $
      open_ref ! tt (Arr T (length xs)) {x = xs} {b = b} {o = o} $ fsplit ! $ drop ! $ use1 𝓛 (‵ (kept_cells X xs xs b o)) (kept_in xs o) $
      nothing ! $ move ! (2 ∷ 3 ∷ 4 ∷ 1 ∷ 0 ∷ []) $ group ! 5 $
      use1 𝓛 (later (some (λ (δ : GName). ‵ (fobs δ (code xs)) ⊛ ‵ (fbor κ (Body (AllKept X xs) b o δ)) ⊛ ‵ (flft κ q) ⊛ ‵
      (after (Arr T 0) (Arr T 0) γ δ (refilled xs)))))
      (takes_part 𝓛 (Arr T (length xs)) (AllKept X xs) (refilled xs) κ q b o b o γ (emp 𝓤) (λ ws. all_back xs ws o) (code xs) (code xs) xs)
      $ await ! tt $ pick ! (λ δ. split3 ! $
      move ! (2 ∷ []) $ split ! $ move ! (2 ∷ 3 ∷ 0 ∷ []) $
      use3 𝓛 (later (some (λ (ns : List GName). ‵ (loans κ X b ns xs (all_left xs) o) ⊛ ‵ (flft κ q) ⊛ ‵ (tied T δ ns))))
      (split_kept xs o δ) $ await ! tt $ pick ! (λ ns. split3 ! $
      now ! $ show ! (Lends xs o γ) (δ, ns) $ done !))
