-- One loan is taken out of those that are left. Assumes `Logic`.
use mathlib.Core.Path.{◌≡◌, refl, sym, ap, ◌∙◌}
use Prim.Native.Nat.{ℕ, zero, suc, ◌+◌, ◌*◌, ◌≤◌, ◌<◌}
use native.Mathlib.Omega.{arith}
use native.Mathlib.Nat.{zero-mul, suc-mul, one-mul, mul-le-mul_right}
use mathlib.Core.List.{List, [], ◌∷◌}
use mathlib.Core.Bool.{Bool, true, false}
use lib.ListN.{get_or, length, set}
use seplogic.Ra.Ura.{Ura}
use base.Logic.{ent, guard, guard_i, never_e, snd∗, via}
use contract.Fact.{fact, fact_i, fact_mono, fact_use}
use denote.RattleType.{RattleType}
use denote.Memory.{mem}
use base.Fml.{Fml, Lft, GName, fsep, fex, feq, fobs, fbor}
use types.Logic.{Logic, sem}
use types.Kit.{‵, ◌$◌, ◌∵◌, !, qed, move, use1, fsplit, fsplit3, fjoin, fpick, fpack, feq_i, rewrite, done}
use types.SemTy.{SemTy, Body}
use Rattle.std.specs.Prelude.{Option, Some, None, IsSome}
use Rattle.std.specs.contracts.option.Option.{the_row as Opt}
use Rattle.multimap_slots.specs.Ownership.{Kept, loans}

-- fewer of a size are below the same bound
pub times_below : (i c s t : ℕ) → i ≤ c → c * s < t → i * s < t
times_below i c s t le h = let e = mul-le-mul_right s le in omega (arith, e)

pub one_below : (c s t : ℕ) → 1 ≤ c → c * s < t → s < t
one_below c s t le h =
    let e = mul-le-mul_right s le in
    let e' = one-mul s in
    omega (arith, e, e')

false-true : {A : Type 1} → false ≡ true → A
false-true e = absurd (let e' = e in cc)

module _ {M : Type 1} {𝓤 : Ura M} (𝓛 : Logic 𝓤) (κ : Lft) (X : RattleType) (b : ℕ) where
  abbrev T : SemTy
  T = mem (Opt X)

  -- the loan of a slot with an item beside those of the others
  abbrev pub Out : ℕ → ℕ → List GName → List (Option X.Denot) → List Bool → X.Denot → Fml
  Out i o γs xs ls y =
      fsep (feq (Option X.Denot) (get_or xs i None) (Some y))
      (fsep (fsep (fobs (get_or γs i 0) (T.coded.code (Some y))) (fbor κ (Body (Kept X (Some y)) b (i * T.size + o) (get_or γs i 0))))
      (loans κ X b γs xs (set ls i false) o))

  shift : (i o : ℕ) → i * T.size + (o + T.size) ≡ suc i * T.size + o
  shift i o = omega (arith, suc-mul i T.size)

  zero_add : (n : ℕ) → 0 + n ≡ n
  zero_add n = omega arith

  pub loan_out : (γs : List GName) (xs : List (Option X.Denot)) (ls : List Bool) (i o : ℕ) → get_or ls i false ≡ true
      → IsSome (get_or xs i None)
      → ent 𝓤 (sem 𝓛 (loans κ X b γs xs ls o)) (sem 𝓛 (fex X.Denot (Out i o γs xs ls)))
  loan_out [] [] [] i o e s = false-true e
  loan_out [] [] (l ∷ ls) i o e s = never_e 𝓤 _
  loan_out [] (x ∷ xs) ls i o e s = never_e 𝓤 _
  loan_out (γ ∷ γs) [] ls i o e s = never_e 𝓤 _
  loan_out (γ ∷ γs) (x ∷ xs) [] i o e s = never_e 𝓤 _
  loan_out (γ ∷ γs) (None ∷ xs) (true ∷ ls) zero o e s = false-true s
  loan_out (γ ∷ γs) (Some y ∷ xs) (true ∷ ls) zero o e s =
      qed 𝓛 (‵ (loans κ X b (γ ∷ γs) (Some y ∷ xs) (true ∷ ls) o) ∷ []) ∵ fsplit ! $ fsplit ! $ move ! (1 ∷ []) $
      rewrite ! 0 (λ (a : ℕ). ‵ (fbor κ (Body (Kept X (Some y)) b a γ))) (sym (ap (λ n. n + o) (zero-mul T.size) ∙ zero_add o)) refl $
      move ! (1 ∷ 0 ∷ []) $ fjoin ! $ fjoin ! $
      feq_i ! (Option X.Denot) (Some y) (Some y) refl $ fjoin ! $ fpack ! X.Denot (Out zero o (γ ∷ γs) (Some y ∷ xs) (true ∷ ls)) y $ done !
  loan_out (γ ∷ γs) (x ∷ xs) (true ∷ ls) (suc i) o e s =
      qed 𝓛 (‵ (loans κ X b (γ ∷ γs) (x ∷ xs) (true ∷ ls) o) ∷ []) ∵ fsplit ! $ move ! (1 ∷ []) $
      use1 𝓛 (‵ (fex X.Denot (Out i (o + T.size) γs xs ls))) (loan_out γs xs ls i (o + T.size) e s) $
      fpick ! (λ y. fsplit3 ! $ move ! (1 ∷ []) $ fsplit ! $ move ! (1 ∷ []) $
      rewrite ! 0 (λ (a : ℕ). ‵ (fbor κ (Body (Kept X (Some y)) b a (get_or γs i 0)))) (shift i o) refl $ move ! (1 ∷ 0 ∷ []) $ fjoin ! $
      -- [the loan; that it shows y; the others; the first's]
      move ! (3 ∷ 2 ∷ []) $ fjoin ! $ move ! (1 ∷ 0 ∷ []) $ fjoin ! $ move ! (1 ∷ 0 ∷ []) $ fjoin ! $
      fpack ! X.Denot (Out (suc i) o (γ ∷ γs) (x ∷ xs) (true ∷ ls)) y $ done !)
  loan_out (γ ∷ γs) (x ∷ xs) (false ∷ ls) zero o e s = false-true e
  loan_out (γ ∷ γs) (x ∷ xs) (false ∷ ls) (suc i) o e s =
      qed 𝓛 (‵ (loans κ X b (γ ∷ γs) (x ∷ xs) (false ∷ ls) o) ∷ []) ∵
      use1 𝓛 (‵ (fex X.Denot (Out i (o + T.size) γs xs ls))) (loan_out γs xs ls i (o + T.size) e s) $
      fpick ! (λ y. fsplit3 ! $ move ! (1 ∷ []) $ fsplit ! $ move ! (1 ∷ []) $
      rewrite ! 0 (λ (a : ℕ). ‵ (fbor κ (Body (Kept X (Some y)) b a (get_or γs i 0)))) (shift i o) refl $ move ! (1 ∷ 0 ∷ []) $ fjoin ! $
      move ! (0 ∷ 2 ∷ []) $ fjoin ! $ move ! (1 ∷ 0 ∷ []) $ fjoin ! $
      fpack ! X.Denot (Out (suc i) o (γ ∷ γs) (x ∷ xs) (false ∷ ls)) y $ done !)

  -- each slot's loan has a name
  named : (γs : List GName) (xs : List (Option X.Denot)) (ls : List Bool) (o : ℕ)
      → ent 𝓤 (sem 𝓛 (loans κ X b γs xs ls o)) (fact 𝓤 (length γs ≡ length xs))
  named [] [] [] o = fact_i 𝓤 _ (sem 𝓛 (loans κ X b [] [] [] o)) refl
  named [] [] (l ∷ ls) o = never_e 𝓤 _
  named [] (x ∷ xs) ls o = never_e 𝓤 _
  named (γ ∷ γs) [] ls o = never_e 𝓤 _
  named (γ ∷ γs) (x ∷ xs) [] o = never_e 𝓤 _
  named (γ ∷ γs) (x ∷ xs) (true ∷ ls) o = via 𝓤 (sem 𝓛 (loans κ X b γs xs ls (o + T.size)))
      (snd∗ 𝓤 (sem 𝓛 (fsep (fobs γ (T.coded.code x)) (fbor κ (Body (Kept X x) b o γ)))) (sem 𝓛 (loans κ X b γs xs ls (o + T.size))))
      (via 𝓤 (fact 𝓤 (length γs ≡ length xs)) (named γs xs ls (o + T.size)) (fact_mono 𝓤 _ _ (ap suc)))
  named (γ ∷ γs) (x ∷ xs) (false ∷ ls) o =
      via 𝓤 (fact 𝓤 (length γs ≡ length xs)) (named γs xs ls (o + T.size)) (fact_mono 𝓤 _ _ (ap suc))

  pub all_named : (γs : List GName) (xs : List (Option X.Denot)) (ls : List Bool) (o : ℕ)
      → ent 𝓤 (sem 𝓛 (loans κ X b γs xs ls o)) (guard 𝓤 (length γs ≡ length xs) (sem 𝓛 (loans κ X b γs xs ls o)))
  all_named γs xs ls o = fact_use 𝓤 (length γs ≡ length xs) (named γs xs ls o)
      (guard_i 𝓤 (length γs ≡ length xs) (sem 𝓛 (loans κ X b γs xs ls o)))
