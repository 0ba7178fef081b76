-- Loans of the slots of a slice, each under a name of its own. An item stands there at the end
-- exactly if one stood there at first.
use Prim.Native.Nat.{ℕ, ◌+◌, ◌*◌, ◌^◌}
use mathlib.Core.List.{List, [], ◌∷◌}
use mathlib.Core.Bool.{Bool, true, false}
use lib.ListN.{length}
use base.Fml.{Fml, Lft, GName, ftrue, ffalse, fsep, fex, feq, flt, fall, fwand, fobs, fres, fbor}
use base.Stored.{Gv, gcons, coded_list}
use types.SemTy.{SemTy, Body}
use denote.RattleType.{RattleType}
use denote.RawPtr.{Ptr, block_ptr, null_ptr}
use denote.Memory.{mem, shared_of}
use denote.Sharing.{nothing, said, beside, within}
use Rattle.std.specs.Prelude.{Option, Some, None, is_some}
use Rattle.std.specs.Coded.{coded_option}
use Rattle.std.specs.contracts.option.Option.{the_row as Opt}

-- a slot that holds an item exactly if the first value does
abbrev pub Kept : (X : RattleType) → Option X.Denot → SemTy
Kept X x = record {
  rep = Option X.Denot;
  coded = (mem (Opt X)).coded;
  size = (mem (Opt X)).size;
  own_at = λ w b o. fsep (feq Bool (is_some w) (is_some x)) ((mem (Opt X)).own_at w b o);
}

-- a loan of each slot that was not taken
module _ (κ : Lft) (X : RattleType) (b : ℕ) where
  abbrev pub loans : List GName → List (Option X.Denot) → List Bool → ℕ → Fml
  loans [] [] [] o = ftrue
  loans [] [] (l ∷ ls) o = ffalse
  loans [] (x ∷ xs) ls o = ffalse
  loans (γ ∷ γs) [] ls o = ffalse
  loans (γ ∷ γs) (x ∷ xs) [] o = ffalse
  loans (γ ∷ γs) (x ∷ xs) (true ∷ ls) o =
      fsep (fsep (fobs γ ((mem (Opt X)).coded.code x)) (fbor κ (Body (Kept X x) b o γ)))
      (loans γs xs ls (o + (mem (Opt X)).size))
  loans (γ ∷ γs) (x ∷ xs) (false ∷ ls) o = loans γs xs ls (o + (mem (Opt X)).size)

-- a code in the midst of what stands around it, from the outside in: `true` stands before what
-- stands in front of it, `false` before what stands behind it
abbrev pub plug : List (Bool × Gv) → Gv → Gv
plug [] g = g
plug ((true, h) ∷ hs) g = gcons h (plug hs g)
plug ((false, h) ∷ hs) g = gcons (plug hs g) h

-- the code of the whole with these items: of the slots themselves, or of what they are a part of
abbrev pub final
    : (X : RattleType) → Option (List (Bool × Gv)) → List (Option X.Denot) → Gv
final X None ws = (coded_list (mem (Opt X)).coded).code ws
final X (Some hs) ws = plug hs ((coded_list (coded_option X.coded)).code ws)

module _ (X : RattleType) where
  -- the last values are these: of a slot that is left under its own name, and of one that was taken
  -- under that of the reference to its item
  abbrev pub ends_now : List GName → List Bool → List (Option X.Denot) → Fml
  ends_now [] [] [] = ftrue
  ends_now [] [] (w ∷ ws) = ffalse
  ends_now [] (l ∷ ls) ws = ffalse
  ends_now (γ ∷ γs) [] ws = ffalse
  ends_now (γ ∷ γs) (true ∷ ls) [] = ffalse
  ends_now (γ ∷ γs) (true ∷ ls) (w ∷ ws) =
      fsep (fres γ ((mem (Opt X)).coded.code w)) (ends_now γs ls ws)
  ends_now (γ ∷ γs) (false ∷ ls) [] = ffalse
  ends_now (γ ∷ γs) (false ∷ ls) (None ∷ ws) = ffalse
  ends_now (γ ∷ γs) (false ∷ ls) (Some w ∷ ws) =
      fsep (fres γ (X.coded.code w)) (ends_now γs ls ws)

  -- the last value of `δ` is the whole with these items
  abbrev pub tied_now : GName → Option (List (Bool × Gv)) → List GName → List Bool → Fml
  tied_now δ hs γs ls =
      fall (List (Option X.Denot)) (λ ws. fwand (ends_now γs ls ws) (fres δ (final X hs ws)))

-- there are n slots, which lie from some address on, and of each that was not taken there is a loan
abbrev pub cells_own
    : Lft → (X : RattleType) → ℕ → Ptr → GName → Option (List (Bool × Gv)) → List GName
    → List (Option X.Denot) → List Bool → Fml
cells_own κ X n at δ hs γs xs ls =
    fsep (feq ℕ n (length xs)) (fex (ℕ × ℕ) (λ p.
    fsep (feq Ptr at (block_ptr p.0 p.1)) (fsep (flt (length xs * (mem (Opt X)).size) (2 ^ 63))
    (fsep (tied_now X δ hs γs ls) (loans κ X p.0 γs xs ls p.1)))))

-- a `&` to each slot that was not taken, for no longer than its loan
module _ (κ : Lft) (X : RattleType) (b : ℕ) where
  abbrev pub slots_lent : List (Option X.Denot) → List Bool → ℕ → Lft → Fml
  slots_lent [] ls o = nothing
  slots_lent (x ∷ xs) [] o = nothing
  slots_lent (x ∷ xs) (true ∷ ls) o =
      beside (within κ (shared_of (Opt X) x b o)) (slots_lent xs ls (o + (mem (Opt X)).size))
  slots_lent (x ∷ xs) (false ∷ ls) o = slots_lent xs ls (o + (mem (Opt X)).size)

-- there are n slots, which take fewer than 2 ^ 63 bytes
abbrev pub counted : (X : RattleType) → ℕ → List (Option X.Denot) → Fml
counted X n xs = fsep (feq ℕ n (length xs)) (flt (length xs * (mem (Opt X)).size) (2 ^ 63))

-- what a `&` to the slots holds: it reads those that were not taken
abbrev pub cells_lent
    : Lft → (X : RattleType) → ℕ → Ptr → List (Option X.Denot) → List Bool → Lft → Fml
cells_lent κ X n (block_ptr b o) xs ls =
    beside (said (counted X n xs)) (slots_lent κ X b xs ls o)
cells_lent κ X n null_ptr xs ls = said ffalse
